use Rattle.std.proofs.Common.{◌≡◌, ◌++◌, drop, length}
use Rattle.ns_lex.specs.Scan.{InOrder}
use Rattle.ns_load.specs.Place.{place_of, places}
use Rattle.ns_load.proofs.place.marks.Given as goal

-- The places so far and those of the tokens that are left are all places. The tokens that are left stand from here on.
abbrev pub invariant-loop-token : goal.invariant-loop-token
invariant-loop-token l = record {
  told : l.marks.items ++ places l.file l.source (drop l.token-index l.tokens) ≡ places l.file l.source l.tokens;
  here : l.place ≡ place_of l.file l.source l.at;
  order : InOrder l.at (length l.source) (drop l.token-index l.tokens);
}
