use Rattle.std.proofs.Common.{◌≡◌, ◌++◌, drop, map, true}
use Rattle.std.specs.List.{list_all}
use Rattle.std.specs.Prelude.{string_bytes, sum}
use Rattle.std.specs.Str.{is_utf8}
use Rattle.ns_host.specs.Host.{pieces}
use Rattle.ns_host.proofs.asked.words_of.Given as goal

-- The words so far and the pieces that are left are all pieces, and these are texts.
abbrev pub invariant-loop-length : goal.invariant-loop-length
invariant-loop-length l = record {
  told : map string_bytes l.words.items ++ pieces (drop l.length-index l.lengths) l.rest ≡ pieces l.lengths l.bytes;
  texts : list_all is_utf8 (pieces (drop l.length-index l.lengths) l.rest) ≡ true;
  others : drop (sum (drop l.length-index l.lengths)) l.rest ≡ drop (sum l.lengths) l.bytes;
}
