use Rattle.std.proofs.Common.{◌≡◌, ◌++◌, drop, map, IsUtf8}
use Rattle.std.specs.Prelude.{All, string_bytes}
use Rattle.ns_load.proofs.names.names_of.Given as goal

-- The names so far are texts, and with those of the words that are left they are all.
abbrev pub invariant-loop-word : goal.invariant-loop-word
invariant-loop-word l = record {
  told : l.names.items ++ map string_bytes (drop l.word-index l.words) ≡ map string_bytes l.words;
  text : All IsUtf8 l.names.items;
}
