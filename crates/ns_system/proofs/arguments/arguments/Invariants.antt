use Rattle.std.proofs.Common.{map, string_bytes}
use Rattle.ns_system.proofs.Read.{HasRead}
use Rattle.ns_system.proofs.arguments.arguments.Given as goal

-- The words before that place were read.
abbrev pub invariant-words : goal.invariant-words
invariant-words g l = HasRead (g.W.Words.words l.from) l.i (map string_bytes l.words.items)
