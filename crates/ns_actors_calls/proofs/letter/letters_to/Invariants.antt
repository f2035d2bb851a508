use Rattle.std.proofs.Common.{◌≡◌, ◌++◌, drop}
use Rattle.ns_actors.specs.Turn.{letters_to}
use Rattle.ns_actors_calls.proofs.letter.letters_to.Given as goal

-- the copies so far, and those of the letters that are left, are those of all letters
abbrev pub invariant-letters : goal.invariant-letters
invariant-letters l = l.copies.items ++ letters_to l.number (drop l.letter-index l.letters) ≡ letters_to l.number l.letters
