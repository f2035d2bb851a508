use Rattle.std.proofs.Common.{◌≡◌, ◌++◌, drop}
use Rattle.ns_actors.specs.Rounds.{text_from}
use Rattle.ns_actors_rounds.proofs.telling.text_of.Given as goal

-- the text so far, and those of the actors that are left, are those of all
abbrev pub invariant-actors : goal.invariant-actors
invariant-actors l = l.text.items ++ text_from l.files l.number (drop l.number l.actors.actors) ≡ text_from l.files 0 l.actors.actors
