-- What it means to play a schedule.
use Rattle.std.specs.Prelude.{◌≡◌, ℕ, ◌+◌, ◌==◌, List, [], ◌∷◌, map, if◌then◌else◌}
use Rattle.ns_moves.specs.Start.{new_board}
use Rattle.ns_session.specs.Member.{Application, starting}
use Rattle.ns_session.specs.Session.{SessionView, Pair, Plays}

-- these applications, each started in a state of its own, and one board of nils
abbrev pub opened : List Application → SessionView
opened applications = record { members = map starting applications; board = new_board }

-- The pairs of a schedule are played, one after another.
abbrev pub Played : List Pair → SessionView → SessionView → Type 0
Played [] old new = new ≡ old
Played (pair ∷ pairs) old new = (next : SessionView) × (Plays pair old next × Played pairs next new)

-- how many steps a pair gives to an application
abbrev pub steps_for : ℕ → Pair → ℕ
steps_for number pair = if pair.number == number then pair.steps else 0

-- how many steps a schedule gives to it in all
abbrev pub given : ℕ → List Pair → ℕ
given number [] = 0
given number (pair ∷ pairs) = steps_for number pair + given number pairs
