-- A turn, move by move.
use Rattle.std.specs.Prelude.{◌≡◌, ℕ, zero, suc, true, false}
use Rattle.ns_code.specs.declared.program.CodeProgram.{CodeProgram}
use Rattle.ns_moves.specs.State.{State}
use Rattle.ns_moves.specs.Move.{move}
use Rattle.ns_moves.specs.Turn.{is_still, charges, Turns}

-- Whatever ends a turn of the steps that are left, from a state on, ends one of all steps from the first state on.
abbrev pub EndsTheWhole : CodeProgram → ℕ → State → ℕ → State → Type 0
EndsTheWhole code steps first left now = (last : State) → Turns code left now last → Turns code steps first last

-- So it is at the beginning, and after a move that charges nothing with as many steps left.
abbrev pub TurnsBegin : CodeProgram → Type 0
TurnsBegin code = (steps : ℕ) (first : State) → EndsTheWhole code steps first steps first

abbrev pub FreeMovesGoOn : CodeProgram → Type 0
FreeMovesGoOn code =
    (steps left : ℕ) (first now : State) → EndsTheWhole code steps first left now → charges code now ≡ false
    → EndsTheWhole code steps first left (move code now)

-- After one that charges there is one left less.
abbrev pub ChargedMovesGoOn : CodeProgram → Type 0
ChargedMovesGoOn code =
    (steps left : ℕ) (first now : State) → EndsTheWhole code steps first (suc left) now → charges code now ≡ true
    → EndsTheWhole code steps first left (move code now)

-- With none left the turn ends where the next move charges, and at any time where the run is still.
abbrev pub TurnsEnd : CodeProgram → Type 0
TurnsEnd code =
    (steps : ℕ) (first now : State) → EndsTheWhole code steps first zero now → charges code now ≡ true → Turns code steps first now

abbrev pub TurnsRest : CodeProgram → Type 0
TurnsRest code =
    (steps left : ℕ) (first now : State) → EndsTheWhole code steps first left now → is_still now ≡ true → Turns code steps first now
