-- The parts of a letter as they are read from the cells: its selector by number.
use Rattle.std.specs.Prelude.{ℕ, ℤ, pos, int_lt, unsigned_abs, not, ◌||◌, ◌+◌, List, [], ◌∷◌, ◌==◌, Option, Some, None, option_and_then, if◌then◌else◌}
use Rattle.ns_base.specs.declared.selector.Sel.{Sel}
use Rattle.ns_code.specs.declared.program.CodeProgram.{CodeProgram}
use Rattle.ns_code.specs.Selector.{selector_arity, selector_text}
use Rattle.ns_world.specs.declared.value.Value.{Value}
use Rattle.ns_world.specs.declared.value.Value.TheVariants as value
use Rattle.ns_world.specs.Heap.{Heap}
use Rattle.ns_facets.specs.declared.board.Plain.{Plain}
use Rattle.ns_actors.specs.declared.letter.Letter.{Letter}
use Rattle.ns_actors_calls.specs.declared.outbox.Parts.{Parts}
use Rattle.ns_actors.specs.Outbox.{actor_of, array_in, plain_in}

-- a selector of one argument
abbrev pub one_selector : CodeProgram → Value → Option Sel
one_selector code (value.Sym sel) = if selector_arity code sel.0 == 1 then Some sel else None
one_selector code other = None

-- the number of one of so many, as it is tested
abbrev pub numbered : ℕ → ℤ → Option ℕ
numbered count number = if int_lt number (pos 0) || not (int_lt number (pos count)) then None else Some (unsigned_abs number)

abbrev pub parts_with : Option ℕ → Option Sel → Option Plain → Option Parts
parts_with (Some to) (Some sel) (Some arg) = Some (record { to = to; sel = sel; arg = arg })
parts_with to sel arg = None

-- three values as the parts of a letter to one of so many actors
abbrev pub parts_of : CodeProgram → ℕ → Value → Value → Value → Option Parts
parts_of code count to sel arg = parts_with (actor_of count to) (one_selector code sel) (plain_in arg)

abbrev pub parts_in : CodeProgram → ℕ → List Value → Option Parts
parts_in code count (to ∷ sel ∷ arg ∷ []) = parts_of code count to sel arg
parts_in code count others = None

-- a value as the parts of a letter
abbrev pub parts_at : CodeProgram → Heap → ℕ → Value → Option Parts
parts_at code heap count value = option_and_then (parts_in code count) (array_in heap value)

-- the letter of these parts, from an actor
abbrev pub letter_as : CodeProgram → ℕ → Parts → Letter
letter_as code from parts = record { from = from; to = parts.to; sel = selector_text code parts.sel.0; arg = parts.arg }

-- how many letters values stand for, behind so many others, where each is one
abbrev pub sized_with : Option Parts → Option ℕ → Option ℕ
sized_with (Some parts) rest = rest
sized_with None rest = None

abbrev pub sized : CodeProgram → Heap → ℕ → ℕ → List Value → Option ℕ
sized code heap count before [] = Some before
sized code heap count before (value ∷ values) =
    sized_with (parts_at code heap count value) (sized code heap count (before + 1) values)
