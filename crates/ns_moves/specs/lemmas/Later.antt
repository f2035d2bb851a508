-- What is true of a lawful world, and stays so as it grows.
use Rattle.std.proofs.Common.{◌≡◌, ℕ, ◌+◌, List, refl, ap, sym, ◌∙◌, subst, Some, None, All, Bool, true, false, cond, get_or}
use Rattle.std.specs.Prelude.{nat_lt}
use Rattle.ns_code.specs.declared.program.CodeProgram.{CodeProgram}
use Rattle.ns_world.specs.declared.value.Value.{Value}
use Rattle.ns_world.specs.Cell.{Cell, with_word}
use Rattle.ns_world.specs.Heap.{find_cell, is_class}
use Rattle.ns_world.specs.World.{World, made, stepped, entered, left, written}
use Rattle.ns_world.specs.Layout.{declaration_of, entry_word}
use Rattle.ns_world.specs.Lawful.{IsLawful, IsLiveValue, IsEnvironmentOrNil, HasHolder}
use Rattle.ns_world.specs.Keeping.{MayBeWritten}
use Rattle.ns_world.specs.laws.Changing.{word_plainly}
use Rattle.ns_world.specs.laws.Classes.{lawful_order, class_stays, word_stays}
use Rattle.ns_world.specs.laws.Twins.{KeepsCells, making_keeps_cells, changing_keeps_cells, word_twins}
use Rattle.ns_world.specs.laws.Staying.{value_stays, environment_stays, holder_stays, declared_stays}
use Rattle.ns_world.specs.laws.Making.{made_cells}
use Rattle.ns_world.specs.laws.Writing.{writing_keeps}
use Rattle.ns_world.specs.laws.Charging.{step_keeps, enter_keeps, leave_keeps}

-- A lawful world, in which what lived in an earlier one still lives, and each class is as it was.
pub record Later (code : CodeProgram) (old new : World) : Type 0 where
  pub lawful : IsLawful new code
  pub live : (value : Value) → IsLiveValue old.cells code value → IsLiveValue new.cells code value
  pub environment : (value : Value) → IsEnvironmentOrNil old.cells value → IsEnvironmentOrNil new.cells value
  pub holder : (value : Value) (holder : ℕ) → HasHolder old.cells value holder → HasHolder new.cells value holder
  pub class : (number : ℕ) → is_class (find_cell old.cells number) ≡ true → is_class (find_cell new.cells number) ≡ true
  pub declaration : (number : ℕ) → is_class (find_cell old.cells number) ≡ true → declaration_of new.cells number ≡ declaration_of old.cells number
  pub word : (holder entry : ℕ) → is_class (find_cell old.cells holder) ≡ true → entry_word new.cells code holder entry ≡ entry_word old.cells code holder entry

later_keeping : (code : CodeProgram) (old new : World) → IsLawful new code → KeepsCells old.cells new.cells → Later code old new
later_keeping code old new lawful k = record {
  lawful = lawful;
  live = λ value h. value_stays old.cells new.cells code value k h;
  environment = λ value h. environment_stays old.cells new.cells value k h;
  holder = λ value holder h. holder_stays old.cells new.cells value holder k h;
  class = λ number h. class_stays old.cells new.cells number k.same h;
  declaration = λ number h. declared_stays old.cells new.cells number k h;
  word = λ holder entry h. word_stays old.cells new.cells code holder entry k.order k.same h;
}

pub later_not : (code : CodeProgram) (world : World) → IsLawful world code → Later code world world
later_not code world lawful =
    record { lawful = lawful; live = λ value h. h; environment = λ value h. h; holder = λ value holder h. h; class = λ number h. h; declaration = λ number h. refl; word = λ holder entry h. refl }

-- another world with the same cells
later_same : (code : CodeProgram) (old new : World) → IsLawful new code → new.cells ≡ old.cells → Later code old new
later_same code old new lawful e = record {
  lawful = lawful;
  live = λ value h. subst (λ cells. IsLiveValue cells code value) (sym e) h;
  environment = λ value h. subst (λ cells. IsEnvironmentOrNil cells value) (sym e) h;
  holder = λ value holder h. subst (λ cells. HasHolder cells value holder) (sym e) h;
  class = λ number h. ap (λ cells. is_class (find_cell cells number)) e ∙ h;
  declaration = λ number h. ap (λ cells. declaration_of cells number) e;
  word = λ holder entry h. ap (λ cells. entry_word cells code holder entry) e;
}

pub later_on : (code : CodeProgram) (first second third : World) → Later code first second → Later code second third →
    Later code first third
later_on code first second third one two = record {
  lawful = two.lawful;
  live = λ value h. two.live value (one.live value h);
  environment = λ value h. two.environment value (one.environment value h);
  holder = λ value holder h. two.holder value holder (one.holder value holder h);
  class = λ number h. two.class number (one.class number h);
  declaration = λ number h. two.declaration number (one.class number h) ∙ one.declaration number h;
  word = λ holder entry h. two.word holder entry (one.class holder h) ∙ one.word holder entry h;
}

pub all_live : (code : CodeProgram) (old new : World) (values : List Value) → Later code old new → All (IsLiveValue old.cells code) values →
    All (IsLiveValue new.cells code) values
all_live code old new values later all = λ i d h. later.live (get_or values i d) (all i d h)

pub later_made : (code : CodeProgram) (old new : World) (cell : Cell) → IsLawful old code → IsLawful new code → made old cell ≡ Some new →
    Later code old new
later_made code old new cell before after e =
    later_keeping code old new after (subst (KeepsCells old.cells) (sym (made_cells old new cell e)) (making_keeps_cells old.cells cell (lawful_order old code before)))

later_written : (code : CodeProgram) (old : World) (at word : ℕ) (value : Value) → IsLawful old code →
    MayBeWritten old.cells code at word value → Later code old (written old at word value)
later_written code old at word value lawful may =
    later_keeping code old (written old at word value) (writing_keeps old code at word value lawful may)
    (changing_keeps_cells old.cells at (λ cell. with_word cell word value) (word_plainly word value) (λ cell. word_twins word value cell) (lawful_order old code lawful))

-- a step, a frame, a frame given back
pub entered_cells : (world after : World) → entered world ≡ Some after → after.cells ≡ world.cells
entered_cells world after e = tested (nat_lt world.depth world.limits.depth) e
  where
    more : World
    more = record world { depth = world.depth + 1 }

    tested : (b : Bool) → cond b (Some more) None ≡ Some after → after.cells ≡ world.cells
    tested true e = let is : more ≡ after = cc in ap (λ (w : World). w.cells) (sym is)
    tested false e = absurd (cc)

pub later_entered : (code : CodeProgram) (world after : World) → IsLawful world code → entered world ≡ Some after → Later code world after
later_entered code world after lawful e = later_same code world after (enter_keeps world after code lawful e) (entered_cells world after e)

pub later_left : (code : CodeProgram) (world : World) → IsLawful world code → Later code world (left world)
later_left code world lawful = later_same code world (left world) (leave_keeps world code lawful) refl

pub later_stepped : (code : CodeProgram) (world after : World) → IsLawful world code → stepped world ≡ Some after →
    after.cells ≡ world.cells → Later code world after
later_stepped code world after lawful e same = later_same code world after (step_keeps world after code lawful e) same
