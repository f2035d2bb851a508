-- How a plan is made: along the instructions of a body with the places that are left of it, and body by body.
use Rattle.std.specs.Prelude.{◌≡◌, ℕ, ◌+◌, ◌-◌, ◌≤◌, ◌<◌, List, [], ◌∷◌, ◌++◌, length, max, ◌==◌, if◌then◌else◌}
use Rattle.ns_base.specs.declared.place.Place.{Place as SourcePlace}
use Rattle.ns_code.specs.declared.program.CodeProgram.{CodeProgram}
use Rattle.ns_code.specs.declared.body.BodyCode.{BodyCode}
use Rattle.ns_code.specs.declared.instruction.Instr.{Instr}
use Rattle.ns_code.specs.declared.instruction.Instr.TheVariants.{SendPrivate}
use Rattle.ns_machine_plan.specs.declared.making.Draft.{Draft}
use Rattle.ns_machine_plan.specs.Steps.{no_place, prepared}
use Rattle.ns_machine_plan.specs.Rows.{row_of}

-- Places are in order, and belong to instructions from that number on.
abbrev pub AreFrom : ℕ → List (ℕ × SourcePlace) → Type 0
AreFrom at [] = Unit {0}
AreFrom at (entry ∷ entries) = (at ≤ entry.0) × AreFrom (entry.0 + 1) entries

-- the number of the place of an instruction, where the places from it on are left, and are numbered up to an end
abbrev pub number_at : List (ℕ × SourcePlace) → ℕ → ℕ → ℕ
number_at [] end at = no_place
number_at (entry ∷ entries) end at = if entry.0 == at then end - length (entry ∷ entries) else no_place

-- the places that are left behind it
abbrev pub behind : List (ℕ × SourcePlace) → ℕ → List (ℕ × SourcePlace)
behind [] at = []
behind (entry ∷ entries) at = if entry.0 == at then entries else entry ∷ entries

-- No body was added.
pub record IsEmpty (draft : Draft) : Type 0 where
  pub steps : draft.steps ≡ []
  pub bodies : draft.bodies.items ≡ []
  pub places : draft.places ≡ 0
  pub greatest : draft.greatest ≡ 0

-- A body is added behind the others.
pub record IsAdded (code : CodeProgram) (body : BodyCode) (old new : Draft) : Type 0 where
  pub steps : new.steps ≡ old.steps ++ prepared code body old.places body.places 0 body.instrs ∷ []
  pub bodies : new.bodies.items ≡ old.bodies.items ++ row_of (length old.bodies.items) body ∷ []
  pub places : new.places ≡ old.places + length body.places
  pub greatest : new.greatest ≡ max old.greatest (body.locals + body.height)

-- A private send is of a name.
abbrev pub SendsAName : CodeProgram → Instr → Type 0
SendsAName code (SendPrivate level sel argc) = sel.0 < length code.names
SendsAName code other = Unit {0}
