-- When the numbers of a body's code fit their fields.
use Rattle.std.specs.Prelude.{◌≡◌, ℕ, ◌-◌, ◌<◌, ◌≤◌, ◌^◌, length, All, IsTrue}
use Rattle.std.specs.List.{AllPairs, slice_index_or}
use Rattle.std.specs.Option.{ForSome}
use Rattle.ns_base.specs.declared.place.Place.{Place}
use Rattle.ns_code.specs.declared.body.BodyCode.{BodyCode}
use Rattle.ns_code.specs.declared.instruction.Instr.{Instr}
use Rattle.ns_code.specs.Fits.{IsByte, IsHalf, IsWord, InstrFits}
use Rattle.ns_code.specs.Instructions.{carries_place}

-- One place belongs to an instruction that carries one.
pub record PlaceStands (body : BodyCode) (place : ℕ × Place) : Type 0 where
  pub instr : place.0 < length body.instrs
  pub carries : (d : Instr) → IsTrue (carries_place (slice_index_or body.instrs place.0 d))

-- Of a body's head and of its instructions, to which its places belong; nothing is said of the places themselves and of
-- the names of its locals.
pub record NumbersFit (body : BodyCode) : Type 0 where
  pub kind : body.kind ≤ 3
  pub side : body.side ≤ 1
  pub class : IsWord body.class
  pub parent : ForSome body.parent (λ k. k < 2 ^ 32 - 1)
  pub params : IsByte body.params
  pub locals : IsByte body.locals
  pub height : IsHalf body.height
  pub instr_count : length body.instrs ≤ 65536
  pub instrs : All InstrFits body.instrs
  pub name_count : length body.local_names ≡ body.locals
  pub place_count : IsWord (length body.places)
  pub places : All (PlaceStands body) body.places
  pub places_in_order : AllPairs (λ a b. a.0 < b.0) body.places
