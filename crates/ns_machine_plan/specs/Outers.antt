-- Declarations around others, level by level and in far steps of sixteen.
use Rattle.std.specs.Prelude.{◌≡◌, ℕ, zero, suc, ◌<◌, Option, Some, length, slice_get}
use Rattle.ns_code.specs.declared.program.CodeProgram.{CodeProgram}
use Rattle.ns_moves.specs.Lawful.{outer_of}
use Rattle.ns_machine_plan.specs.declared.outers.Outers.{Outers}

-- the declaration so many levels out from one, if there is one
abbrev pub out_from : CodeProgram → Option ℕ → ℕ → Option ℕ
out_from code from zero = from
out_from code from (suc levels) = outer_of code (out_from code from levels)

-- Of each declaration that is kept which stands sixteen levels out.
pub record AreOutersOf (code : CodeProgram) (outers : Outers) : Type 0 where
  pub count : length outers.far ≡ length code.classes
  pub far : (number : ℕ) → number < length code.classes → slice_get outers.far number ≡ Some (out_from code (Some number) 16)
