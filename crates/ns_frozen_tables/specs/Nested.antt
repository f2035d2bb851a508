-- In which declaration each class is nested.
use Rattle.std.specs.Prelude.{◌≡◌, ℕ, List, slice_get, Option, Some, true}
use Rattle.ns_code.specs.declared.program.CodeProgram.{CodeProgram}
use Rattle.ns_frozen.specs.Frames.{has_nested}

-- What stands under the number of a class is a declaration that has it among its nested ones, where it is any.
abbrev pub AreOuters : CodeProgram → List (Option ℕ) → Type 0
AreOuters code outers = (class decl : ℕ) → slice_get outers class ≡ Some (Some decl) → has_nested code decl class ≡ true
