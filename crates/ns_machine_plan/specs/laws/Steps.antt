-- How many steps a body has.
use Rattle.std.proofs.Common.{◌≡◌, ℕ, [], ◌∷◌, length, ap, ◌∙◌, Some, None}
use Rattle.std.specs.Prelude.{slice_get}
use Rattle.std.specs.Option.{option_map_or}
use Rattle.ns_code.specs.declared.program.CodeProgram.{CodeProgram}
use Rattle.ns_code.specs.declared.body.BodyCode.{BodyCode}
use Rattle.ns_code.specs.declared.instruction.Instr.TheVariants as i
use Rattle.ns_moves.specs.Steps.{placed, steps_of}
use Rattle.ns_moves.specs.laws.Steps.{placed_length}

pub steps_are : (code : CodeProgram) (number : ℕ) (body : BodyCode) → slice_get code.bodies number ≡ Some body →
    steps_of code number ≡ placed body.places 0 body.instrs
steps_are code number body is = ap (λ o. option_map_or (λ (b : BodyCode). placed b.places 0 b.instrs) o ((i.ReturnSelf, None) ∷ [])) is

-- A body has as many steps as instructions.
pub steps_count : (code : CodeProgram) (number : ℕ) (body : BodyCode) → slice_get code.bodies number ≡ Some body →
    length (steps_of code number) ≡ length body.instrs
steps_count code number body is = ap length (steps_are code number body is) ∙ placed_length body.places 0 body.instrs
