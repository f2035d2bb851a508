-- How many parts code may have, so that each has a number.
use Rattle.std.specs.Prelude.{◌≤◌, length, All}
use Rattle.ns_code.specs.declared.program.CodeProgram.{CodeProgram}
use Rattle.ns_code.specs.declared.body.BodyCode.{BodyCode}

-- There are at most 65,536 names, classes and bodies, and instructions in each body.
pub record HasFewParts (code : CodeProgram) : Type 0 where
  pub names : length code.names ≤ 65536
  pub classes : length code.classes ≤ 65536
  pub bodies : length code.bodies ≤ 65536
  pub instrs : All (λ (body : BodyCode). length body.instrs ≤ 65536) code.bodies
