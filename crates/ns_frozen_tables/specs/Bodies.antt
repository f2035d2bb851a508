-- What is kept of bodies.
use Rattle.std.specs.Prelude.{◌≡◌, map}
use Rattle.ns_code.specs.declared.program.CodeProgram.{CodeProgram}
use Rattle.ns_verify.specs.Chains.{home_kinds}
use Rattle.ns_frozen_tables.specs.declared.bodies.Bodies.{Bodies}
use Rattle.ns_frozen_tables.specs.Stands.{stands_of}
use Rattle.ns_frozen_tables.specs.Shapes.{AreShapes}

-- The kinds of the outermost bodies around all bodies, the instructions of each with their heights, and their shapes.
pub record AreBodies (code : CodeProgram) (bodies : Bodies) : Type 0 where
  pub homes : bodies.homes ≡ home_kinds code
  pub stands : bodies.stands ≡ map stands_of code.bodies
  pub shapes : AreShapes code bodies.shapes
