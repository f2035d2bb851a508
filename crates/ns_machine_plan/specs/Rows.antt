-- What is asked of each body.
use Rattle.std.specs.Prelude.{◌≡◌, ℕ, ◌+◌, List, [], ◌∷◌, Some, ◌==◌, if◌then◌else◌}
use Rattle.ns_code.specs.declared.program.CodeProgram.{CodeProgram}
use Rattle.ns_code.specs.declared.body.BodyCode.{BodyCode}
use Rattle.ns_code.specs.Soundness.{class_side}
use Rattle.ns_world.specs.Lawful.{parent_of}
use Rattle.ns_find.specs.Find.{side_of}
use Rattle.ns_moves.specs.Bodies.{parameters_of, locals_of, has_environment, side_of_body, height_in}
use Rattle.ns_moves.specs.Fitting.{environment_body, locals_beside, kind_of}
use Rattle.ns_moves.specs.Lawful.{declaration_of_body}
use Rattle.ns_machine_plan.specs.declared.row.Row.{Row}

-- the row of a body by its number
abbrev pub row_of : ℕ → BodyCode → Row
row_of number body =
    record {
      class = body.class;
      params = body.params;
      locals = body.locals;
      environment = body.environment;
      beside = if body.environment then 0 else body.locals;
      height = body.height;
      class_side = body.side == class_side;
      kind = body.kind;
      parent = body.parent;
      around = if body.environment then Some number else body.parent;
    }

-- the rows of bodies, of which the first has that number
abbrev pub all_rows : ℕ → List BodyCode → List Row
all_rows number [] = []
all_rows number (body ∷ bodies) = row_of number body ∷ all_rows (number + 1) bodies

-- A row is that of a body.
pub record IsRowOf (code : CodeProgram) (body : ℕ) (row : Row) : Type 0 where
  pub class : Some row.class ≡ declaration_of_body code body
  pub params : row.params ≡ parameters_of code body
  pub locals : row.locals ≡ locals_of code body
  pub environment : row.environment ≡ has_environment code body
  pub beside : row.beside ≡ locals_beside code body
  pub height : row.height ≡ height_in code body
  pub side : side_of row.class_side ≡ side_of_body code body
  pub kind : row.kind ≡ kind_of code body
  pub parent : row.parent ≡ parent_of code body
  pub around : row.around ≡ environment_body code body
