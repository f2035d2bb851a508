-- The least code that can be admitted, on which the examples are built: one class, of one body of a height.
use Rattle.std.specs.Prelude.{ℕ, [], ◌∷◌, codes, None, false}
use Rattle.ns_base.specs.declared.selector.Sel.{Sel}
use Rattle.ns_code.specs.declared.program.CodeProgram.{CodeProgram}
use Rattle.ns_code.specs.declared.class.ClassCode.{ClassCode}
use Rattle.ns_code.specs.declared.body.BodyCode.{BodyCode}
use Rattle.ns_code.specs.declared.instruction.Instr.TheVariants.{ReturnSelf}
use Rattle.ns_code.specs.Soundness.{initialiser_kind, instance_side}

-- the only name
abbrev pub the_name : Sel
the_name = record { 0 = 0 }

abbrev pub least_class : ClassCode
least_class =
    record {
      name = the_name;
      outer = None;
      factory = the_name;
      params = 0;
      clause = None;
      init = 0;
      super_sel = the_name;
      slots = [];
      nested = [];
      methods = [];
      side_methods = [];
    }

abbrev pub least_body : ℕ → BodyCode
least_body height =
    record {
      kind = initialiser_kind;
      side = instance_side;
      class = 0;
      parent = None;
      params = 0;
      locals = 0;
      environment = false;
      height = height;
      instrs = ReturnSelf ∷ [];
      places = [];
      local_names = [];
    }

abbrev pub least_code : ℕ → CodeProgram
least_code height = record { files = []; names = codes "A" ∷ []; texts = []; classes = least_class ∷ []; bodies = least_body height ∷ [] }
