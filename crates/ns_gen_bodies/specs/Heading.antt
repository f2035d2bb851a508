-- The head of a body, from where its expressions stand.
use Rattle.std.specs.Prelude.{ℕ, Bool, List, [], length, Option, Some}
use Rattle.ns_tree.specs.declared.tree.Named.{Named}
use Rattle.ns_tree.specs.Plain as p
use Rattle.ns_code.specs.declared.body.BodyCode.{BodyCode}
use Rattle.ns_resolved.specs.Expressions.{Standing}
use Rattle.ns_resolved.specs.Program as m
use Rattle.ns_resolved.specs.Statements.{local_names, routine}
use Rattle.ns_resolved.specs.Tables.{side_number}

-- the head of a body of this kind, in such a body, with these parameters and locals, and with blocks or without
abbrev pub head_of : Standing → ℕ → Option ℕ → List Named → p.Bars → Bool → BodyCode
head_of here kind parent params bars environment =
    record {
      kind = kind;
      side = side_number here.scope.side;
      class = here.class;
      parent = parent;
      params = length params;
      locals = length (local_names params bars);
      environment = environment;
      height = 0;
      instrs = [];
      places = [];
      local_names = local_names params bars;
    }

-- a block in the body of that number, whose expressions stand so
abbrev pub block_in : Standing → ℕ → p.Block → m.Body
block_in here parent (p.block_with params bars body) = routine here (Some parent) m.as_block params bars body
