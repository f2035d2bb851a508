use Rattle.std.proofs.Common.{[], ◌∷◌, codes, arith}
use Rattle.std.proofs.lemmas.Grind.{common_steps}
use Rattle.ns_json.specs.Json.{numbered}
use Rattle.ns_json.proofs.Parts.{object_parts}
use Rattle.ns_json.proofs.run.put_four_limits.Goals as goal

pub returns : goal.returns
returns c =
    grind (
      arith,
      common_steps,
      object_parts (numbered (codes "steps") c.args.limits.now.steps)
          (numbered (codes "cells") c.args.limits.now.cells
          ∷ numbered (codes "depth") c.args.limits.now.depth ∷ numbered (codes "out") c.args.limits.now.out ∷ []),
    )
