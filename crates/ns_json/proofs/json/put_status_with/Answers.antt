use Rattle.std.proofs.Common.{[], ◌∷◌, arith}
use Rattle.std.proofs.lemmas.Grind.{common_steps}
use Rattle.ns_json.specs.Objects.{listed}
use Rattle.ns_json.specs.Report as spec
use Rattle.ns_json.proofs.Parts.{object_parts}
use Rattle.ns_json.proofs.json.put_status_with.Goals as goal

pub returns : goal.returns
returns g c =
    grind (
      arith,
      common_steps,
      object_parts (spec.status c.args.word.now) (listed c.args.name.now g.T.Object.members c.args.things.now ∷ []),
    )
