use Rattle.std.proofs.Common.{[], ◌∷◌, codes, arith}
use Rattle.std.proofs.lemmas.Grind.{common_steps}
use Rattle.ns_json.specs.Json.{numbered, texted}
use Rattle.ns_json.specs.Report as spec
use Rattle.ns_json.proofs.Parts.{object_parts}
use Rattle.ns_json.proofs.json.put_stored.Goals as goal

pub returns : goal.returns
returns c =
    grind (
      arith,
      common_steps,
      object_parts (spec.status (codes "stored"))
          (texted (codes "image") c.args.image.now ∷ numbered (codes "bytes") c.args.bytes ∷ []),
    )
