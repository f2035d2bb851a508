use Rattle.std.proofs.Common.{◌∷◌, codes, arith}
use Rattle.std.proofs.lemmas.List.{append_assoc, append-nil}
use Rattle.ns_json.specs.Json.{texted}
use Rattle.ns_json.specs.Report as spec
use Rattle.ns_json.proofs.Parts.{behind_append}
use Rattle.ns_json.proofs.run.put_error.Goals as goal

pub returns : goal.returns
returns c =
    grind (
      arith,
      append_assoc,
      append-nil,
      behind_append (texted (codes "kind") c.args.kind.now ∷ spec.place_members_of c.args.site.now.place) (spec.send_members c.args.site.now),
    )
