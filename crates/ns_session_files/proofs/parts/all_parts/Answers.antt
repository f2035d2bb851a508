use Rattle.std.proofs.Common.{◌∙◌, ◌+◌, ◌<◌, ◌++◌, List, ap, arith, drop, length, map}
use Rattle.ns_json.specs.declared.saying.Run.{Run}
use Rattle.ns_session_files.specs.Joint.{part_of}
use Rattle.ns_session_files.proofs.PartLaws.{next_part}
use Rattle.ns_session_files.proofs.parts.all_parts.Goals as goal

pub members-preserved : goal.members-preserved
members-preserved c =
    let members = c.args.session.now.members in
    let number = c.members.number in
    let all = c.members.invariant.all in
    let test = c.members-test.true in
    let less : number < length members = omega (arith, test, all) in
    record {
      all = all;
      parts = ap (λ (so_far : List Run). so_far ++ map part_of (drop (number + 1) members)) c.in_ok-push.ensures.items
          ∙ next_part members number c.members.parts.items c.in_ok-part_at.field-0 less c.in_ok-part_at.ensures c.members.invariant.parts;
    }
