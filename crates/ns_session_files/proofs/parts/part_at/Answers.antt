use Rattle.std.proofs.Common.{slice_get}
use Rattle.ns_session_files.proofs.PartLaws.{machine_ended}
use Rattle.ns_session_files.proofs.parts.part_at.Goals as goal

pub told_run-requires : goal.told_run-requires
told_run-requires c =
    machine_ended c.in-Some.machine.now (slice_get c.args.session.now.members c.args.number) c.in-Some.ensures
    (c.requires.ended c.args.number c.requires.there)
