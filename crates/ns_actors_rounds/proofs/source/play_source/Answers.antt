use Rattle.std.proofs.Common.{to_z-of_z}
use Rattle.ns_resolved.specs.Classes.{meant}
use Rattle.ns_actors_rounds.proofs.SourceLaws.{source_told}
use Rattle.ns_actors_rounds.proofs.source.play_source.Goals as goal

pub returns-in-Ok-play_actors : goal.returns-in-Ok-play_actors
returns-in-Ok-play_actors c =
    source_told (meant c.args.checked.now) c.args.limits c.args.count c.args.sel.now c.args.number _ c.in-Ok.code c.in-Ok-play_actors.told
    (to_z-of_z c.ranges.number) c.in-Ok.ensures.code c.in-Ok.ensures.small c.in-Ok-play_actors.ensures
