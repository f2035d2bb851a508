use Rattle.std.proofs.Common.{◌∙◌}
use Rattle.ns_static.specs.Check.{faults_of}
use Rattle.ns_static_all.proofs.Counting.{listed_all}
use Rattle.ns_static_all.proofs.all.faults_listed.Goals as goal

pub returns : goal.returns
returns c =
    c.into_list.ensures
    ∙ listed_all (faults_of c.args.program.now) c.in_ok-room.room c.in_ok-kept.kept c.args.count
    (c.walks_keep_what_is_asked_for.ensures.each c.args.count (faults_of c.args.program.now)) c.in_ok-room.ensures c.requires c.in_ok-kept.ensures
