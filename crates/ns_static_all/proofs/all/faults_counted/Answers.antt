use Rattle.ns_static.specs.Check.{faults_of}
use Rattle.ns_static_all.proofs.Counting.{counted_all}
use Rattle.ns_static_all.proofs.all.faults_counted.Goals as goal

pub returns : goal.returns
returns c =
    counted_all (faults_of c.args.program.now) c.in_ok-kept.kept c.into_count-count.result
    (c.walks_keep_what_is_asked_for.ensures.count (faults_of c.args.program.now)) c.in_ok-kept.ensures c.into_count-count.ensures c.if-count.false
