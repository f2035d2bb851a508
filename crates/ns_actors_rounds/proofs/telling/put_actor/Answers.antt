use Rattle.std.proofs.Common.{slice_get}
use Rattle.ns_actors_rounds.proofs.Texts.{text_put}
use Rattle.ns_actors_rounds.proofs.telling.put_actor.Goals as goal

pub returns : goal.returns
returns c =
    text_put c.args.files.now c.args.number (slice_get c.args.actors.now.actors c.args.number) c.args.text.now.items c.put_taken.new.text.items
    c.put_printed.new.text.items c.put_why.new.text.items c.taken.result _ c.stopped.result _ c.in_ok-put_taken.ensures c.in_ok-put_printed.ensures
    c.in_ok-put_why.ensures c.taken.ensures c.transcript.ensures c.stopped.ensures c.in_ok-report.ensures
