use Rattle.ns_embed.proofs.Ended.{without_fault}
use Rattle.ns_embed.proofs.program.nspk_open.Goals as goal
use Rattle.ns_opened.specs.Host.{EndsOpening, arguments_of, is_opening}

pub returns-in-Some-clause-no_fault : goal.returns-in-Some-clause-no_fault
returns-in-Some-clause-no_fault c =
    let given = c.args.terms.now in
    let arguments = arguments_of c.args.arguments.now c.args.texts.now in
    without_fault (is_opening c.args.arguments.now c.args.texts.now) (EndsOpening given arguments c.args.image.now)
    (c.calls_end_without_fault.ensures.opening given arguments c.args.image.now)
    c.in-Some.status c.exit_code.result c.args.room.now c.host_open.new.room c.host_open.new.told _ c.exit_code.ensures c.in-Some.ensures.ends c.in-Some.ensures.malformed
