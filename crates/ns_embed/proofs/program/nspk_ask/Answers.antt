use Rattle.ns_embed.proofs.Ended.{without_fault}
use Rattle.ns_embed.proofs.program.nspk_ask.Goals as goal
use Rattle.ns_handed.specs.Hands.{is_question}
use Rattle.ns_opened.specs.Host.{EndsAsking}
use Rattle.ns_opened.specs.Opened.{Asked}

pub returns-in-Some-clause-no_fault : goal.returns-in-Some-clause-no_fault
returns-in-Some-clause-no_fault c =
    let question : Asked = record {
      name = c.args.name;
      values = c.args.values.now;
      texts = c.args.texts.now;
      selector = c.args.selector.now;
      steps = c.args.steps;
    } in
    without_fault (is_question c.args.values.now c.args.texts.now) (EndsAsking question c.args.program.now)
    (c.calls_end_without_fault.ensures.asking question c.args.program.now)
    c.in-Some.status c.exit_code.result c.args.room.now c.host_ask.new.room c.host_ask.new.told _ c.exit_code.ensures c.in-Some.ensures.ends c.in-Some.ensures.malformed
