use Rattle.ns_machine_quick.proofs.Evaluating.{goes_kept}
use Rattle.ns_machine_quick.proofs.values.send_to_block.Goals as goal

pub returns : goal.returns
returns c =
    goes_kept c.args.code.now c.args.core.now c.args.at c.args.send.now c.found_of-found.new.run c.found_of-found.ensures.rest c.do_found.new.core c.do_found.result c.do_found.ensures
