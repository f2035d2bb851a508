use Rattle.ns_machine_quick.proofs.Below.{below_kept}
use Rattle.ns_machine_quick.proofs.giving.send_to_object.Goals as goal

pub returns : goal.returns
returns c =
    below_kept c.args.code.now c.args.core.now c.args.at c.args.send.now c.found_in-found.new.run c.found_in-found.ensures.rest c.do_found.new.core c.do_found.result c.do_found.ensures
