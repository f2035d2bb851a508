use Rattle.ns_moves.specs.Sends.{To}
use Rattle.ns_machine_sends.proofs.Looked.{looked_can, looked_goes, looked_found, looked_sends}
use Rattle.ns_machine_sends.proofs.sending.look_up.Goals as goal

pub do_found-requires-clause-goes : goal.do_found-requires-clause-goes
do_found-requires-clause-goes c activation =
    looked_goes c.args.code.now c.args.core.now c.args.at c.args.sent c.found_of-found.new.run activation (To c.args.receiver c.args.kind)
    c.found_of-found.ensures.rest (c.requires.goes activation)

pub do_found-requires-in-Kernel-clause-goes : goal.do_found-requires-in-Kernel-clause-goes
do_found-requires-in-Kernel-clause-goes c activation =
    looked_goes c.args.code.now c.args.core.now c.args.at c.args.sent c.found_of-found.new.run activation (To c.args.receiver c.args.kind)
    c.found_of-found.ensures.rest (c.requires.goes activation)

pub do_apart-requires : goal.do_apart-requires
do_apart-requires c = record {
  can = looked_can c.args.code.now c.args.core.now c.args.at c.args.sent c.args.receiver c.found_of-found.new.run c.found_of-found.ensures.rest
      c.found_of-found.ensures.kept c.requires.can;
  own = c.requires.own;
  goes = λ activation. looked_goes c.args.code.now c.args.core.now c.args.at c.args.sent c.found_of-found.new.run activation (To c.args.receiver c.args.kind)
      c.found_of-found.ensures.rest (c.requires.goes activation);
  found = looked_found c.args.code.now c.args.core.now c.found_of-found.new.run c.args.receiver c.args.sent.site.sel.0 c.args.kind c.found_of-found.result
      c.found_of-found.ensures.rest c.found_of-found.ensures.found;
}

pub returns-in-Method : goal.returns-in-Method
returns-in-Method c activation =
    looked_sends c.args.code.now c.args.core.now c.do_found.new.core c.args.at c.args.sent c.found_of-found.new.run activation (To c.args.receiver c.args.kind)
    c.do_found.result c.found_of-found.ensures.rest (c.do_found.ensures activation)

pub returns-in-Kernel : goal.returns-in-Kernel
returns-in-Kernel c activation =
    looked_sends c.args.code.now c.args.core.now c.do_found-in-Kernel.new.core c.args.at c.args.sent c.found_of-found.new.run activation
    (To c.args.receiver c.args.kind) c.do_found-in-Kernel.result c.found_of-found.ensures.rest (c.do_found-in-Kernel.ensures activation)

pub returns-in_default : goal.returns-in_default
returns-in_default c activation =
    looked_sends c.args.code.now c.args.core.now c.do_apart.new.core c.args.at c.args.sent c.found_of-found.new.run activation (To c.args.receiver c.args.kind)
    c.do_apart.result c.found_of-found.ensures.rest (c.do_apart.ensures activation)
