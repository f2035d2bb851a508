use Rattle.ns_moves.specs.Run.{progress_of}
use Rattle.ns_machine_sends.specs.laws.Opened.{method_opens}
use Rattle.ns_machine_sends.proofs.opening.open_method.Goals as goal

pub returns-clause-reached : goal.returns-clause-reached
returns-clause-reached c = λ site.
    method_opens c.args.code.now c.args.body c.args.holder c.args.receiver c.args.arguments.now c.args.shape site (progress_of c.args.run.now)
    c.open_body-env.result c.open_body-env.new.world.world c.requires.shape c.open_body-env.ensures.opens
