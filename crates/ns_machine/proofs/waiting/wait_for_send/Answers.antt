use Rattle.ns_world.specs.laws.Starts.{class_named}
use Rattle.ns_machine.proofs.waiting.wait_for_send.Goals as goal

pub site_of-site-requires-clause-class : goal.site_of-site-requires-clause-class
site_of-site-requires-clause-class c = class_named c.args.core.now.run.world.world c.args.code.now c.args.receiver c.requires.lawful
