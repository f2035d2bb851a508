use Rattle.ns_world_setting.proofs.Readiness.{byte_ready}
use Rattle.ns_world_setting.proofs.setting.write_byte.Goals as goal

pub returns : goal.returns
returns c = byte_ready c.args.world.now c.set_byte.new.self c.args.text c.args.place c.args.byte c.requires.ready c.set_byte.ensures
