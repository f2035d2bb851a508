use Rattle.ns_world_setting.proofs.Readiness.{item_ready}
use Rattle.ns_world_setting.proofs.setting.write_item.Goals as goal

pub returns : goal.returns
returns c = item_ready c.args.world.now c.write.new.self c.args.array c.args.place c.args.value c.requires.ready c.requires.array c.requires.live c.write.ensures
