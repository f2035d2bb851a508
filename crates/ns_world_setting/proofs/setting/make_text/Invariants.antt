use Rattle.ns_world_setting.specs.Ready.{WorldIsReady}
use Rattle.ns_world_setting.proofs.setting.make_text.Given as goal

abbrev pub invariant-bytes : goal.invariant-bytes
invariant-bytes l = WorldIsReady l.world
