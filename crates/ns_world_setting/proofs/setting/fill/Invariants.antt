use Rattle.ns_world_setting.specs.Ready.{WorldIsReady}
use Rattle.ns_world_setting.proofs.setting.fill.Given as goal

abbrev pub invariant-texts : goal.invariant-texts
invariant-texts l = WorldIsReady l.world
