use Rattle.std.proofs.Common.{◌≡◌, ◌++◌, map, drop}
use Rattle.ns_world_setting.proofs.program.texts.Given as goal

abbrev pub invariant-texts : goal.invariant-texts
invariant-texts l =
    l.texts.items ++ map (λ text. text.now) (drop l.text-index l.all) ≡ map (λ text. text.now) l.all
