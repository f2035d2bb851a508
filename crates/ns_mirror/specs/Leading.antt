-- To which worlds outcomes of mirrors lead.
use Rattle.ns_world.specs.World.{World}
use Rattle.ns_world.specs.Later.{IsLater}
use Rattle.ns_mirror.specs.Mirror.{Reflected, Reflects, Refuses}

-- Something holds of the world after an answer, or in which a send is to be made.
abbrev pub ReflectsTo : (World → Type 0) → Reflected → Type 0
ReflectsTo holds (Reflects answer world) = holds world
ReflectsTo holds (Refuses fault) = Unit {0}

-- It is later in the run.
abbrev pub ReflectsOn : World → Reflected → Type 0
ReflectsOn world outcome = ReflectsTo (IsLater world) outcome
