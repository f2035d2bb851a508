-- Which outcomes of mirrors leave a lawful world.
use Rattle.ns_code.specs.declared.program.CodeProgram.{CodeProgram}
use Rattle.ns_world.specs.Lawful.{IsLawful}
use Rattle.ns_mirror.specs.Mirror.{Reflected, Reflects, Refuses}

-- The world after an answer, or in which a send is to be made, is lawful.
abbrev pub ReflectsLawful : CodeProgram → Reflected → Type 0
ReflectsLawful code (Reflects answer world) = IsLawful world code
ReflectsLawful code (Refuses fault) = Unit {0}
