-- A class that is made, and a superclass of the kernel.
use Rattle.std.proofs.Common.{◌≡◌, ℕ, List, refl, Option, Some, None}
use Rattle.std.specs.Prelude.{Ok}
use Rattle.ns_code.specs.declared.program.CodeProgram.{CodeProgram}
use Rattle.ns_world.specs.declared.value.Value.{Value}
use Rattle.ns_world.specs.declared.value.Value.TheVariants.{Nil, True, False, Int, Sym, Kernel, Ref}
use Rattle.ns_world.specs.Cell.{Cell}
use Rattle.ns_world.specs.World.{WorldView, made}
use Rattle.ns_classes.specs.declared.apply.MakeFault.{MakeFault}
use Rattle.ns_classes.specs.Apply.{AppliesClass}
use Rattle.ns_moves.specs.Control.{Progress, Activation}
use Rattle.ns_moves.specs.Classes.{object_part, part_of}

-- its cell was made
pub applied_made : (fault : Option MakeFault) (old : WorldView) (cell : Cell) (number : ℕ) (new : WorldView) →
    AppliesClass fault old cell (Ok number) new → made old.world cell ≡ Some new.world
applied_made (Some fault) old cell number new a = absurd a
applied_made None old cell number new a = a.0

-- the part of a superclass that isn't declared
pub default_part : (code : CodeProgram) (activation : Activation) (over : Value) (sel : ℕ) (arguments : List Value) (progress : Progress) →
    ((class : ℕ) → over ≡ Ref class → ⊥)
    → object_part code activation sel progress ≡ part_of code activation over sel arguments progress
default_part code activation (Ref class) sel arguments progress none = absurd (none class refl)
default_part code activation Nil sel arguments progress none = refl
default_part code activation True sel arguments progress none = refl
default_part code activation False sel arguments progress none = refl
default_part code activation (Int number) sel arguments progress none = refl
default_part code activation (Sym name) sel arguments progress none = refl
default_part code activation (Kernel class) sel arguments progress none = refl
