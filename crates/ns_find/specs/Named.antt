-- By which selectors members are found, and how many arguments they take.
use Rattle.std.specs.Prelude.{◌≡◌, ℕ, Some, slice_get, IsTrue}
use Rattle.ns_code.specs.declared.program.CodeProgram.{CodeProgram}
use Rattle.ns_code.specs.declared.class.ClassCode.{ClassCode}
use Rattle.ns_code.specs.declared.class.MethodCode.{MethodCode}
use Rattle.ns_code.specs.declared.body.BodyCode.{BodyCode}
use Rattle.ns_code.specs.Selector.{selector_arity}
use Rattle.ns_code.specs.Soundness.{method_kind, initialiser_kind, instance_side, class_side, has_sound_classes}
use Rattle.ns_world.specs.declared.kernel.Start.{Start}
use Rattle.ns_world.specs.declared.kernel.Start.TheVariants as start
use Rattle.ns_world.specs.Heap.{Heap}
use Rattle.ns_world.specs.Layout.{declaration_of}
use Rattle.ns_find.specs.declared.found.Found.{Found}
use Rattle.ns_find.specs.declared.found.Found.TheVariants.{Method, Factory}
use Rattle.ns_find.specs.declared.members.Side.{Side}
use Rattle.ns_find.specs.declared.members.Side.TheVariants.{Instance as InstanceSide, Class as ClassSide}
use Rattle.ns_find.specs.declared.found.Sending.{Sending}
use Rattle.ns_find.specs.Find.{found_from}
use Rattle.ns_find.specs.Belonging.{methods_on}

-- the side whose members a start looks through; those of a kernel class stand on none
abbrev pub side_from : Start → Side
side_from (start.Instance class) = InstanceSide
side_from (start.ClassSide class factory) = ClassSide
side_from (start.Kernel row) = InstanceSide

-- A method of a holder's declaration has this selector and this body.
pub record HasNamed (heap : Heap) (code : CodeProgram) (side : Side) (holder sel body : ℕ) : Type 0 where
  pub class : ClassCode
  pub class_is : slice_get code.classes (declaration_of heap holder) ≡ Some class
  pub place : ℕ
  pub method : MethodCode
  pub method_is : slice_get (methods_on side class) place ≡ Some method
  pub sel_is : method.sel.0 ≡ sel
  pub body_is : method.body ≡ body

-- A class has this factory.
pub record HasFactory (heap : Heap) (code : CodeProgram) (class sel : ℕ) : Type 0 where
  pub declared : ClassCode
  pub class_is : slice_get code.classes (declaration_of heap class) ≡ Some declared
  pub sel_is : declared.factory.0 ≡ sel

-- A method and a factory that are found have the selector that was sought.
abbrev pub IsNamedBy : Heap → CodeProgram → Side → ℕ → Found → Type 0
IsNamedBy heap code side sel (Method body holder) = HasNamed heap code side holder sel body
IsNamedBy heap code side sel (Factory class) = HasFactory heap code class sel
IsNamedBy heap code side sel other = Unit {0}

-- A body is there, of this kind, side and declaration, with so many parameters.
pub record IsBody (code : CodeProgram) (number kind side class params : ℕ) : Type 0 where
  pub body : BodyCode
  pub body_is : slice_get code.bodies number ≡ Some body
  pub kind_is : body.kind ≡ kind
  pub side_is : body.side ≡ side
  pub class_is : body.class ≡ class
  pub params_are : body.params ≡ params

-- the number of a side
abbrev pub side_number : Side → ℕ
side_number InstanceSide = instance_side
side_number ClassSide = class_side

-- A class has an initialiser of its declaration, with so many parameters.
pub record IsInitialiserOf (heap : Heap) (code : CodeProgram) (class params : ℕ) : Type 0 where
  pub declared : ClassCode
  pub class_is : slice_get code.classes (declaration_of heap class) ≡ Some declared
  pub body : IsBody code declared.init initialiser_kind instance_side (declaration_of heap class) params

-- What is found takes as many arguments as the selector that was sought: a method's body, which is one of its
-- holder's declaration, and the initialiser of a factory's class.
abbrev pub TakesArguments : Heap → CodeProgram → Side → ℕ → Found → Type 0
TakesArguments heap code side sel (Method body holder) =
    IsBody code body method_kind (side_number side) (declaration_of heap holder) (selector_arity code sel)
TakesArguments heap code side sel (Factory class) = IsInitialiserOf heap code class (selector_arity code sel)
TakesArguments heap code side sel other = Unit {0}

-- What is found for a selector is named by it, and takes as many arguments as it where the classes are sound.
pub record FoundBy (heap : Heap) (code : CodeProgram) (side : Side) (sel : ℕ) (found : Found) : Type 0 where
  pub named : IsNamedBy heap code side sel found
  pub takes : IsTrue (has_sound_classes code) → TakesArguments heap code side sel found

-- So it is for what a lookup finds.
abbrev pub FindsBy : Heap → CodeProgram → Start → ℕ → Sending → Type 0
FindsBy heap code from sel kind = FoundBy heap code (side_from from) sel (found_from heap code from sel kind)
