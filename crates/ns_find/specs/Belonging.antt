-- Whose members lookup finds.
use Rattle.std.specs.Prelude.{◌≡◌, ℕ, ◌<◌, List, [], ◌∷◌, length, Some, slice_get, Contains, Bool, if◌then◌else◌}
use Rattle.ns_code.specs.declared.program.CodeProgram.{CodeProgram}
use Rattle.ns_code.specs.declared.class.ClassCode.{ClassCode}
use Rattle.ns_code.specs.declared.class.NestedCode.{NestedCode}
use Rattle.ns_code.specs.declared.class.MethodCode.{MethodCode}
use Rattle.ns_world.specs.Heap.{Heap}
use Rattle.ns_world.specs.Layout.{declaration_of, entry_word}
use Rattle.ns_find.specs.declared.found.Found.{Found}
use Rattle.ns_find.specs.declared.found.Found.TheVariants.{Method, Getter, Setter, Nested, Factory}
use Rattle.ns_find.specs.declared.members.Side.{Side}
use Rattle.ns_find.specs.declared.members.Side.TheVariants.{Instance as InstanceSide, Class as ClassSide}

-- the methods of a side of a declaration
abbrev pub methods_on : Side → ClassCode → List MethodCode
methods_on InstanceSide class = class.methods
methods_on ClassSide class = class.side_methods

-- Slots and nested classes are members of the instance side alone.
abbrev pub IsInstanceSide : Side → Type 0
IsInstanceSide InstanceSide = Unit {0}
IsInstanceSide ClassSide = ⊥

-- A word is that of a slot of a holder's declaration.
pub record IsSlotOf (heap : Heap) (code : CodeProgram) (holder word : ℕ) : Type 0 where
  pub class : ClassCode
  pub class_is : slice_get code.classes (declaration_of heap holder) ≡ Some class
  pub entry : ℕ
  pub inside : entry < length class.slots
  pub word_is : word ≡ entry_word heap code holder entry

-- A class is a nested one of a holder's declaration.
pub record HasNested (heap : Heap) (code : CodeProgram) (holder decl : ℕ) : Type 0 where
  pub class : ClassCode
  pub class_is : slice_get code.classes (declaration_of heap holder) ≡ Some class
  pub place : ℕ
  pub nested : NestedCode
  pub nested_is : slice_get class.nested place ≡ Some nested
  pub decl_is : nested.class ≡ decl

-- A body is that of a method of a holder's declaration.
pub record IsMethodOf (heap : Heap) (code : CodeProgram) (side : Side) (holder body : ℕ) : Type 0 where
  pub class : ClassCode
  pub class_is : slice_get code.classes (declaration_of heap holder) ≡ Some class
  pub place : ℕ
  pub method : MethodCode
  pub method_is : slice_get (methods_on side class) place ≡ Some method
  pub body_is : method.body ≡ body

-- the class whose factory a lookup on its class side may find
abbrev pub factories_at : ℕ → Bool → List ℕ
factories_at class factory = if factory then class ∷ [] else []

-- What is found is a member of the declaration of a holder in a chain, the factory of one of some classes, or
-- neither has a holder nor is a factory.
abbrev pub Belongs : Heap → CodeProgram → Side → List ℕ → List ℕ → Found → Type 0
Belongs heap code side chain factories (Method body holder) = Contains chain holder × IsMethodOf heap code side holder body
Belongs heap code side chain factories (Getter holder word) = IsInstanceSide side × Contains chain holder × IsSlotOf heap code holder word
Belongs heap code side chain factories (Setter holder word) = IsInstanceSide side × Contains chain holder × IsSlotOf heap code holder word
Belongs heap code side chain factories (Nested class holder) =
    IsInstanceSide side × Contains chain holder × HasNested heap code holder class
Belongs heap code side chain factories (Factory class) = Contains factories class
Belongs heap code side chain factories other = Unit {0}
