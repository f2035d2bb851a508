-- When a program is right: its bodies and its classes name what is there.
use Rattle.std.specs.Prelude.{◌≡◌, ◌<◌, ◌≤◌, ℕ, List, [], ◌∷◌, ◌++◌, true, Option, Some, None, length, map, flat_map, slice_get}
use Rattle.ns_base.specs.Spelling.{is_identifier}
use Rattle.ns_scope.specs.declared.scope.CodeSide.{CodeSide}
use Rattle.ns_scope.specs.declared.scope.CodeSide.TheVariants as side
use Rattle.ns_code.specs.Selector.{text_arity}
use Rattle.ns_code.specs.Soundness.{are_different}
use Rattle.ns_resolved.specs.Program as m
use Rattle.ns_resolved.specs.There.{AreRightBodies, slot_selectors, nested_names}

-- ---- what a class names

-- A nested class has an earlier one around it; a class that stands in no other has no clause.
abbrev pub StandsIn : ℕ → m.Declaration → Option ℕ → Type 0
StandsIn number class None = class.clause ≡ None
StandsIn number class (Some outer) = outer < number

-- The initialiser is a body of the class, on the side of instances, with the factory's parameters.
abbrev pub HasInitialiser : m.Meant → ℕ → m.Declaration → Type 0
HasInitialiser meant number class =
    (body : m.Body) × (start : m.Initialiser) × (slice_get meant.bodies class.initialiser ≡ Some body) × (body.does ≡ m.as_initialiser start)
    × (body.side ≡ side.Instance) × (body.class ≡ number) × (body.params ≡ class.params)

-- A clause is a body of the class around, on the side of instances, without parameters.
abbrev pub HasClause : m.Meant → m.Declaration → Option ℕ → Type 0
HasClause meant class None = Unit {0}
HasClause meant class (Some clause) =
    (body : m.Body) × (head : m.Node) × (slice_get meant.bodies clause ≡ Some body) × (body.does ≡ m.as_clause head) × (body.side ≡ side.Instance)
    × (class.outer ≡ Some body.class) × (body.params ≡ 0)

-- A method's body is one of the class and side, with as many parameters as its selector takes arguments.
abbrev pub HasMethod : m.Meant → CodeSide → ℕ → m.Method → Type 0
HasMethod meant side number method =
    (body : m.Body) × (values : List m.First) × (steps : List m.Step) × (slice_get meant.bodies method.body ≡ Some body)
    × (body.does ≡ m.as_method values steps) × (body.side ≡ side) × (body.class ≡ number) × (body.params ≡ text_arity method.selector)

abbrev pub HaveMethods : m.Meant → CodeSide → ℕ → List m.Method → Type 0
HaveMethods meant side number [] = Unit {0}
HaveMethods meant side number (method ∷ methods) = HasMethod meant side number method × HaveMethods meant side number methods

-- Each nested class has this one around it.
abbrev pub HaveNested : m.Meant → ℕ → List m.Nested → Type 0
HaveNested meant number [] = Unit {0}
HaveNested meant number (nested ∷ others) =
    ((inner : m.Declaration) × (slice_get meant.classes nested.class ≡ Some inner) × (inner.outer ≡ Some number)) × HaveNested meant number others

abbrev pub AreIdentifiers : List m.Slot → Type 0
AreIdentifiers [] = Unit {0}
AreIdentifiers (slot ∷ slots) = (is_identifier slot.name ≡ true) × AreIdentifiers slots

-- the selectors of the members of a class's instance side
abbrev pub members_of : m.Meant → m.Declaration → List (List ℕ)
members_of meant class =
    flat_map slot_selectors class.slots ++ (nested_names meant class.nested ++ map (λ (method : m.Method). method.selector) class.methods)

-- A class stands where it may, and its nested classes stand in it.
pub record IsNested (meant : m.Meant) (number : ℕ) (class : m.Declaration) : Type 0 where
  pub place : StandsIn number class class.outer
  pub nested : HaveNested meant number class.nested

-- What a class names is there and stands at its place, and no two members of a side have one selector.
pub record IsRightClass (meant : m.Meant) (number : ℕ) (class : m.Declaration) : Type 0 where
  pub nesting : IsNested meant number class
  pub name : is_identifier class.name ≡ true
  pub few_params : class.params < 64
  pub factory : class.params ≡ text_arity class.factory
  pub initialiser : HasInitialiser meant number class
  pub clause : HasClause meant class class.clause
  pub slots : AreIdentifiers class.slots
  pub methods : HaveMethods meant side.Instance number class.methods
  pub side_methods : HaveMethods meant side.Class number class.side_methods
  pub members_differ : are_different (members_of meant class) ≡ true
  pub side_members_differ : are_different (map (λ (method : m.Method). method.selector) class.side_methods) ≡ true

-- There is a class, and classes and bodies are right.
pub record IsRight (meant : m.Meant) : Type 0 where
  pub some_class : 1 ≤ length meant.classes
  pub classes : (number : ℕ) (class : m.Declaration) → slice_get meant.classes number ≡ Some class → IsRightClass meant number class
  pub bodies : AreRightBodies meant
