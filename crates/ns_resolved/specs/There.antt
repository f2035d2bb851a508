-- When what a program's bodies use is there.
use Rattle.std.specs.Prelude.{◌≡◌, ◌<◌, ◌≤◌, ℕ, zero, suc, ◌^◌, List, [], ◌∷◌, ◌++◌, true, Option, Some, None, length, map, flat_map, filter, slice_get, if◌then◌else◌, FitsSigned, codes, ◌==◌}
use Rattle.std.specs.List.{list_any}
use Rattle.std.specs.Option.{option_and_then, option_map_or}
use Rattle.std.specs.Str.{bytes_eq}
use Rattle.std.specs.Int.{w64}
use Rattle.ns_scope.specs.declared.scope.CodeSide.{CodeSide}
use Rattle.ns_scope.specs.declared.scope.CodeSide.TheVariants as side
use Rattle.ns_scope.specs.Resolve.{is_private}
use Rattle.ns_code.specs.Selector.{text_arity}
use Rattle.ns_resolved.specs.Program as m
use Rattle.ns_resolved.specs.Uses.{Use, a_local, a_level, a_private, a_block, a_message, a_start, a_slot, a_return_home, an_integer, an_array, DoesHave}

-- ---- what stands around code

-- the declaration around a class
abbrev pub outer_of : m.Meant → ℕ → Option ℕ
outer_of meant number = option_and_then (λ (class : m.Declaration). class.outer) (slice_get meant.classes number)

-- the declaration so many levels out from a class, which is at level 0 itself
abbrev pub declaration_out : m.Meant → ℕ → ℕ → Option ℕ
declaration_out meant zero number = Some number
declaration_out meant (suc level) number = option_and_then (outer_of meant) (declaration_out meant level number)

-- the body in which a block stands
abbrev pub parent_of : m.Meant → ℕ → Option ℕ
parent_of meant number = option_and_then (λ (body : m.Body). body.parent) (slice_get meant.bodies number)

-- the body so many bodies out from one, which is at 0 hops itself
abbrev pub body_out : m.Meant → ℕ → ℕ → Option ℕ
body_out meant zero number = Some number
body_out meant (suc hops) number = option_and_then (parent_of meant) (body_out meant hops number)

-- ---- what is used is there

-- The body so many bodies out has that local.
abbrev pub HasLocal : m.Meant → ℕ → ℕ → ℕ → Type 0
HasLocal meant number hops index =
    (out : ℕ) × (holder : m.Body) × (body_out meant hops number ≡ Some out) × (slice_get meant.bodies out ≡ Some holder) × (index < length holder.locals)

-- There is a declaration at that level.
abbrev pub HasLevel : m.Meant → m.Body → ℕ → Type 0
HasLevel meant body level = (class : ℕ) × (declaration_out meant level body.class ≡ Some class)

-- The body of that number is a block in this one.
abbrev pub IsBlockIn : m.Meant → ℕ → ℕ → Type 0
IsBlockIn meant number block =
    (inner : m.Body) × (values : List m.First) × (steps : List m.Step) × (slice_get meant.bodies block ≡ Some inner)
    × (inner.does ≡ m.as_block values steps) × (inner.parent ≡ Some number)

-- The superclass message of the body's class takes so many arguments.
abbrev pub IsStartOf : m.Meant → m.Body → ℕ → Type 0
IsStartOf meant body count =
    (class : m.Declaration) × (slice_get meant.classes body.class ≡ Some class) × (count ≡ text_arity class.super_selector)

-- The body's class has that slot.
abbrev pub HasSlot : m.Meant → m.Body → ℕ → Type 0
HasSlot meant body slot = (class : m.Declaration) × (slice_get meant.classes body.class ≡ Some class) × (slot < length class.slots)

-- The outermost body around a block is a method.
abbrev pub StandsInMethod : m.Meant → ℕ → Type 0
StandsInMethod meant number =
    (hops : ℕ) × (out : ℕ) × (home : m.Body) × (values : List m.First) × (steps : List m.Step) × (body_out meant hops number ≡ Some out)
    × (slice_get meant.bodies out ≡ Some home) × (home.does ≡ m.as_method values steps)

-- ---- private members

abbrev pub slot_selectors : m.Slot → List (List ℕ)
slot_selectors slot = slot.name ∷ (if slot.mutable then (slot.name ++ codes ":") ∷ [] else [])

-- the names of nested classes
abbrev pub nested_names : m.Meant → List m.Nested → List (List ℕ)
nested_names meant [] = []
nested_names meant (nested ∷ rest) =
    option_map_or (λ (inner : m.Declaration). inner.name ∷ nested_names meant rest) (slice_get meant.classes nested.class) (nested_names meant rest)

-- the selectors of the private members of a side of a class
abbrev pub private_members : m.Meant → CodeSide → m.Declaration → List (List ℕ)
private_members meant side.Instance class =
    flat_map slot_selectors (filter (λ (slot : m.Slot). is_private slot.access) class.slots)
    ++ (nested_names meant (filter (λ (nested : m.Nested). is_private nested.access) class.nested)
    ++ map (λ (method : m.Method). method.selector) (filter (λ (method : m.Method). is_private method.access) class.methods))
private_members meant side.Class class =
    map (λ (method : m.Method). method.selector) (filter (λ (method : m.Method). is_private method.access) class.side_methods)

-- the side on which a private member is looked for: at level 0 the code's own, further out that of instances
abbrev pub private_side : m.Body → ℕ → CodeSide
private_side body level = if level == 0 then body.side else side.Instance

-- The declaration at that level has a private member of that selector.
abbrev pub HasPrivate : m.Meant → m.Body → ℕ → List ℕ → Type 0
HasPrivate meant body level selector =
    (class : ℕ) × (declared : m.Declaration) × (declaration_out meant level body.class ≡ Some class) × (slice_get meant.classes class ≡ Some declared)
    × (list_any (bytes_eq selector) (private_members meant (private_side body level) declared) ≡ true)

-- ---- the uses of a body

-- What a body of this number uses is there, and its numbers fit a byte, an integer 64 bits.
abbrev pub IsThere : m.Meant → ℕ → m.Body → Use → Type 0
IsThere meant number body (a_local hops index) = HasLocal meant number hops index × (hops < 2 ^ 8) × (index < 2 ^ 8)
IsThere meant number body (a_level level) = HasLevel meant body level × (level < 2 ^ 8)
IsThere meant number body (a_private level selector) = HasPrivate meant body level selector × (level < 2 ^ 8)
IsThere meant number body (a_block block) = IsBlockIn meant number block
IsThere meant number body (a_message selector count) = (count ≡ text_arity selector) × (count < 2 ^ 8)
IsThere meant number body (a_start count) = IsStartOf meant body count × (count < 2 ^ 8)
IsThere meant number body (a_slot slot) = HasSlot meant body slot × (slot < 2 ^ 16)
IsThere meant number body a_return_home = StandsInMethod meant number
IsThere meant number body (an_integer n) = FitsSigned w64 n
IsThere meant number body (an_array count) = count < 2 ^ 8

-- ---- where bodies stand

-- A block stands in an earlier body of its declaration and side, which has an environment for it.
abbrev pub StandsInside : m.Meant → ℕ → m.Body → Type 0
StandsInside meant number body =
    (parent : ℕ) × (holder : m.Body) × (body.parent ≡ Some parent) × (parent < number) × (slice_get meant.bodies parent ≡ Some holder)
    × (holder.class ≡ body.class) × (holder.side ≡ body.side) × (holder.environment ≡ true)

-- A block stands in another body, and no other body does.
abbrev pub StandsAs : m.Meant → ℕ → m.Body → m.Does → Type 0
StandsAs meant number body (m.as_method values steps) = body.parent ≡ None
StandsAs meant number body (m.as_block values steps) = StandsInside meant number body
StandsAs meant number body (m.as_initialiser start) = body.parent ≡ None
StandsAs meant number body (m.as_clause head) = body.parent ≡ None

-- Each block that a body of this number names stands in it.
abbrev pub BlocksIn : m.Meant → ℕ → Use → Type 0
BlocksIn meant number (a_local hops index) = Unit {0}
BlocksIn meant number (a_level level) = Unit {0}
BlocksIn meant number (a_private level selector) = Unit {0}
BlocksIn meant number (a_block block) = IsBlockIn meant number block
BlocksIn meant number (a_message selector count) = Unit {0}
BlocksIn meant number (a_start count) = Unit {0}
BlocksIn meant number (a_slot slot) = Unit {0}
BlocksIn meant number a_return_home = Unit {0}
BlocksIn meant number (an_integer n) = Unit {0}
BlocksIn meant number (an_array count) = Unit {0}

-- A body's declaration is there, its parameters are among its locals, it stands in another where it is a block, and each
-- block that it names stands in it.
pub record IsPlaced (meant : m.Meant) (number : ℕ) (body : m.Body) : Type 0 where
  pub class : body.class < length meant.classes
  pub params : body.params ≤ length body.locals
  pub stands : StandsAs meant number body body.does
  pub blocks : DoesHave (BlocksIn meant number) body.does

-- A body is placed, its locals fit a byte, and what it uses is there.
pub record IsRightBody (meant : m.Meant) (number : ℕ) (body : m.Body) : Type 0 where
  pub placed : IsPlaced meant number body
  pub few_locals : length body.locals < 2 ^ 8
  pub uses : DoesHave (IsThere meant number body) body.does

-- Each body of a program is right.
abbrev pub AreRightBodies : m.Meant → Type 0
AreRightBodies meant = (number : ℕ) (body : m.Body) → slice_get meant.bodies number ≡ Some body → IsRightBody meant number body
