-- What is told of values, holders and classes holds in each later heap.
use Rattle.std.proofs.Common.{◌≡◌, ℕ, List, get_or, refl, ap, sym, ◌∙◌, subst, Option, Some, None, All, Contains, IsSome, is_some, true}
use Rattle.ns_code.specs.declared.program.CodeProgram.{CodeProgram}
use Rattle.ns_world.specs.declared.value.Value.{Value}
use Rattle.ns_world.specs.declared.value.Value.TheVariants.{Nil, True, False, Int, Sym, Kernel, Ref}
use Rattle.ns_world.specs.Cell.{Cell, ObjectCell, ClassCell, BlockCell, EnvironmentCell, ArrayCell, TextCell, FacetCell, MirrorCell, MessageCell}
use Rattle.ns_world.specs.Heap.{Heap, find_cell, is_class, is_chain_start, chain_of}
use Rattle.ns_world.specs.Starts.{is_receiver_cell, is_receiver}
use Rattle.ns_world.specs.Layout.{declaration_of}
use Rattle.ns_world.specs.Lawful.{IsLive, IsLiveValue, is_environment, IsEnvironmentOrNil, class_of_object, HasHolder, HasEnclosing, IsKeptCell, IsKept}
use Rattle.ns_world.specs.laws.Classes.{class_stays, declaration_stays, chain_starts}
use Rattle.ns_world.specs.laws.Twins.{KeepsCells}

-- a cell that was there is there
pub there_stays : (before after : Heap) (n : ℕ) → KeepsCells before after → IsSome (find_cell before n) → IsSome (find_cell after n)
there_stays before after n k h = found (find_cell before n) refl h
  where
    found : (o : Option Cell) → find_cell before n ≡ o → IsSome o → IsSome (find_cell after n)
    found None e h = absurd (cc)
    found (Some cell) e h = ap is_some (k.cells n cell e).is

-- a live value stays live
pub live_stays : (before after : Heap) (code : CodeProgram) (value : Value) → KeepsCells before after → IsLive before code value →
    IsLive after code value
live_stays before after code (Ref at) k h = there_stays before after at k h
live_stays before after code (Sym sel) k h = h
live_stays before after code Nil k h = h
live_stays before after code True k h = h
live_stays before after code False k h = h
live_stays before after code (Int number) k h = h
live_stays before after code (Kernel class) k h = h

pub receiver_stays : (before after : Heap) (value : Value) → KeepsCells before after → is_receiver before value ≡ true →
    is_receiver after value ≡ true
receiver_stays before after (Ref at) k h = found (find_cell before at) refl h
  where
    found : (o : Option Cell) → find_cell before at ≡ o → is_receiver_cell o ≡ true → is_receiver_cell (find_cell after at) ≡ true
    found None e h = absurd (cc)
    found (Some cell) e h = let s = k.cells at cell e in ap is_receiver_cell s.is ∙ (s.twins.receiver ∙ h)
receiver_stays before after Nil k h = h
receiver_stays before after True k h = h
receiver_stays before after False k h = h
receiver_stays before after (Int number) k h = h
receiver_stays before after (Sym sel) k h = h
receiver_stays before after (Kernel class) k h = h

-- a value that is no environment stays one
pub value_stays : (before after : Heap) (code : CodeProgram) (value : Value) → KeepsCells before after → IsLiveValue before code value →
    IsLiveValue after code value
value_stays before after code value k h = (live_stays before after code value k h.0, receiver_stays before after value k h.1)

-- Live values stay live where the cells are kept.
pub values_stay : (before after : Heap) (code : CodeProgram) (values : List Value) → KeepsCells before after →
    All (IsLiveValue before code) values → All (IsLiveValue after code) values
values_stay before after code values k all = λ i d lt. value_stays before after code (get_or values i d) k (all i d lt)

-- An environment stays one, and nil stays nil, where the cells are kept.
pub environment_stays : (before after : Heap) (value : Value) → KeepsCells before after → IsEnvironmentOrNil before value →
    IsEnvironmentOrNil after value
environment_stays before after (Ref at) k h = found (find_cell before at) refl h
  where
    found : (o : Option Cell) → find_cell before at ≡ o → is_environment o ≡ true → is_environment (find_cell after at) ≡ true
    found None e h = absurd (cc)
    found (Some cell) e h = let s = k.cells at cell e in ap is_environment s.is ∙ (s.twins.environment ∙ h)
environment_stays before after Nil k h = h
environment_stays before after True k h = h
environment_stays before after False k h = h
environment_stays before after (Int number) k h = h
environment_stays before after (Sym sel) k h = h
environment_stays before after (Kernel class) k h = h

-- an object stays one of its class
pub object_stays : (before after : Heap) (at : ℕ) → KeepsCells before after → IsSome (class_of_object (find_cell before at)) →
    class_of_object (find_cell after at) ≡ class_of_object (find_cell before at)
object_stays before after at k h = found (find_cell before at) refl h
  where
    found : (o : Option Cell) → find_cell before at ≡ o → IsSome (class_of_object o) → class_of_object (find_cell after at) ≡ class_of_object (find_cell before at)
    found None e h = absurd (cc)
    found (Some cell) e h = let s = k.cells at cell e in ap class_of_object s.is ∙ (s.twins.object ∙ ap class_of_object (sym e))

-- a class in a chain stays in it
pub contained_stays : (before after : Heap) (class holder : ℕ) → KeepsCells before after → Contains (chain_of before class) holder →
    Contains (chain_of after class) holder
contained_stays before after class holder k h =
    let is : is_class (find_cell before class) ≡ true = chain_starts before class h.0 h.1 in
    let start : is_chain_start before class ≡ true = rw is refl in
    subst (λ chain. Contains chain holder) (sym (k.same.chains class start)) h

-- an object keeps each holder in its chain
pub holder_stays : (before after : Heap) (value : Value) (holder : ℕ) → KeepsCells before after → HasHolder before value holder →
    HasHolder after value holder
holder_stays before after (Ref at) holder k h =
    let same = object_stays before after at k h.1 in
    (λ class e. contained_stays before after class holder k (h.0 class (sym same ∙ e)), ap is_some same ∙ h.1)
holder_stays before after Nil holder k h = h
holder_stays before after True holder k h = h
holder_stays before after False holder k h = h
holder_stays before after (Int number) holder k h = h
holder_stays before after (Sym sel) holder k h = h
holder_stays before after (Kernel class) holder k h = h

-- a class keeps its declaration
pub declared_stays : (before after : Heap) (class : ℕ) → KeepsCells before after → is_class (find_cell before class) ≡ true →
    declaration_of after class ≡ declaration_of before class
declared_stays before after class k h = declaration_stays before after class (k.same.classes class h)

pub enclosing_stays : (before after : Heap) (code : CodeProgram) (outer : Option ℕ) (encl holder : Value) → KeepsCells before after →
    HasEnclosing before code outer encl holder → HasEnclosing after code outer encl holder
enclosing_stays before after code None encl holder k h = h
enclosing_stays before after code (Some outer) encl (Ref holder) k h =
    (holder_stays before after encl holder k h.0, class_stays before after holder k.same h.1, declared_stays before after holder k h.1 ∙ h.2)
enclosing_stays before after code (Some outer) encl Nil k h = h
enclosing_stays before after code (Some outer) encl True k h = h
enclosing_stays before after code (Some outer) encl False k h = h
enclosing_stays before after code (Some outer) encl (Int number) k h = h
enclosing_stays before after code (Some outer) encl (Sym sel) k h = h
enclosing_stays before after code (Some outer) encl (Kernel class) k h = h

kept_is_class : (object holder decl : ℕ) (o : Option Cell) → IsKeptCell object holder decl o → is_class o ≡ true
kept_is_class object holder decl None h = absurd h
kept_is_class object holder decl (Some (ClassCell other base encl holder' over)) h = refl
kept_is_class object holder decl (Some (ObjectCell class entries)) h = absurd h
kept_is_class object holder decl (Some (BlockCell body env home receiver holder')) h = absurd h
kept_is_class object holder decl (Some (EnvironmentCell parent locals)) h = absurd h
kept_is_class object holder decl (Some (ArrayCell items)) h = absurd h
kept_is_class object holder decl (Some (TextCell bytes)) h = absurd h
kept_is_class object holder decl (Some (FacetCell kind)) h = absurd h
kept_is_class object holder decl (Some (MirrorCell mirrored)) h = absurd h
kept_is_class object holder decl (Some (MessageCell sel args)) h = absurd h

-- what may be kept in a word may be kept there later
pub kept_stays : (before after : Heap) (object holder decl : ℕ) (value : Value) → KeepsCells before after →
    IsKept before object holder decl value → IsKept after object holder decl value
kept_stays before after object holder decl (Ref class) k h =
    subst (IsKeptCell object holder decl) (sym (k.same.classes class (kept_is_class object holder decl (find_cell before class) h))) h
kept_stays before after object holder decl Nil k h = h
kept_stays before after object holder decl True k h = h
kept_stays before after object holder decl False k h = h
kept_stays before after object holder decl (Int number) k h = h
kept_stays before after object holder decl (Sym sel) k h = h
kept_stays before after object holder decl (Kernel class) k h = h
