-- Actions of a lawful run: the world after them is lawful, and each value that they go on with is live.
use Rattle.std.specs.Prelude.{◌≡◌, ℕ, zero, suc, ◌<◌, List, length, All, Option, Some, None, true, false, IsTrue, IsSome, slice_get}
use Rattle.std.specs.Option.{option_and_then, option_map, option_map_or, ForSome}
use Rattle.ns_base.specs.declared.selector.Sel.{Sel}
use Rattle.ns_code.specs.declared.program.CodeProgram.{CodeProgram}
use Rattle.ns_code.specs.declared.class.ClassCode.{ClassCode}
use Rattle.ns_code.specs.declared.body.BodyCode.{BodyCode}
use Rattle.ns_code.specs.Selector.{is_selector_number, selector_arity}
use Rattle.ns_code.specs.Soundness.{block_kind}
use Rattle.ns_world.specs.declared.value.Value.{Value}
use Rattle.ns_world.specs.declared.value.Value.TheVariants.{Ref}
use Rattle.ns_world.specs.Heap.{Heap, find_cell, is_class}
use Rattle.ns_world.specs.Layout.{declaration_of}
use Rattle.ns_world.specs.Lawful.{IsLawful, IsLiveValue, IsEnvironmentOrNil, is_environment, HasHolder, FitsBody, parent_of}
use Rattle.ns_find.specs.Belonging.{HasNested}
use Rattle.ns_kcode.specs.declared.state.KState.{KState}
use Rattle.ns_moves.specs.Control.{Progress, Activation, Exit, FromClause, After, Gives, Halts, Control, Now, Enter, Evaluate, Begin, Perform, PartControl, Skip, Stop, EnterPart, Waiting, Waits, Finishes}
use Rattle.ns_moves.specs.Bodies.{is_beside, environment_at}
use Rattle.ns_moves.specs.Sends.{Target, To, ToPrivate, ToSuper}

-- The world of a run is lawful for its code.
abbrev pub LawfulRun : CodeProgram → Progress → Type 0
LawfulRun code progress = IsLawful progress.world code

-- The values of an activation are live: self, the environment, and its locals beside it.
pub record LiveActivation (heap : Heap) (code : CodeProgram) (activation : Activation) (beside : List Value) : Type 0 where
  pub self : IsLiveValue heap code activation.self
  pub env : IsEnvironmentOrNil heap activation.env
  pub locals : All (IsLiveValue heap code) beside

-- The values of a kernel method are live.
pub record LiveState (heap : Heap) (code : CodeProgram) (state : KState) : Type 0 where
  pub receiver : IsLiveValue heap code state.receiver
  pub first : IsLiveValue heap code state.first
  pub second : IsLiveValue heap code state.second
  pub last : ForSome state.last (λ value. IsLiveValue heap code value)

-- A value that is given is live in a lawful world, and an end leaves one.
abbrev pub LawfulAfter : CodeProgram → After → Type 0
LawfulAfter code (Gives value progress) = LawfulRun code progress × IsLiveValue progress.world.cells code value
LawfulAfter code (Halts ending progress) = LawfulRun code progress

-- Where control goes in a lawful run.
abbrev pub LawfulControl : CodeProgram → Control → Type 0
LawfulControl code (Now after) = LawfulAfter code after
LawfulControl code (Enter exit activation locals progress) =
    LawfulRun code progress × LiveActivation progress.world.cells code activation locals
LawfulControl code (Evaluate block arguments site progress) =
    LawfulRun code progress × IsLiveValue progress.world.cells code block × All (IsLiveValue progress.world.cells code) arguments
LawfulControl code (Begin method state site progress) = LawfulRun code progress × LiveState progress.world.cells code state
LawfulControl code (Perform receiver sel array site progress) =
    LawfulRun code progress × IsLiveValue progress.world.cells code receiver × IsLiveValue progress.world.cells code (Ref array)

-- Where control goes in a superclass part of a lawful run.
abbrev pub LawfulPart : CodeProgram → PartControl → Type 0
LawfulPart code (Skip progress) = LawfulRun code progress
LawfulPart code (Stop ending progress) = LawfulRun code progress
LawfulPart code (EnterPart activation locals progress) =
    LawfulRun code progress × LiveActivation progress.world.cells code activation locals

-- What a kernel method does next in a lawful run.
abbrev pub LawfulWaiting : CodeProgram → Waiting → Type 0
LawfulWaiting code (Waits block arguments state progress) =
    LawfulRun code progress × IsLiveValue progress.world.cells code block × All (IsLiveValue progress.world.cells code) arguments
    × LiveState progress.world.cells code state
LawfulWaiting code (Finishes after) = LawfulAfter code after

-- An object has a holder in its chain, whose declaration has a nested class.
pub record HasClass (heap : Heap) (code : CodeProgram) (object holder class : ℕ) : Type 0 where
  pub object_has : HasHolder heap (Ref object) holder
  pub holder_is : IsTrue (is_class (find_cell heap holder))
  pub nested : HasNested heap code holder class

-- The end of a body can be met: for a clause's, the object has that nested class.
abbrev pub FitsExit : Heap → CodeProgram → Exit → Type 0
FitsExit heap code (FromClause object holder class) = HasClass heap code object holder class
FitsExit heap code exit = Unit {0}

-- A selector with as many live arguments as it takes.
pub record FitsSelector (heap : Heap) (code : CodeProgram) (sel : Sel) (values : List Value) : Type 0 where
  pub selector : IsTrue (is_selector_number code sel.0)
  pub arity : length values ≡ selector_arity code sel.0
  pub live : All (IsLiveValue heap code) values

-- Code runs with a self and a holder that fit its body.
pub record FitsActivation (heap : Heap) (code : CodeProgram) (activation : Activation) : Type 0 where
  pub live : IsLiveValue heap code activation.self
  pub there : IsSome (slice_get code.bodies activation.body)
  pub fits : ForSome (slice_get code.bodies activation.body) (λ (body : BodyCode). FitsBody heap code body activation.self activation.holder)

-- Self has the holder of the code in its chain, and the holder's declaration such a slot.
pub record FitsSlot (heap : Heap) (code : CodeProgram) (activation : Activation) (slot : ℕ) : Type 0 where
  pub holder : HasHolder heap activation.self activation.holder
  pub declared : IsSome (slice_get code.classes (declaration_of heap activation.holder))
  pub within : ForSome (slice_get code.classes (declaration_of heap activation.holder)) (λ (class : ClassCode). slot < length class.slots)

-- A local that doesn't stand beside its activation stands in an environment.
abbrev pub FitsLocal : Heap → CodeProgram → Activation → ℕ → Type 0
FitsLocal heap code activation hops =
    is_beside code activation hops ≡ false → IsTrue (is_environment (find_cell heap (environment_at heap code activation hops)))

-- the declaration of a body
abbrev pub declaration_of_body : CodeProgram → ℕ → Option ℕ
declaration_of_body code body = option_map (λ (b : BodyCode). b.class) (slice_get code.bodies body)

-- the declaration around another
abbrev pub outer_of : CodeProgram → Option ℕ → Option ℕ
outer_of code (Some decl) = option_map_or (λ (class : ClassCode). class.outer) (slice_get code.classes decl) None
outer_of code None = None

-- the declaration so many levels out from that of a body, where there are as many
abbrev pub declaration_at : CodeProgram → ℕ → ℕ → Option ℕ
declaration_at code body zero = declaration_of_body code body
declaration_at code body (suc level) = outer_of code (declaration_at code body level)

-- A send that can be made: to a live value, to a private member of a declaration that there is, or to super.
abbrev pub FitsTarget : Heap → CodeProgram → Activation → Target → Type 0
FitsTarget heap code activation (To receiver kind) = IsLiveValue heap code receiver
FitsTarget heap code activation (ToPrivate level) = FitsActivation heap code activation × IsSome (declaration_at code activation.body level)
FitsTarget heap code activation ToSuper = FitsActivation heap code activation

-- ---- bodies within bodies

-- the body so many bodies out from one, where there are as many
abbrev pub body_out : CodeProgram → ℕ → ℕ → Option ℕ
body_out code body zero = Some body
body_out code body (suc hops) = option_and_then (parent_of code) (body_out code body hops)

-- A block stands in a body: it is a block of that class and side, and the body has an environment for it.
pub record IsBlockOf (code : CodeProgram) (block body : ℕ) : Type 0 where
  pub inner : BodyCode
  pub outer : BodyCode
  pub inner_is : slice_get code.bodies block ≡ Some inner
  pub outer_is : slice_get code.bodies body ≡ Some outer
  pub kind : inner.kind ≡ block_kind
  pub parent : inner.parent ≡ Some body
  pub class : inner.class ≡ outer.class
  pub side : inner.side ≡ outer.side
  pub around : outer.environment ≡ true
