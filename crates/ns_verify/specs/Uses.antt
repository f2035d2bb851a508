-- What an instruction of sound code can rely on, and what a body can.
use Rattle.std.specs.Prelude.{◌≡◌, ◌≢◌, ℕ, ◌<◌, ◌≤◌, length, Some, None, slice_get, true, false}
use Rattle.std.specs.List.{list_any}
use Rattle.std.specs.Str.{bytes_eq}
use Rattle.ns_base.specs.declared.selector.Sel.{Sel}
use Rattle.ns_code.specs.declared.program.CodeProgram.{CodeProgram}
use Rattle.ns_code.specs.declared.class.ClassCode.{ClassCode}
use Rattle.ns_code.specs.declared.body.BodyCode.{BodyCode}
use Rattle.ns_code.specs.declared.instruction.Instr.{Instr}
use Rattle.ns_code.specs.declared.instruction.Instr.TheVariants.{PushSym, PushText, PushOuter, PushLocal, StoreLocal, PushBlock, Send, SendInner}
use Rattle.ns_code.specs.declared.instruction.Instr.TheVariants.{SendPrivate, SendSuper, InitSuper, StoreSlot, Return, ReturnSelf, ReturnHome}
use Rattle.ns_code.specs.Selector.{selector_arity, selector_text}
use Rattle.ns_code.specs.Soundness.{method_kind, block_kind, initialiser_kind, clause_kind}
use Rattle.ns_verify.specs.Chains.{declaration_at, body_at}
use Rattle.ns_verify.specs.Causes.{private_side}
use Rattle.ns_verify_members.specs.Members.{private_selectors}
use Rattle.ns_verify.specs.Places.{pass_before, home_of}

-- The declaration at that level is there.
abbrev pub HasLevel : CodeProgram → BodyCode → ℕ → Type 0
HasLevel code body level = (class : ℕ) × (declaration_at code level body.class ≡ Some class) × (class < length code.classes)

-- The body so many bodies out is there, and has that local.
abbrev pub HasLocal : CodeProgram → ℕ → ℕ → ℕ → Type 0
HasLocal code number hops index =
    (out : ℕ) × (holder : BodyCode) × (body_at code hops number ≡ Some out) × (slice_get code.bodies out ≡ Some holder) × (index < holder.locals)

-- The body is a block in that one.
abbrev pub HasBlock : CodeProgram → ℕ → ℕ → Type 0
HasBlock code number block =
    (inner : BodyCode) × (slice_get code.bodies block ≡ Some inner) × (inner.kind ≡ block_kind) × (inner.parent ≡ Some number)

-- The selector is a name that takes so many arguments.
abbrev pub IsSendOf : CodeProgram → Sel → ℕ → Type 0
IsSendOf code sel argc = (sel.0 < length code.names) × (argc ≡ selector_arity code sel.0)

-- The declaration at that level has a private member of that selector.
abbrev pub HasPrivate : CodeProgram → BodyCode → ℕ → Sel → Type 0
HasPrivate code body level sel =
    (class : ℕ) × (declared : ClassCode) × (declaration_at code level body.class ≡ Some class) × (slice_get code.classes class ≡ Some declared)
    × (list_any (bytes_eq (selector_text code sel.0)) (private_selectors code (private_side body level) declared) ≡ true)

-- The body's class is there, and has that slot.
abbrev pub HasSlot : CodeProgram → BodyCode → ℕ → Type 0
HasSlot code body slot = (declared : ClassCode) × (slice_get code.classes body.class ≡ Some declared) × (slot < length declared.slots)

-- The superclass message of the body's class takes so many arguments.
abbrev pub IsStartOf : CodeProgram → BodyCode → ℕ → Type 0
IsStartOf code body argc =
    (declared : ClassCode) × (slice_get code.classes body.class ≡ Some declared)
    × (declared.super_sel.0 < length code.names) × (argc ≡ selector_arity code declared.super_sel.0)

-- What an instruction names is there, and it stands in a body in which it can be used.
abbrev pub IsUsable : CodeProgram → ℕ → BodyCode → ℕ → Instr → Type 0
IsUsable code number body at (PushSym sel) = sel.0 < length code.names
IsUsable code number body at (PushText text) = text < length code.texts
IsUsable code number body at (PushOuter level) = HasLevel code body level
IsUsable code number body at (PushLocal hops index) = HasLocal code number hops index
IsUsable code number body at (StoreLocal hops index) = HasLocal code number hops index
IsUsable code number body at (PushBlock block) = HasBlock code number block
IsUsable code number body at (Send sel argc) = IsSendOf code sel argc
IsUsable code number body at (SendInner sel argc) = IsSendOf code sel argc
IsUsable code number body at (SendPrivate level sel argc) = IsSendOf code sel argc × HasPrivate code body level sel
IsUsable code number body at (SendSuper sel argc) = IsSendOf code sel argc
IsUsable code number body at (InitSuper argc) =
    IsStartOf code body argc × (body.kind ≡ initialiser_kind) × ((pass_before body at).started ≡ false)
IsUsable code number body at (StoreSlot slot) = HasSlot code body slot × (body.kind ≡ initialiser_kind)
IsUsable code number body at Return = body.kind ≢ initialiser_kind
IsUsable code number body at ReturnSelf = (body.kind ≢ clause_kind) × (body.kind ≢ block_kind)
IsUsable code number body at ReturnHome = (body.kind ≡ block_kind) × (home_of code number body ≡ method_kind)
IsUsable code number body at _ = Unit {0}

-- A block stands in an earlier body of its class and side, which has an environment for it.
abbrev pub StandsInside : CodeProgram → ℕ → BodyCode → Type 0
StandsInside code number body =
    (parent : ℕ) × (holder : BodyCode) × (body.parent ≡ Some parent) × (parent < number) × (slice_get code.bodies parent ≡ Some holder)
    × (holder.class ≡ body.class) × (holder.side ≡ body.side) × (holder.environment ≡ true)

-- A body's class is there, its parameters are among its locals, and it stands in a body where it is a block.
pub record StandsRight (code : CodeProgram) (number : ℕ) (body : BodyCode) : Type 0 where
  pub class : body.class < length code.classes
  pub params : body.params ≤ body.locals
  pub height : body.height ≤ 1023
  pub block : body.kind ≡ block_kind → StandsInside code number body
  pub alone : body.kind ≢ block_kind → body.parent ≡ None
