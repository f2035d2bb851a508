-- What can be wrong at an instruction of a body, and with a body as a whole.
use Rattle.std.specs.Prelude.{ℕ, ◌+◌, length, Bool, false, Option, Some, None, slice_get, ◌==◌, ◌&&◌, ◌||◌, not, nat_lt, if◌then◌else◌}
use Rattle.std.specs.Option.{is_some, is_none, option_map_or}
use Rattle.std.specs.List.{list_any}
use Rattle.std.specs.Str.{bytes_eq}
use Rattle.ns_base.specs.declared.selector.Sel.{Sel}
use Rattle.ns_code.specs.declared.program.CodeProgram.{CodeProgram}
use Rattle.ns_code.specs.declared.class.ClassCode.{ClassCode}
use Rattle.ns_code.specs.declared.body.BodyCode.{BodyCode}
use Rattle.ns_code.specs.declared.instruction.Instr.{Instr}
use Rattle.ns_code.specs.declared.instruction.Instr.TheVariants.{PushSym, PushText, PushOuter, PushLocal, StoreLocal, PushBlock, Send, SendInner}
use Rattle.ns_code.specs.declared.instruction.Instr.TheVariants.{SendPrivate, SendSuper, InitSuper, StoreSlot, Return, ReturnSelf, ReturnHome}
use Rattle.ns_code.specs.Selector.{selector_arity, selector_text}
use Rattle.ns_code.specs.Soundness.{method_kind, block_kind, initialiser_kind, clause_kind, instance_side, is_name}
use Rattle.ns_verify.specs.declared.fault.VerifyCause.{VerifyCause}
use Rattle.ns_verify.specs.declared.fault.VerifyCause.TheVariants.{BadJump, BadHeight, BadSlot, BadScope, BadLiteral, NoReturn}
use Rattle.ns_code.specs.Table.{takes, target, goes_on, ends_wrongly}
use Rattle.ns_verify.specs.Heights.{Pass, height_at, falls_apart, jumps_apart}
use Rattle.ns_verify.specs.Chains.{declaration_at, around, body_at}
use Rattle.ns_verify_members.specs.Members.{private_selectors}

-- BadJump: the target isn't below the number of instructions.
abbrev pub has_bad_jump : BodyCode → Instr → Bool
has_bad_jump body instr = option_map_or (λ at. not (nat_lt at (length body.instrs))) (target instr) false

-- BadHeight: an operand is missing, the height is above the body's, a frame would end at a wrong
-- height, or an instruction is given two heights.
abbrev pub has_bad_height : BodyCode → Pass → ℕ → Instr → Bool
has_bad_height body pass number instr =
    nat_lt (height_at pass number) (takes instr)
    || (nat_lt body.height (height_at pass number)
    || (ends_wrongly instr (height_at pass number)
    || (falls_apart pass number || jumps_apart pass number instr)))

-- whether a slot isn't below the slots of a class
abbrev pub is_no_slot : CodeProgram → ℕ → ℕ → Bool
is_no_slot code class slot =
    option_map_or (λ (declared : ClassCode). not (nat_lt slot (length declared.slots))) (slice_get code.classes class) false

-- whether a local isn't below the locals of a body
abbrev pub lacks_local : CodeProgram → ℕ → ℕ → Bool
lacks_local code index number = option_map_or (λ (body : BodyCode). not (nat_lt index body.locals)) (slice_get code.bodies number) false

-- whether a local isn't below the locals of the body so many bodies out
abbrev pub is_no_local : CodeProgram → ℕ → ℕ → ℕ → Bool
is_no_local code number hops index = option_map_or (lacks_local code index) (body_at code hops number) false

-- BadSlot: a slot isn't below the slots of the body's class, or a local isn't one of its body.
abbrev pub has_bad_slot : CodeProgram → ℕ → BodyCode → Instr → Bool
has_bad_slot code number body (StoreSlot slot) = is_no_slot code body.class slot
has_bad_slot code number body (PushLocal hops index) = is_no_local code number hops index
has_bad_slot code number body (StoreLocal hops index) = is_no_local code number hops index
has_bad_slot code number body _ = false

-- whether a body's class is there, but no declaration at that level
abbrev pub is_no_level : CodeProgram → BodyCode → ℕ → Bool
is_no_level code body level = nat_lt body.class (length code.classes) && is_none (declaration_at code level body.class)

-- the side on which a private member is looked for: at level 0 the code's own, further out that of instances
abbrev pub private_side : BodyCode → ℕ → ℕ
private_side body level = if level == 0 then body.side else instance_side

-- whether a class has no private member of that selector on that side
abbrev pub lacks_private : CodeProgram → ℕ → Sel → ℕ → Bool
lacks_private code side sel class =
    option_map_or (λ (declared : ClassCode). not (list_any (bytes_eq (selector_text code sel.0)) (private_selectors code side declared)))
    (slice_get code.classes class) false

-- whether the declaration at that level has no private member of that selector, which is a name
abbrev pub is_no_private : CodeProgram → BodyCode → ℕ → Sel → Bool
is_no_private code body level sel =
    is_name code sel && option_map_or (lacks_private code (private_side body level) sel) (declaration_at code level body.class) false

-- whether a body is a block in that one
abbrev pub is_block_in : CodeProgram → ℕ → ℕ → Bool
is_block_in code number block =
    option_map_or (λ (inner : BodyCode). inner.kind == block_kind && option_map_or (λ parent. parent == number) inner.parent false)
    (slice_get code.bodies block) false

-- BadScope at an instruction: what it names isn't there, or it stands in a body where it can't be used.
abbrev pub has_bad_use : CodeProgram → ℕ → BodyCode → ℕ → Bool → Instr → Bool
has_bad_use code number body home started (PushOuter level) = is_no_level code body level
has_bad_use code number body home started (SendPrivate level sel argc) = is_no_level code body level || is_no_private code body level sel
has_bad_use code number body home started (PushLocal hops index) = is_none (body_at code hops number)
has_bad_use code number body home started (StoreLocal hops index) = is_none (body_at code hops number)
has_bad_use code number body home started (PushBlock block) = not (is_block_in code number block)
has_bad_use code number body home started (InitSuper argc) = not (body.kind == initialiser_kind) || started
has_bad_use code number body home started (StoreSlot slot) = not (body.kind == initialiser_kind)
has_bad_use code number body home started ReturnHome = not (body.kind == block_kind && home == method_kind)
has_bad_use code number body home started Return = body.kind == initialiser_kind
has_bad_use code number body home started ReturnSelf = body.kind == clause_kind || body.kind == block_kind
has_bad_use code number body home started _ = false

-- whether a body is of the class and side of a block, and has an environment for it
abbrev pub holds_block : CodeProgram → BodyCode → ℕ → Bool
holds_block code block number =
    option_map_or (λ (parent : BodyCode). parent.class == block.class && parent.side == block.side && parent.environment)
    (slice_get code.bodies number) false

-- whether a block stands in no earlier body, in one of another class or side, or in one without an
-- environment; or another body stands in one
abbrev pub is_misplaced : CodeProgram → ℕ → BodyCode → Bool
is_misplaced code number body =
    if body.kind == block_kind then not (option_map_or (holds_block code body) (around number body) false) else is_some body.parent

-- BadScope of a whole body: its class isn't there, it is misplaced, or its counts are too large.
abbrev pub has_bad_head : CodeProgram → ℕ → BodyCode → Bool
has_bad_head code number body =
    not (nat_lt body.class (length code.classes))
    || (is_misplaced code number body || (nat_lt body.locals body.params || nat_lt 1023 body.height))

-- BadScope at an instruction; what is wrong with the whole body is named at the first one
abbrev pub has_bad_scope_at : CodeProgram → ℕ → BodyCode → ℕ → Bool → ℕ → Instr → Bool
has_bad_scope_at code number body home started at instr =
    (at == 0 && has_bad_head code number body) || has_bad_use code number body home started instr

-- whether a selector isn't a name, or takes another number of arguments
abbrev pub is_bad_send : CodeProgram → Sel → ℕ → Bool
is_bad_send code sel argc = not (is_name code sel) || not (argc == selector_arity code sel.0)

-- whether that isn't the number of arguments of a class's superclass message
abbrev pub is_bad_start : CodeProgram → ℕ → ℕ → Bool
is_bad_start code class argc =
    option_map_or (λ (declared : ClassCode). is_name code declared.super_sel && not (argc == selector_arity code declared.super_sel.0))
    (slice_get code.classes class) false

-- BadLiteral: a name or text isn't there, or a message is sent with another number of arguments.
abbrev pub has_bad_name : CodeProgram → BodyCode → Instr → Bool
has_bad_name code body (PushSym sel) = not (is_name code sel)
has_bad_name code body (PushText text) = not (nat_lt text (length code.texts))
has_bad_name code body (Send sel argc) = is_bad_send code sel argc
has_bad_name code body (SendInner sel argc) = is_bad_send code sel argc
has_bad_name code body (SendPrivate level sel argc) = is_bad_send code sel argc
has_bad_name code body (SendSuper sel argc) = is_bad_send code sel argc
has_bad_name code body (InitSuper argc) = is_bad_start code body.class argc
has_bad_name code body _ = false

-- NoReturn: it is the last instruction, and may go on.
abbrev pub runs_on : BodyCode → ℕ → Instr → Bool
runs_on body at instr = at + 1 == length body.instrs && goes_on instr

-- the first cause that holds at an instruction, in the order of their numbers
abbrev pub cause_at : CodeProgram → ℕ → BodyCode → ℕ → Pass → ℕ → Instr → Option VerifyCause
cause_at code number body home pass at instr =
    if has_bad_jump body instr then Some BadJump
    else (if has_bad_height body pass at instr then Some BadHeight
    else (if has_bad_slot code number body instr then Some BadSlot
    else (if has_bad_scope_at code number body home pass.started at instr then Some BadScope
    else (if has_bad_name code body instr then Some BadLiteral
    else (if runs_on body at instr then Some NoReturn
    else None)))))

-- the first cause that holds of a body without instructions
abbrev pub empty_cause : CodeProgram → ℕ → BodyCode → VerifyCause
empty_cause code number body = if has_bad_head code number body then BadScope else NoReturn
