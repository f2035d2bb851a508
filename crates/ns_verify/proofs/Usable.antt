-- What each instruction of sound code can rely on.
use Rattle.std.proofs.Common.{◌≡◌, ℕ, ◌<◌, length, slice_get, Some, false, not, ◌&&◌, ◌==◌, subst}
use Rattle.std.specs.Option.{option_map_or}
use Rattle.std.proofs.lemmas.Option.{slice_get_within}
use Rattle.ns_code.specs.declared.program.CodeProgram.{CodeProgram}
use Rattle.ns_code.specs.declared.class.ClassCode.{ClassCode}
use Rattle.ns_code.specs.declared.body.BodyCode.{BodyCode}
use Rattle.ns_code.specs.declared.instruction.Instr.{Instr}
use Rattle.ns_code.specs.declared.instruction.Instr.TheVariants.{PushNil, PushTrue, PushFalse, PushInt, PushSym, PushText, PushSelf, PushOuter, PushLocal, StoreLocal, PushBlock, MakeArray, Pop, Pick, Send, SendInner, SendPrivate, SendSuper, InitSuper, StoreSlot, Return, ReturnSelf, ReturnHome, Jump, JumpFalse, JumpTrue}
use Rattle.ns_code.specs.Selector.{selector_arity}
use Rattle.ns_code.specs.Soundness.{block_kind, initialiser_kind, method_kind, clause_kind, is_name, is_identifier_name, has_bad_scope, has_bad_literal}
use Rattle.ns_verify.specs.declared.fault.VerifyCause.TheVariants.{BadScope, BadLiteral}
use Rattle.ns_verify.specs.Causes.{has_bad_slot, has_bad_use, has_bad_name, has_bad_head, is_bad_start, is_no_level}
use Rattle.ns_verify.specs.Verify.{IsSound}
use Rattle.ns_verify.specs.Places.{HasNoCause, pass_before, home_of}
use Rattle.ns_verify.specs.Uses.{IsUsable, IsStartOf, StandsRight}
use Rattle.ns_verify.proofs.Order.{none_holds, not_this, nor_others, or_left, or_right, sound_head}
use Rattle.ns_verify.proofs.Places.{no_cause}
use Rattle.ns_verify.proofs.Used.{below, equal, equal_told, unequal, not_false, and_left, and_right, and_second, there, level_used, local_used, block_used, send_used, private_used, slot_used, head_right}

start_used : (code : CodeProgram) (none : HasNoCause code) (body : BodyCode) (argc : ℕ) → body.class < length code.classes →
    is_bad_start code body.class argc ≡ false → IsStartOf code body argc
start_used code none body argc class h =
    let declared = there ClassCode code.classes body.class class in
    let literal = not_this (has_bad_literal code declared.0) BadLiteral _ (nor_others (has_bad_scope code body.class declared.0) BadScope _ (none.classes body.class declared.0 declared.1)) in
    let named = or_left (not (is_name code declared.0.super_sel)) _ (or_right (not (is_name code declared.0.factory)) _ (or_right (not (is_identifier_name code declared.0.name)) _ literal)) in
    let told : (is_name code declared.0.super_sel && not (argc == selector_arity code declared.0.super_sel.0)) ≡ false =
    subst (λ o. option_map_or (λ (one : ClassCode). is_name code one.super_sel && not (argc == selector_arity code one.super_sel.0)) o false ≡ false) declared.1 h in (
      declared.0,
      declared.1,
      below declared.0.super_sel.0 (length code.names) named,
      equal argc (selector_arity code declared.0.super_sel.0) (and_second (is_name code declared.0.super_sel) _ told (not_false (is_name code declared.0.super_sel) named)),
    )

uses : (code : CodeProgram) (none : HasNoCause code) (number at : ℕ) (body : BodyCode) → StandsRight code number body →
    number < length code.bodies →
    (instr : Instr) → has_bad_slot code number body instr ≡ false → has_bad_use code number body (home_of code number body) (pass_before body at).started instr ≡ false → has_bad_name code body instr ≡ false →
    IsUsable code number body at instr
uses code none number at body right low (PushSym sel) slot scope name = below sel.0 (length code.names) name
uses code none number at body right low (PushText text) slot scope name = below text (length code.texts) name
uses code none number at body right low (PushOuter level) slot scope name = level_used code none body level right.class scope
uses code none number at body right low (PushLocal hops index) slot scope name = local_used code number hops index low scope slot
uses code none number at body right low (StoreLocal hops index) slot scope name = local_used code number hops index low scope slot
uses code none number at body right low (PushBlock block) slot scope name = block_used code number block scope
uses code none number at body right low (Send sel argc) slot scope name = send_used code sel argc name
uses code none number at body right low (SendInner sel argc) slot scope name = send_used code sel argc name
uses code none number at body right low (SendPrivate level sel argc) slot scope name =
    let sent = send_used code sel argc name in
    (sent, private_used code none body level sel right.class sent.0 (or_left (is_no_level code body level) _ scope) (or_right (is_no_level code body level) _ scope))
uses code none number at body right low (SendSuper sel argc) slot scope name = send_used code sel argc name
uses code none number at body right low (InitSuper argc) slot scope name =
    (start_used code none body argc right.class name, equal body.kind initialiser_kind (or_left (not (body.kind == initialiser_kind)) _ scope), or_right (not (body.kind == initialiser_kind)) _ scope)
uses code none number at body right low (StoreSlot k) slot scope name =
    (slot_used code body k right.class slot, equal body.kind initialiser_kind scope)
uses code none number at body right low Return slot scope name = unequal body.kind initialiser_kind scope
uses code none number at body right low ReturnSelf slot scope name =
    (unequal body.kind clause_kind (or_left (body.kind == clause_kind) _ scope), unequal body.kind block_kind (or_right (body.kind == clause_kind) _ scope))
uses code none number at body right low ReturnHome slot scope name =
    let both = not_false (body.kind == block_kind && home_of code number body == method_kind) scope in
    (equal_told body.kind block_kind (and_left (body.kind == block_kind) _ both), equal_told (home_of code number body) method_kind (and_right (body.kind == block_kind) _ both))
uses code none number at body right low PushNil slot scope name = tt
uses code none number at body right low PushTrue slot scope name = tt
uses code none number at body right low PushFalse slot scope name = tt
uses code none number at body right low (PushInt int) slot scope name = tt
uses code none number at body right low PushSelf slot scope name = tt
uses code none number at body right low (MakeArray count) slot scope name = tt
uses code none number at body right low Pop slot scope name = tt
uses code none number at body right low (Pick depth) slot scope name = tt
uses code none number at body right low (Jump to) slot scope name = tt
uses code none number at body right low (JumpFalse to) slot scope name = tt
uses code none number at body right low (JumpTrue to) slot scope name = tt

pub stands_right : (code : CodeProgram) (number : ℕ) (body : BodyCode) → IsSound code → slice_get code.bodies number ≡ Some body →
    StandsRight code number body
stands_right code number body sound found = head_right code number body (sound_head code number body (no_cause code sound) found)

pub usable : (code : CodeProgram) (number at : ℕ) (body : BodyCode) (instr : Instr) → IsSound code →
    slice_get code.bodies number ≡ Some body → slice_get body.instrs at ≡ Some instr → IsUsable code number body at instr
usable code number at body instr sound found here =
    let none = no_cause code sound in
    let holds = none_holds code number body (home_of code number body) (pass_before body at) at instr (none.instrs number at body instr found here) in
    let scope = or_right (at == 0 && has_bad_head code number body) _ holds.scope in
    uses code none number at body (stands_right code number body sound found) (slice_get_within code.bodies number body found) instr holds.slot scope holds.name
