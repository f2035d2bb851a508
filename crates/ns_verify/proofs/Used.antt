-- What sound code can rely on.
use Rattle.std.proofs.Common.{◌≡◌, ◌≢◌, ℕ, zero, suc, ◌≤◌, ◌<◌, List, [], ◌∷◌, length, slice_get, Option, Some, None, Bool, true, false, not, ◌&&◌, ◌==◌, nat_lt, refl, ap, ◌∙◌, arith, subst, if◌then◌else◌}
use Rattle.std.specs.Option.{option_map_or, option_and_then, is_some, is_none}
use Rattle.std.specs.List.{list_any}
use Rattle.std.specs.Str.{bytes_eq}
use Rattle.std.proofs.lemmas.Bool.Decides.{nat_tests}
use Rattle.ns_base.specs.declared.selector.Sel.{Sel}
use Rattle.ns_code.specs.declared.program.CodeProgram.{CodeProgram}
use Rattle.ns_code.specs.declared.class.ClassCode.{ClassCode}
use Rattle.ns_code.specs.declared.body.BodyCode.{BodyCode}
use Rattle.ns_code.specs.Selector.{selector_arity, selector_text}
use Rattle.ns_code.specs.Soundness.{block_kind, is_name, has_place, has_bodies, has_nested, has_params, are_different, instance_selectors, side_selectors, has_bad_scope}
use Rattle.ns_verify.specs.declared.fault.VerifyCause.TheVariants.{BadScope}
use Rattle.ns_verify.specs.Chains.{outer_of, declaration_at, around, body_around, body_at}
use Rattle.ns_verify.specs.Causes.{is_no_slot, is_no_local, lacks_local, is_no_level, is_no_private, lacks_private, private_side, is_block_in, holds_block, is_misplaced, has_bad_head, is_bad_send}
use Rattle.ns_verify_members.specs.Members.{private_selectors}
use Rattle.ns_verify.specs.Verify.{class_cause}
use Rattle.ns_verify.specs.Places.{HasNoCause}
use Rattle.ns_verify.specs.Uses.{HasLevel, HasLocal, HasBlock, IsSendOf, HasPrivate, HasSlot, StandsRight}
use Rattle.ns_verify.proofs.Order.{not_this, or_left, or_right}

pub below : (a b : ℕ) → not (nat_lt a b) ≡ false → a < b
below a b h = grind (arith, nat_tests)

pub at_most : (a b : ℕ) → nat_lt a b ≡ false → b ≤ a
at_most a b h = grind (arith, nat_tests)

pub equal : (a b : ℕ) → not (a == b) ≡ false → a ≡ b
equal a b h = grind (arith, nat_tests)

pub equal_told : (a b : ℕ) → (a == b) ≡ true → a ≡ b
equal_told a b h = grind (arith, nat_tests)

pub unequal : (a b : ℕ) → (a == b) ≡ false → a ≢ b
unequal a b h e = grind (arith, nat_tests)

pub not_false : (a : Bool) → not a ≡ false → a ≡ true
not_false true h = refl
not_false false h = absurd cc

pub and_left : (a b : Bool) → (a && b) ≡ true → a ≡ true
and_left true b h = refl
and_left false b h = absurd cc

pub and_right : (a b : Bool) → (a && b) ≡ true → b ≡ true
and_right true b h = h
and_right false b h = absurd cc

pub and_second : (a b : Bool) → (a && b) ≡ false → a ≡ true → b ≡ false
and_second true b h e = h
and_second false b h e = absurd cc

some_told : (T : Type 0) (o : Option T) → is_none o ≡ false → (x : T) × (o ≡ Some x)
some_told T None h = absurd cc
some_told T (Some x) h = (x, refl)

mapped_told : (T : Type 0) (p : T → Bool) (o : Option T) → option_map_or p o false ≡ true → (x : T) × (o ≡ Some x) × (p x ≡ true)
mapped_told T p None h = absurd cc
mapped_told T p (Some x) h = (x, refl, h)

pub there : (X : Type 0) (xs : List X) (i : ℕ) → i < length xs → (x : X) × (slice_get xs i ≡ Some x)
there X [] i h = absurd (omega arith)
there X (x ∷ xs) zero h = (x, refl)
there X (x ∷ xs) (suc i) h = there X xs i (omega arith)

-- of a body around another

pub around_below : (block : Bool) (parent : Option ℕ) (number out : ℕ) →
    (if block then option_and_then (λ parent. if nat_lt parent number then Some parent else None) parent else None) ≡ Some out →
    (block ≡ true) × (parent ≡ Some out) × (out < number)
around_below false parent number out h = absurd cc
around_below true None number out h = absurd cc
around_below true (Some parent) number out h = told (nat_lt parent number) refl h
  where
    told : (b : Bool) → nat_lt parent number ≡ b → (if b then Some parent else None) ≡ Some out → (true ≡ true) × (Some parent ≡ Some out) × (out < number)
    told true e h = let same : parent ≡ out = cc in (refl, h, subst (λ n. n < number) same (grind (arith, nat_tests)))
    told false e h = absurd cc

-- the body so many bodies out is one of the code's
body_there : (code : CodeProgram) (hops number out : ℕ) → number < length code.bodies → body_at code hops number ≡ Some out →
    out < length code.bodies
body_there code zero number out h e = let same : number ≡ out = cc in subst (λ n. n < length code.bodies) same h
body_there code (suc hops) number out h e = step (body_at code hops number) e (λ mid is_mid. body_there code hops number mid h is_mid) refl
  where
    inner : (mid : ℕ) (found : Option BodyCode) → slice_get code.bodies mid ≡ found → mid < length code.bodies → option_and_then (around mid) found ≡ Some out → out < length code.bodies
    inner mid None e low h = absurd cc
    inner mid (Some body) e low h = let told = around_below (body.kind == block_kind) body.parent mid out h in let first = told.2 in omega arith

    step : (o : Option ℕ) → option_and_then (body_around code) o ≡ Some out → ((mid : ℕ) → body_at code hops number ≡ Some mid → mid < length code.bodies) → body_at code hops number ≡ o → out < length code.bodies
    step None e low is = absurd cc
    step (Some mid) e low is = inner mid (slice_get code.bodies mid) refl (low mid is) e

-- the declaration at a level is one of the code's
place_told : (code : CodeProgram) (number : ℕ) (class : ClassCode) → class_cause code number class ≡ None → has_place number class ≡ true
place_told code number class h =
    let all = not_false ((has_place number class && has_bodies code number class) && ((has_nested code number class && has_params code class) && (are_different (instance_selectors code class) && are_different (side_selectors code class)))) (not_this (has_bad_scope code number class) BadScope _ h) in
    and_left (has_place number class) (has_bodies code number class) (and_left (has_place number class && has_bodies code number class) _ all)

outer_earlier : (number out : ℕ) (class : ClassCode) → has_place number class ≡ true → class.outer ≡ Some out → out < number
outer_earlier number out class h e =
    let told = and_left (if is_none class.outer then is_none class.clause else option_map_or (λ outer. nat_lt outer number) class.outer false) _ h in
    let low : nat_lt out number ≡ true = subst (λ o. (if is_none o then is_none class.clause else option_map_or (λ outer. nat_lt outer number) o false) ≡ true) e told in
    grind (arith, nat_tests)

declaration_there : (code : CodeProgram) (none : HasNoCause code) (level number out : ℕ) → number < length code.classes →
    declaration_at code level number ≡ Some out → out < length code.classes
declaration_there code none zero number out h e = let same : number ≡ out = cc in subst (λ n. n < length code.classes) same h
declaration_there code none (suc level) number out h e =
    step (declaration_at code level number) e (λ mid is_mid. declaration_there code none level number mid h is_mid) refl
  where
    inner : (mid : ℕ) (found : Option ClassCode) → slice_get code.classes mid ≡ found → mid < length code.classes → option_and_then (λ (class : ClassCode). class.outer) found ≡ Some out → out < length code.classes
    inner mid None e low h = absurd cc
    inner mid (Some class) e low h = let first = outer_earlier mid out class (place_told code mid class (none.classes mid class e)) h in omega arith

    step : (o : Option ℕ) → option_and_then (outer_of code) o ≡ Some out → ((mid : ℕ) → declaration_at code level number ≡ Some mid → mid < length code.classes) → declaration_at code level number ≡ o → out < length code.classes
    step None e low is = absurd cc
    step (Some mid) e low is = inner mid (slice_get code.classes mid) refl (low mid is) e

-- instruction by instruction

pub level_used : (code : CodeProgram) (none : HasNoCause code) (body : BodyCode) (level : ℕ) → body.class < length code.classes →
    is_no_level code body level ≡ false → HasLevel code body level
level_used code none body level class h =
    let test : nat_lt body.class (length code.classes) ≡ true = grind (arith, nat_tests) in
    let found = some_told ℕ (declaration_at code level body.class) (and_second (nat_lt body.class (length code.classes)) (is_none (declaration_at code level body.class)) h test) in
    (found.0, found.1, declaration_there code none level body.class found.0 class found.1)

pub local_used : (code : CodeProgram) (number hops index : ℕ) → number < length code.bodies → is_none (body_at code hops number) ≡ false →
    is_no_local code number hops index ≡ false → HasLocal code number hops index
local_used code number hops index low around_there local =
    let out = some_told ℕ (body_at code hops number) around_there in
    let lacks : lacks_local code index out.0 ≡ false = subst (λ o. option_map_or (lacks_local code index) o false ≡ false) out.1 local in
    let holder = there BodyCode code.bodies out.0 (body_there code hops number out.0 low out.1) in
    (out.0, holder.0, out.1, holder.1, below index holder.0.locals (subst (λ o. option_map_or (λ (body : BodyCode). not (nat_lt index body.locals)) o false ≡ false) holder.1 lacks))

pub block_used : (code : CodeProgram) (number block : ℕ) → not (is_block_in code number block) ≡ false → HasBlock code number block
block_used code number block h =
    let inner = mapped_told BodyCode (λ (inner : BodyCode). inner.kind == block_kind && option_map_or (λ parent. parent == number) inner.parent false) (slice_get code.bodies block) (not_false (is_block_in code number block) h) in
    let parent = mapped_told ℕ (λ parent. parent == number) inner.0.parent (and_right (inner.0.kind == block_kind) _ inner.2) in
    (inner.0, inner.1, equal_told inner.0.kind block_kind (and_left (inner.0.kind == block_kind) _ inner.2), parent.1 ∙ ap Some (equal_told parent.0 number parent.2))

pub send_used : (code : CodeProgram) (sel : Sel) (argc : ℕ) → is_bad_send code sel argc ≡ false → IsSendOf code sel argc
send_used code sel argc h =
    (below sel.0 (length code.names) (or_left (not (is_name code sel)) _ h), equal argc (selector_arity code sel.0) (or_right (not (is_name code sel)) _ h))

pub private_used : (code : CodeProgram) (none : HasNoCause code) (body : BodyCode) (level : ℕ) (sel : Sel) →
    body.class < length code.classes → sel.0 < length code.names →
    is_no_level code body level ≡ false → is_no_private code body level sel ≡ false → HasPrivate code body level sel
private_used code none body level sel class named level_there h =
    let found = level_used code none body level class level_there in
    let test : is_name code sel ≡ true = grind (arith, nat_tests) in
    let lacks : lacks_private code (private_side body level) sel found.0 ≡ false =
    subst (λ o. option_map_or (lacks_private code (private_side body level) sel) o false ≡ false) found.1 (and_second (is_name code sel) _ h test) in
    let declared = there ClassCode code.classes found.0 found.2 in (
      found.0,
      declared.0,
      found.1,
      declared.1,
      not_false (list_any (bytes_eq (selector_text code sel.0)) (private_selectors code (private_side body level) declared.0))
          (subst (λ o. option_map_or (λ (one : ClassCode). not (list_any (bytes_eq (selector_text code sel.0)) (private_selectors code (private_side body level) one))) o false ≡ false) declared.1 lacks),
    )

pub slot_used : (code : CodeProgram) (body : BodyCode) (slot : ℕ) → body.class < length code.classes →
    is_no_slot code body.class slot ≡ false → HasSlot code body slot
slot_used code body slot class h =
    let declared = there ClassCode code.classes body.class class in
    (declared.0, declared.1, below slot (length declared.0.slots) (subst (λ o. option_map_or (λ (one : ClassCode). not (nat_lt slot (length one.slots))) o false ≡ false) declared.1 h))

-- what a head without a cause says
pub head_right : (code : CodeProgram) (number : ℕ) (body : BodyCode) → has_bad_head code number body ≡ false → StandsRight code number body
head_right code number body h =
    let rest = or_right (not (nat_lt body.class (length code.classes))) _ h in
    let counts = or_right (is_misplaced code number body) _ rest in
    let placed = or_left (is_misplaced code number body) _ rest in
    record {
      class = below body.class (length code.classes) (or_left (not (nat_lt body.class (length code.classes))) _ h);
      params = at_most body.locals body.params (or_left (nat_lt body.locals body.params) _ counts);
      height = at_most 1023 body.height (or_right (nat_lt body.locals body.params) _ counts);
      block = λ is_block.
          let test : (body.kind == block_kind) ≡ true = grind (arith, nat_tests) in
          let held : not (option_map_or (holds_block code body) (around number body) false) ≡ false =
          subst (λ b. (if b then not (option_map_or (holds_block code body) (around number body) false) else is_some body.parent) ≡ false) test placed in
          let parent = mapped_told ℕ (holds_block code body) (around number body) (not_false (option_map_or (holds_block code body) (around number body) false) held) in
          let low = around_below (body.kind == block_kind) body.parent number parent.0 parent.1 in
          let holder = mapped_told BodyCode (λ (parent : BodyCode). parent.class == body.class && parent.side == body.side && parent.environment) (slice_get code.bodies parent.0) parent.2 in
          let same = and_left (holder.0.class == body.class && holder.0.side == body.side) holder.0.environment holder.2 in
          (parent.0, holder.0, low.1, low.2, holder.1, equal_told holder.0.class body.class (and_left (holder.0.class == body.class) _ same), equal_told holder.0.side body.side (and_right (holder.0.class == body.class) _ same), and_right (holder.0.class == body.class && holder.0.side == body.side) _ holder.2);
      alone = λ not_block.
          let test : (body.kind == block_kind) ≡ false = grind (arith, nat_tests) in
          let none : is_some body.parent ≡ false = subst (λ b. (if b then not (option_map_or (holds_block code body) (around number body) false) else is_some body.parent) ≡ false) test placed in
          nothing body.parent none;
    }
  where
    nothing : (o : Option ℕ) → is_some o ≡ false → o ≡ None
    nothing None h = refl
    nothing (Some x) h = absurd cc
