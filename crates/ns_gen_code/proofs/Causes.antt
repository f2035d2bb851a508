-- Where what an instruction of generated code uses is there, none of the verifier's causes about it holds.
use Rattle.std.proofs.Common.{◌≡◌, ◌<◌, ℕ, zero, suc, List, length, refl, sym, ap, ◌∙◌, subst, arith}
use Rattle.std.specs.Prelude.{Bool, true, false, ◌&&◌, ◌||◌, not, Some, None, slice_get, nat_lt, ◌==◌, is_none, if◌then◌else◌}
use Rattle.std.specs.Option.{option_map_or}
use Rattle.std.specs.List.{list_any}
use Rattle.std.specs.Str.{bytes_eq}
use Rattle.std.proofs.lemmas.Option.{same_Some, option_and_then_some}
use Rattle.std.proofs.lemmas.List.{length-map}
use Rattle.ns_scope.specs.declared.scope.CodeSide.{CodeSide}
use Rattle.ns_scope.specs.declared.scope.CodeSide.TheVariants as side
use Rattle.ns_code.specs.declared.program.CodeProgram.{CodeProgram}
use Rattle.ns_base.specs.Names.{has}
use Rattle.ns_code.specs.declared.class.ClassCode.{ClassCode}
use Rattle.ns_code.specs.declared.body.BodyCode.{BodyCode}
use Rattle.ns_code.specs.Selector.{selector_arity, selector_text, text_arity}
use Rattle.ns_code.specs.Soundness.{is_name, block_kind, method_kind, instance_side}
use Rattle.ns_verify_members.specs.Members.{private_selectors}
use Rattle.ns_verify.specs.Chains as v
use Rattle.ns_verify.specs.Causes as w
use Rattle.ns_verify.specs.Places.{home_of}
use Rattle.ns_resolved.specs.Program as m
use Rattle.ns_resolved.specs.Tables.{class_code, slot_code, names_of, kind_of, sel_of, side_number}
use Rattle.ns_resolved.specs.There as t
use Rattle.ns_gen_code.specs.Code.{code_of}
use Rattle.ns_gen_code.proofs.Around.{coded, class_there, body_there, declaration_around, bodies_around, parent_around}
use Rattle.ns_gen_code.proofs.Named.{is_named, selector_named, arity_named, class_named}
use Rattle.ns_gen_code.proofs.Privates.{privates_same}

less : (a b : ℕ) → a < b → nat_lt a b ≡ true
less a b h = grind (arith, h)

same : (n : ℕ) → (n == n) ≡ true
same n = grind (arith)

-- ---- locals

pub no_local : (meant : m.Meant) → t.AreRightBodies meant → (number hops index : ℕ) → t.HasLocal meant number hops index →
    (w.is_no_local (code_of meant) number hops index ≡ false) × (is_none (v.body_at (code_of meant) hops number) ≡ false)
no_local meant right number hops index (out, holder, at, there, below) =
    let found = bodies_around meant right hops number ∙ at in (
      ap (λ o. option_map_or (w.lacks_local (code_of meant) index) o false) found
          ∙ ap (λ o. option_map_or (λ (body : BodyCode). not (nat_lt index body.locals)) o false) (body_there meant out holder there)
          ∙ ap not (less index (length holder.locals) below),
      ap is_none found,
    )

-- ---- levels

pub level_there : (meant : m.Meant) (level number class : ℕ) → t.declaration_out meant level number ≡ Some class →
    is_none (v.declaration_at (code_of meant) level number) ≡ false
level_there meant level number class e = ap is_none (declaration_around meant level number ∙ e)

pub no_level : (meant : m.Meant) (body : BodyCode) (level class : ℕ) → t.declaration_out meant level body.class ≡ Some class →
    w.is_no_level (code_of meant) body level ≡ false
no_level meant body level class e =
    and_false (nat_lt body.class (length (code_of meant).classes)) _ (level_there meant level body.class class e) where
      and_false : (a b : Bool) → b ≡ false → (a && b) ≡ false
      and_false true b h = h
      and_false false b h = refl

-- ---- blocks

both_true : (a b : Bool) → a ≡ true → b ≡ true → (a && b) ≡ true
both_true a b e f = ap (λ x. x && b) e ∙ f

pub block_there : (meant : m.Meant) (number block : ℕ) → t.IsBlockIn meant number block → w.is_block_in (code_of meant) number block ≡ true
block_there meant number block (inner, values, steps, there, kind, parent) =
    ap (λ o. option_map_or (λ (inner : BodyCode). inner.kind == block_kind && option_map_or (λ parent. parent == number) inner.parent false) o false)
    (body_there meant block inner there)
    ∙ both_true (kind_of inner.does == block_kind) (option_map_or (λ parent. parent == number) inner.parent false)
    (ap (λ does. kind_of does == block_kind) kind)
    (ap (λ o. option_map_or (λ parent. parent == number) o false) parent ∙ same number)

-- ---- messages

pub good_send : (meant : m.Meant) (selector : List ℕ) (count : ℕ) → has (names_of meant) selector ≡ true → count ≡ text_arity selector →
    w.is_bad_send (code_of meant) (sel_of (names_of meant) selector) count ≡ false
good_send meant selector count h e =
    let sel = sel_of (names_of meant) selector in
    ap (λ b. not b || not (count == selector_arity (code_of meant) sel.0)) (is_named meant selector h)
    ∙ ap (λ n. not (count == n)) (arity_named meant selector h ∙ sym e) ∙ ap not (same count)

pub good_start : (meant : m.Meant) (body : m.Body) (count : ℕ) → t.IsStartOf meant body count →
    w.is_bad_start (code_of meant) body.class count ≡ false
good_start meant body count (class, there, e) =
    let sel = sel_of (names_of meant) class.super_selector in
    let h = (class_named meant body.class class there).1.1.0 in
    ap (λ o. option_map_or (λ (declared : ClassCode). is_name (code_of meant) declared.super_sel
    && not (count == selector_arity (code_of meant) declared.super_sel.0)) o false) (class_there meant body.class class there)
    ∙ ap (λ b. b && not (count == selector_arity (code_of meant) sel.0)) (is_named meant class.super_selector h)
    ∙ ap (λ n. not (count == n)) (arity_named meant class.super_selector h ∙ sym e) ∙ ap not (same count)

-- ---- slots

pub slot_there : (meant : m.Meant) (body : m.Body) (slot : ℕ) → t.HasSlot meant body slot →
    w.is_no_slot (code_of meant) body.class slot ≡ false
slot_there meant body slot (class, there, below) =
    ap (λ o. option_map_or (λ (declared : ClassCode). not (nat_lt slot (length declared.slots))) o false) (class_there meant body.class class there)
    ∙ ap (λ n. not (nat_lt slot n)) (length-map class.slots (slot_code (names_of meant))) ∙ ap not (less slot (length class.slots) below)

-- ---- private members

side_same : (level : Bool) (own : CodeSide) →
    (if level then side_number own else instance_side) ≡ side_number (if level then own else side.Instance)
side_same true own = refl
side_same false own = refl

pub private_there : (meant : m.Meant) (number : ℕ) (body : m.Body) (level : ℕ) (selector : List ℕ) → has (names_of meant) selector ≡ true →
    t.HasPrivate meant body level selector →
    w.is_no_private (code_of meant) (coded meant number body) level (sel_of (names_of meant) selector) ≡ false
private_there meant number body level selector h (class, declared, at, there, found) =
    let code = code_of meant in
    let sel = sel_of (names_of meant) selector in
    let looked = w.private_side (coded meant number body) level in
    ap (λ b. b && option_map_or (w.lacks_private code looked sel) (v.declaration_at code level body.class) false) (is_named meant selector h)
    ∙ ap (λ o. option_map_or (w.lacks_private code looked sel) o false) (declaration_around meant level body.class ∙ at)
    ∙ ap (λ o. option_map_or (λ (declared : ClassCode). not (list_any (bytes_eq (selector_text code sel.0)) (private_selectors code looked declared))) o false)
    (class_there meant class declared there)
    ∙ ap (λ text. not (list_any (bytes_eq text) (private_selectors code looked (class_code (names_of meant) declared)))) (selector_named meant selector h)
    ∙ ap (λ s. not (list_any (bytes_eq selector) (private_selectors code s (class_code (names_of meant) declared)))) (side_same (level == 0) body.side)
    ∙ ap (λ texts. not (list_any (bytes_eq selector) texts)) (privates_same meant declared (t.private_side body level) (class_named meant class declared there))
    ∙ ap not found

-- ---- returns from the home

-- what the laws of the verifier say of homes
pub record HomesAre (code : CodeProgram) : Type 0 where
  pub inside : (number parent : ℕ) (body holder : BodyCode) → slice_get code.bodies number ≡ Some body → v.around number body ≡ Some parent →
      slice_get code.bodies parent ≡ Some holder → home_of code number body ≡ home_of code parent holder
  pub outermost : (number : ℕ) (body : BodyCode) → slice_get code.bodies number ≡ Some body → v.around number body ≡ None → home_of code number body ≡ body.kind

home_out : (meant : m.Meant) → t.AreRightBodies meant → HomesAre (code_of meant) → (number hops out : ℕ) (body holder : m.Body) →
    slice_get meant.bodies number ≡ Some body → t.body_out meant hops number ≡ Some out → slice_get meant.bodies out ≡ Some holder →
    home_of (code_of meant) number (coded meant number body) ≡ home_of (code_of meant) out (coded meant out holder)
home_out meant right homes number zero out body holder here at there =
    let same_number = same_Some number out at in
    let same_body : Some body ≡ Some holder = sym here ∙ ap (slice_get meant.bodies) same_number ∙ there in
    ap (λ b. home_of (code_of meant) number (coded meant number b)) (same_Some body holder same_body)
    ∙ ap (λ n. home_of (code_of meant) n (coded meant n holder)) same_number
home_out meant right homes number (suc hops) out body holder here at there =
    option_and_then_some (t.parent_of meant) (t.body_out meant hops number) out at
    (λ between e f. option_and_then_some (λ (b : m.Body). b.parent) (slice_get meant.bodies between) out f
    (λ inner g parent. home_out meant right homes number hops between body inner here e g
    ∙ homes.inside between out (coded meant between inner) (coded meant out holder) (body_there meant between inner g)
    (parent_around meant between inner (right between inner g).placed.stands ∙ parent) (body_there meant out holder there)))

pub home_is_method : (meant : m.Meant) → t.AreRightBodies meant → HomesAre (code_of meant) → (number : ℕ) (body : m.Body) →
    slice_get meant.bodies number ≡ Some body → t.StandsInMethod meant number →
    home_of (code_of meant) number (coded meant number body) ≡ method_kind
home_is_method meant right homes number body here (hops, out, home, values, steps, at, there, kind) =
    let stands = (right out home there).placed.stands in
    let alone : home.parent ≡ None = subst (λ does. t.StandsAs meant out home does) kind stands in
    home_out meant right homes number hops out body home here at there
    ∙ homes.outermost out (coded meant out home) (body_there meant out home there) (parent_around meant out home stands ∙ alone)
    ∙ ap kind_of kind
