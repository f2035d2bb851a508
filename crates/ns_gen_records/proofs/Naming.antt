-- The names of a class's record, put in turn.
use Rattle.std.proofs.Common.{◌≡◌, ◌∙◌, ℕ, List, ◌++◌, ap, sym}
use Rattle.std.specs.Prelude.{map}
use Rattle.ns_resolved.specs.Program as m
use Rattle.ns_resolved.specs.Tables.{class_names}
use Rattle.ns_gen_draft.specs.Drafts.{Written, with_name}
use Rattle.ns_gen_draft.specs.laws.Writing.{put_more}
use Rattle.ns_gen_records.specs.Naming.{with_names}

pub names_more : (names more : List (List ℕ)) (before : Written) →
    with_names (names ++ more) before ≡ with_names more (with_names names before)
names_more names more before =
    ap (λ (n : List (List ℕ)). (let w : Written = record before { names = n } in w)) (put_more names more before.names)

pub class_put : (class : m.Declaration) (w0 w1 w2 w3 w4 w5 w6 : Written) → w1 ≡ with_name w0 class.name → w2 ≡ with_name w1 class.factory →
    w3 ≡ with_name w2 class.super_selector → w4 ≡ with_names (map (λ slot. slot.name) class.slots) w3 →
    w5 ≡ with_names (map (λ method. method.selector) class.methods) w4 → w6 ≡ with_names (map (λ method. method.selector) class.side_methods) w5 →
    w6 ≡ with_names (class_names class) w0
class_put class w0 w1 w2 w3 w4 w5 w6 e1 e2 e3 e4 e5 e6 =
    let slots = map (λ slot. slot.name) class.slots in
    let methods = map (λ method. method.selector) class.methods in
    let side_methods = map (λ method. method.selector) class.side_methods in
    let three : w3 ≡ with_name (with_name (with_name w0 class.name) class.factory) class.super_selector =
    e3 ∙ ap (λ w. with_name w class.super_selector) (e2 ∙ ap (λ w. with_name w class.factory) e1) in
    e6 ∙ ap (with_names side_methods) (e5 ∙ ap (with_names methods) e4)
    ∙ sym (names_more methods side_methods (with_names slots w3))
    ∙ sym (names_more slots (methods ++ side_methods) w3)
    ∙ ap (with_names (slots ++ (methods ++ side_methods))) three
