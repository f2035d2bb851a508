-- A slot's setter is the selector before whose colon the slot's name stands.
use Rattle.std.proofs.Common.{◌≡◌, ℕ, ◌+◌, ◌-◌, ◌<◌, ◌≤◌, List, [], ◌∷◌, ◌++◌, length, take, take_all, get_or, refl, ap, sym, ◌∙◌, arith, Some, None, Bool, true, false, cond, not, nat_eq, slice_get}
use Rattle.std.specs.Prelude.{position}
use Rattle.std.specs.Cmp.{both_ways}
use Rattle.std.specs.Str.{bytes_eq}
use Rattle.std.proofs.lemmas.Bool.{eq-eqb, eqb-true}
use Rattle.std.proofs.lemmas.List.{take_more}
use Rattle.std.proofs.lemmas.List.Folds.{list_any_at}
use Rattle.std.proofs.lemmas.List.Quantifiers.{position-Some}
use Rattle.std.proofs.lemmas.Slice.Eq.{bytes_eq-Decides}
use Rattle.ns_base.specs.declared.selector.Sel.{Sel}
use Rattle.ns_code.specs.declared.program.CodeProgram.{CodeProgram}
use Rattle.ns_code.specs.declared.class.SlotCode.{SlotCode}
use Rattle.ns_code.specs.declared.class.ClassCode.{ClassCode}
use Rattle.ns_code.specs.Fits.{Fits}
use Rattle.ns_code.specs.Fronts.{front_in}
use Rattle.ns_code.specs.Selector.{selector_text}
use Rattle.ns_code.specs.Soundness.{is_identifier_name, has_sound_classes}
use Rattle.ns_find.specs.Members.{SetterOf, is_named}
use Rattle.ns_find.specs.Setters.{AreNamed}
use Rattle.ns_find.specs.laws.SoundBodies.{slots_named}
use Rattle.ns_find.proofs.Declaring.{name_there, text_there}
use Rattle.ns_find.proofs.Fronts.{front_told}

-- the text in two parts
parted : (text : List ℕ) → 1 ≤ length text → text ≡ take (length text - 1) text ++ get_or text (length text - 1) 0 ∷ []
parted text h =
    let whole : length text ≡ length text - 1 + 1 = omega arith in
    sym (take_all (length text) text (omega arith)) ∙ (ap (λ n. take n text) whole ∙ take_more text (length text - 1) 0 (omega arith))

-- where a name stands before the colon at the end of a text, the text is that name with a colon behind it
text_of_front : (names : List (List ℕ)) (text : List ℕ) (place : ℕ) → front_in names text ≡ Some place → text ≡ get_or names place [] ++ 58 ∷ []
text_of_front names text place is = by (nat_eq (get_or text (length text - 1) 0) 58) refl is
  where
    by : (b : Bool) → nat_eq (get_or text (length text - 1) 0) 58 ≡ b → cond b (position (bytes_eq (take (length text - 1) text)) names) None ≡ Some place
        → text ≡ get_or names place [] ++ 58 ∷ []
    by false colon is = absurd (cc)
    by true colon is =
        let found = position-Some (bytes_eq (take (length text - 1) text)) names place [] is in
        let last : get_or text (length text - 1) 0 ≡ 58 = eqb-true (get_or text (length text - 1) 0) 58 colon in
        parted text (some text last) ∙ (ap (λ b. take (length text - 1) text ++ b ∷ []) last
        ∙ ap (λ n. n ++ 58 ∷ []) ((bytes_eq-Decides (take (length text - 1) text) (get_or names place [])).0 found.1))
      where
        some : (text : List ℕ) → get_or text (length text - 1) 0 ≡ 58 → 1 ≤ length text
        some [] e = absurd (omega (arith, e))
        some (_ ∷ _) e = omega arith

-- the front of a slot's setter
front_of_setter : (code : CodeProgram) (sel : ℕ) (name : Sel) → Fits code → is_identifier_name code name ≡ true
    → is_named code sel (SetterOf name.0) ≡ true → front_in code.names (selector_text code sel) ≡ Some name.0
front_of_setter code sel name fits named is =
    let there : name.0 < length code.names = name_there code name named in
    front_told code.names (selector_text code sel) name.0 fits.names_differ there
    (ap (λ t. bytes_eq (selector_text code sel) (t ++ 58 ∷ [])) (sym (text_there code name.0 there)) ∙ is)

pub front_is : (code : CodeProgram) (sel number : ℕ) (name : Sel) → Fits code → is_identifier_name code name ≡ true
    → Some number ≡ front_in code.names (selector_text code sel) → nat_eq number name.0 ≡ is_named code sel (SetterOf name.0)
front_is code sel number name fits named front =
    both_ways (nat_eq number name.0) (is_named code sel (SetterOf name.0))
    (λ t.
    let same : number ≡ name.0 = eqb-true number name.0 t in
    let text : selector_text code sel ≡ selector_text code name.0 ++ 58 ∷ [] =
    text_of_front code.names (selector_text code sel) number (sym front)
    ∙ ap (λ n. n ++ 58 ∷ []) (ap (λ k. get_or code.names k []) same ∙ sym (text_there code name.0 (name_there code name named))) in
    (bytes_eq-Decides (selector_text code sel) (selector_text code name.0 ++ 58 ∷ [])).1 text)
    (λ t.
    let same : Some number ≡ Some name.0 = front ∙ front_of_setter code sel name fits named t in
    eq-eqb number name.0 (let e = same in cc))

pub no_front : (code : CodeProgram) (sel : ℕ) (name : Sel) → Fits code → is_identifier_name code name ≡ true
    → None ≡ front_in code.names (selector_text code sel) → false ≡ is_named code sel (SetterOf name.0)
no_front code sel name fits named front = by (is_named code sel (SetterOf name.0)) refl
  where
    by : (b : Bool) → is_named code sel (SetterOf name.0) ≡ b → false ≡ is_named code sel (SetterOf name.0)
    by false is = sym is
    by true is = absurd (let e = front ∙ front_of_setter code sel name fits named is in cc)

-- a class that is sound names its slots
pub all_named : (code : CodeProgram) (number : ℕ) (class : ClassCode) → has_sound_classes code ≡ true → slice_get code.classes number ≡ Some class
    → AreNamed code class.slots
all_named code number class sound there k d lt = by (is_identifier_name code (get_or class.slots k d).name) refl
  where
    by : (b : Bool) → is_identifier_name code (get_or class.slots k d).name ≡ b → b ≡ true
    by true is = refl
    by false is =
        let none = slots_named code number class sound there in
        absurd (let e = sym none ∙ list_any_at (λ (slot : SlotCode). not (is_identifier_name code slot.name)) class.slots k d lt (ap not is) in cc)
