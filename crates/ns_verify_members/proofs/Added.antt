-- How lists of numbers, tables of names and lists of private members grow.
use Rattle.std.proofs.Common.{◌≡◌, ◌≢◌, ℕ, suc, ◌+◌, ◌<◌, List, [], ◌∷◌, ◌++◌, sym, ap, ◌∙◌, append_assoc, length, get_or, take, drop, drop-cons, add-one, true, false, if◌then◌else◌}
use Rattle.std.specs.List.{AllZip, AllPairs}
use Rattle.std.proofs.lemmas.List.{take_more}
use Rattle.ns_base.specs.Names.{has}
use Rattle.ns_code.specs.declared.class.SlotCode.{SlotCode}
use Rattle.ns_verify_members.specs.Numbers.{setter_number, named_numbers, slot_numbers, all_slot_numbers}
use Rattle.ns_verify_members.proofs.Colons.{new_behind}

-- one more of each of two lists
zip_more : {A B : Type 0} (R : A → B → Type 0) (xs : List A) (ys : List B) (x : A) (y : B) → AllZip R xs ys → R x y →
    AllZip R (xs ++ x ∷ []) (ys ++ y ∷ [])
zip_more R [] [] x y all one = (one, tt)
zip_more R [] (z ∷ ys) x y all one = absurd all
zip_more R (z ∷ xs) [] x y all one = absurd all
zip_more R (z ∷ xs) (w ∷ ys) x y all one = (all.0, zip_more R xs ys x y all.1 one)

pub zip_step : {A B : Type 0} (R : A → B → Type 0) (xs : List A) (ys new : List B) (i : ℕ) (x : A) (y : B) → i < length xs →
    x ≡ get_or xs i x →
    AllZip R (take i xs) ys → R x y → new ≡ ys ++ y ∷ [] → AllZip R (take (i + 1) xs) new
zip_step R xs ys new i x y within is all one is_new =
    rw (is_new, take_more xs i x within, ← is) (zip_more R (take i xs) ys x y all one)

-- a table of the names before one, that name, and those behind it
name_next : (table names : List (List ℕ)) (text : List ℕ) (i : ℕ) → i < length names → text ≡ get_or names i text →
    table ++ drop i names ≡ names → table ++ text ∷ drop (i + 1) names ≡ names
name_next table names text i within is all =
    let cut : drop i names ≡ text ∷ drop (i + 1) names = rw add-one (drop-cons names i text within ∙ ap (λ x. x ∷ drop (suc i) names) (sym is)) in
    ap (table ++◌) (sym cut) ∙ all

-- the name isn't in the table of those before it, where all differ
pub name_new : (table names : List (List ℕ)) (text : List ℕ) (i : ℕ) → i < length names → text ≡ get_or names i text →
    table ++ drop i names ≡ names → AllPairs (λ a b. a ≢ b) names → has table text ≡ false
name_new table names text i within is all differ =
    new_behind table text (drop (i + 1) names) names (name_next table names text i within is all) differ

-- with it the table is that of the names before the next one
pub table_step : (table new names : List (List ℕ)) (text : List ℕ) (i : ℕ) → i < length names → text ≡ get_or names i text →
    table ++ drop i names ≡ names → new ≡ table ++ text ∷ [] → new ++ drop (i + 1) names ≡ names
table_step table new names text i within is all put =
    ap (λ x. x ++ drop (i + 1) names) put ∙ append_assoc table (text ∷ []) (drop (i + 1) names) ∙ name_next table names text i within is all

-- the numbers of one more slot
pub slots_step : (names : List (List ℕ)) (slots : List SlotCode) (items new whole : List ℕ) (i : ℕ) (slot : SlotCode) → i < length slots →
    (other : SlotCode) → slot ≡ get_or slots i other →
    items ++ all_slot_numbers names (drop i slots) ≡ whole → new ≡ items ++ slot_numbers names slot → new ++ all_slot_numbers names (drop (i + 1) slots) ≡ whole
slots_step names slots items new whole i slot within other is all is_new =
    let cut : drop i slots ≡ slot ∷ drop (i + 1) slots = rw add-one (drop-cons slots i other within ∙ ap (λ x. x ∷ drop (suc i) slots) (sym is)) in
    ap (λ x. x ++ all_slot_numbers names (drop (i + 1) slots)) is_new
    ∙ append_assoc items (slot_numbers names slot) (all_slot_numbers names (drop (i + 1) slots))
    ∙ ap (λ x. items ++ all_slot_numbers names x) (sym cut) ∙ all

-- the number of a mutable slot's name, and that of its setter
pub both_added : (names : List (List ℕ)) (slot : SlotCode) (items mid new : List ℕ) (setter : ℕ) → slot.mutable ≡ true →
    mid ≡ items ++ slot.name.0 ∷ [] → setter ≡ setter_number names slot.name.0 → new ≡ mid ++ setter ∷ [] → new ≡ items ++ named_numbers names slot
both_added names slot items mid new setter mutable is_mid is_setter is_new =
    is_new ∙ ap (λ x. x ++ setter ∷ []) is_mid ∙ append_assoc items (slot.name.0 ∷ []) (setter ∷ [])
    ∙ ap (λ x. items ++ slot.name.0 ∷ x ∷ []) is_setter
    ∙ ap (λ b. items ++ slot.name.0 ∷ (if b then setter_number names slot.name.0 ∷ [] else [])) (sym mutable)
