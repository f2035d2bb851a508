-- Members by number have the texts of their selectors, and two numbers are equal where their texts are.
use Rattle.std.proofs.Common.{◌≡◌, ◌⊎◌, inl, inr, ℕ, ◌+◌, ◌-◌, ◌<◌, ◌≤◌, List, [], ◌∷◌, ◌++◌, Option, Some, None, Bool, true, false, refl, sym, ap, ◌∙◌, length, map, filter, slice_get, get_or, arith, if◌then◌else◌}
use Rattle.std.specs.Prelude.{nat_lt, nat_eq, unwrap_or, ◌==◌}
use Rattle.std.specs.Option.{option_map_or}
use Rattle.std.specs.List.{list_any, AllByRecursion}
use Rattle.std.specs.List.Sorted.{IsPermutation}
use Rattle.std.specs.Str.{bytes_eq}
use Rattle.std.proofs.lemmas.Bool.{cases_lt, lt-ltb, ltb-true}
use Rattle.std.proofs.lemmas.Bool.Decides.{same_from_decides, Decides-eqb}
use Rattle.std.proofs.lemmas.List.{length-append}
use Rattle.std.proofs.lemmas.List.Folds.{list_any_at}
use Rattle.std.proofs.lemmas.List.Sorted.{list_any-IsPermutation}
use Rattle.std.proofs.lemmas.List.Quantifiers.{position-Some}
use Rattle.std.proofs.lemmas.Map.Keys.{apart_from_distinct}
use Rattle.std.proofs.lemmas.Option.{slice_get_past, slice_get-get_or}
use Rattle.std.proofs.lemmas.Slice.Eq.{bytes_eq-Decides}
use Rattle.ns_base.specs.Names.{has, NoRepeats}
use Rattle.ns_code.specs.Selector.{selector_text}
use Rattle.ns_code.specs.Soundness.{are_different, all_slot_selectors, texts_of, nested_names, instance_selectors, side_selectors, instance_side}
use Rattle.ns_code.specs.declared.program.CodeProgram.{CodeProgram}
use Rattle.ns_code.specs.declared.class.ClassCode.{ClassCode}
use Rattle.ns_code.specs.declared.class.SlotCode.{SlotCode}
use Rattle.ns_code.specs.declared.class.NestedCode.{NestedCode}
use Rattle.ns_code.specs.declared.class.MethodCode.{MethodCode}
use Rattle.ns_verify_members.specs.declared.privates.Privates.{Privates}
use Rattle.ns_verify_members.specs.Members.{selectors_of, private_selectors, private_instance_selectors, private_side_selectors}
use Rattle.ns_verify_members.specs.Numbers.{with_colon, setter_number, slot_numbers, all_slot_numbers, there, numbers_of, method_numbers, instance_numbers, side_numbers, private_instance_numbers, private_side_numbers, are_apart, IsPrivatesOf}
use Rattle.ns_verify_members.proofs.Colons.{none_at_no_place}

-- the text of a number: a name, or behind the names a name with a colon
abbrev member_text : List (List ℕ) → ℕ → List ℕ
member_text names number =
    if nat_lt number (length names) then get_or names number [] else get_or names (number - length names) [] ++ 58 ∷ []

-- the number is a name's, or a setter's whose text is no name
abbrev IsMember : List (List ℕ) → ℕ → Type 0
IsMember names number =
    (number < length names)
    ⊎ ((slot : ℕ) × (number ≡ length names + slot) × (slot < length names) × (has names (get_or names slot [] ++ 58 ∷ []) ≡ false))

not_below : (a b : ℕ) (c : Bool) → nat_lt a b ≡ c → b ≤ a → c ≡ false
not_below a b false is le = refl
not_below a b true is le = absurd (let lt = ltb-true a b is in omega (arith, lt, le))

-- ---- the text of a number

name_text_is : (names : List (List ℕ)) (number : ℕ) → number < length names → member_text names number ≡ get_or names number []
name_text_is names number lt =
    ap (λ b. if b then get_or names number [] else get_or names (number - length names) [] ++ 58 ∷ []) (lt-ltb number (length names) lt)

behind_text_is : (names : List (List ℕ)) (slot : ℕ) → member_text names (length names + slot) ≡ get_or names slot [] ++ 58 ∷ []
behind_text_is names slot =
    let past = not_below (length names + slot) (length names) (nat_lt (length names + slot) (length names)) refl (omega arith) in
    let back : length names + slot - length names ≡ slot = omega arith in
    ap (λ b. if b then get_or names (length names + slot) [] else get_or names (length names + slot - length names) [] ++ 58 ∷ []) past
    ∙ ap (λ n. get_or names n [] ++ 58 ∷ []) back

place_text : (names : List (List ℕ)) (slot : ℕ) (o : Option ℕ) → with_colon names (get_or names slot []) ≡ o →
    member_text names (unwrap_or o (length names + slot)) ≡ get_or names slot [] ++ 58 ∷ []
place_text names slot None is = behind_text_is names slot
place_text names slot (Some place) is =
    let found = position-Some (bytes_eq (get_or names slot [] ++ 58 ∷ [])) names place [] is in
    name_text_is names place found.0 ∙ sym ((bytes_eq-Decides (get_or names slot [] ++ 58 ∷ []) (get_or names place [])).0 found.1)

setter_text : (names : List (List ℕ)) (slot : ℕ) → member_text names (setter_number names slot) ≡ get_or names slot [] ++ 58 ∷ []
setter_text names slot = place_text names slot (with_colon names (get_or names slot [])) refl

place_member : (names : List (List ℕ)) (slot : ℕ) (o : Option ℕ) → slot < length names → with_colon names (get_or names slot []) ≡ o →
    IsMember names (unwrap_or o (length names + slot))
place_member names slot None lt is = inr (slot, refl, lt, none_at_no_place (bytes_eq (get_or names slot [] ++ 58 ∷ [])) names is)
place_member names slot (Some place) lt is = inl ((position-Some (bytes_eq (get_or names slot [] ++ 58 ∷ [])) names place [] is).0)

setter_member : (names : List (List ℕ)) (slot : ℕ) → slot < length names → IsMember names (setter_number names slot)
setter_member names slot lt = place_member names slot (with_colon names (get_or names slot [])) lt refl

-- ---- lists of numbers

members_append : (names : List (List ℕ)) (xs ys : List ℕ) → AllByRecursion (IsMember names) xs → AllByRecursion (IsMember names) ys →
    AllByRecursion (IsMember names) (xs ++ ys)
members_append names [] ys hx hy = hy
members_append names (x ∷ xs) ys hx hy = (hx.0, members_append names xs ys hx.1 hy)

map_append : (f : ℕ → List ℕ) (xs ys : List ℕ) → map f (xs ++ ys) ≡ map f xs ++ map f ys
map_append f [] ys = refl
map_append f (x ∷ xs) ys = ap (f x ∷◌) (map_append f xs ys)

-- the selectors of a slot
slot_is : (names : List (List ℕ)) (number : ℕ) (mutable b : Bool) → nat_lt number (length names) ≡ b →
    option_map_or (λ (name : List ℕ). name ∷ (if mutable then (name ++ 58 ∷ []) ∷ [] else [])) (slice_get names number) []
    ≡ map (member_text names) (if b then number ∷ (if mutable then setter_number names number ∷ [] else []) else [])
slot_is names number mutable false is = rw (slice_get_past names number (at_least (cases_lt number (length names)))) refl
  where
    at_least : (number < length names) ⊎ (length names ≤ number) → length names ≤ number
    at_least (inl lt) = absurd (let yes = lt-ltb number (length names) lt in cc)
    at_least (inr le) = le
slot_is names number true true is =
    let lt = ltb-true number (length names) is in
    rw (slice_get-get_or names number [] lt, name_text_is names number lt, setter_text names number) refl
slot_is names number false true is =
    let lt = ltb-true number (length names) is in
    rw (slice_get-get_or names number [] lt, name_text_is names number lt) refl

slot_members : (names : List (List ℕ)) (number : ℕ) (mutable b : Bool) → nat_lt number (length names) ≡ b →
    AllByRecursion (IsMember names) (if b then number ∷ (if mutable then setter_number names number ∷ [] else []) else [])
slot_members names number mutable false is = tt
slot_members names number true true is = let lt = ltb-true number (length names) is in (inl lt, (setter_member names number lt, tt))
slot_members names number false true is = (inl (ltb-true number (length names) is), tt)

slots_are : (code : CodeProgram) (slots : List SlotCode) →
    all_slot_selectors code slots ≡ map (member_text code.names) (all_slot_numbers code.names slots)
slots_are code [] = refl
slots_are code (slot ∷ slots) =
    let first = slot_is code.names slot.name.0 slot.mutable (nat_lt slot.name.0 (length code.names)) refl in
    ap (λ x. x ++ all_slot_selectors code slots) first
    ∙ ap (map (member_text code.names) (slot_numbers code.names slot) ++◌) (slots_are code slots)
    ∙ sym (map_append (member_text code.names) (slot_numbers code.names slot) (all_slot_numbers code.names slots))

slots_members : (names : List (List ℕ)) (slots : List SlotCode) → AllByRecursion (IsMember names) (all_slot_numbers names slots)
slots_members names [] = tt
slots_members names (slot ∷ slots) =
    members_append names (slot_numbers names slot) (all_slot_numbers names slots)
    (slot_members names slot.name.0 slot.mutable (nat_lt slot.name.0 (length names)) refl) (slots_members names slots)

-- the names among numbers
name_is : (code : CodeProgram) (number : ℕ) (rest : List ℕ) (texts : List (List ℕ)) (b : Bool) → nat_lt number (length code.names) ≡ b →
    texts ≡ map (member_text code.names) rest →
    option_map_or (λ (name : List ℕ). name ∷ texts) (slice_get code.names number) texts
    ≡ map (member_text code.names) (if b then number ∷ rest else rest)
name_is code number rest texts false is e = rw (slice_get_past code.names number (at_least (cases_lt number (length code.names)))) e
  where
    at_least : (number < length code.names) ⊎ (length code.names ≤ number) → length code.names ≤ number
    at_least (inl lt) = absurd (let yes = lt-ltb number (length code.names) lt in cc)
    at_least (inr le) = le
name_is code number rest texts true is e =
    let lt = ltb-true number (length code.names) is in
    rw (slice_get-get_or code.names number [] lt, name_text_is code.names number lt) (ap (get_or code.names number [] ∷◌) e)

names_are : (code : CodeProgram) (numbers : List ℕ) → texts_of code numbers ≡ map (member_text code.names) (there code.names numbers)
names_are code [] = refl
names_are code (number ∷ numbers) =
    name_is code number (there code.names numbers) (texts_of code numbers) (nat_lt number (length code.names)) refl (names_are code numbers)

name_member : (names : List (List ℕ)) (number : ℕ) (rest : List ℕ) (b : Bool) → nat_lt number (length names) ≡ b →
    AllByRecursion (IsMember names) rest →
    AllByRecursion (IsMember names) (if b then number ∷ rest else rest)
name_member names number rest true is all = (inl (ltb-true number (length names) is), all)
name_member names number rest false is all = all

names_members : (names : List (List ℕ)) (numbers : List ℕ) → AllByRecursion (IsMember names) (there names numbers)
names_members names [] = tt
names_members names (number ∷ numbers) =
    name_member names number (there names numbers) (nat_lt number (length names)) refl (names_members names numbers)

-- ---- the selectors of members

members_are : (code : CodeProgram) (slots : List SlotCode) (nested : List NestedCode) (methods : List MethodCode) →
    selectors_of code slots nested methods ≡ map (member_text code.names) (numbers_of code slots nested methods)
members_are code slots nested methods =
    let text = member_text code.names in
    let inner = there code.names (nested_names code nested) in
    let own = method_numbers code.names methods in
    ap (λ x. x ++ (texts_of code (nested_names code nested) ++ texts_of code (map (λ (method : MethodCode). method.sel.0) methods))) (slots_are code slots)
    ∙ ap (λ x. map text (all_slot_numbers code.names slots) ++ (x ++ texts_of code (map (λ (method : MethodCode). method.sel.0) methods))) (names_are code (nested_names code nested))
    ∙ ap (λ x. map text (all_slot_numbers code.names slots) ++ (map text inner ++ x)) (names_are code (map (λ (method : MethodCode). method.sel.0) methods))
    ∙ ap (map text (all_slot_numbers code.names slots) ++◌) (sym (map_append text inner own))
    ∙ sym (map_append text (all_slot_numbers code.names slots) (inner ++ own))

all_members : (code : CodeProgram) (slots : List SlotCode) (nested : List NestedCode) (methods : List MethodCode) →
    AllByRecursion (IsMember code.names) (numbers_of code slots nested methods)
all_members code slots nested methods =
    let inner = there code.names (nested_names code nested) in
    let own = method_numbers code.names methods in
    members_append code.names (all_slot_numbers code.names slots) (inner ++ own) (slots_members code.names slots)
    (members_append code.names inner own (names_members code.names (nested_names code nested)) (names_members code.names (map (λ (method : MethodCode). method.sel.0) methods)))

-- ---- equal texts

one_longer : (ys : List ℕ) (y : ℕ) → length (y ∷ (ys ++ 58 ∷ [])) ≡ length ys + 2
one_longer ys y = let m = length-append ys (58 ∷ []) in omega (arith, m)

last_cut : (xs ys : List ℕ) → xs ++ 58 ∷ [] ≡ ys ++ 58 ∷ [] → xs ≡ ys
last_cut [] [] e = refl
last_cut [] (y ∷ ys) e = absurd (let n : 1 ≡ length ys + 2 = ap length e ∙ one_longer ys y in omega (arith, n))
last_cut (x ∷ xs) [] e = absurd (let n : 1 ≡ length xs + 2 = ap length (sym e) ∙ one_longer xs x in omega (arith, n))
last_cut (x ∷ xs) (y ∷ ys) e = let head : x ≡ y = cc in let tail : xs ++ 58 ∷ [] ≡ ys ++ 58 ∷ [] = cc in let rest = last_cut xs ys tail in cc

same_place : (names : List (List ℕ)) (a b : ℕ) → NoRepeats names → a < length names → b < length names →
    get_or names a [] ≡ get_or names b [] → a ≡ b
same_place names a b apart la lb e = by (cases_lt a b) (cases_lt b a)
  where
    unlike : (i j : ℕ) → i < j → j < length names → get_or names i [] ≡ get_or names j [] → ⊥
    unlike i j lt within same =
        let other = apart_from_distinct bytes_eq names i j [] apart lt within in
        let yes = (bytes_eq-Decides (get_or names i []) (get_or names j [])).1 same in
        absurd (cc)

    by : (a < b) ⊎ (b ≤ a) → (b < a) ⊎ (a ≤ b) → a ≡ b
    by (inl lt) q = absurd (unlike a b lt lb e)
    by (inr le) (inl lt) = absurd (unlike b a lt la (sym e))
    by (inr le) (inr ge) = omega (arith, le, ge)

named : (names : List (List ℕ)) (place : ℕ) (text : List ℕ) → place < length names → text ≡ get_or names place [] → has names text ≡ false →
    ⊥
named names place text lt same absent =
    let yes = list_any_at (bytes_eq text) names place [] lt ((bytes_eq-Decides text (get_or names place [])).1 same) in
    absurd (cc)

same_number : (names : List (List ℕ)) (a b : ℕ) → NoRepeats names → IsMember names a → IsMember names b →
    member_text names a ≡ member_text names b → a ≡ b
same_number names a b apart (inl la) (inl lb) e =
    same_place names a b apart la lb (sym (name_text_is names a la) ∙ (e ∙ name_text_is names b lb))
same_number names a b apart (inl la) (inr (slot, is, lt, absent)) e =
    absurd (named names a (get_or names slot [] ++ 58 ∷ []) la (sym (behind_text_is names slot) ∙ (ap (member_text names) (sym is) ∙ (sym e ∙ name_text_is names a la))) absent)
same_number names a b apart (inr (slot, is, lt, absent)) (inl lb) e =
    absurd (named names b (get_or names slot [] ++ 58 ∷ []) lb (sym (behind_text_is names slot) ∙ (ap (member_text names) (sym is) ∙ (e ∙ name_text_is names b lb))) absent)
same_number names a b apart (inr (one, is_one, lt_one, none_one)) (inr (two, is_two, lt_two, none_two)) e =
    let texts = sym (behind_text_is names one) ∙ (ap (member_text names) (sym is_one) ∙ (e ∙ (ap (member_text names) is_two ∙ behind_text_is names two))) in
    let same = same_place names one two apart lt_one lt_two (last_cut (get_or names one []) (get_or names two []) texts) in
    cc

same_answer : (names : List (List ℕ)) (a b : ℕ) → NoRepeats names → IsMember names a → IsMember names b →
    bytes_eq (member_text names a) (member_text names b) ≡ nat_eq a b
same_answer names a b apart ha hb =
    let texts = bytes_eq-Decides (member_text names a) (member_text names b) in
    same_from_decides (bytes_eq (member_text names a) (member_text names b)) (nat_eq a b)
    (λ e. same_number names a b apart ha hb (texts.0 e), λ same. texts.1 (ap (member_text names) same)) (Decides-eqb a b)

any_same : (names : List (List ℕ)) (a : ℕ) (ks : List ℕ) → NoRepeats names → IsMember names a → AllByRecursion (IsMember names) ks →
    list_any (bytes_eq (member_text names a)) (map (member_text names) ks) ≡ list_any (nat_eq a) ks
any_same names a [] apart ha hs = refl
any_same names a (k ∷ ks) apart ha hs =
    rw (same_answer names a k apart ha hs.0, any_same names a ks apart ha hs.1) refl

different_apart : (names : List (List ℕ)) (ks : List ℕ) → NoRepeats names → AllByRecursion (IsMember names) ks →
    are_different (map (member_text names) ks) ≡ are_apart ks
different_apart names [] apart hs = refl
different_apart names (k ∷ ks) apart hs = rw (any_same names k ks apart hs.0 hs.1, different_apart names ks apart hs.1) refl

-- ---- what is asked of members

-- no two selectors of a side are equal where no two numbers are
pub different_instances : (code : CodeProgram) (class : ClassCode) → NoRepeats code.names →
    are_apart (instance_numbers code class) ≡ are_different (instance_selectors code class)
different_instances code class apart =
    sym (different_apart code.names (instance_numbers code class) apart (all_members code class.slots class.nested class.methods))
    ∙ ap are_different (sym (members_are code class.slots class.nested class.methods))

pub different_sides : (code : CodeProgram) (class : ClassCode) → NoRepeats code.names →
    are_apart (side_numbers code class) ≡ are_different (side_selectors code class)
different_sides code class apart =
    let numbers = map (λ (method : MethodCode). method.sel.0) class.side_methods in
    sym (different_apart code.names (side_numbers code class) apart (names_members code.names numbers)) ∙ ap are_different (sym (names_are code numbers))

text_is : (code : CodeProgram) (number : ℕ) → number < length code.names → selector_text code number ≡ member_text code.names number
text_is code number lt = rw (lt-ltb number (length code.names) lt) refl

any_of : (code : CodeProgram) (name : ℕ) (numbers sorted : List ℕ) (texts : List (List ℕ)) → NoRepeats code.names →
    name < length code.names →
    IsPermutation numbers sorted → AllByRecursion (IsMember code.names) numbers → texts ≡ map (member_text code.names) numbers →
    list_any (nat_eq name) sorted ≡ list_any (bytes_eq (selector_text code name)) texts
any_of code name numbers sorted texts apart lt p all is =
    sym (list_any-IsPermutation (nat_eq name) numbers sorted p)
    ∙ (sym (any_same code.names name numbers apart (inl lt) all)
    ∙ rw (is, text_is code name lt) refl)

private_on : (code : CodeProgram) (class : ClassCode) (name : ℕ) (privates : Privates) (b : Bool) → NoRepeats code.names →
    IsPrivatesOf code class privates → name < length code.names →
    list_any (nat_eq name) (if b then privates.instance else privates.side)
    ≡ list_any (bytes_eq (selector_text code name)) (if b then private_instance_selectors code class else private_side_selectors code class)
private_on code class name privates true apart is lt =
    let kept = filter (λ (slot : SlotCode). slot.access == 2) class.slots in
    let inner = filter (λ (nested : NestedCode). nested.access == 2) class.nested in
    let own = filter (λ (method : MethodCode). method.access == 2) class.methods in
    any_of code name (private_instance_numbers code class) privates.instance (private_instance_selectors code class) apart lt is.instance
    (all_members code kept inner own) (members_are code kept inner own)
private_on code class name privates false apart is lt =
    let numbers = map (λ (method : MethodCode). method.sel.0) (filter (λ (method : MethodCode). method.access == 2) class.side_methods) in
    any_of code name (private_side_numbers code class) privates.side (private_side_selectors code class) apart lt is.side
    (names_members code.names numbers) (names_are code numbers)

-- a name is the selector of a private member where its number is among the members'
pub private_instance : (code : CodeProgram) (class : ClassCode) (name side : ℕ) (privates : Privates) → (side == instance_side) ≡ true →
    NoRepeats code.names → IsPrivatesOf code class privates → name < length code.names →
    list_any (nat_eq name) privates.instance ≡ list_any (bytes_eq (selector_text code name)) (private_selectors code side class)
private_instance code class name side privates on apart is lt =
    private_on code class name privates true apart is lt
    ∙ ap (λ b. list_any (bytes_eq (selector_text code name)) (if b then private_instance_selectors code class else private_side_selectors code class)) (sym on)

pub private_side : (code : CodeProgram) (class : ClassCode) (name side : ℕ) (privates : Privates) → (side == instance_side) ≡ false →
    NoRepeats code.names → IsPrivatesOf code class privates → name < length code.names →
    list_any (nat_eq name) privates.side ≡ list_any (bytes_eq (selector_text code name)) (private_selectors code side class)
private_side code class name side privates on apart is lt =
    private_on code class name privates false apart is lt
    ∙ ap (λ b. list_any (bytes_eq (selector_text code name)) (if b then private_instance_selectors code class else private_side_selectors code class)) (sym on)
