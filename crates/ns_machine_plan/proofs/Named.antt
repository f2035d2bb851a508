-- The first member under the number of a name is the private member of that name.
use Rattle.std.proofs.Common.{◌≡◌, ◌⊎◌, inl, inr, ℕ, zero, suc, ◌+◌, ◌-◌, ◌<◌, ◌≤◌, List, [], ◌∷◌, ◌++◌, Option, Some, None, Bool, true, false, not, ◌&&◌, cond, refl, sym, ap, ◌∙◌, length, slice_get, get_or, take, append-nil, arith}
use Rattle.std.specs.Prelude.{nat_eq, nat_lt, position, unwrap_or, ◌==◌}
use Rattle.std.specs.List.{position_or_len, AllZip}
use Rattle.std.specs.Option.{option_map_or, option_or}
use Rattle.std.specs.Str.{bytes_eq}
use Rattle.std.proofs.lemmas.Bool.{cases_lt, lt-ltb, le-ltb, ltb-true, ltb-false, eqb-true}
use Rattle.std.proofs.lemmas.Bool.Decides.{same_from_decides, Decides-eqb}
use Rattle.std.proofs.lemmas.List.{take_more}
use Rattle.std.proofs.lemmas.List.Quantifiers.{position-Some}
use Rattle.std.proofs.lemmas.Map.Keys.{apart_from_distinct}
use Rattle.std.proofs.lemmas.Slice.Eq.{bytes_eq-Decides}
use Rattle.ns_base.specs.Names.{NoRepeats}
use Rattle.ns_base.specs.Spelling.{is_selector}
use Rattle.ns_code.specs.declared.program.CodeProgram.{CodeProgram}
use Rattle.ns_code.specs.declared.class.ClassCode.{ClassCode}
use Rattle.ns_code.specs.declared.class.SlotCode.{SlotCode}
use Rattle.ns_code.specs.declared.class.NestedCode.{NestedCode}
use Rattle.ns_code.specs.declared.class.MethodCode.{MethodCode}
use Rattle.ns_code.specs.Fits.{Fits}
use Rattle.ns_code.specs.Selector.{selector_text, own_text_at}
use Rattle.ns_find.specs.declared.members.Side.{Side}
use Rattle.ns_find.specs.declared.members.Side.TheVariants.{Instance as InstanceSide, Class as ClassSide}
use Rattle.ns_find.specs.Members.{is_named, SetterOf, NamedAs}
use Rattle.ns_code.specs.Access.{private_access}
use Rattle.ns_verify_members.specs.Numbers.{with_colon, setter_number}
use Rattle.ns_machine_plan.specs.declared.index.Entry.{Entry}
use Rattle.ns_machine_plan.specs.declared.members.Members.{Members}
use Rattle.ns_machine_plan.specs.declared.step.Member.{Member}
use Rattle.ns_machine_plan.specs.declared.step.Member.TheVariants.{Method, Getter, Setter, Nested}
use Rattle.ns_machine_plan.specs.Members.{first_under, under, slot_entries, all_slot_entries, nested_entry, nested_entries, method_entry, method_entries, instance_entries, found_on, AreMembersOf}
use Rattle.ns_machine_plan.specs.Privates.{slot_member, slots_member, nested_member, method_member, side_member}

-- the first of two lists
first_of_both : (number : ℕ) (xs ys : List Entry) →
    first_under number (xs ++ ys) ≡ option_or (first_under number xs) (first_under number ys)
first_of_both number [] ys = refl
first_of_both number (x ∷ xs) ys = by (nat_eq number x.number) (first_of_both number xs ys)
  where
    by : (b : Bool) → first_under number (xs ++ ys) ≡ option_or (first_under number xs) (first_under number ys) →
        cond b (Some x.member) (first_under number (xs ++ ys)) ≡ option_or (cond b (Some x.member) (first_under number xs)) (first_under number ys)
    by true rest = refl
    by false rest = rest

-- ---- setters

-- a name's own text with a colon is that of one name at most
name_alone : (names : List (List ℕ)) (a b : ℕ) → NoRepeats names → a < length names → b < length names →
    get_or names a [] ≡ get_or names b [] → a ≡ b
name_alone names a b apart la lb e = by (cases_lt a b) (cases_lt b a)
  where
    unlike : (i j : ℕ) → i < j → j < length names → get_or names i [] ≡ get_or names j [] → ⊥
    unlike i j lt within same =
        let other = apart_from_distinct bytes_eq names i j [] apart lt within in
        let yes = (bytes_eq-Decides (get_or names i []) (get_or names j [])).1 same in
        absurd (cc)

    by : (a < b) ⊎ (b ≤ a) → (b < a) ⊎ (a ≤ b) → a ≡ b
    by (inl lt) q = absurd (unlike a b lt lb e)
    by (inr le) (inl lt) = absurd (unlike b a lt la (sym e))
    by (inr le) (inr ge) = omega (arith, le, ge)

-- the first that passes is no further on than any that passes
first_before : (test : List ℕ → Bool) (names : List (List ℕ)) (k : ℕ) → k < length names → test (get_or names k []) ≡ true →
    position_or_len test names ≤ k
first_before test [] k lt is = absurd (omega (arith, lt))
first_before test (name ∷ names) zero lt is = rw is (omega arith)
first_before test (name ∷ names) (suc k) lt is = by (test name) (first_before test names k (omega (arith, lt)) is)
  where
    by : (b : Bool) → position_or_len test names ≤ k → cond (not b) (1 + position_or_len test names) 0 ≤ suc k
    by true le = omega arith
    by false le = omega (arith, le)

no_place : (test : List ℕ → Bool) (names : List (List ℕ)) (k : ℕ) → position test names ≡ None → k < length names →
    test (get_or names k []) ≡ true → ⊥
no_place test names k none lt is =
    let le = first_before test names k lt is in
    let near = lt-ltb (position_or_len test names) (length names) (omega (arith, lt, le)) in
    let some : position test names ≡ Some (position_or_len test names) = ap (λ b. cond b (Some (position_or_len test names)) None) near in
    absurd (cc)

setter_is : (names : List (List ℕ)) (sel : ℕ) (text : List ℕ) (behind : ℕ) (o : Option ℕ) → NoRepeats names → sel < length names →
    position (bytes_eq text) names ≡ o → nat_eq sel (unwrap_or o (length names + behind)) ≡ bytes_eq (get_or names sel []) text
setter_is names sel text behind None apart lt is =
    same_from_decides (nat_eq sel (length names + behind)) (bytes_eq (get_or names sel []) text) (Decides-eqb sel (length names + behind))
    (λ e. absurd (no_name e), λ same. absurd (omega (arith, lt, same)))
  where
    no_name : bytes_eq (get_or names sel []) text ≡ true → ⊥
    no_name e =
        let same = (bytes_eq-Decides (get_or names sel []) text).0 e in
        no_place (bytes_eq text) names sel is lt ((bytes_eq-Decides text (get_or names sel [])).1 (sym same))
setter_is names sel text behind (Some place) apart lt is =
    let found = position-Some (bytes_eq text) names place [] is in
    let there : text ≡ get_or names place [] = (bytes_eq-Decides text (get_or names place [])).0 found.1 in
    let texts = bytes_eq-Decides (get_or names sel []) text in
    same_from_decides (nat_eq sel place) (bytes_eq (get_or names sel []) text) (Decides-eqb sel place)
    (λ e. name_alone names sel place apart lt found.0 (texts.0 e ∙ there), λ same. texts.1 (ap (λ n. get_or names n []) same ∙ sym there))

-- ---- slots

name_is : (code : CodeProgram) (number : ℕ) → number < length code.names → selector_text code number ≡ get_or code.names number []
name_is code number lt =
    ap (λ b. cond b (get_or code.names number []) (own_text_at (number - length code.names))) (lt-ltb number (length code.names) lt)

own_is : (code : CodeProgram) (number : ℕ) → length code.names ≤ number →
    selector_text code number ≡ own_text_at (number - length code.names)
own_is code number le =
    ap (λ b. cond b (get_or code.names number []) (own_text_at (number - length code.names))) (le-ltb number (length code.names) le)

-- an own selector with one more colon is no selector
no_setter : (place : ℕ) → is_selector (own_text_at place ++ 58 ∷ []) ≡ false
no_setter zero = refl
no_setter (suc zero) = refl
no_setter (suc (suc zero)) = refl
no_setter (suc (suc (suc place))) = refl

no_own_setter : (code : CodeProgram) (sel name : ℕ) → Fits code → sel < length code.names → length code.names ≤ name →
    is_named code sel (SetterOf name) ≡ false
no_own_setter code sel name fits lt le = by (bytes_eq (selector_text code sel) (selector_text code name ++ 58 ∷ [])) refl
  where
    by : (b : Bool) → bytes_eq (selector_text code sel) (selector_text code name ++ 58 ∷ []) ≡ b → b ≡ false
    by false is = refl
    by true is =
        let same = (bytes_eq-Decides (selector_text code sel) (selector_text code name ++ 58 ∷ [])).0 is in
        let text : get_or code.names sel [] ≡ own_text_at (name - length code.names) ++ 58 ∷ [] =
        sym (name_is code sel lt) ∙ (same ∙ ap (λ t. t ++ 58 ∷ []) (own_is code name le)) in
        let spelled : is_selector (get_or code.names sel []) ≡ true = (fits.names sel [] lt).spelled in
        let none = no_setter (name - length code.names) in
        absurd (let yes = ap is_selector text in cc)

its_setter : (code : CodeProgram) (sel name : ℕ) → NoRepeats code.names → sel < length code.names → name < length code.names →
    nat_eq sel (setter_number code.names name) ≡ is_named code sel (SetterOf name)
its_setter code sel name apart lt named =
    setter_is code.names sel (get_or code.names name [] ++ 58 ∷ []) name (with_colon code.names (get_or code.names name [])) apart lt refl
    ∙ (ap (λ t. bytes_eq t (get_or code.names name [] ++ 58 ∷ [])) (sym (name_is code sel lt))
    ∙ ap (λ t. bytes_eq (selector_text code sel) (t ++ 58 ∷ [])) (sym (name_is code name named)))

-- the getter and the setter, by what holds of the slot and the selector
told : (sel name setter : ℕ) (getter writer : Member) (private named r w mutable : Bool) → nat_eq sel name ≡ r →
    (named ≡ true → nat_eq sel setter ≡ w) → (named ≡ false → r ≡ false) → (named ≡ false → w ≡ false) →
    first_under sel (cond (private && named) (under name getter ∷ cond mutable (under setter writer ∷ []) []) [])
    ≡ cond (r && private) (Some getter) (cond (w && (private && mutable)) (Some writer) None)
told sel name setter getter writer false named true true mutable is set unread unwritten = refl
told sel name setter getter writer false named true false mutable is set unread unwritten = refl
told sel name setter getter writer false named false true mutable is set unread unwritten = refl
told sel name setter getter writer false named false false mutable is set unread unwritten = refl
told sel name setter getter writer true true true w mutable is set unread unwritten = rw is refl
told sel name setter getter writer true true false true true is set unread unwritten = rw (is, set refl) refl
told sel name setter getter writer true true false true false is set unread unwritten = rw is refl
told sel name setter getter writer true true false false true is set unread unwritten = rw (is, set refl) refl
told sel name setter getter writer true true false false false is set unread unwritten = rw is refl
told sel name setter getter writer true false true w mutable is set unread unwritten = absurd (let never = unread refl in cc)
told sel name setter getter writer true false false true mutable is set unread unwritten = absurd (let never = unwritten refl in cc)
told sel name setter getter writer true false false false mutable is set unread unwritten = refl

slot_first : (code : CodeProgram) (sel entry : ℕ) (slot : SlotCode) → Fits code → NoRepeats code.names → sel < length code.names →
    first_under sel (slot_entries code.names entry slot) ≡ slot_member code sel entry slot
slot_first code sel entry slot fits apart lt =
    told sel slot.name.0 (setter_number code.names slot.name.0) (Getter entry) (Setter entry) (slot.access == private_access)
    (nat_lt slot.name.0 (length code.names)) (nat_eq sel slot.name.0) (is_named code sel (SetterOf slot.name.0)) slot.mutable refl
    (λ named. its_setter code sel slot.name.0 apart lt (ltb-true slot.name.0 (length code.names) named))
    (λ past. other (ltb-false slot.name.0 (length code.names) past))
    (λ past. no_own_setter code sel slot.name.0 fits lt (ltb-false slot.name.0 (length code.names) past))
  where
    other : length code.names ≤ slot.name.0 → nat_eq sel slot.name.0 ≡ false
    other le = by (nat_eq sel slot.name.0) refl
      where
        by : (b : Bool) → nat_eq sel slot.name.0 ≡ b → b ≡ false
        by false is = refl
        by true is = absurd (let same = eqb-true sel slot.name.0 is in omega (arith, lt, le, same))

slots_first : (code : CodeProgram) (sel entry : ℕ) (slots : List SlotCode) → Fits code → NoRepeats code.names → sel < length code.names →
    first_under sel (all_slot_entries code.names entry slots) ≡ slots_member code sel entry slots
slots_first code sel entry [] fits apart lt = refl
slots_first code sel entry (slot ∷ slots) fits apart lt =
    first_of_both sel (slot_entries code.names entry slot) (all_slot_entries code.names (entry + 1) slots)
    ∙ (ap (λ o. option_or o (first_under sel (all_slot_entries code.names (entry + 1) slots))) (slot_first code sel entry slot fits apart lt)
    ∙ ap (option_or (slot_member code sel entry slot)) (slots_first code sel (entry + 1) slots fits apart lt))

-- ---- nested classes and methods

and_true : (b : Bool) → b ≡ (b && true)
and_true true = refl
and_true false = refl

and_false : (b : Bool) → false ≡ (b && false)
and_false true = refl
and_false false = refl

one_first : (sel number : ℕ) (member : Member) (private : Bool) →
    first_under sel (cond private (under number member ∷ []) []) ≡ cond (nat_eq sel number && private) (Some member) None
one_first sel number member true = ap (λ b. cond b (Some member) None) (and_true (nat_eq sel number))
one_first sel number member false = ap (λ b. cond b (Some member) None) (and_false (nat_eq sel number))

or_else : (b : Bool) (member : Member) (rest : Option Member) → option_or (cond b (Some member) None) rest ≡ cond b (Some member) rest
or_else true member rest = refl
or_else false member rest = refl

nested_one : (sel class : ℕ) (declared : Option ClassCode) (private : Bool) →
    first_under sel (cond private (option_map_or (λ (c : ClassCode). under c.name.0 (Nested class) ∷ []) declared []) [])
    ≡ cond (option_map_or (λ (c : ClassCode). sel == c.name.0) declared false && private) (Some (Nested class)) None
nested_one sel class None true = refl
nested_one sel class None false = refl
nested_one sel class (Some c) private = one_first sel c.name.0 (Nested class) private

nested_first : (code : CodeProgram) (sel : ℕ) (nested : List NestedCode) →
    first_under sel (nested_entries code nested) ≡ nested_member code sel nested
nested_first code sel [] = refl
nested_first code sel (one ∷ nested) =
    let test = is_named code sel (NamedAs one.class) && one.access == private_access in
    first_of_both sel (nested_entry code one) (nested_entries code nested)
    ∙ (ap (λ o. option_or o (first_under sel (nested_entries code nested))) (nested_one sel one.class (slice_get code.classes one.class) (one.access == private_access))
    ∙ (or_else test (Nested one.class) (first_under sel (nested_entries code nested))
    ∙ ap (λ o. cond test (Some (Nested one.class)) o) (nested_first code sel nested)))

methods_first : (sel : ℕ) (methods : List MethodCode) → first_under sel (method_entries methods) ≡ method_member sel methods
methods_first sel [] = refl
methods_first sel (method ∷ methods) =
    let test = sel == method.sel.0 && method.access == private_access in
    first_of_both sel (method_entry method) (method_entries methods)
    ∙ (ap (λ o. option_or o (first_under sel (method_entries methods))) (one_first sel method.sel.0 (Method method.body) (method.access == private_access))
    ∙ (or_else test (Method method.body) (first_under sel (method_entries methods))
    ∙ ap (λ o. cond test (Some (Method method.body)) o) (methods_first sel methods)))

-- ---- sides

instance_first : (code : CodeProgram) (class : ClassCode) (sel : ℕ) → Fits code → NoRepeats code.names → sel < length code.names →
    first_under sel (instance_entries code class) ≡ side_member code InstanceSide sel class
instance_first code class sel fits apart lt =
    let later = nested_entries code class.nested ++ method_entries class.methods in
    first_of_both sel (all_slot_entries code.names 0 class.slots) later
    ∙ (ap (λ o. option_or o (first_under sel later)) (slots_first code sel 0 class.slots fits apart lt)
    ∙ ap (option_or (slots_member code sel 0 class.slots))
    (first_of_both sel (nested_entries code class.nested) (method_entries class.methods)
    ∙ (ap (λ o. option_or o (first_under sel (method_entries class.methods))) (nested_first code sel class.nested)
    ∙ ap (option_or (nested_member code sel class.nested)) (methods_first sel class.methods))))

side_first : (code : CodeProgram) (class : ClassCode) (sel : ℕ) →
    first_under sel (method_entries class.side_methods) ≡ side_member code ClassSide sel class
side_first code class sel = methods_first sel class.side_methods

pub are_members : (code : CodeProgram) (class : ClassCode) (members : Members) (instance side : List Entry) → Fits code →
    NoRepeats code.names →
    instance ≡ instance_entries code class → side ≡ method_entries class.side_methods →
    ((number : ℕ) → first_under number members.instance ≡ first_under number instance) →
    ((number : ℕ) → first_under number members.side ≡ first_under number side) → AreMembersOf code class members
are_members code class members instance side fits apart instance_is side_is same_instance same_side InstanceSide number lt =
    same_instance number ∙ (ap (first_under number) instance_is ∙ instance_first code class number fits apart lt)
are_members code class members instance side fits apart instance_is side_is same_instance same_side ClassSide number lt =
    same_side number ∙ (ap (first_under number) side_is ∙ side_first code class number)

-- ---- all declarations

-- what is found by the number of a declaration
pub found_by_number : (code : CodeProgram) (side : Side) (sel decl : ℕ) (classes : List ClassCode) (all : List Members) →
    AllZip (AreMembersOf code) classes all →
    sel < length code.names → option_map_or (λ (members : Members). found_on members side sel) (slice_get all decl) None ≡ option_map_or (side_member code side sel) (slice_get classes decl) None
found_by_number code side sel decl [] [] zip lt = refl
found_by_number code side sel decl [] (members ∷ all) zip lt = absurd zip
found_by_number code side sel decl (class ∷ classes) [] zip lt = absurd zip
found_by_number code side sel zero (class ∷ classes) (members ∷ all) zip lt = zip.0 side sel lt
found_by_number code side sel (suc decl) (class ∷ classes) (members ∷ all) zip lt = found_by_number code side sel decl classes all zip.1 lt

-- one more of each of two lists
zip_more : {A B : Type 0} (R : A → B → Type 0) (xs : List A) (ys : List B) (x : A) (y : B) → AllZip R xs ys → R x y →
    AllZip R (xs ++ x ∷ []) (ys ++ y ∷ [])
zip_more R [] [] x y all one = (one, tt)
zip_more R [] (z ∷ ys) x y all one = absurd all
zip_more R (z ∷ xs) [] x y all one = absurd all
zip_more R (z ∷ xs) (w ∷ ys) x y all one = (all.0, zip_more R xs ys x y all.1 one)

pub zip_step : {A B : Type 0} (R : A → B → Type 0) (xs : List A) (ys new : List B) (i : ℕ) (x : A) (y : B) → i < length xs →
    x ≡ get_or xs i x →
    AllZip R (take i xs) ys → R x y → new ≡ ys ++ y ∷ [] → AllZip R (take (i + 1) xs) new
zip_step R xs ys new i x y within is all one is_new =
    rw (is_new, take_more xs i x within, ← is) (zip_more R (take i xs) ys x y all one)

-- a nested class that isn't there is under no number
pub none_nested : (code : CodeProgram) (nested : NestedCode) (items : List Entry) → slice_get code.classes nested.class ≡ None →
    items ≡ items ++ nested_entry code nested
none_nested code nested items is = sym (ap (items ++◌) (nothing (nested.access == private_access)) ∙ append-nil items)
  where
    entries : Option ClassCode → List Entry
    entries declared = option_map_or (λ (class : ClassCode). under class.name.0 (Nested nested.class) ∷ []) declared []

    nothing : (b : Bool) → cond b (entries (slice_get code.classes nested.class)) [] ≡ []
    nothing true = ap entries is
    nothing false = refl
