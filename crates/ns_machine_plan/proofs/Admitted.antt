-- The private member that a send of sound code names is there.
use Rattle.std.proofs.Common.{◌≡◌, ◌≢◌, ◌⊎◌, inl, inr, ℕ, zero, suc, ◌+◌, ◌-◌, ◌<◌, ◌≤◌, List, [], ◌∷◌, ◌++◌, Option, Some, None, Bool, true, false, ◌&&◌, ◌||◌, cond, refl, sym, ap, ◌∙◌, length, slice_get, get_or, arith}
use Rattle.std.specs.Prelude.{map, filter, unwrap_or, ◌==◌, IsSome, if◌then◌else◌}
use Rattle.std.specs.List.{list_any, AllPairs}
use Rattle.std.specs.Option.{option_map_or, option_and_then, option_or}
use Rattle.std.specs.Str.{bytes_eq}
use Rattle.std.proofs.lemmas.Bool.{cases_lt, lt-ltb, eqb-true}
use Rattle.std.proofs.lemmas.Bool.Decides.{Decides-eqb}
use Rattle.std.proofs.lemmas.List.Folds.{list_any-append}
use Rattle.std.proofs.lemmas.Option.{slice_get_within, get_or_from_slice_get}
use Rattle.std.proofs.lemmas.Slice.Eq.{bytes_eq-Decides}
use Rattle.ns_code.specs.declared.program.CodeProgram.{CodeProgram}
use Rattle.ns_code.specs.declared.body.BodyCode.{BodyCode}
use Rattle.ns_code.specs.declared.class.ClassCode.{ClassCode}
use Rattle.ns_code.specs.declared.class.SlotCode.{SlotCode}
use Rattle.ns_code.specs.declared.class.NestedCode.{NestedCode}
use Rattle.ns_code.specs.declared.class.MethodCode.{MethodCode}
use Rattle.ns_code.specs.Selector.{selector_text, own_text_at}
use Rattle.ns_code.specs.Soundness.{name_text, texts_of, nested_names, all_slot_selectors, slot_selectors, class_side}
use Rattle.ns_find.specs.declared.found.Found.TheVariants as found
use Rattle.ns_find.specs.declared.members.Side.TheVariants.{Instance as InstanceSide}
use Rattle.ns_find.specs.Find.{side_of}
use Rattle.ns_find.specs.Members.{is_named, SetterOf, NamedAs}
use Rattle.ns_code.specs.Access.{private_access}
use Rattle.ns_verify_members.specs.Members.{private_selectors}
use Rattle.ns_moves.specs.Lawful.{declaration_at as around_body, outer_of as around_outer}
use Rattle.ns_verify.specs.Causes.{private_side}
use Rattle.ns_verify.specs.Chains.{declaration_at, outer_of}
use Rattle.ns_moves.specs.Bodies.{enclosing}
use Rattle.ns_world.specs.Heap.{Heap}
use Rattle.ns_machine_plan.specs.declared.step.Member.{Member}
use Rattle.ns_machine_plan.specs.declared.step.Member.TheVariants.{Method, Getter, Setter, Nested, Absent}
use Rattle.ns_machine_plan.specs.Stated.{MembersAreFound, PrivateSendsHaveMembers, PrivateSendsFind}
use Rattle.ns_machine_plan.specs.Privates.{found_in, reads, writes, slot_member, slots_member, nested_member, method_member, side_member, declaration_out, level_side, member_at}
use Rattle.ns_machine_plan.proofs.Finding.{out_is}

-- A member is there.
abbrev IsThere : Option Member → Type 0
IsThere None = ⊥
IsThere (Some Absent) = ⊥
IsThere (Some (Method body)) = Unit {0}
IsThere (Some (Getter entry)) = Unit {0}
IsThere (Some (Setter entry)) = Unit {0}
IsThere (Some (Nested class)) = Unit {0}

-- A member is there, or none was found.
abbrev MayBeThere : Option Member → Type 0
MayBeThere None = Unit {0}
MayBeThere (Some Absent) = ⊥
MayBeThere (Some (Method body)) = Unit {0}
MayBeThere (Some (Getter entry)) = Unit {0}
MayBeThere (Some (Setter entry)) = Unit {0}
MayBeThere (Some (Nested class)) = Unit {0}

first_there : (one other : Option Member) → IsThere one → IsThere (option_or one other)
first_there None other is = absurd is
first_there (Some Absent) other is = absurd is
first_there (Some (Method body)) other is = is
first_there (Some (Getter entry)) other is = is
first_there (Some (Setter entry)) other is = is
first_there (Some (Nested class)) other is = is

second_there : (one other : Option Member) → MayBeThere one → IsThere other → IsThere (option_or one other)
second_there None other may is = is
second_there (Some Absent) other may is = absurd may
second_there (Some (Method body)) other may is = tt
second_there (Some (Getter entry)) other may is = tt
second_there (Some (Setter entry)) other may is = tt
second_there (Some (Nested class)) other may is = tt

both_may : (one other : Option Member) → MayBeThere one → MayBeThere other → MayBeThere (option_or one other)
both_may None other may is = is
both_may (Some Absent) other may is = absurd may
both_may (Some (Method body)) other may is = tt
both_may (Some (Getter entry)) other may is = tt
both_may (Some (Setter entry)) other may is = tt
both_may (Some (Nested class)) other may is = tt

pub not_absent : (one : Option Member) → IsThere one → unwrap_or one Absent ≢ Absent
not_absent None is = absurd is
not_absent (Some Absent) is = absurd is
not_absent (Some (Method body)) is = λ e. absurd (cc (e))
not_absent (Some (Getter entry)) is = λ e. absurd (cc (e))
not_absent (Some (Setter entry)) is = λ e. absurd (cc (e))
not_absent (Some (Nested class)) is = λ e. absurd (cc (e))

-- one of two passes
one_of : (a b : Bool) → (a || b) ≡ true → (a ≡ true) ⊎ (b ≡ true)
one_of true b is = inl refl
one_of false b is = inr is

-- a part of a list passes
one_part : (test : List ℕ → Bool) (xs ys : List (List ℕ)) → list_any test (xs ++ ys) ≡ true →
    (list_any test xs ≡ true) ⊎ (list_any test ys ≡ true)
one_part test xs ys is = one_of (list_any test xs) (list_any test ys) (sym (list_any-append test xs ys) ∙ is)

-- The selector is a name of code whose names differ.
module _ (code : CodeProgram) (sel : ℕ) (named : sel < length code.names) (differ : AllPairs (λ a b. a ≢ b) code.names) where
  -- whether a text is that of the selector
  abbrev is_it : List ℕ → Bool
  is_it = bytes_eq (selector_text code sel)

  text_of_number : (n : ℕ) → n < length code.names → selector_text code n ≡ get_or code.names n []
  text_of_number n lt = ap (λ b. cond b (get_or code.names n []) (own_text_at (n - length code.names))) (lt-ltb n (length code.names) lt)

  text_of_name : (n : ℕ) (name : List ℕ) → name_text code n ≡ Some name → selector_text code n ≡ name
  text_of_name n name is = text_of_number n (slice_get_within code.names n name is) ∙ get_or_from_slice_get code.names n name [] is

  apart : (i j : ℕ) → i < j → j < length code.names → selector_text code i ≡ selector_text code j → ⊥
  apart i j lt within same =
      differ i j [] lt within (sym (text_of_number i (omega (arith, lt, within))) ∙ (same ∙ text_of_number j within))

  one_number : (n : ℕ) → n < length code.names → selector_text code sel ≡ selector_text code n → sel ≡ n
  one_number n within same = by (cases_lt sel n) (cases_lt n sel)
    where
      by : (sel < n) ⊎ (n ≤ sel) → (n < sel) ⊎ (sel ≤ n) → sel ≡ n
      by (inl lt) q = absurd (apart sel n lt within same)
      by (inr le) (inl lt) = absurd (apart n sel lt named (sym same))
      by (inr le) (inr ge) = omega (arith, le, ge)

  -- a name of the selector's text has its number
  same_number : (n : ℕ) (name : List ℕ) → name_text code n ≡ Some name → is_it name ≡ true → (sel == n) ≡ true
  same_number n name is same =
      (Decides-eqb sel n).1 (one_number n (slice_get_within code.names n name is) ((bytes_eq-Decides (selector_text code sel) name).0 same ∙ sym (text_of_name n name is)))

  -- so a name passes by its number, or another one does
  first_named : (n : ℕ) (rest : List (List ℕ)) (o : Option (List ℕ)) → name_text code n ≡ o → list_any is_it (option_map_or (λ name. name ∷ rest) o rest) ≡ true → ((sel == n) ≡ true) ⊎ (list_any is_it rest ≡ true)
  first_named n rest None e is = inr is
  first_named n rest (Some name) e is = by (one_of (is_it name) (list_any is_it rest) is)
    where
      by : (is_it name ≡ true) ⊎ (list_any is_it rest ≡ true) → ((sel == n) ≡ true) ⊎ (list_any is_it rest ≡ true)
      by (inl same) = inl (same_number n name e same)
      by (inr later) = inr later

  -- ---- methods

  -- those that are private, and the texts of some
  abbrev private_methods : List MethodCode → List MethodCode
  private_methods methods = filter (λ (method : MethodCode). method.access == private_access) methods

  abbrev method_texts : List MethodCode → List (List ℕ)
  method_texts methods = texts_of code (map (λ (method : MethodCode). method.sel.0) methods)

  -- one of them is found where the selector is among their texts
  abbrev MethodsFind : List MethodCode → Type 0
  MethodsFind methods = list_any is_it (method_texts (private_methods methods)) ≡ true → IsThere (method_member sel methods)

  method_may : (methods : List MethodCode) → MayBeThere (method_member sel methods)
  method_may [] = tt
  method_may (method ∷ methods) = by (sel == method.sel.0 && method.access == private_access) (method_may methods)
    where
      by : (b : Bool) → MayBeThere (method_member sel methods) → MayBeThere (cond b (Some (Method method.body)) (method_member sel methods))
      by true may = tt
      by false may = may

  method_there : (methods : List MethodCode) → MethodsFind methods
  method_there [] is = absurd (cc (is))
  method_there (method ∷ methods) is = by (method_there methods) (method.access == private_access) is
    where
      later : (b : Bool) → IsThere (method_member sel methods) → IsThere (cond b (Some (Method method.body)) (method_member sel methods))
      later true there = tt
      later false there = there

      here : MethodsFind methods → (b : Bool) → (b ≡ true) ⊎ (list_any is_it (method_texts (private_methods methods)) ≡ true) → IsThere (cond (b && true) (Some (Method method.body)) (method_member sel methods))
      here go true found = tt
      here go false (inl wrong) = absurd (cc (wrong))
      here go false (inr found) = go found

      by : MethodsFind methods → (b : Bool) → list_any is_it (method_texts (cond b (method ∷ private_methods methods) (private_methods methods))) ≡ true → IsThere (cond (sel == method.sel.0 && b) (Some (Method method.body)) (method_member sel methods))
      by go true found = here go (sel == method.sel.0) (first_named method.sel.0 (method_texts (private_methods methods)) (name_text code method.sel.0) refl found)
      by go false found = later (sel == method.sel.0 && false) (go found)

  -- ---- nested classes

  abbrev private_nested : List NestedCode → List NestedCode
  private_nested nested = filter (λ (nested : NestedCode). nested.access == private_access) nested

  abbrev NestedFind : List NestedCode → Type 0
  NestedFind nested = list_any is_it (texts_of code (nested_names code (private_nested nested))) ≡ true → IsThere (nested_member code sel nested)

  nested_may : (nested : List NestedCode) → MayBeThere (nested_member code sel nested)
  nested_may [] = tt
  nested_may (one ∷ nested) = by (is_named code sel (NamedAs one.class) && one.access == private_access) (nested_may nested)
    where
      by : (b : Bool) → MayBeThere (nested_member code sel nested) → MayBeThere (cond b (Some (Nested one.class)) (nested_member code sel nested))
      by true may = tt
      by false may = may

  nested_there : (nested : List NestedCode) → NestedFind nested
  nested_there [] is = absurd (cc (is))
  nested_there (one ∷ nested) is = by (nested_there nested) (one.access == private_access) is
    where
      later : (b : Bool) → IsThere (nested_member code sel nested) → IsThere (cond b (Some (Nested one.class)) (nested_member code sel nested))
      later true there = tt
      later false there = there

      here : NestedFind nested → (b : Bool) → (b ≡ true) ⊎ (list_any is_it (texts_of code (nested_names code (private_nested nested))) ≡ true) → IsThere (cond (b && true) (Some (Nested one.class)) (nested_member code sel nested))
      here go true found = tt
      here go false (inl wrong) = absurd (cc (wrong))
      here go false (inr found) = go found

      of_class : NestedFind nested → (o : Option ClassCode) → list_any is_it (texts_of code (option_map_or (λ (inner : ClassCode). inner.name.0 ∷ nested_names code (private_nested nested)) o (nested_names code (private_nested nested)))) ≡ true → IsThere (cond (option_map_or (λ (c : ClassCode). sel == c.name.0) o false && true) (Some (Nested one.class)) (nested_member code sel nested))
      of_class go None found = go found
      of_class go (Some inner) found = here go (sel == inner.name.0) (first_named inner.name.0 (texts_of code (nested_names code (private_nested nested))) (name_text code inner.name.0) refl found)

      by : NestedFind nested → (b : Bool) → list_any is_it (texts_of code (nested_names code (cond b (one ∷ (private_nested nested)) (private_nested nested)))) ≡ true → IsThere (cond (is_named code sel (NamedAs one.class) && b) (Some (Nested one.class)) (nested_member code sel nested))
      by go true found = of_class go (slice_get code.classes one.class) found
      by go false found = later (is_named code sel (NamedAs one.class) && false) (go found)

  -- ---- slots

  abbrev private_slots : List SlotCode → List SlotCode
  private_slots slots = filter (λ (slot : SlotCode). slot.access == private_access) slots

  abbrev SlotsFind : ℕ → List SlotCode → Type 0
  SlotsFind entry slots = list_any is_it (all_slot_selectors code (private_slots slots)) ≡ true → IsThere (slots_member code sel entry slots)

  slot_may : (entry : ℕ) (slot : SlotCode) → MayBeThere (slot_member code sel entry slot)
  slot_may entry slot = by (reads sel slot) (writes code sel slot)
    where
      by : (r w : Bool) → MayBeThere (cond r (Some (Getter entry)) (cond w (Some (Setter entry)) None))
      by true w = tt
      by false true = tt
      by false false = tt

  slots_may : (entry : ℕ) (slots : List SlotCode) → MayBeThere (slots_member code sel entry slots)
  slots_may entry [] = tt
  slots_may entry (slot ∷ slots) = both_may (slot_member code sel entry slot) (slots_member code sel (entry + 1) slots) (slot_may entry slot) (slots_may (entry + 1) slots)

  -- a text with a colon behind the name of a slot is that of its setter
  setter_text : (n : ℕ) (name : List ℕ) → name_text code n ≡ Some name → is_it (name ++ 58 ∷ []) ≡ true → is_named code sel (SetterOf n) ≡ true
  setter_text n name is same = ap (λ text. is_it (text ++ 58 ∷ [])) (text_of_name n name is) ∙ same

  own_slot : (entry : ℕ) (slot : SlotCode) (o : Option (List ℕ)) → name_text code slot.name.0 ≡ o → (slot.access == private_access) ≡ true → list_any is_it (option_map_or (λ name. name ∷ (if slot.mutable then (name ++ 58 ∷ []) ∷ [] else [])) o []) ≡ true → IsThere (slot_member code sel entry slot)
  own_slot entry slot None e private is = absurd (cc (is))
  own_slot entry slot (Some name) e private is = by slot.mutable refl (one_of (is_it name) (list_any is_it (if slot.mutable then (name ++ 58 ∷ []) ∷ [] else [])) is)
    where
      setter : (r : Bool) → IsThere (cond r (Some (Getter entry)) (Some (Setter entry)))
      setter true = tt
      setter false = tt

      getter : (w : Bool) → IsThere (cond true (Some (Getter entry)) (cond w (Some (Setter entry)) None))
      getter w = tt

      by : (m : Bool) → slot.mutable ≡ m → (is_it name ≡ true) ⊎ (list_any is_it (if m then (name ++ 58 ∷ []) ∷ [] else []) ≡ true) → IsThere (slot_member code sel entry slot)
      by m em (inl same) = rw (same_number slot.name.0 name e same) (rw private (getter (writes code sel slot)))
      by false em (inr found) = absurd (cc (found))
      by true em (inr found) = by_setter (one_of (is_it (name ++ 58 ∷ [])) false found)
        where
          by_setter : (is_it (name ++ 58 ∷ []) ≡ true) ⊎ (false ≡ true) → IsThere (slot_member code sel entry slot)
          by_setter (inl same) = rw (setter_text slot.name.0 name e same) (rw private (rw em (setter (sel == slot.name.0 && true))))
          by_setter (inr wrong) = absurd (cc (wrong))

  slots_there : (entry : ℕ) (slots : List SlotCode) → SlotsFind entry slots
  slots_there entry [] is = absurd (cc (is))
  slots_there entry (slot ∷ slots) is = by (slots_there (entry + 1) slots) (slot.access == private_access) refl is
    where
      later : SlotsFind (entry + 1) slots → list_any is_it (all_slot_selectors code (private_slots slots)) ≡ true → IsThere (slots_member code sel entry (slot ∷ slots))
      later go found = second_there (slot_member code sel entry slot) (slots_member code sel (entry + 1) slots) (slot_may entry slot) (go found)

      by : SlotsFind (entry + 1) slots → (b : Bool) → (slot.access == private_access) ≡ b → list_any is_it (all_slot_selectors code (cond b (slot ∷ (private_slots slots)) (private_slots slots))) ≡ true → IsThere (slots_member code sel entry (slot ∷ slots))
      by go false e found = later go found
      by go true e found = of_part (one_part is_it (slot_selectors code slot) (all_slot_selectors code (private_slots slots)) found)
        where
          of_part : (list_any is_it (slot_selectors code slot) ≡ true) ⊎ (list_any is_it (all_slot_selectors code (private_slots slots)) ≡ true) → IsThere (slots_member code sel entry (slot ∷ slots))
          of_part (inl here) = first_there (slot_member code sel entry slot) (slots_member code sel (entry + 1) slots) (own_slot entry slot (name_text code slot.name.0) refl e here)
          of_part (inr there) = later go there

  -- ---- a side

  instance_there : (class : ClassCode) → list_any is_it (private_selectors code 0 class) ≡ true → IsThere (side_member code InstanceSide sel class)
  instance_there class is =
      by (one_part is_it (all_slot_selectors code (private_slots class.slots)) ((texts_of code (nested_names code (private_nested class.nested))) ++ (method_texts (private_methods class.methods))) is)
    where
      of_inner : (list_any is_it (texts_of code (nested_names code (private_nested class.nested))) ≡ true) ⊎ (list_any is_it (method_texts (private_methods class.methods)) ≡ true) → IsThere (option_or (nested_member code sel class.nested) (method_member sel class.methods))
      of_inner (inl found) = first_there (nested_member code sel class.nested) (method_member sel class.methods) (nested_there class.nested found)
      of_inner (inr found) = second_there (nested_member code sel class.nested) (method_member sel class.methods) (nested_may class.nested) (method_there class.methods found)

      by : (list_any is_it (all_slot_selectors code (private_slots class.slots)) ≡ true) ⊎ (list_any is_it ((texts_of code (nested_names code (private_nested class.nested))) ++ (method_texts (private_methods class.methods))) ≡ true) → IsThere (option_or (slots_member code sel 0 class.slots) (option_or (nested_member code sel class.nested) (method_member sel class.methods)))
      by (inl found) = first_there (slots_member code sel 0 class.slots) (option_or (nested_member code sel class.nested) (method_member sel class.methods)) (slots_there 0 class.slots found)
      by (inr found) = second_there (slots_member code sel 0 class.slots) (option_or (nested_member code sel class.nested) (method_member sel class.methods)) (slots_may 0 class.slots) (of_inner (one_part is_it (texts_of code (nested_names code (private_nested class.nested))) (method_texts (private_methods class.methods)) found))

  pub side_there : (side : ℕ) (class : ClassCode) → side ≤ 1 → list_any is_it (private_selectors code side class) ≡ true → IsThere (side_member code (side_of (side == class_side)) sel class)
  side_there zero class le is = instance_there class is
  side_there (suc zero) class le is = method_there class.side_methods is
  side_there (suc (suc more)) class le is = absurd (omega (arith, le))

-- ---- a send

-- the declaration so many levels out from a class
out_of : (code : CodeProgram) (class level : ℕ) → declaration_out code class level ≡ declaration_at code level class
out_of code class zero = refl
out_of code class (suc level) = by (declaration_at code level class) (out_of code class level)
  where
    by : (o : Option ℕ) → declaration_out code class level ≡ o → around_outer code (declaration_out code class level) ≡ option_and_then (outer_of code) o
    by None e = ap (around_outer code) e
    by (Some decl) e = ap (around_outer code) e ∙ inner (slice_get code.classes decl)
      where
        inner : (o : Option ClassCode) → option_map_or (λ (class : ClassCode). class.outer) o None ≡ option_and_then (λ (class : ClassCode). class.outer) o
        inner None = refl
        inner (Some class) = refl

-- further out it isn't the body's own
further : (level : ℕ) → (suc level == 0) ≡ false
further level = by (suc level == 0) refl
  where
    by : (b : Bool) → (suc level == 0) ≡ b → (suc level == 0) ≡ false
    by false e = e
    by true e = absurd (omega (arith, eqb-true (suc level) 0 e))

-- the side on which code of this body looks
looked_at : (b : BodyCode) (level : ℕ) → level_side b level ≡ side_of (private_side b level == class_side)
looked_at b zero = refl
looked_at b (suc level) = rw (further level) refl

side_is_small : (b : BodyCode) (level : ℕ) → b.side ≤ 1 → private_side b level ≤ 1
side_is_small b zero le = le
side_is_small b (suc level) le = rw (further level) (omega arith)

pub sends_have_members : (code : CodeProgram) → PrivateSendsHaveMembers code
sends_have_members code body at level argc sel b fits is usable =
    let named : sel.0 < length code.names = usable.0.0 in
    let class : ℕ = usable.1.0 in
    let declared : ClassCode = usable.1.1 in
    let out : declaration_out code b.class level ≡ Some class = out_of code b.class level ∙ usable.1.2 in
    let there : slice_get code.classes class ≡ Some declared = usable.1.3 in
    let small : b.side ≤ 1 = side_of_body in
    let found = side_there code sel.0 named fits.names_differ (private_side b level) declared (side_is_small b level small) usable.1.4 in
    not_absent_at out there found
  where
    side_of_body : b.side ≤ 1
    side_of_body = omega (arith, (fits.bodies body b (slice_get_within code.bodies body b is)).side, ap (λ (x : BodyCode). x.side) (get_or_from_slice_get code.bodies body b b is))

    not_absent_at : {class : ℕ} {declared : ClassCode} → declaration_out code b.class level ≡ Some class → slice_get code.classes class ≡ Some declared → IsThere (side_member code (side_of (private_side b level == class_side)) sel.0 declared) → member_at code b level sel ≢ Absent
    not_absent_at {class} {declared} out there found =
        rw (out) (rw (there) (rw (looked_at b level) (not_absent (side_member code (side_of (private_side b level == class_side)) sel.0 declared) found)))

-- what is found with a member
found_with : (heap : Heap) (code : CodeProgram) (holder : ℕ) (member : Member) → member ≢ Absent →
    found_in heap code holder member ≢ found.Absent
found_with heap code holder (Method body) some = λ e. absurd (cc (e))
found_with heap code holder (Getter entry) some = λ e. absurd (cc (e))
found_with heap code holder (Setter entry) some = λ e. absurd (cc (e))
found_with heap code holder (Nested class) some = λ e. absurd (cc (e))
found_with heap code holder Absent some = absurd (some refl)

pub sends_find : (code : CodeProgram) → MembersAreFound code → PrivateSendsFind code
sends_find code are_found world activation at level argc sel b fits lawful stands is usable e =
    let out : around_body code activation.body level ≡ Some usable.1.0 = out_is code activation.body b level is ∙ (out_of code b.class level ∙ usable.1.2) in
    let there : IsSome (around_body code activation.body level) = rw out refl in
    let member : Member = member_at code b level sel in
    found_with world.cells code (enclosing world.cells activation level).holder member (sends_have_members code activation.body at level argc sel b fits is usable)
    (sym (are_found world activation b level sel lawful stands is there) ∙ e)
