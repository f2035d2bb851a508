-- No lookup finds a selector that nothing answers.
use Rattle.std.proofs.Common.{◌≡◌, ◌∙◌, ◌⊎◌, inl, inr, refl, sym, ap, subst, ℕ, zero, suc, ◌+◌, Bool, true, false, ◌||◌, ◌&&◌, ◌==◌, List, [], ◌∷◌, ◌++◌, map, flat_map, Option, Some, None, slice_get, unwrap_or, nat_eq, if◌then◌else◌, arith}
use Rattle.std.specs.List.{list_any}
use Rattle.std.specs.Option.{option_map_or, is_some, is_none}
use Rattle.std.specs.Str.{bytes_eq}
use Rattle.std.specs.Bool.{Decides}
use Rattle.std.proofs.lemmas.Slice.Eq.{bytes_eq-Decides}
use Rattle.std.proofs.lemmas.Bool.Decides.{Decides-eqb}
use Rattle.ns_base.specs.declared.place.Place.{Place}
use Rattle.ns_base.specs.declared.selector.Sel.{Sel}
use Rattle.ns_code.specs.declared.program.CodeProgram.{CodeProgram}
use Rattle.ns_code.specs.declared.class.ClassCode.{ClassCode}
use Rattle.ns_code.specs.declared.class.SlotCode.{SlotCode}
use Rattle.ns_code.specs.declared.class.NestedCode.{NestedCode}
use Rattle.ns_code.specs.declared.class.MethodCode.{MethodCode}
use Rattle.ns_code.specs.declared.body.BodyCode.{BodyCode}
use Rattle.ns_code.specs.Access.{public_access}
use Rattle.ns_code.specs.Selector.{selector_text}
use Rattle.ns_world.specs.declared.kernel_class.KernelRow.{KernelRow}
use Rattle.ns_world.specs.declared.kernel_class.KernelRow.TheVariants as row
use Rattle.ns_world.specs.KernelTable.{Numbered as NumberedRow, rows_of, row_called, first_called, calls, classes, class_place}
use Rattle.ns_world.specs.declared.kernel.Start.{Start}
use Rattle.ns_world.specs.declared.kernel.Start.TheVariants as start
use Rattle.ns_world.specs.Heap.{Heap, chain_of}
use Rattle.ns_world.specs.Layout.{declaration_of}
use Rattle.ns_world.specs.Seek.{first_such, is_top}
use Rattle.ns_find.specs.declared.found.Found.TheVariants.{Absent, Factory}
use Rattle.ns_find.specs.declared.found.Sending.{Sending}
use Rattle.ns_find.specs.declared.members.Side.{Side}
use Rattle.ns_find.specs.declared.members.Side.TheVariants as side
use Rattle.ns_find.specs.declared.members.Wanted.{Wanted}
use Rattle.ns_find.specs.declared.members.Wanted.TheVariants.{Visible, Private}
use Rattle.ns_find.specs.declared.found.Sending.TheVariants.{Inner}
use Rattle.ns_find.specs.Members.{Member, Name, Numbered, SetterOf, NamedAs, Spelled, is_named, is_wanted, allowed, search, slot_members, slots_members, nested_members, method_members, side_members, holder_members, members_along, factory_member}
use Rattle.ns_find.specs.Rows.{top_rows, called_by, row_members, rows_members, kernel_rows, is_granted, facet_asked}
use Rattle.ns_find.specs.Find.{found_from, found_private, members_from, class_side_members}
use Rattle.ns_static_all.specs.Ascending.{IsOneOf}
use Rattle.ns_static_all.specs.InOrder.{in_order}
use Rattle.ns_static_all.specs.laws.Putting.{ordered_are_items}
use Rattle.ns_sends.specs.declared.sent.SentAt.{SentAt}
use Rattle.ns_sends.specs.Answered.{slot_texts, method_text, class_texts, program_texts, is_row, is_answered}
use Rattle.ns_sends.specs.Unanswered.{lost_at, lost_by, lost_in, lost_sends, unanswered, sent_key, sent_by}
use Rattle.ns_sends.specs.Never.{IsNeverFound, ToldAreNeverFound}
use Rattle.ns_sends.proofs.SentKeys.{four_numbers, same_send}

-- ---- booleans and lists

or_left : (x y : Bool) → (x || y) ≡ false → x ≡ false
or_left false y h = refl
or_left true y h = h

or_right : (x y : Bool) → (x || y) ≡ false → y ≡ false
or_right false y h = h
or_right true y h = absurd (let f : true ≡ false = h in cc)

and_none : (x y : Bool) → x ≡ false → (x && y) ≡ false
and_none false y h = refl
and_none true y h = absurd (let f : true ≡ false = h in cc)

and_other : (x y : Bool) → y ≡ false → (x && y) ≡ false
and_other false y h = refl
and_other true y h = h

any_left : {A : Type 0} (p : A → Bool) (xs ys : List A) → list_any p (xs ++ ys) ≡ false → list_any p xs ≡ false
any_left p [] ys h = refl
any_left p (x ∷ xs) ys h = by (p x) h (λ k. any_left p xs ys k) where
  by : (b : Bool) → (b || list_any p (xs ++ ys)) ≡ false → (list_any p (xs ++ ys) ≡ false → list_any p xs ≡ false) → (b || list_any p xs) ≡ false
  by false h k = k h
  by true h k = absurd (let f : true ≡ false = h in cc)

any_right : {A : Type 0} (p : A → Bool) (xs ys : List A) → list_any p (xs ++ ys) ≡ false → list_any p ys ≡ false
any_right p [] ys h = h
any_right p (x ∷ xs) ys h = any_right p xs ys (or_right (p x) (list_any p (xs ++ ys)) h)

same_inside : {A : Type 0} (x y : A) → Some x ≡ Some y → x ≡ y
same_inside x y h = cc

any_at : {A : Type 0} (p : A → Bool) (xs : List A) (n : ℕ) (x : A) → list_any p xs ≡ false → slice_get xs n ≡ Some x → p x ≡ false
any_at p [] n x h e = absurd (let f : None ≡ Some x = e in cc)
any_at p (y ∷ xs) zero x h e = ap p (sym (same_inside y x e)) ∙ or_left (p y) (list_any p xs) h
any_at p (y ∷ xs) (suc n) x h e = any_at p xs n x (or_right (p y) (list_any p xs) h) e

stands_there : (class : KernelRow) → slice_get classes (class_place class) ≡ Some class
stands_there row.Object = refl
stands_there row.ObjectClass = refl
stands_there row.ArrayClass = refl
stands_there row.Class = refl
stands_there row.UndefinedObject = refl
stands_there row.Boolean = refl
stands_there row.Integer = refl
stands_there row.String = refl
stands_there row.Symbol = refl
stands_there row.Array = refl
stands_there row.Block = refl
stands_there row.Manifest = refl
stands_there row.Platform = refl
stands_there row.Kernel = refl
stands_there row.Console = refl
stands_there row.Board = refl
stands_there row.Mirrors = refl
stands_there row.Mirror = refl
stands_there row.Message = refl

-- ---- a class that lacks a text

abbrev Lacks : List ℕ → List (List ℕ) → Type 0
Lacks text texts = list_any (bytes_eq text) texts ≡ false

-- each of these classes lacks the text
abbrev AllLack : CodeProgram → List ℕ → List ClassCode → Type 0
AllLack code text [] = Unit {0}
AllLack code text (class ∷ declared) = Lacks text (class_texts code class) × AllLack code text declared

all_lack : (code : CodeProgram) (text : List ℕ) (declared : List ClassCode) → Lacks text (flat_map (class_texts code) declared) → AllLack code text declared
all_lack code text [] h = tt
all_lack code text (class ∷ declared) h = (
  any_left (bytes_eq text) (class_texts code class) (flat_map (class_texts code) declared) h,
  all_lack code text declared (any_right (bytes_eq text) (class_texts code class) (flat_map (class_texts code) declared) h),
)

lacks_at : (code : CodeProgram) (text : List ℕ) (declared : List ClassCode) (n : ℕ) (class : ClassCode) → AllLack code text declared → slice_get declared n ≡ Some class →
    Lacks text (class_texts code class)
lacks_at code text [] n class h e = absurd (let f : None ≡ Some class = e in cc)
lacks_at code text (c ∷ declared) zero class (h, rest) e = subst (λ d. Lacks text (class_texts code d)) (same_inside c class e) h
lacks_at code text (c ∷ declared) (suc n) class (h, rest) e = lacks_at code text declared n class rest e

-- ---- members that a selector doesn't find

abbrev is_met : CodeProgram → ℕ → Member → Bool
is_met code sel member = is_named code sel member.name && member.there

abbrev NoneMet : CodeProgram → ℕ → List Member → Type 0
NoneMet code sel [] = Unit {0}
NoneMet code sel (member ∷ members) = (is_met code sel member ≡ false) × NoneMet code sel members

none_met_both : (code : CodeProgram) (sel : ℕ) (xs ys : List Member) → NoneMet code sel xs → NoneMet code sel ys → NoneMet code sel (xs ++ ys)
none_met_both code sel [] ys h k = k
none_met_both code sel (x ∷ xs) ys (h, rest) k = (h, none_met_both code sel xs ys rest k)

nothing_found : (code : CodeProgram) (sel : ℕ) (kind : Sending) (members : List Member) → NoneMet code sel members → search code sel kind members ≡ None
nothing_found code sel kind [] h = refl
nothing_found code sel kind (member ∷ members) (h, rest) =
    ap (λ b. if b then Some (allowed kind member.access member.found) else search code sel kind members) h ∙ nothing_found code sel kind members rest

same_text : (text : List ℕ) → bytes_eq text text ≡ true
same_text text = (bytes_eq-Decides text text).1 refl

apart_by : (code : CodeProgram) (sel number : ℕ) (same : Bool) → Decides same (sel ≡ number) →
    bytes_eq (selector_text code sel) (selector_text code number) ≡ false → same ≡ false
apart_by code sel number false d h = refl
apart_by code sel number true d h =
    sym (same_text (selector_text code sel))
    ∙ subst (λ n. bytes_eq (selector_text code sel) (selector_text code n) ≡ false) (sym (d.0 refl)) h

-- a selector whose text a name isn't, isn't that name
apart : (code : CodeProgram) (sel number : ℕ) → bytes_eq (selector_text code sel) (selector_text code number) ≡ false → (sel == number) ≡ false
apart code sel number h = apart_by code sel number (sel == number) (Decides-eqb sel number) h

module _ (code : CodeProgram) (sel : ℕ) where
  abbrev lacks : List (List ℕ) → Type 0
  lacks texts = Lacks (selector_text code sel) texts

  abbrev all_classes_lack : List ClassCode → Type 0
  all_classes_lack declared = AllLack code (selector_text code sel) declared

  -- ---- slots

  slot_none_by : (heap : Heap) (wanted : Wanted) (holder entry : ℕ) (slot : SlotCode) (mutable : Bool) → slot.mutable ≡ mutable →
      lacks (if mutable then selector_text code slot.name.0 ∷ (selector_text code slot.name.0 ++ 58 ∷ []) ∷ [] else selector_text code slot.name.0 ∷ []) →
      NoneMet code sel (slot_members heap code wanted holder entry slot)
  slot_none_by heap wanted holder entry slot true e h = (
    and_none (sel == slot.name.0) (is_wanted wanted slot.access) (apart code sel slot.name.0 (or_left _ _ h)),
    (and_none (bytes_eq (selector_text code sel) (selector_text code slot.name.0 ++ 58 ∷ [])) (is_wanted wanted slot.access && slot.mutable) (or_left _ _ (or_right _ _ h)), tt),
  )
  slot_none_by heap wanted holder entry slot false e h = (
    and_none (sel == slot.name.0) (is_wanted wanted slot.access) (apart code sel slot.name.0 (or_left _ _ h)),
    (
      and_other (bytes_eq (selector_text code sel) (selector_text code slot.name.0 ++ 58 ∷ [])) (is_wanted wanted slot.access && slot.mutable)
          (and_other (is_wanted wanted slot.access) slot.mutable e),
      tt,
    ),
  )

  slots_none : (heap : Heap) (wanted : Wanted) (holder entry : ℕ) (slots : List SlotCode) → lacks (flat_map (slot_texts code) slots) →
      NoneMet code sel (slots_members heap code wanted holder entry slots)
  slots_none heap wanted holder entry [] h = tt
  slots_none heap wanted holder entry (slot ∷ slots) h =
      none_met_both code sel (slot_members heap code wanted holder entry slot) (slots_members heap code wanted holder (entry + 1) slots)
      (slot_none_by heap wanted holder entry slot slot.mutable refl (any_left (bytes_eq (selector_text code sel)) (slot_texts code slot) (flat_map (slot_texts code) slots) h))
      (slots_none heap wanted holder (entry + 1) slots (any_right (bytes_eq (selector_text code sel)) (slot_texts code slot) (flat_map (slot_texts code) slots) h))

  -- ---- nested classes and methods

  nested_named_by : (class : ℕ) (found : Option ClassCode) → ((c : ClassCode) → found ≡ Some c → lacks (class_texts code c)) →
      option_map_or (λ (c : ClassCode). sel == c.name.0) found false ≡ false
  nested_named_by class None h = refl
  nested_named_by class (Some c) h = apart code sel c.name.0 (or_left _ _ (h c refl))

  nested_none : (wanted : Wanted) (holder : ℕ) (nested : List NestedCode) → all_classes_lack code.classes → NoneMet code sel (nested_members wanted holder nested)
  nested_none wanted holder [] h = tt
  nested_none wanted holder (one ∷ rest) h = (
    and_none (is_named code sel (NamedAs one.class)) (is_wanted wanted one.access)
        (nested_named_by one.class (slice_get code.classes one.class) (λ c e. lacks_at code (selector_text code sel) code.classes one.class c h e)),
    nested_none wanted holder rest h,
  )

  methods_none : (wanted : Wanted) (holder : ℕ) (methods : List MethodCode) → lacks (map (method_text code) methods) → NoneMet code sel (method_members wanted holder methods)
  methods_none wanted holder [] h = tt
  methods_none wanted holder (method ∷ methods) h = (
    and_none (sel == method.sel.0) (is_wanted wanted method.access) (apart code sel method.sel.0 (or_left _ _ h)),
    methods_none wanted holder methods (or_right _ _ h),
  )

  -- ---- the sides of a class

  -- the parts of what a class answers
  lacks_members : (class : ClassCode) → lacks (class_texts code class) →
      lacks (flat_map (slot_texts code) class.slots) × lacks (map (method_text code) class.methods) × lacks (map (method_text code) class.side_methods)
  lacks_members class h =
      let members = or_right _ _ (or_right _ _ h) in
      let methods = any_right (bytes_eq (selector_text code sel)) (flat_map (slot_texts code) class.slots) (map (method_text code) class.methods ++ map (method_text code) class.side_methods) members in (
        any_left (bytes_eq (selector_text code sel)) (flat_map (slot_texts code) class.slots) (map (method_text code) class.methods ++ map (method_text code) class.side_methods) members,
        any_left (bytes_eq (selector_text code sel)) (map (method_text code) class.methods) (map (method_text code) class.side_methods) methods,
        any_right (bytes_eq (selector_text code sel)) (map (method_text code) class.methods) (map (method_text code) class.side_methods) methods,
      )

  side_none : (heap : Heap) (wanted : Wanted) (on : Side) (holder : ℕ) (class : ClassCode) → all_classes_lack code.classes → lacks (class_texts code class) →
      NoneMet code sel (side_members heap code wanted on holder class)
  side_none heap wanted side.Instance holder class h k =
      let parts = lacks_members class k in
      none_met_both code sel (slots_members heap code wanted holder 0 class.slots) (nested_members wanted holder class.nested ++ method_members wanted holder class.methods)
      (slots_none heap wanted holder 0 class.slots parts.0)
      (none_met_both code sel (nested_members wanted holder class.nested) (method_members wanted holder class.methods)
      (nested_none wanted holder class.nested h) (methods_none wanted holder class.methods parts.1))
  side_none heap wanted side.Class holder class h k = methods_none wanted holder class.side_methods (lacks_members class k).2

  holder_none_by : (heap : Heap) (wanted : Wanted) (on : Side) (holder : ℕ) (found : Option ClassCode) → all_classes_lack code.classes →
      ((c : ClassCode) → found ≡ Some c → lacks (class_texts code c)) → NoneMet code sel (option_map_or (side_members heap code wanted on holder) found [])
  holder_none_by heap wanted on holder None h k = tt
  holder_none_by heap wanted on holder (Some class) h k = side_none heap wanted on holder class h (k class refl)

  holder_none : (heap : Heap) (wanted : Wanted) (on : Side) (holder : ℕ) → all_classes_lack code.classes → NoneMet code sel (holder_members heap code wanted on holder)
  holder_none heap wanted on holder h =
      holder_none_by heap wanted on holder (slice_get code.classes (declaration_of heap holder)) h
      (λ c e. lacks_at code (selector_text code sel) code.classes (declaration_of heap holder) c h e)

  along_none : (heap : Heap) (on : Side) (chain : List ℕ) → all_classes_lack code.classes → NoneMet code sel (members_along heap code on chain)
  along_none heap on [] h = tt
  along_none heap on (holder ∷ chain) h =
      none_met_both code sel (holder_members heap code Visible on holder) (members_along heap code on chain) (holder_none heap Visible on holder h) (along_none heap on chain h)

  factory_none_by : (class : ℕ) (factory : Bool) (found : Option ClassCode) → ((c : ClassCode) → found ≡ Some c → lacks (class_texts code c)) →
      NoneMet code sel (option_map_or (λ (c : ClassCode). record { there = factory; name = Numbered c.factory.0; access = public_access; found = Factory class } ∷ []) found [])
  factory_none_by class factory None h = tt
  factory_none_by class factory (Some c) h = (and_none (sel == c.factory.0) factory (apart code sel c.factory.0 (or_left _ _ (or_right _ _ (h c refl)))), tt)

  factory_none : (heap : Heap) (class : ℕ) (factory : Bool) → all_classes_lack code.classes → NoneMet code sel (factory_member heap code class factory)
  factory_none heap class factory h =
      factory_none_by class factory (slice_get code.classes (declaration_of heap class))
      (λ c e. lacks_at code (selector_text code sel) code.classes (declaration_of heap class) c h e)

  -- ---- rows of the kernel

  tops_none : (heap : Heap) (number place : ℕ) (declared : List ClassCode) → AllLack code (selector_text code sel) declared → NoneMet code sel (top_rows heap number place declared)
  tops_none heap number place [] h = tt
  tops_none heap number place (class ∷ declared) (h, rest) = (
    and_none (sel == class.name.0) (is_none class.outer && is_some (first_such (is_top place) heap)) (apart code sel class.name.0 (or_left _ _ h)),
    tops_none heap number (place + 1) declared rest,
  )

  row_none_by : (heap : Heap) (numbered : NumberedRow) (text : Option (List ℕ)) → all_classes_lack code.classes → calls (selector_text code sel) text ≡ false →
      NoneMet code sel (called_by heap code numbered text)
  row_none_by heap numbered (Some text) h k = (and_none (bytes_eq (selector_text code sel) text) (is_granted heap (facet_asked numbered.line.answer)) k, tt)
  row_none_by heap numbered None h k = tops_none heap numbered.number 0 code.classes h

  first_not : (called : Bool) (number : ℕ) (rest : Option ℕ) → is_some (if called then Some number else rest) ≡ false → (called ≡ false) × (is_some rest ≡ false)
  first_not true number rest h = absurd (let f : true ≡ false = h in cc)
  first_not false number rest h = (refl, h)

  rows_none : (heap : Heap) (rows : List NumberedRow) → all_classes_lack code.classes → is_some (first_called (selector_text code sel) rows) ≡ false →
      NoneMet code sel (rows_members heap code rows)
  rows_none heap [] h k = tt
  rows_none heap (numbered ∷ rows) h k =
      let both = first_not (calls (selector_text code sel) numbered.line.text) numbered.number (first_called (selector_text code sel) rows) k in
      none_met_both code sel (row_members heap code numbered) (rows_members heap code rows)
      (row_none_by heap numbered numbered.line.text h both.0) (rows_none heap rows h both.1)

  kernel_none : (heap : Heap) (class : KernelRow) → all_classes_lack code.classes → is_row (selector_text code sel) ≡ false → NoneMet code sel (kernel_rows heap code class)
  kernel_none heap class h k =
      rows_none heap (rows_of class) h (any_at (λ (class : KernelRow). is_some (row_called class (selector_text code sel))) classes (class_place class) class k (stands_there class))

  -- ---- all that a lookup looks through

  start_none : (heap : Heap) (from : Start) → all_classes_lack code.classes → is_row (selector_text code sel) ≡ false → NoneMet code sel (members_from heap code from)
  start_none heap (start.Instance class) h k =
      none_met_both code sel (members_along heap code side.Instance (chain_of heap class)) (kernel_rows heap code row.Object)
      (along_none heap side.Instance (chain_of heap class) h) (kernel_none heap row.Object h k)
  start_none heap (start.ClassSide class factory) h k =
      none_met_both code sel (factory_member heap code class factory) (class_side_members heap code class) (factory_none heap class factory h)
      (none_met_both code sel (members_along heap code side.Class (chain_of heap class)) (kernel_rows heap code row.Class ++ kernel_rows heap code row.Object)
      (along_none heap side.Class (chain_of heap class) h)
      (none_met_both code sel (kernel_rows heap code row.Class) (kernel_rows heap code row.Object) (kernel_none heap row.Class h k) (kernel_none heap row.Object h k)))
  start_none heap (start.Kernel class) h k =
      none_met_both code sel (kernel_rows heap code class) (kernel_rows heap code row.Object) (kernel_none heap class h k) (kernel_none heap row.Object h k)

  absent : (kind : Sending) (members : List Member) → NoneMet code sel members → unwrap_or (search code sel kind members) Absent ≡ Absent
  absent kind members h = ap (λ found. unwrap_or found Absent) (nothing_found code sel kind members h)

never_found : (code : CodeProgram) (sel : Sel) → is_answered code (selector_text code sel.0) ≡ false → IsNeverFound code sel
never_found code sel h =
    let lack = all_lack code (selector_text code sel.0) code.classes (or_left _ _ h) in
    record {
      by_lookup = λ heap from kind. absent code sel.0 kind (members_from heap code from) (start_none code sel.0 heap from lack (or_right _ _ h));
      among_private = λ heap holder on. absent code sel.0 Inner (holder_members heap code Private on holder) (holder_none code sel.0 heap Private on holder lack);
    }

-- ---- what is told isn't answered

abbrev IsLost : CodeProgram → SentAt → Type 0
IsLost code sent = is_answered code (selector_text code sent.sel.0) ≡ false

lost_by_test : (code : CodeProgram) (place : Place) (sel : Sel) (answered : Bool) (sent : SentAt) → is_answered code (selector_text code sel.0) ≡ answered →
    IsOneOf (if answered then [] else record { place = place; sel = sel } ∷ []) sent → IsLost code sent
lost_by_test code place sel true sent e h = absurd h
lost_by_test code place sel false sent e (inl h) = subst (λ s. IsLost code s) h e
lost_by_test code place sel false sent e (inr h) = absurd h

at_place : (code : CodeProgram) (place : Place) (sel : Option Sel) (sent : SentAt) → IsOneOf (lost_at code place sel) sent → IsLost code sent
at_place code place None sent h = absurd h
at_place code place (Some sel) sent h = lost_by_test code place sel (is_answered code (selector_text code sel.0)) sent refl h

one_of_both : {X : Type 0} (xs ys : List X) (x : X) → IsOneOf (xs ++ ys) x → IsOneOf xs x ⊎ IsOneOf ys x
one_of_both [] ys x h = inr h
one_of_both (y ∷ xs) ys x (inl e) = inl (inl e)
one_of_both (y ∷ xs) ys x (inr h) = elim (one_of_both xs ys x h) [ inl k ↦ inl (inr k) | inr k ↦ inr k ]

-- what holds of each item that a function gives, holds of all that it gives
each_of : {X Y : Type 0} (P : Y → Type 0) (f : X → List Y) (xs : List X) → ((x : X) (y : Y) → IsOneOf (f x) y → P y) → (y : Y) → IsOneOf (flat_map f xs) y → P y
each_of P f [] p y h = absurd h
each_of P f (x ∷ xs) p y h = elim (one_of_both (f x) (flat_map f xs) y h) [ inl k ↦ p x y k | inr k ↦ each_of P f xs p y k ]

in_body : (code : CodeProgram) (body : BodyCode) (sent : SentAt) → IsOneOf (lost_in code body) sent → IsLost code sent
in_body code body = each_of (IsLost code) (lost_by code body.instrs) body.places
    (λ x sent h. at_place code x.1 (option_map_or sent_by (slice_get body.instrs x.0) None) sent h)

told_is_lost : (code : CodeProgram) (sent : SentAt) → IsOneOf (unanswered code) sent → IsLost code sent
told_is_lost code sent h =
    each_of (IsLost code) (lost_in code) code.bodies (in_body code) sent (ordered_are_items sent_key 4 four_numbers same_send (lost_sends code) sent h)

pub told_are_never_found : (code : CodeProgram) → ToldAreNeverFound code
told_are_never_found code sent h = never_found code sent.sel (told_is_lost code sent h)
