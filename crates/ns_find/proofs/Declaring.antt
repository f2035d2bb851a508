-- A declaration that has no member of a name has none among the members that a lookup goes through.
use Rattle.std.proofs.Common.{◌≡◌, ◌⊎◌, inl, inr, ◌≤◌, ◌-◌, ℕ, ◌+◌, ◌<◌, List, [], ◌∷◌, ◌++◌, length, get_or, set, refl, ap, sym, ◌∙◌, Option, Some, None, Bool, true, false, eqb, ◌||◌, ◌&&◌, not, slice_get, if◌then◌else◌}
use Rattle.ns_base.specs.declared.selector.Sel.{Sel}
use Rattle.ns_base.specs.Spelling.{is_identifier}
use Rattle.std.specs.Option.{option_map_or}
use Rattle.std.specs.List.{list_any}
use Rattle.std.specs.Str.{bytes_eq}
use Rattle.std.proofs.lemmas.Bool.{cases_lt, eqb-true, eq-eqb, lt-ltb}
use Rattle.std.proofs.lemmas.List.{get_or-set_same, get_or-set_other, set_past, get_or_past}
use Rattle.std.proofs.lemmas.Option.{slice_get_within}
use Rattle.std.proofs.lemmas.List.Folds.{list_any-append}
use Rattle.ns_code.specs.declared.program.CodeProgram.{CodeProgram}
use Rattle.ns_code.specs.declared.class.ClassCode.{ClassCode}
use Rattle.ns_code.specs.declared.class.SlotCode.{SlotCode}
use Rattle.ns_code.specs.declared.class.NestedCode.{NestedCode}
use Rattle.ns_code.specs.declared.class.MethodCode.{MethodCode}
use Rattle.ns_code.specs.declared.listed.Listed.{Listed}
use Rattle.ns_code.specs.Fits.{Fits}
use Rattle.ns_code.specs.Fronts.{front_in}
use Rattle.ns_code.specs.Listed as listing
use Rattle.ns_code.specs.Listed.{TellsOf, is_declared}
use Rattle.ns_code.specs.MemberNames.{is_visible, slot_names, mutable_names, nested_names, name_of, method_names, instance_names, side_names, setter_names}
use Rattle.ns_code.specs.Selector.{selector_text, own_text_at}
use Rattle.ns_code.specs.Soundness.{is_identifier_name, has_sound_classes}
use Rattle.ns_world.specs.Heap.{Heap}
use Rattle.ns_world.specs.Layout.{declaration_of}
use Rattle.ns_find.specs.declared.found.Sending.{Sending}
use Rattle.ns_find.specs.declared.members.Wanted.TheVariants.{Visible}
use Rattle.ns_find.specs.declared.members.Side.TheVariants.{Instance, Class}
use Rattle.ns_find.specs.Members.{Member, SetterOf, NamedAs, is_named, search, slots_members, nested_members, method_members, side_members}
use Rattle.ns_find.specs.Passed.{PassedHaveNone, without}
use Rattle.ns_find.specs.laws.SoundBodies.{slots_named}
use Rattle.ns_find.proofs.Fronts.{front_told}
use Rattle.ns_find.proofs.Among.{is_among, among_none, among_both}

neither : (a b : Bool) → (a || b) ≡ false → (a ≡ false) × (b ≡ false)
neither true b e = absurd (cc)
neither false b e = (refl, e)

both_false : (a b : Bool) → a ≡ false → b ≡ false → (a || b) ≡ false
both_false true b e f = absurd (cc)
both_false false b e f = f

and_false : (b : Bool) → (b && false) ≡ false
and_false true = refl
and_false false = refl

yes_not : (b : Bool) → not b ≡ false → b ≡ true
yes_not true e = refl
yes_not false e = absurd (cc)

-- a name that is an identifier is there, and is what its number stands for
pub name_there : (code : CodeProgram) (name : Sel) → is_identifier_name code name ≡ true → name.0 < length code.names
name_there code name e = by (slice_get code.names name.0) refl e
  where
    by : (o : Option (List ℕ)) → slice_get code.names name.0 ≡ o → option_map_or is_identifier o false ≡ true → name.0 < length code.names
    by None is e = absurd (cc)
    by (Some text) is e = slice_get_within code.names name.0 text is

pub text_there : (code : CodeProgram) (number : ℕ) → number < length code.names → selector_text code number ≡ get_or code.names number []
text_there code number lt =
    ap (λ b. if b then get_or code.names number [] else own_text_at (number - length code.names)) (lt-ltb number (length code.names) lt)

-- ---- a name that isn't among some, of which the first may be left out

differs_first : (name one : ℕ) (names : List ℕ) (there : Bool) → listing.is_among name (if there then one ∷ names else names) ≡ false → (eqb name one && there) ≡ false
differs_first name one names true e = ap (λ b. b && true) (neither (eqb name one) (listing.is_among name names) e).0
differs_first name one names false e = and_false (eqb name one)

differs_behind : (name one : ℕ) (names : List ℕ) (there : Bool) → listing.is_among name (if there then one ∷ names else names) ≡ false → listing.is_among name names ≡ false
differs_behind name one names true e = (neither (eqb name one) (listing.is_among name names) e).1
differs_behind name one names false e = e

class_differs : (name : ℕ) (class : Option ClassCode) (names : List ℕ) (there : Bool) → listing.is_among name (if there then name_of class ++ names else names) ≡ false
    → (option_map_or (λ (c : ClassCode). eqb name c.name.0) class false && there) ≡ false
class_differs name None names there e = refl
class_differs name (Some class) names there e = differs_first name class.name.0 names there e

class_behind : (name : ℕ) (class : Option ClassCode) (names : List ℕ) (there : Bool) → listing.is_among name (if there then name_of class ++ names else names) ≡ false
    → listing.is_among name names ≡ false
class_behind name None names true e = e
class_behind name None names false e = e
class_behind name (Some class) names there e = differs_behind name class.name.0 names there e

-- ---- the members of a declaration

module _ (code : CodeProgram) (sel : ℕ) where
  -- The name before the selector's colon is that of none of these slots that is mutable and not private.
  abbrev HasNoSetter : List SlotCode → Type 0
  HasNoSetter slots = (name : ℕ) → front_in code.names (selector_text code sel) ≡ Some name → listing.is_among name (mutable_names slots) ≡ false

  setter_fails : (slot : SlotCode) (slots : List SlotCode) → Fits code → is_identifier_name code slot.name ≡ true → HasNoSetter (slot ∷ slots)
      → (is_named code sel (SetterOf slot.name.0) && (is_visible slot.access && slot.mutable)) ≡ false
  setter_fails slot slots fits named none = by (is_named code sel (SetterOf slot.name.0)) refl
    where
      by : (b : Bool) → is_named code sel (SetterOf slot.name.0) ≡ b → (b && (is_visible slot.access && slot.mutable)) ≡ false
      by false is = refl
      by true is =
          let there : slot.name.0 < length code.names = name_there code slot.name named in
          let front : front_in code.names (selector_text code sel) ≡ Some slot.name.0 =
          front_told code.names (selector_text code sel) slot.name.0 fits.names_differ there
          (ap (λ t. bytes_eq (selector_text code sel) (t ++ 58 ∷ [])) (sym (text_there code slot.name.0 there)) ∙ is) in
          ap (λ b. b && (is_visible slot.access && slot.mutable)) (sym (eq-eqb slot.name.0 slot.name.0 refl))
          ∙ differs_first slot.name.0 slot.name.0 (mutable_names slots) (is_visible slot.access && slot.mutable) (none slot.name.0 front)

  no_slot : (heap : Heap) (holder entry : ℕ) (slots : List SlotCode) → Fits code → list_any (λ (slot : SlotCode). not (is_identifier_name code slot.name)) slots ≡ false
      → listing.is_among sel (slot_names slots) ≡ false → HasNoSetter slots → is_among code sel (slots_members heap code Visible holder entry slots) ≡ false
  no_slot heap holder entry [] fits named none setter = refl
  no_slot heap holder entry (slot ∷ slots) fits named none setter =
      let names = neither (not (is_identifier_name code slot.name)) (list_any (λ (slot : SlotCode). not (is_identifier_name code slot.name)) slots) named in
      let getter : (eqb sel slot.name.0 && is_visible slot.access) ≡ false = differs_first sel slot.name.0 (slot_names slots) (is_visible slot.access) none in
      let fails = setter_fails slot slots fits (yes_not (is_identifier_name code slot.name) names.0) setter in
      let rest = no_slot heap holder (entry + 1) slots fits names.1 (differs_behind sel slot.name.0 (slot_names slots) (is_visible slot.access) none)
      (λ name front. differs_behind name slot.name.0 (mutable_names slots) (is_visible slot.access && slot.mutable) (setter name front)) in
      both_false (eqb sel slot.name.0 && is_visible slot.access)
      ((is_named code sel (SetterOf slot.name.0) && (is_visible slot.access && slot.mutable)) || is_among code sel (slots_members heap code Visible holder (entry + 1) slots))
      getter
      (both_false (is_named code sel (SetterOf slot.name.0) && (is_visible slot.access && slot.mutable)) (is_among code sel (slots_members heap code Visible holder (entry + 1) slots))
      fails rest)

  no_nested : (holder : ℕ) (nested : List NestedCode) → listing.is_among sel (nested_names code.classes nested) ≡ false
      → is_among code sel (nested_members Visible holder nested) ≡ false
  no_nested holder [] none = refl
  no_nested holder (nested ∷ rest) none =
      both_false (is_named code sel (NamedAs nested.class) && is_visible nested.access) (is_among code sel (nested_members Visible holder rest))
      (class_differs sel (slice_get code.classes nested.class) (nested_names code.classes rest) (is_visible nested.access) none)
      (no_nested holder rest (class_behind sel (slice_get code.classes nested.class) (nested_names code.classes rest) (is_visible nested.access) none))

  no_method : (holder : ℕ) (methods : List MethodCode) → listing.is_among sel (method_names methods) ≡ false
      → is_among code sel (method_members Visible holder methods) ≡ false
  no_method holder [] none = refl
  no_method holder (method ∷ methods) none =
      both_false (eqb sel method.sel.0 && is_visible method.access) (is_among code sel (method_members Visible holder methods))
      (differs_first sel method.sel.0 (method_names methods) (is_visible method.access) none)
      (no_method holder methods (differs_behind sel method.sel.0 (method_names methods) (is_visible method.access) none))

  no_instance : (heap : Heap) (holder : ℕ) (class : ClassCode) → Fits code → list_any (λ (slot : SlotCode). not (is_identifier_name code slot.name)) class.slots ≡ false
      → listing.is_among sel (instance_names code.classes class) ≡ false → HasNoSetter class.slots
      → is_among code sel (side_members heap code Visible Instance holder class) ≡ false
  no_instance heap holder class fits named none setter =
      let first = neither (listing.is_among sel (slot_names class.slots)) (listing.is_among sel (nested_names code.classes class.nested ++ method_names class.methods))
      (sym (list_any-append (eqb sel) (slot_names class.slots) (nested_names code.classes class.nested ++ method_names class.methods)) ∙ none) in
      let behind = neither (listing.is_among sel (nested_names code.classes class.nested)) (listing.is_among sel (method_names class.methods))
      (sym (list_any-append (eqb sel) (nested_names code.classes class.nested) (method_names class.methods)) ∙ first.1) in
      let slots : List Member = slots_members heap code Visible holder 0 class.slots in
      let nested : List Member = nested_members Visible holder class.nested in
      let methods : List Member = method_members Visible holder class.methods in
      among_both code sel slots (nested ++ methods)
      ∙ both_false (is_among code sel slots) (is_among code sel (nested ++ methods)) (no_slot heap holder 0 class.slots fits named first.0 setter)
      (among_both code sel nested methods
      ∙ both_false (is_among code sel nested) (is_among code sel methods) (no_nested holder class.nested behind.0) (no_method holder class.methods behind.1))

-- ---- the flags

flag_off : (passed : List Bool) (place : ℕ) → get_or (set passed place false) place false ≡ false
flag_off passed place = by (cases_lt place (length passed))
  where
    by : (place < length passed) ⊎ (length passed ≤ place) → get_or (set passed place false) place false ≡ false
    by (inl lt) = get_or-set_same passed place false false lt
    by (inr le) = ap (λ z. get_or z place false) (set_past passed place false le) ∙ get_or_past passed place false le

-- one that is still passed isn't listed, and was passed before
still_passed : (listed : List Listed) (passed : List Bool) (declaration : ℕ) → get_or (without passed listed) declaration false ≡ true
    → (is_declared declaration listed ≡ false) × (get_or passed declaration false ≡ true)
still_passed [] passed declaration is = (refl, is)
still_passed (one ∷ listed) passed declaration is =
    let rest = still_passed listed (set passed one.declaration false) declaration is in
    by (eqb declaration one.declaration) refl rest.0 rest.1
  where
    by : (b : Bool) → eqb declaration one.declaration ≡ b → is_declared declaration listed ≡ false → get_or (set passed one.declaration false) declaration false ≡ true
        → ((b || is_declared declaration listed) ≡ false) × (get_or passed declaration false ≡ true)
    by true same none was =
        let no : get_or (set passed one.declaration false) declaration false ≡ false =
        ap (λ n. get_or (set passed one.declaration false) n false) (eqb-true declaration one.declaration same) ∙ flag_off passed one.declaration in
        absurd (cc)
    by false other none was =
        (none, sym (get_or-set_other passed one.declaration declaration false false (λ same. let yes = eq-eqb declaration one.declaration same in absurd (cc))) ∙ was)

-- a declaration that isn't among those told has no member of the name
not_told : (names : ClassCode → List ℕ) (classes : List ClassCode) (name : ℕ) (listed : List Listed) (declaration : ℕ) (class : ClassCode) →
    TellsOf names classes name listed → slice_get classes declaration ≡ Some class → is_declared declaration listed ≡ false → listing.is_among name (names class) ≡ false
not_told names classes name listed declaration class told there none = by (listing.is_among name (names class)) refl
  where
    by : (b : Bool) → listing.is_among name (names class) ≡ b → listing.is_among name (names class) ≡ false
    by true is = let yes = told declaration class there is in absurd (cc)
    by false is = is

-- ---- the declarations that are passed

module _ (heap : Heap) (code : CodeProgram) (sel : ℕ) (kind : Sending) where
  pub passed_on_side : (passed once : List Bool) (listed : List Listed) → TellsOf side_names code.classes sel listed → once ≡ without passed listed
      → PassedHaveNone heap code Class sel kind once
  passed_on_side passed once listed told now = λ holder is.
      by holder (slice_get code.classes (declaration_of heap holder)) refl
      (still_passed listed passed (declaration_of heap holder) (ap (λ z. get_or z (declaration_of heap holder) false) (sym now) ∙ is)).0
    where
      by : (holder : ℕ) (o : Option ClassCode) → slice_get code.classes (declaration_of heap holder) ≡ o → is_declared (declaration_of heap holder) listed ≡ false
          → search code sel kind (option_map_or (side_members heap code Visible Class holder) o []) ≡ None
      by holder None there none = refl
      by holder (Some class) there none =
          among_none code sel kind (side_members heap code Visible Class holder class)
          (no_method code sel holder class.side_methods (not_told side_names code.classes sel listed (declaration_of heap holder) class told there none))

  -- A declaration with that flag has no member of the selector on its instance side.
  abbrev HasNoInstance : List Bool → Type 0
  HasNoInstance passed =
      (declaration : ℕ) (class : ClassCode) → slice_get code.classes declaration ≡ Some class → get_or passed declaration false ≡ true
      → (listing.is_among sel (instance_names code.classes class) ≡ false) × HasNoSetter code sel class.slots

  passed_on_instances : (passed : List Bool) → Fits code → has_sound_classes code ≡ true → HasNoInstance passed → PassedHaveNone heap code Instance sel kind passed
  passed_on_instances passed fits sound none = λ holder is. by holder (slice_get code.classes (declaration_of heap holder)) refl is
    where
      by : (holder : ℕ) (o : Option ClassCode) → slice_get code.classes (declaration_of heap holder) ≡ o → get_or passed (declaration_of heap holder) false ≡ true
          → search code sel kind (option_map_or (side_members heap code Visible Instance holder) o []) ≡ None
      by holder None there is = refl
      by holder (Some class) there is =
          let has = none (declaration_of heap holder) class there is in
          among_none code sel kind (side_members heap code Visible Instance holder class)
          (no_instance code sel heap holder class fits (slots_named code (declaration_of heap holder) class sound there) has.0 has.1)

  -- where no name stands before a colon of the selector
  pub passed_without : (passed once : List Bool) (members : List Listed) → Fits code → has_sound_classes code ≡ true
      → TellsOf (instance_names code.classes) code.classes sel members → once ≡ without passed members
      → None ≡ front_in code.names (selector_text code sel) → PassedHaveNone heap code Instance sel kind once
  passed_without passed once members fits sound told now front =
      passed_on_instances once fits sound
      (λ declaration class there is.
      let here = still_passed members passed declaration (ap (λ z. get_or z declaration false) (sym now) ∙ is) in
      (not_told (instance_names code.classes) code.classes sel members declaration class told there here.0, λ name at. absurd (let no = front ∙ at in cc)))

  -- where that name stands there
  pub passed_with : (passed once twice : List Bool) (members setters : List Listed) (name : ℕ) → Fits code → has_sound_classes code ≡ true
      → TellsOf (instance_names code.classes) code.classes sel members → TellsOf setter_names code.classes name setters
      → once ≡ without passed members → twice ≡ without once setters
      → Some name ≡ front_in code.names (selector_text code sel) → PassedHaveNone heap code Instance sel kind twice
  passed_with passed once twice members setters name fits sound told told_setters now last front =
      passed_on_instances twice fits sound
      (λ declaration class there is.
      let here = still_passed setters once declaration (ap (λ z. get_or z declaration false) (sym last) ∙ is) in
      let before = still_passed members passed declaration (ap (λ z. get_or z declaration false) (sym now) ∙ here.1) in (
        not_told (instance_names code.classes) code.classes sel members declaration class told there before.0,
        λ other at.
            let same : name ≡ other = let e = front ∙ at in cc in
            ap (λ n. listing.is_among n (mutable_names class.slots)) (sym same) ∙ not_told setter_names code.classes name setters declaration class told_setters there here.0,
      ))

-- past the last flag nothing changes
pub kept_past : (passed : List Bool) (place : ℕ) → length passed ≤ place → passed ≡ set passed place false
kept_past passed place le = sym (set_past passed place false le)
