-- What the records of sound classes say of the bodies that they name.
use Rattle.std.proofs.Common.{◌≡◌, ℕ, zero, suc, ◌+◌, List, [], ◌∷◌, refl, ap, sym, ◌∙◌, subst, arith, Option, Some, None, Bool, true, false, eqb, ◌&&◌, ◌||◌, not}
use Rattle.std.proofs.lemmas.Bool.{eqb-true}
use Rattle.std.specs.Prelude.{slice_get, nat_lt, length, unwrap_or}
use Rattle.std.specs.Option.{option_map_or}
use Rattle.std.specs.List.{list_all, list_any}
use Rattle.ns_base.specs.declared.selector.Sel.{Sel}
use Rattle.ns_code.specs.declared.program.CodeProgram.{CodeProgram}
use Rattle.ns_code.specs.declared.class.ClassCode.{ClassCode}
use Rattle.ns_code.specs.declared.class.SlotCode.{SlotCode}
use Rattle.ns_code.specs.declared.class.MethodCode.{MethodCode}
use Rattle.ns_code.specs.declared.body.BodyCode.{BodyCode}
use Rattle.ns_code.specs.Selector.{selector_arity}
use Rattle.ns_code.specs.Soundness.{method_kind, initialiser_kind, clause_kind, instance_side, class_side, is_name, is_identifier_name, has_bad_literal, has_bad_scope, is_body_of, has_params_of, have_bodies, has_place, has_nested, has_bodies, has_params, are_different, instance_selectors, side_selectors, are_classes_sound, has_sound_classes}
use Rattle.ns_world.specs.declared.kernel.Start.{Start}
use Rattle.ns_world.specs.declared.kernel.Start.TheVariants as start
use Rattle.ns_world.specs.Heap.{Heap}
use Rattle.ns_world.specs.Layout.{declaration_of}
use Rattle.ns_world.specs.laws.Chains.{both_of}
use Rattle.ns_find.specs.declared.found.Found.{Found}
use Rattle.ns_find.specs.declared.found.Found.TheVariants.{Method, Getter, Setter, Nested, Factory, Kernel, NotPublic, Absent}
use Rattle.ns_find.specs.declared.members.Side.{Side}
use Rattle.ns_find.specs.declared.members.Side.TheVariants.{Instance as InstanceSide, Class as ClassSide}
use Rattle.ns_find.specs.declared.found.Sending.{Sending}
use Rattle.ns_find.specs.Find.{found_from, found_private}
use Rattle.ns_find.specs.laws.Named.{instance_named, class_named, kernel_named, private_named}
use Rattle.ns_find.specs.Belonging.{methods_on}
use Rattle.ns_find.specs.Named.{HasNamed, HasFactory, IsNamedBy, IsBody, IsInitialiserOf, side_from, side_number, TakesArguments, FoundBy, FindsBy}

not_true : (b : Bool) → not b ≡ true → b ≡ false
not_true true e = absurd (cc)
not_true false e = refl

not_false : (b : Bool) → not b ≡ false → b ≡ true
not_false true e = refl
not_false false e = absurd (cc)

neither : (a b : Bool) → (a || b) ≡ false → (a ≡ false) × (b ≡ false)
neither true b e = absurd (cc)
neither false b e = (refl, e)

all_at : {A : Type 0} (test : A → Bool) (xs : List A) (k : ℕ) (x : A) → list_all test xs ≡ true → slice_get xs k ≡ Some x → test x ≡ true
all_at test [] zero x all e = absurd (cc)
all_at test [] (suc k) x all e = absurd (cc)
all_at test (first ∷ xs) zero x all e = let is : first ≡ x = cc in ap test (sym is) ∙ (both_of (test first) (list_all test xs) all).0
all_at test (first ∷ xs) (suc k) x all e = all_at test xs k x (both_of (test first) (list_all test xs) all).1 e

none_at : {A : Type 0} (test : A → Bool) (xs : List A) (k : ℕ) (x : A) → list_any test xs ≡ false → slice_get xs k ≡ Some x → test x ≡ false
none_at test [] zero x none e = absurd (cc)
none_at test [] (suc k) x none e = absurd (cc)
none_at test (first ∷ xs) zero x none e = let is : first ≡ x = cc in ap test (sym is) ∙ (neither (test first) (list_any test xs) none).0
none_at test (first ∷ xs) (suc k) x none e = none_at test xs k x (neither (test first) (list_any test xs) none).1 e

-- A class record without a fault.
record IsFine (code : CodeProgram) (number : ℕ) (class : ClassCode) : Type 0 where
  scope : has_bad_scope code number class ≡ false
  literals : has_bad_literal code class ≡ false

fine_from : (code : CodeProgram) (number k : ℕ) (classes : List ClassCode) (class : ClassCode) →
    are_classes_sound code number classes ≡ true → slice_get classes k ≡ Some class → IsFine code (number + k) class
fine_from code number zero [] class s e = absurd (cc)
fine_from code number (suc k) [] class s e = absurd (cc)
fine_from code number zero (first ∷ classes) class s e =
    let here = both_of (not (has_bad_scope code number first) && not (has_bad_literal code first)) (are_classes_sound code (number + 1) classes) s in
    let fine = both_of (not (has_bad_scope code number first)) (not (has_bad_literal code first)) here.0 in
    let is : first ≡ class = cc in
    let same : number ≡ number + 0 = omega arith in
    subst (λ n. IsFine code n class) same (subst (λ c. IsFine code number c) is (record { scope = not_true (has_bad_scope code number first) fine.0; literals = not_true (has_bad_literal code first) fine.1 }))
fine_from code number (suc k) (first ∷ classes) class s e =
    let here = both_of (not (has_bad_scope code number first) && not (has_bad_literal code first)) (are_classes_sound code (number + 1) classes) s in
    let same : number + 1 + k ≡ number + suc k = omega arith in
    subst (λ n. IsFine code n class) same (fine_from code (number + 1) k classes class here.1 e)

fine_at : (code : CodeProgram) (number : ℕ) (class : ClassCode) → has_sound_classes code ≡ true →
    slice_get code.classes number ≡ Some class → IsFine code number class
fine_at code number class s e =
    let all = both_of (nat_lt 0 (length code.classes)) (are_classes_sound code 0 code.classes) s in
    let none : 0 + number ≡ number = omega arith in
    subst (λ n. IsFine code n class) none (fine_from code 0 number code.classes class all.1 e)

-- What a class without a fault says of its bodies and of its selectors.
record Names (code : CodeProgram) (number : ℕ) (class : ClassCode) : Type 0 where
  init : is_body_of code class.init initialiser_kind instance_side number (λ params. eqb params class.params) ≡ true
  clause : option_map_or (λ clause. is_body_of code clause clause_kind instance_side (unwrap_or class.outer number) (λ params. eqb params 0)) class.clause true ≡ true
  methods : have_bodies code instance_side number class.methods ≡ true
  side_methods : have_bodies code class_side number class.side_methods ≡ true
  params : has_params_of code class.factory class.params ≡ true
  factory : is_name code class.factory ≡ true
  slots : list_any (λ (slot : SlotCode). not (is_identifier_name code slot.name)) class.slots ≡ false
  named : list_any (λ (method : MethodCode). not (is_name code method.sel)) class.methods ≡ false
  side_named : list_any (λ (method : MethodCode). not (is_name code method.sel)) class.side_methods ≡ false

names_of : (code : CodeProgram) (number : ℕ) (class : ClassCode) → IsFine code number class → Names code number class
names_of code number class fine =
    let inits : Bool = is_body_of code class.init initialiser_kind instance_side number (λ params. eqb params class.params) in
    let clauses : Bool = option_map_or (λ clause. is_body_of code clause clause_kind instance_side (unwrap_or class.outer number) (λ params. eqb params 0)) class.clause true in
    let any = λ (methods : List MethodCode). list_any (λ (method : MethodCode). not (is_name code method.sel)) methods in
    let slots : Bool = list_any (λ (slot : SlotCode). not (is_identifier_name code slot.name)) class.slots in
    let whole = not_false ((has_place number class && has_bodies code number class) && ((has_nested code number class && has_params code class) && (are_different (instance_selectors code class) && are_different (side_selectors code class)))) fine.scope in
    let parts = both_of (has_place number class && has_bodies code number class) ((has_nested code number class && has_params code class) && (are_different (instance_selectors code class) && are_different (side_selectors code class))) whole in
    let bodies = both_of (has_place number class) (has_bodies code number class) parts.0 in
    let two = both_of (inits && clauses) (have_bodies code instance_side number class.methods && have_bodies code class_side number class.side_methods) bodies.1 in
    let sides = both_of (have_bodies code instance_side number class.methods) (have_bodies code class_side number class.side_methods) two.1 in
    let nested = both_of (has_nested code number class && has_params code class) (are_different (instance_selectors code class) && are_different (side_selectors code class)) parts.1 in
    let counts = both_of (nat_lt class.params 64) (has_params_of code class.factory class.params) (both_of (has_nested code number class) (has_params code class) nested.0).1 in
    let one = neither (not (is_identifier_name code class.name)) (not (is_name code class.factory) || (not (is_name code class.super_sel) || (slots || (any class.methods || any class.side_methods)))) fine.literals in
    let after_one = neither (not (is_name code class.factory)) (not (is_name code class.super_sel) || (slots || (any class.methods || any class.side_methods))) one.1 in
    let three = neither (not (is_name code class.super_sel)) (slots || (any class.methods || any class.side_methods)) after_one.1 in
    let four = neither slots (any class.methods || any class.side_methods) three.1 in
    let five = neither (any class.methods) (any class.side_methods) four.1 in
    record {
      init = (both_of inits clauses two.0).0;
      clause = (both_of inits clauses two.0).1;
      methods = sides.0;
      side_methods = sides.1;
      params = counts.1;
      factory = not_false (is_name code class.factory) after_one.0;
      slots = four.0;
      named = five.0;
      side_named = five.1;
    }

-- The slots of sound classes are named by identifiers.
pub slots_named : (code : CodeProgram) (number : ℕ) (class : ClassCode) → has_sound_classes code ≡ true → slice_get code.classes number ≡ Some class →
    list_any (λ (slot : SlotCode). not (is_identifier_name code slot.name)) class.slots ≡ false
slots_named code number class s e = (names_of code number class (fine_at code number class s e)).slots

-- a body that is there
body_there : (code : CodeProgram) (number kind side class params : ℕ) (has : ℕ → Bool) → ((count : ℕ) → has count ≡ true → count ≡ params) →
    is_body_of code number kind side class has ≡ true → IsBody code number kind side class params
body_there code number kind side class params has counts e = found (slice_get code.bodies number) refl e
  where
    found : (o : Option BodyCode) → slice_get code.bodies number ≡ o → option_map_or (λ (body : BodyCode). (eqb body.kind kind && eqb body.side side) && (eqb body.class class && has body.params)) o false ≡ true → IsBody code number kind side class params
    found None f e = absurd (cc)
    found (Some body) f e =
        let two = both_of (eqb body.kind kind && eqb body.side side) (eqb body.class class && has body.params) e in
        let first = both_of (eqb body.kind kind) (eqb body.side side) two.0 in
        let second = both_of (eqb body.class class) (has body.params) two.1 in
        record {
          body = body;
          body_is = f;
          kind_is = eqb-true body.kind kind first.0;
          side_is = eqb-true body.side side first.1;
          class_is = eqb-true body.class class second.0;
          params_are = counts body.params second.1;
        }

-- a name's parameters are counted
counted : (code : CodeProgram) (sel : Sel) (params : ℕ) → is_name code sel ≡ true → has_params_of code sel params ≡ true →
    params ≡ selector_arity code sel.0
counted code sel params named e = tested (is_name code sel) named e
  where
    tested : (b : Bool) → b ≡ true → (not b || eqb params (selector_arity code sel.0)) ≡ true → params ≡ selector_arity code sel.0
    tested true t e = eqb-true params (selector_arity code sel.0) e
    tested false t e = absurd (cc)

method_there : (code : CodeProgram) (side number : ℕ) (methods : List MethodCode) (place : ℕ) (method : MethodCode) →
    have_bodies code side number methods ≡ true → list_any (λ (m : MethodCode). not (is_name code m.sel)) methods ≡ false →
    slice_get methods place ≡ Some method
    → IsBody code method.body method_kind side number (selector_arity code method.sel.0)
method_there code side number methods place method have named e =
    let is : is_name code method.sel ≡ true = not_false (is_name code method.sel) (none_at (λ (m : MethodCode). not (is_name code m.sel)) methods place method named e) in
    body_there code method.body method_kind side number (selector_arity code method.sel.0) (has_params_of code method.sel) (λ count h. counted code method.sel count is h)
    (all_at (λ (m : MethodCode). is_body_of code m.body method_kind side number (has_params_of code m.sel)) methods place method have e)

-- a method that has a selector takes as many arguments
named_method : (heap : Heap) (code : CodeProgram) (side : Side) (holder sel body : ℕ) → has_sound_classes code ≡ true →
    HasNamed heap code side holder sel body →
    IsBody code body method_kind (side_number side) (declaration_of heap holder) (selector_arity code sel)
named_method heap code side holder sel body s has =
    sided side (has.class) has.class_is has.method has.place has.method_is has.sel_is has.body_is
  where
    sided : (side : Side) (class : ClassCode) → slice_get code.classes (declaration_of heap holder) ≡ Some class → (method : MethodCode) (place : ℕ) → slice_get (methods_on side class) place ≡ Some method → method.sel.0 ≡ sel → method.body ≡ body
        → IsBody code body method_kind (side_number side) (declaration_of heap holder) (selector_arity code sel)
    sided InstanceSide class e method place m named bodied =
        let names = names_of code (declaration_of heap holder) class (fine_at code (declaration_of heap holder) class s e) in
        subst (λ b. IsBody code b method_kind instance_side (declaration_of heap holder) (selector_arity code sel)) bodied
        (subst (λ n. IsBody code method.body method_kind instance_side (declaration_of heap holder) (selector_arity code n)) named
        (method_there code instance_side (declaration_of heap holder) class.methods place method names.methods names.named m))
    sided ClassSide class e method place m named bodied =
        let names = names_of code (declaration_of heap holder) class (fine_at code (declaration_of heap holder) class s e) in
        subst (λ b. IsBody code b method_kind class_side (declaration_of heap holder) (selector_arity code sel)) bodied
        (subst (λ n. IsBody code method.body method_kind class_side (declaration_of heap holder) (selector_arity code n)) named
        (method_there code class_side (declaration_of heap holder) class.side_methods place method names.side_methods names.side_named m))

-- and so does the initialiser of a factory's class
pub named_factory : (heap : Heap) (code : CodeProgram) (class sel : ℕ) → has_sound_classes code ≡ true → HasFactory heap code class sel →
    IsInitialiserOf heap code class (selector_arity code sel)
named_factory heap code class sel s has =
    let names = names_of code (declaration_of heap class) has.declared (fine_at code (declaration_of heap class) has.declared s has.class_is) in
    let arity : has.declared.params ≡ selector_arity code sel = counted code has.declared.factory has.declared.params names.factory names.params ∙ ap (selector_arity code) has.sel_is in
    record {
      declared = has.declared;
      class_is = has.class_is;
      body = body_there code has.declared.init initialiser_kind instance_side (declaration_of heap class) (selector_arity code sel) (λ params. eqb params has.declared.params)
          (λ count h. eqb-true count has.declared.params h ∙ arity) names.init;
    }

-- the initialiser of a class, and its clause
pub initialiser_there : (code : CodeProgram) (number : ℕ) (class : ClassCode) → has_sound_classes code ≡ true →
    slice_get code.classes number ≡ Some class → IsBody code class.init initialiser_kind instance_side number class.params
initialiser_there code number class s e =
    body_there code class.init initialiser_kind instance_side number class.params (λ params. eqb params class.params) (λ count h. eqb-true count class.params h) (names_of code number class (fine_at code number class s e)).init

-- The clause of a class of sound code is a body of its kind.
pub clause_there : (code : CodeProgram) (number clause : ℕ) (class : ClassCode) → has_sound_classes code ≡ true →
    slice_get code.classes number ≡ Some class → class.clause ≡ Some clause →
    IsBody code clause clause_kind instance_side (unwrap_or class.outer number) 0
clause_there code number clause class s e c =
    let here : is_body_of code clause clause_kind instance_side (unwrap_or class.outer number) (λ params. eqb params 0) ≡ true =
    ap (λ o. option_map_or (λ clause. is_body_of code clause clause_kind instance_side (unwrap_or class.outer number) (λ params. eqb params 0)) o true) (sym c)
    ∙ (names_of code number class (fine_at code number class s e)).clause in
    body_there code clause clause_kind instance_side (unwrap_or class.outer number) 0 (λ params. eqb params 0) (λ count h. eqb-true count 0 h) here

-- so what is found by a selector takes as many arguments as it
takes_of : (heap : Heap) (code : CodeProgram) (side : Side) (sel : ℕ) (found : Found) → has_sound_classes code ≡ true →
    IsNamedBy heap code side sel found → TakesArguments heap code side sel found
takes_of heap code side sel (Method body holder) s named = named_method heap code side holder sel body s named
takes_of heap code side sel (Factory class) s named = named_factory heap code class sel s named
takes_of heap code side sel (Getter holder word) s named = tt
takes_of heap code side sel (Setter holder word) s named = tt
takes_of heap code side sel (Nested class holder) s named = tt
takes_of heap code side sel (Kernel number) s named = tt
takes_of heap code side sel NotPublic s named = tt
takes_of heap code side sel Absent s named = tt

-- of each start, and of private members
found_named : (heap : Heap) (code : CodeProgram) (from : Start) (sel : ℕ) (kind : Sending) →
    IsNamedBy heap code (side_from from) sel (found_from heap code from sel kind)
found_named heap code (start.Instance class) sel kind = instance_named heap code class sel kind
found_named heap code (start.ClassSide class factory) sel kind = class_named heap code class factory sel kind
found_named heap code (start.Kernel named) sel kind = kernel_named heap code InstanceSide named sel kind

by_name : (heap : Heap) (code : CodeProgram) (side : Side) (sel : ℕ) (found : Found) → IsNamedBy heap code side sel found →
    FoundBy heap code side sel found
by_name heap code side sel found named = record { named = named; takes = λ s. takes_of heap code side sel found s named }

-- What a lookup finds is found by the name that is sent.
pub found_by : (heap : Heap) (code : CodeProgram) (from : Start) (sel : ℕ) (kind : Sending) → FindsBy heap code from sel kind
found_by heap code from sel kind =
    by_name heap code (side_from from) sel (found_from heap code from sel kind) (found_named heap code from sel kind)

-- What a private lookup finds is found by the name that is sent.
pub private_by : (heap : Heap) (code : CodeProgram) (holder sel : ℕ) (side : Side) →
    FoundBy heap code side sel (found_private heap code holder side sel)
private_by heap code holder sel side =
    by_name heap code side sel (found_private heap code holder side sel) (private_named heap code holder side sel)
