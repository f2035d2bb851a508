-- The program fits.
use Rattle.std.proofs.Common.{◌≡◌, ◌≢◌, ℕ, ◌<◌, ◌≤◌, List, [], ◌∷◌, length, map, refl, arith, Option, Some, None, All, Bool, true, false, ◌&&◌, not}
use Rattle.std.specs.Prelude.{nat_lt, nat_le}
use Rattle.std.specs.Option.{option_map_or, ForSome}
use Rattle.std.specs.List.{list_all, AllPairs}
use Rattle.std.specs.Str.{bytes_eq}
use Rattle.std.proofs.lemmas.Bool.{ltb-true, leb-true, not-true}
use Rattle.std.proofs.lemmas.Slice.Eq.{bytes_eq-Decides}
use Rattle.std.proofs.lemmas.List.Elements.{All-nil, All-cons}
use Rattle.std.proofs.lemmas.List.Kept.{AllPairs-cons}
use Rattle.ns_base.specs.Spelling.{is_selector}
use Rattle.ns_code.specs.declared.class.ClassCode.{ClassCode}
use Rattle.ns_code.specs.declared.class.SlotCode.{SlotCode}
use Rattle.ns_code.specs.declared.class.NestedCode.{NestedCode}
use Rattle.ns_code.specs.declared.class.MethodCode.{MethodCode}
use Rattle.ns_code.specs.Fits.{IsFileName, IsShort, IsName, IsLocalName, InstrFits, PlaceFits, SlotFits, NestedFits, MethodFits, ClassFits, BodyFits, Fits}
use Rattle.ns_world.specs.laws.Chains.{both_of}
use Rattle.ns_world_setting.specs.Program.{body_of, program_code, program_names, program_classes, class_base, class_part, class_sub, class_other}

all_by : {X : Type 0} (P : X → Type 0) (test : X → Bool) → ((x : X) → test x ≡ true → P x) → (xs : List X) → list_all test xs ≡ true →
    All P xs
all_by P test told [] e = All-nil P
all_by P test told (x ∷ xs) e = let parts = both_of (test x) (list_all test xs) e in All-cons P x xs (told x parts.0) (all_by P test told xs parts.1)

small : ℕ → Bool
small n = nat_lt n 100

name_ok : List ℕ → Bool
name_ok name = small (length name) && is_selector name

name_fits : (name : List ℕ) → name_ok name ≡ true → IsName name
unfolding small name_ok
name_fits name e = let p = both_of (small (length name)) (is_selector name) e in record { short = omega (arith, ltb-true (length name) 100 p.0); spelled = p.1 }

differ_all : List (List ℕ) → Bool
differ_all [] = true
differ_all (name ∷ names) = list_all (λ other. not (bytes_eq name other)) names && differ_all names

differs : (name other : List ℕ) → not (bytes_eq name other) ≡ true → name ≢ other
differs name other e q = let f : bytes_eq name other ≡ false = not-true (bytes_eq name other) e in let t : bytes_eq name other ≡ true = (bytes_eq-Decides name other).1 q in cc

names_differ : (names : List (List ℕ)) → differ_all names ≡ true → AllPairs (λ a b. a ≢ b) names
unfolding differ_all
names_differ [] e = λ i j d h l. absurd (omega (arith, l))
names_differ (name ∷ names) e =
    let p = both_of (list_all (λ other. not (bytes_eq name other)) names) (differ_all names) e in
    AllPairs-cons (λ a b. a ≢ b) name names (all_by (λ other. name ≢ other) (λ other. not (bytes_eq name other)) (differs name) names p.0) (names_differ names p.1)

slot_ok : SlotCode → Bool
slot_ok slot = small slot.name.0 && nat_le slot.access 2

slot_fits : (slot : SlotCode) → slot_ok slot ≡ true → SlotFits slot
unfolding small slot_ok
slot_fits slot e = let p = both_of (small slot.name.0) (nat_le slot.access 2) e in record { name = omega (arith, ltb-true slot.name.0 100 p.0); access = leb-true slot.access 2 p.1 }

nested_ok : NestedCode → Bool
nested_ok nested = small nested.class && nat_le nested.access 2

nested_fits : (nested : NestedCode) → nested_ok nested ≡ true → NestedFits nested
unfolding small nested_ok
nested_fits nested e = let p = both_of (small nested.class) (nat_le nested.access 2) e in record { class = omega (arith, ltb-true nested.class 100 p.0); access = leb-true nested.access 2 p.1 }

method_ok : MethodCode → Bool
method_ok method = small method.sel.0 && (nat_le method.access 2 && small method.body)

method_fits : (method : MethodCode) → method_ok method ≡ true → MethodFits method
unfolding small method_ok
method_fits method e =
    let p = both_of (small method.sel.0) (nat_le method.access 2 && small method.body) e in
    let q = both_of (nat_le method.access 2) (small method.body) p.1 in
    record { sel = omega (arith, ltb-true method.sel.0 100 p.0); access = leb-true method.access 2 q.0; body = omega (arith, ltb-true method.body 100 q.1) }

small_if_any : Option ℕ → Bool
small_if_any number = option_map_or small number true

any_fits : (number : Option ℕ) → small_if_any number ≡ true → ForSome number (λ k. k < 4294967295)
unfolding small small_if_any
any_fits None e = λ k q. absurd (cc)
any_fits (Some number) e = λ k q. let is : number ≡ k = cc in omega (arith, is, ltb-true number 100 e)

numbers_ok : ClassCode → Bool
numbers_ok class =
    (small class.name.0 && small class.factory.0) && ((small class.super_sel.0 && small class.init) && (small class.params && (small_if_any class.outer && small_if_any class.clause)))

counts_ok : ClassCode → Bool
counts_ok class =
    (small (length class.slots) && small (length class.nested)) && (small (length class.methods) && small (length class.side_methods))

parts_ok : ClassCode → Bool
parts_ok class =
    (list_all slot_ok class.slots && list_all nested_ok class.nested) && (list_all method_ok class.methods && list_all method_ok class.side_methods)

class_fits : (class : ClassCode) → numbers_ok class ≡ true → counts_ok class ≡ true → parts_ok class ≡ true → ClassFits class
unfolding small numbers_ok counts_ok parts_ok
class_fits class n c p =
    let n0 = both_of (small class.name.0 && small class.factory.0) ((small class.super_sel.0 && small class.init) && (small class.params && (small_if_any class.outer && small_if_any class.clause))) n in
    let n1 = both_of (small class.name.0) (small class.factory.0) n0.0 in
    let n2 = both_of (small class.super_sel.0 && small class.init) (small class.params && (small_if_any class.outer && small_if_any class.clause)) n0.1 in
    let n3 = both_of (small class.super_sel.0) (small class.init) n2.0 in
    let n4 = both_of (small class.params) (small_if_any class.outer && small_if_any class.clause) n2.1 in
    let n5 = both_of (small_if_any class.outer) (small_if_any class.clause) n4.1 in
    let c0 = both_of (small (length class.slots) && small (length class.nested)) (small (length class.methods) && small (length class.side_methods)) c in
    let c1 = both_of (small (length class.slots)) (small (length class.nested)) c0.0 in
    let c2 = both_of (small (length class.methods)) (small (length class.side_methods)) c0.1 in
    let p0 = both_of (list_all slot_ok class.slots && list_all nested_ok class.nested) (list_all method_ok class.methods && list_all method_ok class.side_methods) p in
    let p1 = both_of (list_all slot_ok class.slots) (list_all nested_ok class.nested) p0.0 in
    let p2 = both_of (list_all method_ok class.methods) (list_all method_ok class.side_methods) p0.1 in
    record {
      name = omega (arith, ltb-true class.name.0 100 n1.0);
      outer = any_fits class.outer n5.0;
      factory = omega (arith, ltb-true class.factory.0 100 n1.1);
      params = omega (arith, ltb-true class.params 100 n4.0);
      clause = any_fits class.clause n5.1;
      init = omega (arith, ltb-true class.init 100 n3.1);
      super_sel = omega (arith, ltb-true class.super_sel.0 100 n3.0);
      slot_count = omega (arith, ltb-true (length class.slots) 100 c1.0);
      slots = all_by SlotFits slot_ok slot_fits class.slots p1.0;
      nested_count = omega (arith, ltb-true (length class.nested) 100 c1.1);
      nested = all_by NestedFits nested_ok nested_fits class.nested p1.1;
      method_count = omega (arith, ltb-true (length class.methods) 100 c2.0);
      methods = all_by MethodFits method_ok method_fits class.methods p2.0;
      side_method_count = omega (arith, ltb-true (length class.side_methods) 100 c2.1);
      side_methods = all_by MethodFits method_ok method_fits class.side_methods p2.1;
    }

classes_fit : All ClassFits program_classes
unfolding small name_ok slot_ok nested_ok method_ok small_if_any numbers_ok counts_ok parts_ok
classes_fit =
    All-cons ClassFits class_base (class_part ∷ class_sub ∷ class_other ∷ []) (class_fits class_base refl refl refl)
    (All-cons ClassFits class_part (class_sub ∷ class_other ∷ []) (class_fits class_part refl refl refl)
    (All-cons ClassFits class_sub (class_other ∷ []) (class_fits class_sub refl refl refl)
    (All-cons ClassFits class_other [] (class_fits class_other refl refl refl) (All-nil ClassFits))))

no_parent : ForSome (let none : Option ℕ = None in none) (λ k. k < 4294967295)
no_parent = λ k q. absurd (cc)

body_fits : (kind side class : ℕ) → kind ≤ 3 → side ≤ 1 → class < 100 → BodyFits program_code (body_of kind side class)
body_fits kind side class k s c = record {
  kind = k;
  side = s;
  class = omega (arith, c);
  parent = no_parent;
  params = omega arith;
  locals = omega arith;
  height = omega arith;
  instr_count = omega arith;
  instrs = All-nil InstrFits;
  name_count = refl;
  local_names = All-nil IsLocalName;
  place_count = omega arith;
  places = All-nil (PlaceFits program_code (body_of kind side class));
  places_in_order = λ i j d h l. absurd (omega (arith, l));
}

bodies_fit : (bodies : List (ℕ × ℕ × ℕ)) → list_all (λ b. nat_le b.0 3 && (nat_le b.1 1 && nat_lt b.2 100)) bodies ≡ true →
    All (BodyFits program_code) (map (λ b. body_of b.0 b.1 b.2) bodies)
bodies_fit [] e = All-nil (BodyFits program_code)
bodies_fit (b ∷ bodies) e =
    let p = both_of (nat_le b.0 3 && (nat_le b.1 1 && nat_lt b.2 100)) (list_all (λ (x : ℕ × ℕ × ℕ). nat_le x.0 3 && (nat_le x.1 1 && nat_lt x.2 100)) bodies) e in
    let q = both_of (nat_le b.0 3) (nat_le b.1 1 && nat_lt b.2 100) p.0 in
    let r = both_of (nat_le b.1 1) (nat_lt b.2 100) q.1 in
    All-cons (BodyFits program_code) (body_of b.0 b.1 b.2) (map (λ (x : ℕ × ℕ × ℕ). body_of x.0 x.1 x.2) bodies) (body_fits b.0 b.1 b.2 (leb-true b.0 3 q.0) (leb-true b.1 1 r.0) (ltb-true b.2 100 r.1)) (bodies_fit bodies p.1)

pub program_fits : Fits program_code
unfolding small name_ok differ_all
program_fits = record {
  file_count = omega arith;
  files = All-nil IsFileName;
  name_count = omega arith;
  names = all_by IsName name_ok name_fits program_names refl;
  names_differ = names_differ program_names refl;
  text_count = omega arith;
  texts = All-nil IsShort;
  class_count = omega arith;
  classes = classes_fit;
  body_count = omega arith;
  bodies = bodies_fit ((2, 0, 0) ∷ (0, 0, 0) ∷ (0, 0, 0) ∷ (0, 0, 0) ∷ (0, 0, 0) ∷ (0, 1, 0) ∷ (0, 1, 0) ∷ (2, 0, 1) ∷ (2, 0, 2) ∷ (0, 0, 2) ∷ (2, 0, 3) ∷ (1, 0, 0) ∷ []) refl;
}
