-- What holds of a value, a site, a class or a body in a lawful world passes the tests of plain data.
use Rattle.std.proofs.Common.{◌≡◌, ℕ, zero, suc, ◌<◌, ◌≤◌, List, [], ◌∷◌, length, refl, ap, sym, ◌∙◌, subst, arith, Option, Some, None, IsSome, Bool, true, false, cond, ◌&&◌}
use Rattle.std.proofs.lemmas.Bool.{and_parts, and_from, cond_both, eqb-false, eq-eqb, eqb-true, lt-ltb, ltb-true, le-leb}
use Rattle.std.proofs.lemmas.List.Elements.{All-head, All-tail, All-nil, All-cons}
use Rattle.std.proofs.lemmas.List.Folds.{list_any_at}
use Rattle.std.proofs.lemmas.Option.{slice_get_within, same_Some}
use Rattle.std.specs.Prelude.{slice_get, All, Contains, nat_lt, nat_le, ◌==◌}
use Rattle.std.specs.Option.{option_map_or, ForSome}
use Rattle.std.specs.List.{list_all, list_any}
use Rattle.ns_base.specs.declared.place.Place.{Place as SourcePlace}
use Rattle.ns_code.specs.declared.program.CodeProgram.{CodeProgram}
use Rattle.ns_code.specs.declared.class.ClassCode.{ClassCode}
use Rattle.ns_code.specs.declared.body.BodyCode.{BodyCode}
use Rattle.ns_code.specs.Selector.{is_selector_number}
use Rattle.ns_code.specs.Soundness.{instance_side, class_side}
use Rattle.ns_world.specs.declared.value.Value.{Value}
use Rattle.ns_world.specs.declared.value.Value.TheVariants.{Nil, True, False, Int, Sym, Kernel, Ref}
use Rattle.ns_world.specs.declared.value.KClass.TheVariants as kernel
use Rattle.ns_world.specs.Cell.{Cell, ObjectCell, ClassCell, BlockCell, EnvironmentCell, ArrayCell, TextCell, FacetCell, MirrorCell, MessageCell}
use Rattle.ns_world.specs.Heap.{Heap, find_cell, is_class, is_superclass, chain_of, chain_above}
use Rattle.ns_world.specs.World.{World}
use Rattle.ns_world.specs.Layout.{declaration_of}
use Rattle.ns_world.specs.Seek.{is_nil}
use Rattle.ns_world.specs.Starts.{is_receiver_cell}
use Rattle.ns_world.specs.Lawful.{IsLiveValue, class_of_object, HasHolder, FitsBody, environment_in, FitsEnvironment, IsLawful}
use Rattle.ns_world.specs.laws.Chains.{linked}
use Rattle.ns_world.specs.laws.Classes.{chain_starts}
use Rattle.ns_moves.specs.declared.site.Site.{Site}
use Rattle.ns_moves.specs.Fitting.{FitsSite, names_class}
use Rattle.ns_frozen.specs.Live.{is_live, are_live, is_link, are_links, has_chain, is_in_chain, is_object_of, has_holder, is_class_of, declares, fits_body, fits_environment}
use Rattle.ns_frozen.specs.Frames.{is_site}

-- ---- lists

-- what holds of each element passes the test that follows from it
pub all_told : {X : Type 0} (P : X → Type 0) (test : X → Bool) → ((x : X) → P x → test x ≡ true) → (xs : List X) → All P xs → list_all test xs ≡ true
all_told P test tells [] all = refl
all_told P test tells (x ∷ xs) all = and_from (test x) (list_all test xs) (tells x (All-head P x xs all)) (all_told P test tells xs (All-tail P x xs all))

-- and the other way
pub all_hold : {X : Type 0} (P : X → Type 0) (test : X → Bool) → ((x : X) → test x ≡ true → P x) → (xs : List X) → list_all test xs ≡ true → All P xs
all_hold P test holds [] e = All-nil P
all_hold P test holds (x ∷ xs) e =
    let parts = and_parts (test x) (list_all test xs) e in
    All-cons P x xs (holds x parts.0) (all_hold P test holds xs parts.1)

-- a number of a list is among them
pub any_told : (numbers : List ℕ) (number : ℕ) → Contains numbers number → list_any (λ other. other == number) numbers ≡ true
any_told numbers number c = list_any_at (λ other. other == number) numbers c.0 number c.1 (eq-eqb _ number c.2)

-- ---- values

-- a live value passes the test
pub live_told : (heap : Heap) (code : CodeProgram) (value : Value) → IsLiveValue heap code value → is_live code heap value ≡ true
live_told heap code (Ref at) l = l.1
live_told heap code (Sym sel) l = l.0
live_told heap code Nil l = refl
live_told heap code True l = refl
live_told heap code False l = refl
live_told heap code (Int number) l = refl
live_told heap code (Kernel class) l = refl

-- and the other way
pub live_holds : (heap : Heap) (code : CodeProgram) (value : Value) → is_live code heap value ≡ true → IsLiveValue heap code value
live_holds heap code (Ref at) e = (there (find_cell heap at) e, e)
  where
    there : (o : Option Cell) → is_receiver_cell o ≡ true → IsSome o
    there None e = absurd (cc)
    there (Some cell) e = refl
live_holds heap code (Sym sel) e = (e, refl)
live_holds heap code Nil e = (tt, refl)
live_holds heap code True e = (tt, refl)
live_holds heap code False e = (tt, refl)
live_holds heap code (Int number) e = (tt, refl)
live_holds heap code (Kernel class) e = (tt, refl)

pub lives_told : (heap : Heap) (code : CodeProgram) (values : List Value) → All (IsLiveValue heap code) values → are_live code heap values ≡ true
lives_told heap code values all = all_told (IsLiveValue heap code) (is_live code heap) (live_told heap code) values all

pub lives_hold : (heap : Heap) (code : CodeProgram) (values : List Value) → are_live code heap values ≡ true → All (IsLiveValue heap code) values
lives_hold heap code values e = all_hold (IsLiveValue heap code) (is_live code heap) (live_holds heap code) values e

-- ---- sites

-- a site of the code passes the test
pub site_told : (code : CodeProgram) (site : Site) → FitsSite code site → is_site code site ≡ true
site_told code site f =
    and_from (option_map_or (λ (place : SourcePlace). nat_lt place.file (length code.files)) site.place true) (names_class code site.class && is_selector_number code site.sel.0)
    (placed site.place f.place) (and_from (names_class code site.class) (is_selector_number code site.sel.0) f.class f.sel)
  where
    placed : (o : Option SourcePlace) → ForSome o (λ (place : SourcePlace). place.file < length code.files) → option_map_or (λ (place : SourcePlace). nat_lt place.file (length code.files)) o true ≡ true
    placed None f = refl
    placed (Some place) f = lt-ltb place.file (length code.files) (f place refl)

-- and the other way
pub site_holds : (code : CodeProgram) (site : Site) → is_site code site ≡ true → FitsSite code site
site_holds code site e =
    let first = and_parts (option_map_or (λ (place : SourcePlace). nat_lt place.file (length code.files)) site.place true) (names_class code site.class && is_selector_number code site.sel.0) e in
    let second = and_parts (names_class code site.class) (is_selector_number code site.sel.0) first.1 in
    record { place = placed site.place first.0; class = second.0; sel = second.1 }
  where
    placed : (o : Option SourcePlace) → option_map_or (λ (place : SourcePlace). nat_lt place.file (length code.files)) o true ≡ true → ForSome o (λ (place : SourcePlace). place.file < length code.files)
    placed None e place is = absurd (cc)
    placed (Some other) e place is =
        let same : other ≡ place = same_Some other place is in
        subst (λ (p : SourcePlace). p.file < length code.files) same (ltb-true other.file (length code.files) e)

-- ---- environments

-- an environment that fits passes the test
pub environment_told : (heap : Heap) (code : CodeProgram) (depth : ℕ) (body : Option ℕ) (env : Value) → FitsEnvironment depth heap code body env → fits_environment depth code heap body env ≡ true
environment_told heap code depth None env f = nil_told env f
  where
    nil_told : (value : Value) → value ≡ Nil → is_nil value ≡ true
    nil_told value e = ap is_nil e
environment_told heap code zero (Some body) env f = absurd f
environment_told heap code (suc depth) (Some body) (Ref at) f = found (λ parent env g. environment_told heap code depth parent env g) (environment_in (find_cell heap at)) f.1 (slice_get code.bodies body) f.2 f.0
  where
    found : ((parent : Option ℕ) (env : Value) → FitsEnvironment depth heap code parent env → fits_environment depth code heap parent env ≡ true) → (o : Option (Value × List Value)) → IsSome o → (p : Option BodyCode) → IsSome p
        → ForSome o (λ e. ForSome p (λ (b : BodyCode). (length e.1 ≡ b.locals) × FitsEnvironment depth heap code b.parent e.0))
        → option_map_or (λ (e : Value × List Value). option_map_or (λ (b : BodyCode). length e.1 == b.locals && fits_environment depth code heap b.parent e.0) p false) o false ≡ true
    found around None there p here f = absurd (cc)
    found around (Some e) there None here f = absurd (cc)
    found around (Some e) there (Some b) here f =
        let parts = f e refl b refl in
        and_from (length e.1 == b.locals) (fits_environment depth code heap b.parent e.0) (eq-eqb (length e.1) b.locals parts.0) (around b.parent e.0 parts.1)
environment_told heap code (suc depth) (Some body) Nil f = absurd f
environment_told heap code (suc depth) (Some body) True f = absurd f
environment_told heap code (suc depth) (Some body) False f = absurd f
environment_told heap code (suc depth) (Some body) (Int number) f = absurd f
environment_told heap code (suc depth) (Some body) (Sym sel) f = absurd f
environment_told heap code (suc depth) (Some body) (Kernel class) f = absurd f

-- ---- classes of a lawful world

-- A class has a cell.
pub record ClassAt (heap : Heap) (number : ℕ) : Type 0 where
  pub decl : ℕ
  pub base : ℕ
  pub encl : Value
  pub holder : Value
  pub over : Value
  pub is : find_cell heap number ≡ Some (ClassCell decl base encl holder over)

pub class_at : (heap : Heap) (number : ℕ) → is_class (find_cell heap number) ≡ true → ClassAt heap number
class_at heap number e = found (find_cell heap number) refl e
  where
    found : (o : Option Cell) → find_cell heap number ≡ o → is_class o ≡ true → ClassAt heap number
    found (Some (ClassCell decl base encl holder over)) is e = record { decl = decl; base = base; encl = encl; holder = holder; over = over; is = is }
    found None is e = absurd (cc)
    found (Some (ObjectCell class entries)) is e = absurd (cc)
    found (Some (BlockCell body env home receiver holder)) is e = absurd (cc)
    found (Some (EnvironmentCell parent locals)) is e = absurd (cc)
    found (Some (ArrayCell items)) is e = absurd (cc)
    found (Some (TextCell bytes)) is e = absurd (cc)
    found (Some (FacetCell kind)) is e = absurd (cc)
    found (Some (MirrorCell mirrored)) is e = absurd (cc)
    found (Some (MessageCell sel args)) is e = absurd (cc)

module _ (code : CodeProgram) (world : World) (lawful : IsLawful world code) where
  abbrev heap : Heap
  heap = world.cells

  -- a class of a chain has a declaration and a superclass
  links_told : (numbers : List ℕ) (class : ℕ) → chain_of heap class ≡ numbers → is_class (find_cell heap class) ≡ true → are_links code heap numbers ≡ true
  links_told [] class c e = refl
  links_told (first ∷ rest) class c e =
      let at = class_at heap class e in
      let link = linked heap class at.decl at.base at.encl at.holder at.over lawful.ordered at.is in
      let both : class ∷ chain_above at.over (chain_of heap) ≡ first ∷ rest = sym link.chain ∙ c in
      let first_is : class ≡ first = cc in
      let rest_is : chain_above at.over (chain_of heap) ≡ rest = cc in
      let declared : nat_lt at.decl (length code.classes) ≡ true = lt-ltb at.decl (length code.classes) (within at.decl ((lawful.cells class (ClassCell at.decl at.base at.encl at.holder at.over) at.is).declared)) in
      let here : find_cell heap first ≡ Some (ClassCell at.decl at.base at.encl at.holder at.over) = ap (find_cell heap) (sym first_is) ∙ at.is in
      ap (λ o. is_link code rest o && are_links code heap rest) here ∙ goes rest at.decl at.base at.encl at.holder at.over declared link.superclass rest_is (λ above b t. links_told rest above b t)
    where
      within : (decl : ℕ) → IsSome (slice_get code.classes decl) → decl < length code.classes
      within decl there = found (slice_get code.classes decl) refl there
        where
          found : (o : Option ClassCode) → slice_get code.classes decl ≡ o → IsSome o → decl < length code.classes
          found None is there = absurd (cc)
          found (Some class) is there = slice_get_within code.classes decl class is

      no_end : (above : ℕ) → is_class (find_cell heap above) ≡ true → chain_of heap above ≡ [] → ⊥
      no_end above s c =
          let at = class_at heap above s in
          let link = linked heap above at.decl at.base at.encl at.holder at.over lawful.ordered at.is in
          cc (link.chain, c)

      goes : (rest : List ℕ) (decl base : ℕ) (encl holder over : Value) → nat_lt decl (length code.classes) ≡ true → is_superclass heap over ≡ true → chain_above over (chain_of heap) ≡ rest → ((above : ℕ) → chain_of heap above ≡ rest → is_class (find_cell heap above) ≡ true → are_links code heap rest ≡ true)
          → (is_link code rest (Some (ClassCell decl base encl holder over)) && are_links code heap rest) ≡ true
      goes rest decl base encl holder Nil d s c more_are = absurd (cc)
      goes rest decl base encl holder True d s c more_are = absurd (cc)
      goes rest decl base encl holder False d s c more_are = absurd (cc)
      goes rest decl base encl holder (Int number) d s c more_are = absurd (cc)
      goes rest decl base encl holder (Sym sel) d s c more_are = absurd (cc)
      goes rest decl base encl holder (Kernel kernel.Array) d s c more_are = absurd (cc)
      goes rest decl base encl holder (Kernel kernel.Object) d s c more_are =
          subst (λ list. (is_link code list (Some (ClassCell decl base encl holder (Kernel kernel.Object))) && are_links code heap list) ≡ true) c
          (and_from (nat_lt decl (length code.classes) && true) true (and_from (nat_lt decl (length code.classes)) true d refl) refl)
      goes [] decl base encl holder (Ref above) d s c more_are = absurd (no_end above s c)
      goes (next ∷ more) decl base encl holder (Ref above) d s c more_are = and_from (nat_lt decl (length code.classes)) (are_links code heap (next ∷ more)) d (more_are above c s)

  -- a class passes the test of chains
  pub chain_told : (class : ℕ) → is_class (find_cell heap class) ≡ true → has_chain code heap class ≡ true
  chain_told class e =
      let at = class_at heap class e in
      let short : length (chain_of heap class) ≤ 256 = (lawful.cells class (ClassCell at.decl at.base at.encl at.holder at.over) at.is).short in
      and_from (is_class (find_cell heap class)) (nat_le (length (chain_of heap class)) 256 && are_links code heap (chain_of heap class)) e
      (and_from (nat_le (length (chain_of heap class)) 256) (are_links code heap (chain_of heap class)) (le-leb (length (chain_of heap class)) 256 short) (links_told (chain_of heap class) class refl e))

  -- a class in the chain of another
  pub in_chain_told : (class holder : ℕ) → Contains (chain_of heap class) holder → is_in_chain code heap class holder ≡ true
  in_chain_told class holder c =
      and_from (has_chain code heap class) (list_any (λ above. above == holder) (chain_of heap class)) (chain_told class (chain_starts heap class c.0 c.1)) (any_told (chain_of heap class) holder c)

  -- an object with a holder
  pub holder_told : (value : Value) (holder : ℕ) → HasHolder heap value holder → has_holder code heap holder value ≡ true
  holder_told (Ref at) holder h = found (find_cell heap at) h.0 h.1
    where
      found : (o : Option Cell) → ForSome (class_of_object o) (λ class. Contains (chain_of heap class) holder) → IsSome (class_of_object o) → is_object_of code heap holder o ≡ true
      found (Some (ObjectCell class entries)) has there = in_chain_told class holder (has class refl)
      found None has there = absurd (cc)
      found (Some (ClassCell decl base encl holder' over)) has there = absurd (cc)
      found (Some (BlockCell body env home receiver holder')) has there = absurd (cc)
      found (Some (EnvironmentCell parent locals)) has there = absurd (cc)
      found (Some (ArrayCell items)) has there = absurd (cc)
      found (Some (TextCell bytes)) has there = absurd (cc)
      found (Some (FacetCell kind)) has there = absurd (cc)
      found (Some (MirrorCell mirrored)) has there = absurd (cc)
      found (Some (MessageCell sel args)) has there = absurd (cc)
  holder_told Nil holder h = absurd h
  holder_told True holder h = absurd h
  holder_told False holder h = absurd h
  holder_told (Int number) holder h = absurd h
  holder_told (Sym sel) holder h = absurd h
  holder_told (Kernel class) holder h = absurd h

  -- a body that fits passes the test
  pub body_told : (body : BodyCode) (self : Value) (holder : ℕ) → body.side ≤ 1 → FitsBody heap code body self holder → fits_body code heap body self holder ≡ true
  body_told body (Ref self) holder side f =
      and_from (declares heap body.class holder) (cond (body.side == instance_side) (has_holder code heap holder (Ref self)) (is_class_of code heap holder (Ref self)))
      (and_from (is_class (find_cell heap holder)) (declaration_of heap holder == body.class) f.0 (eq-eqb (declaration_of heap holder) body.class f.1))
      (cond_both (body.side == instance_side) (has_holder code heap holder (Ref self)) (is_class_of code heap holder (Ref self)) (λ b. b ≡ true)
      (λ e. holder_told (Ref self) holder (f.2 (eqb-true body.side instance_side e)))
      (λ e.
      let c = f.3 (last e) in
      and_from (is_class (find_cell heap self)) (is_in_chain code heap self holder) c.0 (in_chain_told self holder c.1)))
    where
      last : (body.side == instance_side) ≡ false → body.side ≡ class_side
      last e = omega (arith, eqb-false body.side instance_side e, side)
  body_told body Nil holder side f = absurd f
  body_told body True holder side f = absurd f
  body_told body False holder side f = absurd f
  body_told body (Int number) holder side f = absurd f
  body_told body (Sym sel) holder side f = absurd f
  body_told body (Kernel class) holder side f = absurd f
