-- The class of a module refers to no other cell, and so it is alike in all idle states of one code.
use Rattle.std.proofs.Common.{◌≡◌, ℕ, zero, suc, ◌+◌, List, [], ◌∷◌, ◌++◌, length, drop, reverse, slice_get, Option, Some, None, Bool, true, false, cond, refl, sym, ap, ◌∙◌, subst, arith}
use Rattle.std.specs.Prelude.{Contains, IsSome, is_some, ◌==◌}
use Rattle.std.proofs.lemmas.Bool.{eqb-true, eq-eqb}
use Rattle.std.proofs.lemmas.List.{reverse-append, reverse-reverse, take-append-drop}
use Rattle.ns_base.specs.declared.selector.Sel.{Sel}
use Rattle.ns_code.specs.declared.program.CodeProgram.{CodeProgram}
use Rattle.ns_code.specs.declared.class.ClassCode.{ClassCode}
use Rattle.ns_facets.specs.declared.row.Grants.{Grants}
use Rattle.ns_world.specs.declared.value.Value.{Value}
use Rattle.ns_world.specs.declared.value.Value.TheVariants.{Nil, True, False, Int, Sym, Kernel, Ref}
use Rattle.ns_world.specs.declared.value.KClass.TheVariants.{Object}
use Rattle.ns_world.specs.declared.cell.FacetKind.{FacetKind}
use Rattle.ns_world.specs.declared.cell.FacetKind.TheVariants as facet
use Rattle.ns_world.specs.Cell.{Cell, ObjectCell, ClassCell, BlockCell, EnvironmentCell, ArrayCell, TextCell, FacetCell, MirrorCell, MessageCell}
use Rattle.ns_world.specs.Heap.{Heap, heap_size, find_cell}
use Rattle.ns_world.specs.Seek.{first_such, earlier_or, is_top, is_nil}
use Rattle.ns_world.specs.Reach.{IsInReach, IsRoot, IsHeld, held}
use Rattle.ns_world.specs.World.{World}
use Rattle.ns_world.specs.Lawful.{HasEnclosing, ClassIsLawful, IsLawful}
use Rattle.ns_world.specs.Alike.{Renaming}
use Rattle.ns_world.specs.laws.Changing.{found_new}
use Rattle.ns_world.specs.laws.Chains.{both_of}
use Rattle.ns_moves.specs.Start.{facet_if, facets_of, top_if, tops_of, standing_cells}
use Rattle.ns_moves.specs.Control.{Progress}
use Rattle.ns_moves.specs.Sends.{site_at}
use Rattle.ns_moves.specs.State.{Sending, Hosted, State, Pends, is_idle, progress_of, world_of}
use Rattle.ns_moves.specs.Move.{moves}
use Rattle.ns_moves.specs.Starts.{begun}
use Rattle.ns_moves.specs.Valid.{BeginsWith}
use Rattle.ns_machine_alike.specs.Isolated.{StatesAlike, SendsAreAlike}
use Rattle.ns_machine_alike.specs.Premises.{ArePlain}
use Rattle.ns_machine_alike.specs.Modules.{BudgetsAlike, ModulesAreAlike, ModulesComeToTheSame, TouchesOnly, ModulesTouchNothing}
use Rattle.ns_machine_alike.proofs.Keeping.{found_more}
use Rattle.ns_machine_alike.proofs.Starting.{idle_world}
use Rattle.ns_machine_alike.proofs.Premises.{plain_referred, plain_alike}
use Rattle.ns_machine_reach.specs.Reached.{LacksFacet, roots_of, StaysInReach, SendsStayInReach}

-- ---- cells of a list

abbrev Each : (Cell → Type 0) → List Cell → Type 0
Each P [] = Unit {0}
Each P (cell ∷ cells) = P cell × Each P cells

each_append : (P : Cell → Type 0) (xs ys : List Cell) → Each P xs → Each P ys → Each P (xs ++ ys)
each_append P [] ys one two = two
each_append P (x ∷ xs) ys one two = (one.0, each_append P xs ys one.1 two)

each_right : (P : Cell → Type 0) (xs ys : List Cell) → Each P (xs ++ ys) → Each P ys
each_right P [] ys all = all
each_right P (x ∷ xs) ys all = each_right P xs ys all.1

each_reverse : (P : Cell → Type 0) (xs : List Cell) → Each P xs → Each P (reverse xs)
each_reverse P [] all = tt
each_reverse P (x ∷ xs) all =
    subst (Each P) (sym (reverse-append (x ∷ []) xs)) (each_append P (reverse xs) (x ∷ []) (each_reverse P xs all.1) (all.0, tt))

each_found : (P : Cell → Type 0) (heap : Heap) (n : ℕ) (cell : Cell) → Each P heap → find_cell heap n ≡ Some cell → P cell
each_found P [] n cell all e = absurd (cc (e))
each_found P (newest ∷ earlier) n cell all e = by (each_found P earlier n cell all.1) (n == heap_size earlier) e
  where
    by : (find_cell earlier n ≡ Some cell → P cell) → (b : Bool) → cond b (Some newest) (find_cell earlier n) ≡ Some cell → P cell
    by below true f = subst P (let is : newest ≡ cell = cc (f) in is) all.0
    by below false f = below f

-- ---- the first cell that passes a test

record Passes (test : Cell → Bool) (heap : Heap) (n : ℕ) : Type 0 where
  cell : Cell
  is : find_cell heap n ≡ Some cell
  passes : test cell ≡ true

first_passes : (test : Cell → Bool) (heap : Heap) (n : ℕ) → first_such test heap ≡ Some n → Passes test heap n
first_passes test [] n e = absurd (cc (e))
first_passes test (newest ∷ earlier) n e = by (first_passes test earlier n) (first_such test earlier) refl (test newest) refl e
  where
    by : (first_such test earlier ≡ Some n → Passes test earlier n) → (o : Option ℕ) → first_such test earlier ≡ o → (b : Bool) → test newest ≡ b → earlier_or o (cond b (Some (heap_size earlier)) None) ≡ Some n → Passes test (newest ∷ earlier) n
    by below (Some k) f b t g =
        let p = below (f ∙ g) in
        record { cell = p.cell; is = found_more earlier newest n p.cell p.is; passes = p.passes }
    by below None f true t g =
        let is : heap_size earlier ≡ n = cc (g) in
        record { cell = newest; is = subst (λ k. find_cell (newest ∷ earlier) k ≡ Some newest) is (found_new earlier newest); passes = t }
    by below None f false t g = absurd (cc (g))

none_passes : (test : Cell → Bool) (heap : Heap) → first_such test heap ≡ None → Each (λ cell. test cell ≡ false) heap
none_passes test [] e = tt
none_passes test (newest ∷ earlier) e = by (none_passes test earlier) (first_such test earlier) refl (test newest) refl e
  where
    by : (first_such test earlier ≡ None → Each (λ cell. test cell ≡ false) earlier) → (o : Option ℕ) → first_such test earlier ≡ o → (b : Bool) → test newest ≡ b → earlier_or o (cond b (Some (heap_size earlier)) None) ≡ None → (test newest ≡ false) × Each (λ cell. test cell ≡ false) earlier
    by below (Some k) f b t g = absurd (cc (g))
    by below None f true t g = absurd (cc (g))
    by below None f false t g = (t, below f)

older_first : (test : Cell → Bool) (newer older : Heap) (n : ℕ) → first_such test older ≡ Some n → first_such test (newer ++ older) ≡ Some n
older_first test [] older n e = e
older_first test (newest ∷ newer) older n e =
    ap (λ o. earlier_or o (cond (test newest) (Some (heap_size (newer ++ older))) None)) (older_first test newer older n e)

older_found : (newer older : Heap) (n : ℕ) (cell : Cell) → find_cell older n ≡ Some cell → find_cell (newer ++ older) n ≡ Some cell
older_found [] older n cell e = e
older_found (newest ∷ newer) older n cell e = found_more (newer ++ older) newest n cell (older_found newer older n cell e)

-- ---- top-level classes

-- the class of a top-level declaration
abbrev module_cell : ℕ → Cell
module_cell decl = ClassCell decl 0 Nil Nil (Kernel Object)

-- a class of that declaration with nil as its enclosing object is it
abbrev IsIt : ℕ → Cell → Type 0
IsIt decl cell = is_top decl cell ≡ true → cell ≡ module_cell decl

facets_if : (decl : ℕ) (b : Bool) (kind : FacetKind) → Each (IsIt decl) (facet_if b kind)
facets_if decl true kind = (λ e. absurd (cc (e)), tt)
facets_if decl false kind = tt

all_facets : (decl : ℕ) (grants : Grants) → Each (IsIt decl) (facets_of grants)
all_facets decl grants =
    let last = each_append (IsIt decl) (facet_if grants.kernel facet.Kernel) (facet_if grants.board facet.Board) (facets_if decl grants.kernel facet.Kernel) (facets_if decl grants.board facet.Board) in
    let rest = each_append (IsIt decl) (facet_if grants.mirrors facet.Mirrors) (facet_if grants.kernel facet.Kernel ++ facet_if grants.board facet.Board) (facets_if decl grants.mirrors facet.Mirrors) last in
    let granted = each_append (IsIt decl) (facet_if grants.console facet.Console) (facet_if grants.mirrors facet.Mirrors ++ (facet_if grants.kernel facet.Kernel ++ facet_if grants.board facet.Board)) (facets_if decl grants.console facet.Console) rest in
    (λ e. absurd (cc (e)), (λ e. absurd (cc (e)), granted))

top_of : (decl : ℕ) (outer : Option ℕ) (number : ℕ) → Each (IsIt decl) (top_if outer number)
top_of decl (Some outer) number = tt
top_of decl None number =
    (λ e. let same : decl ≡ number = eqb-true decl number (both_of (decl == number) true e).0 in subst (λ k. module_cell k ≡ module_cell decl) same refl, tt)

all_tops : (decl number : ℕ) (classes : List ClassCode) → Each (IsIt decl) (tops_of number classes)
all_tops decl number [] = tt
all_tops decl number (class ∷ classes) =
    each_append (IsIt decl) (top_if class.outer number) (tops_of (number + 1) classes) (top_of decl class.outer number) (all_tops decl (number + 1) classes)

-- each top-level declaration has one
tops_fail : (number : ℕ) (classes : List ClassCode) (k : ℕ) (class : ClassCode) → slice_get classes k ≡ Some class → class.outer ≡ None →
    Each (λ cell. is_top (number + k) cell ≡ false) (tops_of number classes) → ⊥
tops_fail number [] k class e top fails = absurd (cc (e))
tops_fail number (first ∷ classes) zero class e top fails =
    let is : first ≡ class = cc (e) in
    let none : first.outer ≡ None = ap (λ (c : ClassCode). c.outer) is ∙ top in
    let fail : is_top (number + 0) (module_cell number) ≡ false = (subst (λ o. Each (λ cell. is_top (number + 0) cell ≡ false) (top_if o number ++ tops_of (number + 1) classes)) none fails).0 in
    let same : ((number + 0) == number) ≡ true = eq-eqb (number + 0) number (omega arith) in
    let passes : is_top (number + 0) (module_cell number) ≡ true = rw same refl in
    absurd (cc)
tops_fail number (first ∷ classes) (suc k) class e top fails =
    let next : number + suc k ≡ (number + 1) + k = omega arith in
    tops_fail (number + 1) classes k class e top
    (subst (λ d. Each (λ cell. is_top d cell ≡ false) (tops_of (number + 1) classes)) next (each_right (λ cell. is_top (number + suc k) cell ≡ false) (top_if first.outer number) (tops_of (number + 1) classes) fails))

-- a lawful class with nil as its enclosing object is that of a top-level declaration
no_outer : (heap : Heap) (code : CodeProgram) (outer : Option ℕ) (holder : Value) → HasEnclosing heap code outer Nil holder → outer ≡ None
no_outer heap code None holder h = refl
no_outer heap code (Some outer) (Ref at) h = absurd h.0
no_outer heap code (Some outer) Nil h = absurd h
no_outer heap code (Some outer) True h = absurd h
no_outer heap code (Some outer) False h = absurd h
no_outer heap code (Some outer) (Int number) h = absurd h
no_outer heap code (Some outer) (Sym sel) h = absurd h
no_outer heap code (Some outer) (Kernel class) h = absurd h

-- its declaration, of the code
record IsTopLevel (code : CodeProgram) (decl : ℕ) : Type 0 where
  class : ClassCode
  is : slice_get code.classes decl ≡ Some class
  top : class.outer ≡ None

nil_only : (value : Value) → is_nil value ≡ true → value ≡ Nil
nil_only Nil e = refl
nil_only True e = absurd (cc (e))
nil_only False e = absurd (cc (e))
nil_only (Int number) e = absurd (cc (e))
nil_only (Sym sel) e = absurd (cc (e))
nil_only (Kernel class) e = absurd (cc (e))
nil_only (Ref at) e = absurd (cc (e))

top_level : (world : World) (code : CodeProgram) (decl number : ℕ) (cell : Cell) → IsLawful world code →
    find_cell world.cells number ≡ Some cell → is_top decl cell ≡ true → IsTopLevel code decl
top_level world code decl number (ClassCell other base encl holder over) lawful e t =
    let both = both_of (decl == other) (is_nil encl) t in
    let l : ClassIsLawful world.cells code number other base encl holder = lawful.cells number (ClassCell other base encl holder over) e in
    by (eqb-true decl other both.0) (nil_only encl both.1) (slice_get code.classes other) refl l
  where
    by : decl ≡ other → encl ≡ Nil → (o : Option ClassCode) → slice_get code.classes other ≡ o → ClassIsLawful world.cells code number other base encl holder → IsTopLevel code decl
    by same nil None q l = absurd (let s : is_some (slice_get code.classes other) ≡ true = l.declared in let n : is_some (slice_get code.classes other) ≡ false = ap is_some q in cc)
    by same nil (Some class) q l = record {
      class = class;
      is = ap (slice_get code.classes) same ∙ q;
      top = no_outer world.cells code class.outer holder (subst (λ v. HasEnclosing world.cells code class.outer v holder) nil (l.enclosing class q));
    }
top_level world code decl number (ObjectCell class entries) lawful e t = absurd (cc (t))
top_level world code decl number (BlockCell body env home receiver holder) lawful e t = absurd (cc (t))
top_level world code decl number (EnvironmentCell parent locals) lawful e t = absurd (cc (t))
top_level world code decl number (ArrayCell items) lawful e t = absurd (cc (t))
top_level world code decl number (TextCell bytes) lawful e t = absurd (cc (t))
top_level world code decl number (FacetCell kind) lawful e t = absurd (cc (t))
top_level world code decl number (MirrorCell mirrored) lawful e t = absurd (cc (t))
top_level world code decl number (MessageCell sel args) lawful e t = absurd (cc (t))

-- What Manifest holds for a declaration is the class that was made at the start.
module_is : (code : CodeProgram) (grants : Grants) (world : World) (decl number : ℕ) → IsLawful world code →
    BeginsWith (standing_cells code grants) world.cells → first_such (is_top decl) world.cells ≡ Some number
    → find_cell world.cells number ≡ Some (module_cell decl)
module_is code grants world decl number lawful begins e = by (first_such (is_top decl) (reverse standing)) refl
  where
    standing : List Cell
    standing = standing_cells code grants

    newer : List Cell
    newer = reverse (drop (length standing) (reverse world.cells))

    whole : world.cells ≡ newer ++ reverse standing
    whole =
        sym (reverse-reverse world.cells)
        ∙ (ap reverse (sym (take-append-drop (length standing) (reverse world.cells)) ∙ ap (λ cells. cells ++ drop (length standing) (reverse world.cells)) begins.start)
        ∙ reverse-append standing (drop (length standing) (reverse world.cells)))

    all : Each (IsIt decl) (reverse standing)
    all = each_reverse (IsIt decl) standing (each_append (IsIt decl) (facets_of grants) (tops_of 0 code.classes) (all_facets decl grants) (all_tops decl 0 code.classes))

    by : (o : Option ℕ) → first_such (is_top decl) (reverse standing) ≡ o → find_cell world.cells number ≡ Some (module_cell decl)
    by (Some k) f =
        let first : first_such (is_top decl) world.cells ≡ Some k = ap (first_such (is_top decl)) whole ∙ older_first (is_top decl) newer (reverse standing) k f in
        let same : k ≡ number = (let both : Some k ≡ Some number = sym first ∙ e in cc) in
        let p = first_passes (is_top decl) (reverse standing) k f in
        let is : p.cell ≡ module_cell decl = each_found (IsIt decl) (reverse standing) k p.cell all p.is p.passes in
        let found : find_cell world.cells k ≡ Some p.cell = ap (λ heap. find_cell heap k) whole ∙ older_found newer (reverse standing) k p.cell p.is in
        subst (λ n. find_cell world.cells n ≡ Some (module_cell decl)) same (found ∙ ap Some is)
    by None f =
        let p = first_passes (is_top decl) world.cells number e in
        let top = top_level world code decl number p.cell lawful p.is p.passes in
        let fails = none_passes (is_top decl) (reverse standing) f in
        let made = subst (Each (λ cell. is_top decl cell ≡ false)) (reverse-reverse standing) (each_reverse (λ cell. is_top decl cell ≡ false) (reverse standing) fails) in
        let from : 0 + decl ≡ decl = omega arith in
        absurd (tops_fail 0 code.classes decl top.class top.is top.top
        (subst (λ d. Each (λ cell. is_top d cell ≡ false) (tops_of 0 code.classes)) (sym from) (each_right (λ cell. is_top decl cell ≡ false) (facets_of grants) (tops_of 0 code.classes) made)))

-- ---- modules are alike

one_root : (n k : ℕ) → Contains (n ∷ []) k → k ≡ n
one_root n k (zero, inside, is) = sym is
one_root n k (suc i, inside, is) = absurd (omega (arith, inside))

one_pair : (pair : ℕ × ℕ) (other : ℕ × ℕ) → Contains (pair ∷ []) other → pair ≡ other
one_pair pair other (zero, inside, is) = is
one_pair pair other (suc i, inside, is) = absurd (omega (arith, inside))

no_element : (n k : ℕ) → Contains [] k → k ≡ n
no_element n k (i, inside, is) = absurd (omega (arith, inside))

-- a module reaches itself alone
alone : (heap : Heap) (n decl k : ℕ) → find_cell heap n ≡ Some (module_cell decl) → IsInReach heap (n ∷ []) k → k ≡ n
alone heap n decl k e (IsRoot number among some) = one_root n k among
alone heap n decl k e (IsHeld from number cell before is among some) =
    let same : from ≡ n = alone heap n decl from e before in
    let both : Some cell ≡ Some (module_cell decl) = sym is ∙ (ap (find_cell heap) same ∙ e) in
    let none : Contains [] k = subst (λ c. Contains (held heap c) k) (let one : cell ≡ module_cell decl = cc (both) in one) among in
    no_element n k none

module _ (decl n m : ℕ) (first second : State) (is : find_cell (world_of first).cells n ≡ Some (module_cell decl)) (is' : find_cell (world_of second).cells m ≡ Some (module_cell decl)) (left : BudgetsAlike (world_of first) (world_of second)) where
  abbrev pairs : Renaming
  pairs = (n, m) ∷ []

  root : IsInReach (world_of first).cells (n ∷ []) n
  root = IsRoot n (zero, omega arith, refl) (subst IsSome (sym is) refl)

  root' : IsInReach (world_of second).cells (m ∷ []) m
  root' = IsRoot m (zero, omega arith, refl) (subst IsSome (sym is') refl)

  modules_alike : StatesAlike pairs (Ref n ∷ []) (Ref m ∷ []) first second
  modules_alike = (
    record {
      once_first = λ i j p less inside. absurd (omega (arith, less, inside));
      once_second = λ i j p less inside. absurd (omega (arith, less, inside));
      onto = λ k r. let same : k ≡ n = alone (world_of first).cells n decl k is r in (m, (zero, omega arith, ap (λ j. (j, m)) (sym same)), root');
      back = λ k r. let same : k ≡ m = alone (world_of second).cells m decl k is' r in (n, (zero, omega arith, ap (λ j. (n, j)) (sym same)), root);
      cells = λ k j c r.
          let same = one_pair (n, m) (k, j) c in
          record {
            one = module_cell decl;
            two = module_cell decl;
            one_is = ap (λ (p : ℕ × ℕ). find_cell (world_of first).cells p.0) (sym same) ∙ is;
            two_is = ap (λ (p : ℕ × ℕ). find_cell (world_of second).cells p.1) (sym same) ∙ is';
            cells = (refl, (refl, (refl, (refl, tt))));
            holds = tt;
          };
      roots = ((zero, omega arith, refl), tt);
      steps = left.steps;
      room = left.room;
      depth = left.depth;
      out = left.out;
    },
    λ k r b.
        let same : k ≡ n = alone (world_of first).cells n decl k is r in
        let both : Some (module_cell decl) ≡ Some (FacetCell facet.Board) = sym is ∙ (ap (find_cell (world_of first).cells) (sym same) ∙ b) in
        absurd (cc (both)),
  )

pub modules_are : (code : CodeProgram) (grants grants' : Grants) → ModulesAreAlike code grants grants'
modules_are code grants grants' decl number other first second valid valid' idle idle' holds holds' left =
    let one = idle_world code grants first valid idle in
    let two = idle_world code grants' second valid' idle' in
    modules_alike decl number other first second (module_is code grants (world_of first) decl number one.world.lawful one.world.begins holds) (module_is code grants' (world_of second) decl other two.world.lawful two.world.begins holds') left

pub modules_come : (code : CodeProgram) (grants grants' : Grants) → SendsAreAlike code grants grants' →
    ModulesComeToTheSame code grants grants'
modules_come code grants grants' sends decl number other sel arguments count first second valid valid' may idle holds holds' left plain =
    let alike = modules_are code grants grants' decl number other first second valid valid' may.idle idle holds holds' left in
    sends ((number, other) ∷ []) (Ref number) (Ref other) sel arguments arguments count first second valid valid' may idle (plain_alike ((number, other) ∷ []) (Ref number) (Ref other) arguments first second plain alike)

-- ---- modules touch nothing else

-- what a send to a module names
begun_roots : (number : ℕ) (sel : Sel) (arguments : List Value) (idle : State) → is_idle idle ≡ true → ArePlain arguments →
    roots_of (begun (Ref number) sel arguments idle) ≡ number ∷ []
begun_roots number sel arguments idle e plain =
    let begins : begun (Ref number) sel arguments idle ≡ Pends Hosted (Sending (Ref number) sel arguments (site_at (world_of idle).cells None (Ref number) sel)) [] (progress_of idle) = rw e refl in
    ap roots_of begins ∙ ap (λ ns. number ∷ (ns ++ [])) (plain_referred arguments plain)

begun_progress : (number : ℕ) (sel : Sel) (arguments : List Value) (idle : State) → is_idle idle ≡ true →
    progress_of (begun (Ref number) sel arguments idle) ≡ progress_of idle
begun_progress number sel arguments idle e = rw e refl

-- a module's class alone has no facet
lacks : (kind : FacetKind) (heap : Heap) (n decl : ℕ) → find_cell heap n ≡ Some (module_cell decl) → LacksFacet kind heap (n ∷ [])
lacks kind heap n decl e k r f =
    let same : k ≡ n = alone heap n decl k e r in
    let both : Some (FacetCell kind) ≡ Some (module_cell decl) = sym f ∙ (ap (find_cell heap) same ∙ e) in
    cc (both)

touches : (number decl : ℕ) (idle start after : State) → progress_of start ≡ progress_of idle → roots_of start ≡ number ∷ [] →
    find_cell (world_of idle).cells number ≡ Some (module_cell decl) → StaysInReach start after → TouchesOnly number idle after
touches number decl idle start after same roots is stays =
    let world : world_of start ≡ world_of idle = ap (λ (p : Progress). p.world) same in
    let here : find_cell (world_of start).cells number ≡ Some (module_cell decl) = ap (λ (w : World). find_cell w.cells number) world ∙ is in
    record {
      cells = λ other cell apart e.
          stays.untouched other cell (λ r. apart (alone (world_of start).cells number decl other here (subst (λ ns. IsInReach (world_of start).cells ns other) roots r)))
          (ap (λ (w : World). find_cell w.cells other) world ∙ e);
      output = stays.silent (subst (LacksFacet facet.Console (world_of start).cells) (sym roots) (lacks facet.Console (world_of start).cells number decl here)) ∙ ap (λ (w : World). w.output) world;
      board = stays.board (subst (LacksFacet facet.Board (world_of start).cells) (sym roots) (lacks facet.Board (world_of start).cells number decl here)) ∙ ap (λ (p : Progress). p.board) same;
    }

pub modules_touch : (code : CodeProgram) (grants : Grants) → SendsStayInReach code grants → ModulesTouchNothing code grants
modules_touch code grants stays decl number sel arguments count idle valid may holds plain =
    let world = (idle_world code grants idle valid may.idle).world in
    touches number decl idle (begun (Ref number) sel arguments idle) (moves code count (begun (Ref number) sel arguments idle)) (begun_progress number sel arguments idle may.idle) (begun_roots number sel arguments idle may.idle plain)
    (module_is code grants (world_of idle) decl number world.lawful world.begins holds) (stays (Ref number) sel arguments count idle valid may)
