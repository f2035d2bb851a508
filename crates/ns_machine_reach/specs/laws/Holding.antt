-- What a value or a cell refers to lies in a set of cells, number by number, exactly where what it holds does.
use Rattle.std.proofs.Common.{◌≡◌, ℕ, zero, suc, List, [], ◌∷◌, ◌++◌, Option, Some, None, Bool, true, false, cond, refl, sym, ap, ◌∙◌, subst, arith}
use Rattle.std.specs.Prelude.{Contains, ◌==◌, ◌&&◌, is_none}
use Rattle.std.proofs.lemmas.Bool.{eqb-true, eq-eqb}
use Rattle.ns_world.specs.declared.value.Value.{Value}
use Rattle.ns_world.specs.declared.value.Value.TheVariants.{Nil, True, False, Int, Sym, Kernel, Ref}
use Rattle.ns_world.specs.declared.cell.FacetKind.{FacetKind}
use Rattle.ns_world.specs.declared.cell.FacetKind.TheVariants.{Manifest, Platform, Console, Mirrors, Kernel as KernelFacet, Board}
use Rattle.ns_world.specs.Cell.{Cell, ObjectCell, ClassCell, BlockCell, EnvironmentCell, ArrayCell, TextCell, FacetCell, MirrorCell, MessageCell}
use Rattle.ns_world.specs.Heap.{Heap, heap_size, no_class}
use Rattle.ns_world.specs.Seek.{first_such, earlier_or, is_facet, is_top, is_nil}
use Rattle.ns_world.specs.Reach.{held, referred, all_referred, class_held, facets_of, tops_of, listed}
use Rattle.ns_machine_reach.specs.Within.{IsGranted, In, AllIn, NumberIn, CellIn}

-- ---- lists of numbers

module _ (Has : ℕ → Type 0) where
  abbrev pub AllHave : List ℕ → Type 0
  AllHave [] = Unit {0}
  AllHave (n ∷ ns) = Has n × AllHave ns

  pub has_each : (ns : List ℕ) (n : ℕ) → AllHave ns → Contains ns n → Has n
  has_each [] n all (k, inside, is) = absurd (omega (arith, inside))
  has_each (m ∷ ns) n all (zero, inside, is) = subst Has is all.0
  has_each (m ∷ ns) n all (suc k, inside, is) = has_each ns n all.1 (k, omega (arith, inside), is)

  pub each_has : (ns : List ℕ) → ((n : ℕ) → Contains ns n → Has n) → AllHave ns
  each_has [] h = tt
  each_has (n ∷ ns) h = (h n (zero, omega arith, refl), each_has ns (λ m c. later m c))
    where
      later : (m : ℕ) → Contains ns m → Has m
      later m (k, inside, is) = h m (suc k, omega (arith, inside), is)

  pub left_have : (xs ys : List ℕ) → AllHave (xs ++ ys) → AllHave xs
  left_have [] ys all = tt
  left_have (x ∷ xs) ys all = (all.0, left_have xs ys all.1)

  pub right_have : (xs ys : List ℕ) → AllHave (xs ++ ys) → AllHave ys
  right_have [] ys all = all
  right_have (x ∷ xs) ys all = right_have xs ys all.1

  pub both_have : (xs ys : List ℕ) → AllHave xs → AllHave ys → AllHave (xs ++ ys)
  both_have [] ys one two = two
  both_have (x ∷ xs) ys one two = (one.0, both_have xs ys one.1 two)

  -- ---- values and the cells to which they refer

  pub in_from : (value : Value) → AllHave (referred value) → In Has value
  in_from (Ref at) all = all.0
  in_from Nil all = tt
  in_from True all = tt
  in_from False all = tt
  in_from (Int number) all = tt
  in_from (Sym sel) all = tt
  in_from (Kernel class) all = tt

  pub from_in : (value : Value) → In Has value → AllHave (referred value)
  from_in (Ref at) i = (i, tt)
  from_in Nil i = tt
  from_in True i = tt
  from_in False i = tt
  from_in (Int number) i = tt
  from_in (Sym sel) i = tt
  from_in (Kernel class) i = tt

  pub all_in_from : (values : List Value) → AllHave (all_referred values) → AllIn Has values
  all_in_from [] all = tt
  all_in_from (value ∷ values) all = (in_from value (left_have (referred value) (all_referred values) all), all_in_from values (right_have (referred value) (all_referred values) all))

  pub from_all_in : (values : List Value) → AllIn Has values → AllHave (all_referred values)
  from_all_in [] all = tt
  from_all_in (value ∷ values) all = both_have (referred value) (all_referred values) (from_in value all.0) (from_all_in values all.1)

  -- ---- what a cell holds

  class_from : (class : ℕ) → Has no_class → AllHave (class_held class) → Has class
  class_from class none all = by (class == no_class) refl all
    where
      by : (b : Bool) → (class == no_class) ≡ b → AllHave (cond b [] (class ∷ [])) → Has class
      by true e h = subst Has (sym (eqb-true class no_class e)) none
      by false e h = h.0

  from_class : (class : ℕ) → Has class → AllHave (class_held class)
  from_class class has = by (class == no_class)
    where
      by : (b : Bool) → AllHave (cond b [] (class ∷ []))
      by true = tt
      by false = (has, tt)

  number_from : (o : Option ℕ) → AllHave (listed o) → NumberIn Has o
  number_from None all = tt
  number_from (Some n) all = all.0

  from_number : (o : Option ℕ) → NumberIn Has o → AllHave (listed o)
  from_number None i = tt
  from_number (Some n) i = (i, tt)

  facet_from : (heap : Heap) (kind : FacetKind) → AllHave (facets_of heap) → IsGranted kind → NumberIn Has (first_such (is_facet kind) heap)
  facet_from heap kind all granted = by kind granted
    where
      first : FacetKind → List ℕ
      first kind = listed (first_such (is_facet kind) heap)

      one : AllHave (listed (first_such (is_facet Console) heap))
      one = left_have (listed (first_such (is_facet Console) heap)) _ all

      rest : AllHave (listed (first_such (is_facet Mirrors) heap) ++ (listed (first_such (is_facet KernelFacet) heap) ++ listed (first_such (is_facet Board) heap)))
      rest = right_have (listed (first_such (is_facet Console) heap)) _ all

      last : AllHave (listed (first_such (is_facet KernelFacet) heap) ++ listed (first_such (is_facet Board) heap))
      last = right_have (listed (first_such (is_facet Mirrors) heap)) _ rest

      by : (k : FacetKind) → IsGranted k → NumberIn Has (first_such (is_facet k) heap)
      by Manifest g = absurd g
      by Platform g = absurd g
      by Console g = number_from (first_such (is_facet Console) heap) one
      by Mirrors g = number_from (first_such (is_facet Mirrors) heap) (left_have (listed (first_such (is_facet Mirrors) heap)) _ rest)
      by KernelFacet g = number_from (first_such (is_facet KernelFacet) heap) (left_have (listed (first_such (is_facet KernelFacet) heap)) _ last)
      by Board g = number_from (first_such (is_facet Board) heap) (right_have (listed (first_such (is_facet KernelFacet) heap)) _ last)

  from_facets : (heap : Heap) → ((kind : FacetKind) → IsGranted kind → NumberIn Has (first_such (is_facet kind) heap)) → AllHave (facets_of heap)
  from_facets heap h =
      both_have (listed (first_such (is_facet Console) heap)) _ (from_number (first_such (is_facet Console) heap) (h Console tt))
      (both_have (listed (first_such (is_facet Mirrors) heap)) _ (from_number (first_such (is_facet Mirrors) heap) (h Mirrors tt))
      (both_have (listed (first_such (is_facet KernelFacet) heap)) _ (from_number (first_such (is_facet KernelFacet) heap) (h KernelFacet tt)) (from_number (first_such (is_facet Board) heap) (h Board tt))))

  earlier_in : (o later : Option ℕ) → NumberIn Has (earlier_or o later) → NumberIn Has o
  earlier_in None later i = tt
  earlier_in (Some n) later i = i

  without : (o : Option ℕ) → NumberIn Has o → NumberIn Has (earlier_or o None)
  without None i = tt
  without (Some n) i = i

  rest_have : (b : Bool) (n : ℕ) (ns : List ℕ) → AllHave (cond b (n ∷ ns) ns) → AllHave ns
  rest_have true n ns all = all.1
  rest_have false n ns all = all

  top_from : (heap : Heap) (decl : ℕ) → AllHave (tops_of heap) → NumberIn Has (first_such (is_top decl) heap)
  top_from [] decl all = tt
  top_from (ObjectCell class entries ∷ earlier) decl all = without (first_such (is_top decl) earlier) (top_from earlier decl all)
  top_from (BlockCell body env home receiver holder ∷ earlier) decl all = without (first_such (is_top decl) earlier) (top_from earlier decl all)
  top_from (EnvironmentCell parent locals ∷ earlier) decl all = without (first_such (is_top decl) earlier) (top_from earlier decl all)
  top_from (ArrayCell items ∷ earlier) decl all = without (first_such (is_top decl) earlier) (top_from earlier decl all)
  top_from (TextCell bytes ∷ earlier) decl all = without (first_such (is_top decl) earlier) (top_from earlier decl all)
  top_from (FacetCell kind ∷ earlier) decl all = without (first_such (is_top decl) earlier) (top_from earlier decl all)
  top_from (MirrorCell mirrored ∷ earlier) decl all = without (first_such (is_top decl) earlier) (top_from earlier decl all)
  top_from (MessageCell sel args ∷ earlier) decl all = without (first_such (is_top decl) earlier) (top_from earlier decl all)
  top_from (ClassCell other base encl holder over ∷ earlier) decl all =
      by (first_such (is_top decl) earlier) refl (decl == other) refl (is_nil encl) refl
      (top_from earlier decl (rest_have (is_nil encl && is_none (first_such (is_top other) earlier)) (heap_size earlier) (tops_of earlier) all))
    where
      first : (decl == other) ≡ true → is_nil encl ≡ true → first_such (is_top decl) earlier ≡ None → Has (heap_size earlier)
      first same nil none =
          let one : decl ≡ other = eqb-true decl other same in
          let gone : first_such (is_top other) earlier ≡ None = ap (λ d. first_such (is_top d) earlier) (sym one) ∙ none in
          let yes : (is_nil encl && is_none (first_such (is_top other) earlier)) ≡ true = rw nil (rw gone refl) in
          (subst (λ b. AllHave (cond b (heap_size earlier ∷ tops_of earlier) (tops_of earlier))) yes all).0

      by : (o : Option ℕ) → first_such (is_top decl) earlier ≡ o → (s : Bool) → (decl == other) ≡ s → (n : Bool) → is_nil encl ≡ n → NumberIn Has o → NumberIn Has (earlier_or o (cond (s && n) (Some (heap_size earlier)) None))
      by (Some k) e s se n ne i = i
      by None e true se true ne i = first se ne e
      by None e true se false ne i = tt
      by None e false se n ne i = tt

  from_tops : (heap : Heap) → ((decl : ℕ) → NumberIn Has (first_such (is_top decl) heap)) → AllHave (tops_of heap)
  from_tops [] h = tt
  from_tops (ObjectCell class entries ∷ earlier) h = from_tops earlier (λ decl. earlier_in (first_such (is_top decl) earlier) None (h decl))
  from_tops (BlockCell body env home receiver holder ∷ earlier) h = from_tops earlier (λ decl. earlier_in (first_such (is_top decl) earlier) None (h decl))
  from_tops (EnvironmentCell parent locals ∷ earlier) h = from_tops earlier (λ decl. earlier_in (first_such (is_top decl) earlier) None (h decl))
  from_tops (ArrayCell items ∷ earlier) h = from_tops earlier (λ decl. earlier_in (first_such (is_top decl) earlier) None (h decl))
  from_tops (TextCell bytes ∷ earlier) h = from_tops earlier (λ decl. earlier_in (first_such (is_top decl) earlier) None (h decl))
  from_tops (FacetCell kind ∷ earlier) h = from_tops earlier (λ decl. earlier_in (first_such (is_top decl) earlier) None (h decl))
  from_tops (MirrorCell mirrored ∷ earlier) h = from_tops earlier (λ decl. earlier_in (first_such (is_top decl) earlier) None (h decl))
  from_tops (MessageCell sel args ∷ earlier) h = from_tops earlier (λ decl. earlier_in (first_such (is_top decl) earlier) None (h decl))
  from_tops (ClassCell other base encl holder over ∷ earlier) h =
      by (is_nil encl) refl (first_such (is_top other) earlier) refl (from_tops earlier (λ decl. earlier_in (first_such (is_top decl) earlier) _ (h decl)))
    where
      first : is_nil encl ≡ true → first_such (is_top other) earlier ≡ None → Has (heap_size earlier)
      first nil none =
          let test : is_top other (ClassCell other base encl holder over) ≡ true = rw (eq-eqb other other refl) nil in
          let is : first_such (is_top other) (ClassCell other base encl holder over ∷ earlier) ≡ Some (heap_size earlier) = rw none (rw test refl) in
          subst (NumberIn Has) is (h other)

      by : (n : Bool) → is_nil encl ≡ n → (o : Option ℕ) → first_such (is_top other) earlier ≡ o → AllHave (tops_of earlier) → AllHave (cond (n && is_none o) (heap_size earlier ∷ tops_of earlier) (tops_of earlier))
      by true ne None e rest = (first ne e, rest)
      by true ne (Some k) e rest = rest
      by false ne o e rest = rest

  pub cell_from : (heap : Heap) (cell : Cell) → Has no_class → AllHave (held heap cell) → CellIn Has heap cell
  cell_from heap (ObjectCell class entries) none all = (class_from class none (left_have (class_held class) (all_referred entries) all), all_in_from entries (right_have (class_held class) (all_referred entries) all))
  cell_from heap (ClassCell decl base encl holder over) none all =
      let rest = right_have (referred encl) (referred holder ++ referred over) all in
      (in_from encl (left_have (referred encl) (referred holder ++ referred over) all), in_from holder (left_have (referred holder) (referred over) rest), in_from over (right_have (referred holder) (referred over) rest))
  cell_from heap (BlockCell body env home receiver holder) none all =
      let rest = right_have (referred env) (referred receiver ++ class_held holder) all in
      (in_from env (left_have (referred env) (referred receiver ++ class_held holder) all), in_from receiver (left_have (referred receiver) (class_held holder) rest), class_from holder none (right_have (referred receiver) (class_held holder) rest))
  cell_from heap (EnvironmentCell parent locals) none all = (in_from parent (left_have (referred parent) (all_referred locals) all), all_in_from locals (right_have (referred parent) (all_referred locals) all))
  cell_from heap (ArrayCell items) none all = all_in_from items all
  cell_from heap (TextCell bytes) none all = tt
  cell_from heap (FacetCell Manifest) none all = λ decl. top_from heap decl all
  cell_from heap (FacetCell Platform) none all = λ kind granted. facet_from heap kind all granted
  cell_from heap (FacetCell Console) none all = tt
  cell_from heap (FacetCell Mirrors) none all = tt
  cell_from heap (FacetCell KernelFacet) none all = tt
  cell_from heap (FacetCell Board) none all = tt
  cell_from heap (MirrorCell mirrored) none all = in_from mirrored all
  cell_from heap (MessageCell sel args) none all = in_from args all

  pub from_cell : (heap : Heap) (cell : Cell) → CellIn Has heap cell → AllHave (held heap cell)
  from_cell heap (ObjectCell class entries) h = both_have (class_held class) (all_referred entries) (from_class class h.0) (from_all_in entries h.1)
  from_cell heap (ClassCell decl base encl holder over) h = both_have (referred encl) (referred holder ++ referred over) (from_in encl h.0) (both_have (referred holder) (referred over) (from_in holder h.1) (from_in over h.2))
  from_cell heap (BlockCell body env home receiver holder) h = both_have (referred env) (referred receiver ++ class_held holder) (from_in env h.0) (both_have (referred receiver) (class_held holder) (from_in receiver h.1) (from_class holder h.2))
  from_cell heap (EnvironmentCell parent locals) h = both_have (referred parent) (all_referred locals) (from_in parent h.0) (from_all_in locals h.1)
  from_cell heap (ArrayCell items) h = from_all_in items h
  from_cell heap (TextCell bytes) h = tt
  from_cell heap (FacetCell Manifest) h = from_tops heap h
  from_cell heap (FacetCell Platform) h = from_facets heap h
  from_cell heap (FacetCell Console) h = tt
  from_cell heap (FacetCell Mirrors) h = tt
  from_cell heap (FacetCell KernelFacet) h = tt
  from_cell heap (FacetCell Board) h = tt
  from_cell heap (MirrorCell mirrored) h = from_in mirrored h
  from_cell heap (MessageCell sel args) h = from_in args h
