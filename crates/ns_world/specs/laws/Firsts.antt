-- The first cell of a kind stays where others are made or changed.
use Rattle.std.proofs.Common.{◌≡◌, ℕ, ◌+◌, ◌<◌, ◌≤◌, [], ◌∷◌, refl, ap, ◌∙◌, arith, Option, Some, None, IsSome, Bool, true, false, cond, eqb}
use Rattle.ns_world.specs.declared.value.Value.{Value}
use Rattle.ns_world.specs.declared.cell.FacetKind.{FacetKind}
use Rattle.ns_world.specs.Cell.{Cell, ObjectCell, ClassCell, BlockCell, EnvironmentCell, ArrayCell, TextCell, FacetCell, MirrorCell, MessageCell, cell_size, with_word, with_byte}
use Rattle.ns_world.specs.Heap.{Heap, heap_size, find_cell, set_cell, change_cell, write_word, write_byte}
use Rattle.ns_world.specs.declared.seek.Sought.{Sought}
use Rattle.ns_world.specs.declared.seek.Sought.TheVariants.{Facet, Top}
use Rattle.ns_world.specs.Seek.{first_such, earlier_or, is_facet, is_top, is_sought}
use Rattle.ns_world.specs.laws.Chains.{found_below, size_above}
use Rattle.ns_world.specs.laws.Changing.{ChangesPlainly, word_plainly, byte_plainly, set_size}

-- past the cells used there is none
pub found_past : (heap : Heap) (n : ℕ) → heap_size heap ≤ n → find_cell heap n ≡ None
found_past heap n h = found (find_cell heap n) refl
  where
    found : (o : Option Cell) → find_cell heap n ≡ o → find_cell heap n ≡ None
    found None e = e
    found (Some cell) e = absurd (omega (arith, found_below heap n cell e))

-- a cell that doesn't pass changes no first
pub first_without : (test : Cell → Bool) (heap : Heap) (cell : Cell) → test cell ≡ false →
    first_such test (cell ∷ heap) ≡ first_such test heap
first_without test heap cell e = rw e (or_none (first_such test heap))
  where
    or_none : (o : Option ℕ) → earlier_or o None ≡ o
    or_none None = refl
    or_none (Some n) = refl

-- nor does a cell behind the first
pub first_behind : (test : Cell → Bool) (heap : Heap) (cell : Cell) → IsSome (first_such test heap) →
    first_such test (cell ∷ heap) ≡ first_such test heap
first_behind test heap cell h = some (first_such test heap) h
  where
    some : (o : Option ℕ) → IsSome o → earlier_or o (cond (test cell) (Some (heap_size heap)) None) ≡ o
    some (Some n) h = refl
    some None h = absurd (cc)

first_set : (test : Cell → Bool) (heap : Heap) (at : ℕ) (old new : Cell) → find_cell heap at ≡ Some old → cell_size new ≡ cell_size old →
    test new ≡ test old → first_such test (set_cell heap at new) ≡ first_such test heap
first_set test [] at old new e s t = refl
first_set test (cell ∷ earlier) at old new e s t =
    tested (eqb at (heap_size earlier)) e (λ f. first_set test earlier at old new f s t) (λ f. set_size earlier at old new f s)
  where
    tested : (b : Bool) → cond b (Some cell) (find_cell earlier at) ≡ Some old → (find_cell earlier at ≡ Some old → first_such test (set_cell earlier at new) ≡ first_such test earlier) → (find_cell earlier at ≡ Some old → heap_size (set_cell earlier at new) ≡ heap_size earlier) → first_such test (cond b (new ∷ earlier) (cell ∷ set_cell earlier at new)) ≡ first_such test (cell ∷ earlier)
    tested true e below size =
        let is : test new ≡ test cell = t ∙ ap test (let q : old ≡ cell = cc in q) in
        ap (λ c. earlier_or (first_such test earlier) (cond c (Some (heap_size earlier)) None)) is
    tested false e below size =
        ap (λ o. earlier_or o (cond (test cell) (Some (heap_size (set_cell earlier at new))) None)) (below e)
        ∙ ap (λ n. earlier_or (first_such test earlier) (cond (test cell) (Some n) None)) (size e)

first_changed : (test : Cell → Bool) (heap : Heap) (at : ℕ) (change : Cell → Cell) → ChangesPlainly change →
    ((cell : Cell) → test (change cell) ≡ test cell) → first_such test (change_cell heap at change) ≡ first_such test heap
first_changed test heap at change plainly t = found (find_cell heap at) refl
  where
    found : (o : Option Cell) → find_cell heap at ≡ o → first_such test (change_cell heap at change) ≡ first_such test heap
    found None e = let is : change_cell heap at change ≡ heap = rw e refl in ap (first_such test) is
    found (Some cell) e =
        let is : change_cell heap at change ≡ set_cell heap at (change cell) = rw e refl in
        ap (first_such test) is ∙ first_set test heap at cell (change cell) e (plainly.size cell) (t cell)

facet_word : (kind : FacetKind) (word : ℕ) (value : Value) (cell : Cell) → is_facet kind (with_word cell word value) ≡ is_facet kind cell
facet_word kind word value (ObjectCell class entries) = refl
facet_word kind word value (ClassCell decl base encl holder over) = refl
facet_word kind word value (BlockCell body env home receiver holder) = refl
facet_word kind word value (EnvironmentCell parent locals) = refl
facet_word kind word value (ArrayCell items) = refl
facet_word kind word value (TextCell bytes) = refl
facet_word kind word value (FacetCell other) = refl
facet_word kind word value (MirrorCell mirrored) = refl
facet_word kind word value (MessageCell sel args) = refl

top_word : (decl word : ℕ) (value : Value) (cell : Cell) → is_top decl (with_word cell word value) ≡ is_top decl cell
top_word decl word value (ObjectCell class entries) = refl
top_word decl word value (ClassCell other base encl holder over) = refl
top_word decl word value (BlockCell body env home receiver holder) = refl
top_word decl word value (EnvironmentCell parent locals) = refl
top_word decl word value (ArrayCell items) = refl
top_word decl word value (TextCell bytes) = refl
top_word decl word value (FacetCell other) = refl
top_word decl word value (MirrorCell mirrored) = refl
top_word decl word value (MessageCell sel args) = refl

facet_byte : (kind : FacetKind) (place byte : ℕ) (cell : Cell) → is_facet kind (with_byte cell place byte) ≡ is_facet kind cell
facet_byte kind place byte (ObjectCell class entries) = refl
facet_byte kind place byte (ClassCell decl base encl holder over) = refl
facet_byte kind place byte (BlockCell body env home receiver holder) = refl
facet_byte kind place byte (EnvironmentCell parent locals) = refl
facet_byte kind place byte (ArrayCell items) = refl
facet_byte kind place byte (TextCell bytes) = refl
facet_byte kind place byte (FacetCell other) = refl
facet_byte kind place byte (MirrorCell mirrored) = refl
facet_byte kind place byte (MessageCell sel args) = refl

top_byte : (decl place byte : ℕ) (cell : Cell) → is_top decl (with_byte cell place byte) ≡ is_top decl cell
top_byte decl place byte (ObjectCell class entries) = refl
top_byte decl place byte (ClassCell other base encl holder over) = refl
top_byte decl place byte (BlockCell body env home receiver holder) = refl
top_byte decl place byte (EnvironmentCell parent locals) = refl
top_byte decl place byte (ArrayCell items) = refl
top_byte decl place byte (TextCell bytes) = refl
top_byte decl place byte (FacetCell other) = refl
top_byte decl place byte (MirrorCell mirrored) = refl
top_byte decl place byte (MessageCell sel args) = refl

-- a written word changes no first facet and no first class
pub facets_after_word : (heap : Heap) (at word : ℕ) (value : Value) (kind : FacetKind) →
    first_such (is_facet kind) (write_word heap at word value) ≡ first_such (is_facet kind) heap
facets_after_word heap at word value kind =
    first_changed (is_facet kind) heap at (λ cell. with_word cell word value) (word_plainly word value) (facet_word kind word value)

-- A word that is written changes no first class of a declaration.
pub tops_after_word : (heap : Heap) (at word : ℕ) (value : Value) (decl : ℕ) →
    first_such (is_top decl) (write_word heap at word value) ≡ first_such (is_top decl) heap
tops_after_word heap at word value decl =
    first_changed (is_top decl) heap at (λ cell. with_word cell word value) (word_plainly word value) (top_word decl word value)

-- nor does a written byte
pub facets_after_byte : (heap : Heap) (at place byte : ℕ) (kind : FacetKind) →
    first_such (is_facet kind) (write_byte heap at place byte) ≡ first_such (is_facet kind) heap
facets_after_byte heap at place byte kind =
    first_changed (is_facet kind) heap at (λ cell. with_byte cell place byte) (byte_plainly place byte) (facet_byte kind place byte)

-- A byte that is written changes no first class of a declaration.
pub tops_after_byte : (heap : Heap) (at place byte decl : ℕ) →
    first_such (is_top decl) (write_byte heap at place byte) ≡ first_such (is_top decl) heap
tops_after_byte heap at place byte decl =
    first_changed (is_top decl) heap at (λ cell. with_byte cell place byte) (byte_plainly place byte) (top_byte decl place byte)

-- what is looked for is the first after a written word that it was before, and after a written byte
pub sought_after_word : (heap : Heap) (at word : ℕ) (value : Value) (sought : Sought) →
    first_such (is_sought sought) (write_word heap at word value) ≡ first_such (is_sought sought) heap
sought_after_word heap at word value (Facet kind) = facets_after_word heap at word value kind
sought_after_word heap at word value (Top decl) = tops_after_word heap at word value decl

pub sought_after_byte : (heap : Heap) (at place byte : ℕ) (sought : Sought) →
    first_such (is_sought sought) (write_byte heap at place byte) ≡ first_such (is_sought sought) heap
sought_after_byte heap at place byte (Facet kind) = facets_after_byte heap at place byte kind
sought_after_byte heap at place byte (Top decl) = tops_after_byte heap at place byte decl

-- a first cell is one of those made
pub first_within : (test : Cell → Bool) (heap : Heap) (number : ℕ) → first_such test heap ≡ Some number → number < heap_size heap
first_within test [] number e = absurd (cc)
first_within test (cell ∷ earlier) number e = tested (first_such test earlier) refl (test cell) e (first_within test earlier number)
  where
    tested : (o : Option ℕ) → first_such test earlier ≡ o → (b : Bool) → earlier_or o (cond b (Some (heap_size earlier)) None) ≡ Some number → (first_such test earlier ≡ Some number → number < heap_size earlier) → number < heap_size earlier + cell_size cell
    tested (Some n) f b e below = omega (arith, below (f ∙ e))
    tested None f true e below = let is : heap_size earlier ≡ number = cc in omega (arith, is, size_above cell)
    tested None f false e below = absurd (cc)
