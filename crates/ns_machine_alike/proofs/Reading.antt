-- What is read of partners is paired: shapes, words, elements, bytes, superclasses, and the places of entries.
use Rattle.std.proofs.Common.{◌≡◌, ℕ, ◌+◌, List, [], ◌∷◌, length, Option, Some, None, false, refl, ap}
use Rattle.std.specs.Option.{option_map_or}
use Rattle.ns_code.specs.declared.program.CodeProgram.{CodeProgram}
use Rattle.ns_world.specs.declared.value.Value.{Value}
use Rattle.ns_world.specs.declared.value.Value.TheVariants.{Nil, True, False, Int, Sym, Kernel, Ref}
use Rattle.ns_world.specs.declared.cell.NewCell.{NewCell}
use Rattle.ns_world.specs.declared.cell.NewCell.TheVariants as new
use Rattle.ns_world.specs.declared.kernel.Start.{Start}
use Rattle.ns_world.specs.declared.kernel.Start.TheVariants as start
use Rattle.ns_world.specs.Cell.{Cell, ObjectCell, ClassCell, BlockCell, EnvironmentCell, ArrayCell, TextCell, FacetCell, MirrorCell, MessageCell, cell_words, cell_bytes, shape_of}
use Rattle.ns_world.specs.Heap.{Heap, find_cell, chain_of, shape_at, words_at, word_at, superclass_in, superclass_of, declared_class, is_class}
use Rattle.ns_world.specs.Starts.{declaration_in}
use Rattle.ns_world.specs.Layout.{declaration_of, entries_of, entries_along, layout_of, entries_above, entry_word}
use Rattle.ns_kdata.specs.Arguments.{items_of, array_items, shape_of_value, bytes_of}
use Rattle.ns_moves.specs.Suiting.{is_reference}
use Rattle.ns_moves.specs.Control.{Progress}
use Rattle.ns_machine_alike.specs.Paired.{IsPairing, HomePaired, Paired, Partners, Same, AllPaired, NumbersPaired, CellPaired, MaybeCellPaired, HeapPaired}
use Rattle.ns_machine_alike.proofs.Values.{words_paired, at_index, same_length}

module _ (Pair : ℕ → ℕ → Type 0) (first second : Progress) (pairing : IsPairing Pair first.world second.world) where
  -- ---- shapes and words

  -- what the fixed parts of two cells hold is paired
  abbrev pub ShapePaired : NewCell → NewCell → Type 0
  ShapePaired (new.Object class words) (new.Object class' words') = Pair class class' × (words ≡ words')
  ShapePaired (new.Class decl base encl holder over) (new.Class decl' base' encl' holder' over') = (decl ≡ decl') × Paired Pair encl encl' × Paired Pair holder holder' × Paired Pair over over'
  ShapePaired (new.Block body env home receiver holder) (new.Block body' env' home' receiver' holder') =
      (body ≡ body') × Paired Pair env env' × HomePaired first.begun second.begun home home' × Paired Pair receiver receiver' × Pair holder holder'
  ShapePaired (new.Environment parent locals) (new.Environment parent' locals') = Paired Pair parent parent' × (locals ≡ locals')
  ShapePaired (new.Array size) (new.Array size') = size ≡ size'
  ShapePaired (new.Text bytes) (new.Text bytes') = bytes ≡ bytes'
  ShapePaired (new.Facet kind) (new.Facet kind') = kind ≡ kind'
  ShapePaired (new.Mirror mirrored) (new.Mirror mirrored') = Paired Pair mirrored mirrored'
  ShapePaired (new.Message sel args) (new.Message sel' args') = (sel ≡ sel') × Paired Pair args args'
  ShapePaired shape other = ⊥

  module _ (heap other : Heap) (h : HeapPaired Pair first second heap other) where
    -- two lookups of cells as functions of what is found
    pub cells_so : {A B : Type 0} (P : A → B → Type 0) (of : Option Cell → A) (of' : Option Cell → B) (n m : ℕ) → Pair n m → P (of None) (of' None)
        → ((cell cell' : Cell) → CellPaired Pair first second heap other cell cell' → P (of (Some cell)) (of' (Some cell'))) → P (of (find_cell heap n)) (of' (find_cell other m))
    cells_so P of of' n m p none some = by (find_cell heap n) (find_cell other m) (h.cells n m p)
      where
        by : (o o' : Option Cell) → MaybeCellPaired Pair first second heap other o o' → P (of o) (of' o')
        by None None q = none
        by None (Some cell') q = absurd q
        by (Some cell) None q = absurd q
        by (Some cell) (Some cell') q = some cell cell' q

    cell_shape : (cell cell' : Cell) → CellPaired Pair first second heap other cell cell' → ShapePaired (shape_of cell) (shape_of cell')
    cell_shape (ObjectCell class entries) (ObjectCell class' entries') p = (p.0, same_length Pair entries entries' p.1)
    cell_shape (ClassCell decl base encl holder over) (ClassCell decl' base' encl' holder' over') p = p
    cell_shape (BlockCell body env home receiver holder) (BlockCell body' env' home' receiver' holder') p = p
    cell_shape (EnvironmentCell parent locals) (EnvironmentCell parent' locals') p = (p.0, same_length Pair locals locals' p.1)
    cell_shape (ArrayCell items) (ArrayCell items') p = same_length Pair items items' p
    cell_shape (TextCell bytes) (TextCell bytes') p = ap length p
    cell_shape (FacetCell kind) (FacetCell kind') p = p.0
    cell_shape (MirrorCell mirrored) (MirrorCell mirrored') p = p
    cell_shape (MessageCell sel args) (MessageCell sel' args') p = p
    cell_shape cell cell' p = absurd p

    pub shape_paired : (n m : ℕ) → Pair n m → ShapePaired (shape_at heap n) (shape_at other m)
    shape_paired n m p = cells_so ShapePaired (λ o. option_map_or shape_of o (new.Mirror Nil)) (λ o. option_map_or shape_of o (new.Mirror Nil)) n m p (Same Nil refl) cell_shape

    no_shape : (value : Value) → is_reference value ≡ false → ShapePaired (shape_of_value heap value) (shape_of_value other value)
    no_shape Nil e = Same Nil refl
    no_shape True e = Same Nil refl
    no_shape False e = Same Nil refl
    no_shape (Int number) e = Same Nil refl
    no_shape (Sym sel) e = Same Nil refl
    no_shape (Kernel class) e = Same Nil refl
    no_shape (Ref at) e = absurd (cc (e))

    pub value_shape_paired : (value value' : Value) → Paired Pair value value' → ShapePaired (shape_of_value heap value) (shape_of_value other value')
    value_shape_paired value value' (Partners n m p) = shape_paired n m p
    value_shape_paired value value' (Same same e) = no_shape same e

    pub words_at_paired : (n m : ℕ) → Pair n m → AllPaired Pair (words_at heap n) (words_at other m)
    words_at_paired n m p = cells_so (AllPaired Pair) (λ o. option_map_or cell_words o []) (λ o. option_map_or cell_words o []) n m p tt (λ cell cell' q. words_paired Pair first second heap other cell cell' q)

    pub word_at_paired : (n m word : ℕ) → Pair n m → Paired Pair (word_at heap n word) (word_at other m word)
    word_at_paired n m word p = at_index Pair (words_at heap n) (words_at other m) word (words_at_paired n m p)

    cell_items : (cell cell' : Cell) → CellPaired Pair first second heap other cell cell' → AllPaired Pair (array_items (Some cell)) (array_items (Some cell'))
    cell_items (ArrayCell items) (ArrayCell items') p = p
    cell_items (ObjectCell class entries) (ObjectCell class' entries') p = tt
    cell_items (ClassCell decl base encl holder over) (ClassCell decl' base' encl' holder' over') p = tt
    cell_items (BlockCell body env home receiver holder) (BlockCell body' env' home' receiver' holder') p = tt
    cell_items (EnvironmentCell parent locals) (EnvironmentCell parent' locals') p = tt
    cell_items (TextCell bytes) (TextCell bytes') p = tt
    cell_items (FacetCell kind) (FacetCell kind') p = tt
    cell_items (MirrorCell mirrored) (MirrorCell mirrored') p = tt
    cell_items (MessageCell sel args) (MessageCell sel' args') p = tt
    cell_items cell cell' p = absurd p

    no_items : (value : Value) → is_reference value ≡ false → AllPaired Pair (items_of heap value) (items_of other value)
    no_items Nil e = tt
    no_items True e = tt
    no_items False e = tt
    no_items (Int number) e = tt
    no_items (Sym sel) e = tt
    no_items (Kernel class) e = tt
    no_items (Ref at) e = absurd (cc (e))

    -- the elements of two arrays
    pub items_paired : (value value' : Value) → Paired Pair value value' → AllPaired Pair (items_of heap value) (items_of other value')
    items_paired value value' (Partners n m p) = cells_so (AllPaired Pair) array_items array_items n m p tt cell_items
    items_paired value value' (Same same e) = no_items same e

    cell_bytes_same : (cell cell' : Cell) → CellPaired Pair first second heap other cell cell' → cell_bytes cell ≡ cell_bytes cell'
    cell_bytes_same (TextCell bytes) (TextCell bytes') p = p
    cell_bytes_same (ArrayCell items) (ArrayCell items') p = refl
    cell_bytes_same (ObjectCell class entries) (ObjectCell class' entries') p = refl
    cell_bytes_same (ClassCell decl base encl holder over) (ClassCell decl' base' encl' holder' over') p = refl
    cell_bytes_same (BlockCell body env home receiver holder) (BlockCell body' env' home' receiver' holder') p = refl
    cell_bytes_same (EnvironmentCell parent locals) (EnvironmentCell parent' locals') p = refl
    cell_bytes_same (FacetCell kind) (FacetCell kind') p = refl
    cell_bytes_same (MirrorCell mirrored) (MirrorCell mirrored') p = refl
    cell_bytes_same (MessageCell sel args) (MessageCell sel' args') p = refl
    cell_bytes_same cell cell' p = absurd p

    no_bytes : (value : Value) → is_reference value ≡ false → bytes_of heap value ≡ bytes_of other value
    no_bytes Nil e = refl
    no_bytes True e = refl
    no_bytes False e = refl
    no_bytes (Int number) e = refl
    no_bytes (Sym sel) e = refl
    no_bytes (Kernel class) e = refl
    no_bytes (Ref at) e = absurd (cc (e))

    -- the bytes of two texts
    pub bytes_same : (value value' : Value) → Paired Pair value value' → bytes_of heap value ≡ bytes_of other value'
    bytes_same value value' (Partners n m p) = cells_so (λ b c. b ≡ c) (λ o. option_map_or cell_bytes o []) (λ o. option_map_or cell_bytes o []) n m p refl cell_bytes_same
    bytes_same value value' (Same same e) = no_bytes same e

    -- ---- classes

    cell_over : (cell cell' : Cell) → CellPaired Pair first second heap other cell cell' → Paired Pair (superclass_in (Some cell)) (superclass_in (Some cell'))
    cell_over (ClassCell decl base encl holder over) (ClassCell decl' base' encl' holder' over') p = p.3
    cell_over (ObjectCell class entries) (ObjectCell class' entries') p = Same Nil refl
    cell_over (BlockCell body env home receiver holder) (BlockCell body' env' home' receiver' holder') p = Same Nil refl
    cell_over (EnvironmentCell parent locals) (EnvironmentCell parent' locals') p = Same Nil refl
    cell_over (ArrayCell items) (ArrayCell items') p = Same Nil refl
    cell_over (TextCell bytes) (TextCell bytes') p = Same Nil refl
    cell_over (FacetCell kind) (FacetCell kind') p = Same Nil refl
    cell_over (MirrorCell mirrored) (MirrorCell mirrored') p = Same Nil refl
    cell_over (MessageCell sel args) (MessageCell sel' args') p = Same Nil refl
    cell_over cell cell' p = absurd p

    pub superclass_paired : (n m : ℕ) → Pair n m → Paired Pair (superclass_in (find_cell heap n)) (superclass_in (find_cell other m))
    superclass_paired n m p = cells_so (Paired Pair) superclass_in superclass_in n m p (Same Nil refl) cell_over

    declared_paired : (value value' : Value) → Paired Pair value value' → Pair (declared_class value) (declared_class value')
    declared_paired value value' (Partners n m p) = p
    declared_paired value value' (Same same e) = by same e
      where
        by : (v : Value) → is_reference v ≡ false → Pair (declared_class v) (declared_class v)
        by Nil e = pairing.none
        by True e = pairing.none
        by False e = pairing.none
        by (Int number) e = pairing.none
        by (Sym sel) e = pairing.none
        by (Kernel class) e = pairing.none
        by (Ref at) e = absurd (cc (e))

    pub superclass_of_paired : (n m : ℕ) → Pair n m → Pair (superclass_of heap n) (superclass_of other m)
    superclass_of_paired n m p = declared_paired (superclass_in (find_cell heap n)) (superclass_in (find_cell other m)) (superclass_paired n m p)

    cell_class : (cell cell' : Cell) → CellPaired Pair first second heap other cell cell' → is_class (Some cell) ≡ is_class (Some cell')
    cell_class (ClassCell decl base encl holder over) (ClassCell decl' base' encl' holder' over') p = refl
    cell_class (ObjectCell class entries) (ObjectCell class' entries') p = refl
    cell_class (BlockCell body env home receiver holder) (BlockCell body' env' home' receiver' holder') p = refl
    cell_class (EnvironmentCell parent locals) (EnvironmentCell parent' locals') p = refl
    cell_class (ArrayCell items) (ArrayCell items') p = refl
    cell_class (TextCell bytes) (TextCell bytes') p = refl
    cell_class (FacetCell kind) (FacetCell kind') p = refl
    cell_class (MirrorCell mirrored) (MirrorCell mirrored') p = refl
    cell_class (MessageCell sel args) (MessageCell sel' args') p = refl
    cell_class cell cell' p = absurd p

    pub same_class : (n m : ℕ) → Pair n m → is_class (find_cell heap n) ≡ is_class (find_cell other m)
    same_class n m p = cells_so (λ b c. b ≡ c) is_class is_class n m p refl cell_class

    shape_declaration : (shape shape' : NewCell) → ShapePaired shape shape' → declaration_in shape ≡ declaration_in shape'
    shape_declaration (new.Class decl base encl holder over) (new.Class decl' base' encl' holder' over') s = s.0
    shape_declaration (new.Object class words) (new.Object class' words') s = refl
    shape_declaration (new.Block body env home receiver holder) (new.Block body' env' home' receiver' holder') s = refl
    shape_declaration (new.Environment parent locals) (new.Environment parent' locals') s = refl
    shape_declaration (new.Array size) (new.Array size') s = refl
    shape_declaration (new.Text bytes) (new.Text bytes') s = refl
    shape_declaration (new.Facet kind) (new.Facet kind') s = refl
    shape_declaration (new.Mirror mirrored) (new.Mirror mirrored') s = refl
    shape_declaration (new.Message sel args) (new.Message sel' args') s = refl
    shape_declaration shape shape' s = absurd s

    pub same_declaration : (n m : ℕ) → Pair n m → declaration_of heap n ≡ declaration_of other m
    same_declaration n m p = shape_declaration (shape_at heap n) (shape_at other m) (shape_paired n m p)

    entries_same : (code : CodeProgram) (ns ms : List ℕ) → NumbersPaired Pair ns ms → entries_along heap code ns ≡ entries_along other code ms
    entries_same code [] [] p = refl
    entries_same code [] (m ∷ ms) p = absurd p
    entries_same code (n ∷ ns) [] p = absurd p
    entries_same code (n ∷ ns) (m ∷ ms) p = let one = ap (entries_of code) (same_declaration n m p.0) in let rest = entries_same code ns ms p.1 in cc

    pub same_layout : (code : CodeProgram) (n m : ℕ) → Pair n m → layout_of heap code n ≡ layout_of other code m
    same_layout code n m p = entries_same code (chain_of heap n) (chain_of other m) (h.chains n m p)

    pub same_entry : (code : CodeProgram) (n m entry : ℕ) → Pair n m → entry_word heap code n entry ≡ entry_word other code m entry
    same_entry code n m entry p = ap (λ k. k + entry) (same_layout code (superclass_of heap n) (superclass_of other m) (superclass_of_paired n m p))

    pub same_above : (code : CodeProgram) (over over' : Value) → Paired Pair over over' → entries_above heap code over ≡ entries_above other code over'
    same_above code over over' (Partners n m p) = same_layout code n m p
    same_above code over over' (Same same e) = by same e
      where
        by : (v : Value) → is_reference v ≡ false → entries_above heap code v ≡ entries_above other code v
        by Nil e = refl
        by True e = refl
        by False e = refl
        by (Int number) e = refl
        by (Sym sel) e = refl
        by (Kernel class) e = refl
        by (Ref at) e = absurd (cc (e))

    -- ---- where lookups start

    -- two lookups start at the same kernel class, or at partners
    abbrev pub StartPaired : Start → Start → Type 0
    StartPaired (start.Instance class) (start.Instance class') = Pair class class'
    StartPaired (start.ClassSide class factory) (start.ClassSide class' factory') = Pair class class' × (factory ≡ factory')
    StartPaired (start.Kernel named) (start.Kernel named') = named ≡ named'
    StartPaired one two = ⊥
