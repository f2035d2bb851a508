-- What is read of cells in a set is in the set: shapes, words, chains, and what lookups find.
use Rattle.std.proofs.Common.{◌≡◌, ℕ, zero, suc, List, [], ◌∷◌, Option, Some, None, Bool, true, false, cond, refl, subst, arith}
use Rattle.std.specs.Prelude.{Contains, ◌==◌}
use Rattle.std.specs.Option.{option_map_or}
use Rattle.ns_code.specs.declared.program.CodeProgram.{CodeProgram}
use Rattle.ns_world.specs.declared.value.Value.{Value}
use Rattle.ns_world.specs.declared.value.Value.TheVariants.{Nil, True, False, Int, Sym, Kernel, Ref}
use Rattle.ns_world.specs.declared.cell.NewCell.{NewCell}
use Rattle.ns_world.specs.declared.cell.NewCell.TheVariants as new
use Rattle.ns_world.specs.declared.kernel.Start.TheVariants as start
use Rattle.ns_world.specs.declared.kernel_class.KernelRow.{KernelRow}
use Rattle.ns_world.specs.declared.kernel_class.KernelRow.TheVariants as row
use Rattle.ns_world.specs.Cell.{Cell, ObjectCell, ClassCell, BlockCell, EnvironmentCell, ArrayCell, TextCell, FacetCell, MirrorCell, MessageCell, cell_words, shape_of}
use Rattle.ns_world.specs.Heap.{Heap, heap_size, find_cell, chain_of, chain_at, chain_above, shape_at, words_at, word_at, superclass_in, superclass_of, declared_class, no_class}
use Rattle.ns_world.specs.Starts.{start_of, start_of_cell, facet_row, kernel_class_row}
use Rattle.ns_world.specs.laws.Changing.{found_old}
use Rattle.ns_world.specs.laws.Chains.{found_below}
use Rattle.ns_kdata.specs.Arguments.{items_of, array_items, argument, shape_of_value}
use Rattle.ns_find.specs.declared.found.Found.{Found}
use Rattle.ns_find.specs.declared.found.Found.TheVariants as found
use Rattle.ns_find.specs.declared.found.Sending.{Sending}
use Rattle.ns_find.specs.declared.found.Sending.TheVariants.{Inner}
use Rattle.ns_find.specs.declared.members.Side.{Side}
use Rattle.ns_find.specs.declared.members.Side.TheVariants.{Instance as InstanceSide, Class as ClassSide}
use Rattle.ns_find.specs.Find.{found_from, found_private, super_start}
use Rattle.ns_find.specs.Belonging.{Belongs, factories_at}
use Rattle.ns_find.specs.laws.Belonging.{instance_belongs, class_belongs, kernel_belongs, private_belongs}
use Rattle.ns_machine_reach.specs.Within.{In, AllIn, CellIn}
use Rattle.ns_machine_reach.proofs.Cells.{words_in, at_index}

module _ (Has : ℕ → Type 0) where
  -- Each cell in the set holds cells in it alone.
  abbrev pub Closed : Heap → Type 0
  Closed heap = (n : ℕ) (cell : Cell) → Has n → find_cell heap n ≡ Some cell → CellIn Has heap cell

  -- ---- shapes and words

  -- what the fixed parts of a cell hold
  abbrev pub ShapeIn : NewCell → Type 0
  ShapeIn (new.Object class words) = Has class
  ShapeIn (new.Class decl base encl holder over) = In Has encl × In Has holder × In Has over
  ShapeIn (new.Block body env home receiver holder) = In Has env × In Has receiver × Has holder
  ShapeIn (new.Environment parent locals) = In Has parent
  ShapeIn (new.Array size) = Unit {0}
  ShapeIn (new.Text bytes) = Unit {0}
  ShapeIn (new.Facet kind) = Unit {0}
  ShapeIn (new.Mirror mirrored) = In Has mirrored
  ShapeIn (new.Message sel args) = In Has args

  cell_shape : (heap : Heap) (cell : Cell) → CellIn Has heap cell → ShapeIn (shape_of cell)
  cell_shape heap (ObjectCell class entries) h = h.0
  cell_shape heap (ClassCell decl base encl holder over) h = h
  cell_shape heap (BlockCell body env home receiver holder) h = h
  cell_shape heap (EnvironmentCell parent locals) h = h.0
  cell_shape heap (ArrayCell items) h = tt
  cell_shape heap (TextCell bytes) h = tt
  cell_shape heap (FacetCell kind) h = tt
  cell_shape heap (MirrorCell mirrored) h = h
  cell_shape heap (MessageCell sel args) h = h

  pub shape_in : (heap : Heap) (at : ℕ) → Closed heap → Has at → ShapeIn (shape_at heap at)
  shape_in heap at closed has = by (find_cell heap at) refl
    where
      by : (o : Option Cell) → find_cell heap at ≡ o → ShapeIn (option_map_or shape_of o (new.Mirror Nil))
      by None e = tt
      by (Some cell) e = cell_shape heap cell (closed at cell has e)

  pub value_shape_in : (heap : Heap) (value : Value) → Closed heap → In Has value → ShapeIn (shape_of_value heap value)
  value_shape_in heap (Ref at) closed i = shape_in heap at closed i
  value_shape_in heap Nil closed i = tt
  value_shape_in heap True closed i = tt
  value_shape_in heap False closed i = tt
  value_shape_in heap (Int number) closed i = tt
  value_shape_in heap (Sym sel) closed i = tt
  value_shape_in heap (Kernel class) closed i = tt

  pub words_at_in : (heap : Heap) (at : ℕ) → Closed heap → Has at → AllIn Has (words_at heap at)
  words_at_in heap at closed has = by (find_cell heap at) refl
    where
      by : (o : Option Cell) → find_cell heap at ≡ o → AllIn Has (option_map_or cell_words o [])
      by None e = tt
      by (Some cell) e = words_in Has heap cell (closed at cell has e)

  pub word_at_in : (heap : Heap) (at word : ℕ) → Closed heap → Has at → In Has (word_at heap at word)
  word_at_in heap at word closed has = at_index Has (words_at heap at) word (words_at_in heap at closed has)

  pub items_in : (heap : Heap) (array : Value) → Closed heap → In Has array → AllIn Has (items_of heap array)
  items_in heap (Ref at) closed i = by (find_cell heap at) refl
    where
      array_in : (cell : Cell) → CellIn Has heap cell → AllIn Has (array_items (Some cell))
      array_in (ArrayCell items) h = h
      array_in (ObjectCell class entries) h = tt
      array_in (ClassCell decl base encl holder over) h = tt
      array_in (BlockCell body env home receiver holder) h = tt
      array_in (EnvironmentCell parent locals) h = tt
      array_in (TextCell bytes) h = tt
      array_in (FacetCell kind) h = tt
      array_in (MirrorCell mirrored) h = tt
      array_in (MessageCell sel args) h = tt

      by : (o : Option Cell) → find_cell heap at ≡ o → AllIn Has (array_items o)
      by None e = tt
      by (Some cell) e = array_in cell (closed at cell i e)
  items_in heap Nil closed i = tt
  items_in heap True closed i = tt
  items_in heap False closed i = tt
  items_in heap (Int number) closed i = tt
  items_in heap (Sym sel) closed i = tt
  items_in heap (Kernel class) closed i = tt

  pub argument_in : (arguments : List Value) (place : ℕ) → AllIn Has arguments → In Has (argument arguments place)
  argument_in arguments place h = at_index Has arguments place h

  -- ---- chains

  pub superclass_is_in : (heap : Heap) (holder : ℕ) → Closed heap → Has holder → In Has (superclass_in (find_cell heap holder))
  superclass_is_in heap holder closed has = by (find_cell heap holder) refl
    where
      over_in : (cell : Cell) → CellIn Has heap cell → In Has (superclass_in (Some cell))
      over_in (ClassCell decl base encl holder over) h = h.2
      over_in (ObjectCell class entries) h = tt
      over_in (BlockCell body env home receiver holder) h = tt
      over_in (EnvironmentCell parent locals) h = tt
      over_in (ArrayCell items) h = tt
      over_in (TextCell bytes) h = tt
      over_in (FacetCell kind) h = tt
      over_in (MirrorCell mirrored) h = tt
      over_in (MessageCell sel args) h = tt

      by : (o : Option Cell) → find_cell heap holder ≡ o → In Has (superclass_in o)
      by None e = tt
      by (Some cell) e = over_in cell (closed holder cell has e)

  declared_in : (over : Value) → Has no_class → In Has over → Has (declared_class over)
  declared_in (Ref class) none i = i
  declared_in Nil none i = none
  declared_in True none i = none
  declared_in False none i = none
  declared_in (Int number) none i = none
  declared_in (Sym sel) none i = none
  declared_in (Kernel class) none i = none

  pub superclass_of_in : (heap : Heap) (holder : ℕ) → Has no_class → Closed heap → Has holder → Has (superclass_of heap holder)
  superclass_of_in heap holder none closed has = declared_in (superclass_in (find_cell heap holder)) none (superclass_is_in heap holder closed has)

  -- superclasses of classes in the set are in it
  abbrev ChainClosed : Heap → Type 0
  ChainClosed heap = (n : ℕ) → Has n → In Has (superclass_in (find_cell heap n))

  abbrev AllHas : List ℕ → Type 0
  AllHas [] = Unit {0}
  AllHas (n ∷ ns) = Has n × AllHas ns

  earlier_closed : (cell : Cell) (earlier : Heap) → ChainClosed (cell ∷ earlier) → ChainClosed earlier
  earlier_closed cell earlier closed n has = by (find_cell earlier n) refl
    where
      by : (o : Option Cell) → find_cell earlier n ≡ o → In Has (superclass_in (find_cell earlier n))
      by None e = rw e tt
      by (Some other) e =
          let below = found_below earlier n other e in
          subst (λ o. In Has (superclass_in o)) (found_old earlier cell n (λ q. absurd (omega (arith, below, q)))) (closed n has)

  chain_has : (heap : Heap) (class : ℕ) → ChainClosed heap → Has class → AllHas (chain_of heap class)
  chain_has [] class closed has = tt
  chain_has (cell ∷ earlier) class closed has = by (λ other i. chain_has earlier other (earlier_closed cell earlier closed) i) (class == heap_size earlier) refl
    where
      above : ((other : ℕ) → Has other → AllHas (chain_of earlier other)) → (over : Value) → In Has over → AllHas (chain_above over (chain_of earlier))
      above go (Ref other) i = go other i
      above go Nil i = tt
      above go True i = tt
      above go False i = tt
      above go (Int number) i = tt
      above go (Sym sel) i = tt
      above go (Kernel kind) i = tt

      here : ((other : ℕ) → Has other → AllHas (chain_of earlier other)) → (one : Cell) → In Has (superclass_in (Some one)) → AllHas (chain_at one class (chain_of earlier))
      here go (ClassCell decl base encl holder over) i = (has, above go over i)
      here go (ObjectCell class' entries) i = tt
      here go (BlockCell body env home receiver holder) i = tt
      here go (EnvironmentCell parent locals) i = tt
      here go (ArrayCell items) i = tt
      here go (TextCell bytes) i = tt
      here go (FacetCell kind) i = tt
      here go (MirrorCell mirrored) i = tt
      here go (MessageCell sel args) i = tt

      by : ((other : ℕ) → Has other → AllHas (chain_of earlier other)) → (b : Bool) → (class == heap_size earlier) ≡ b → AllHas (cond b (chain_at cell class (chain_of earlier)) (chain_of earlier class))
      by go true t =
          let is : find_cell (cell ∷ earlier) class ≡ Some cell = rw t refl in
          here go cell (subst (λ o. In Has (superclass_in o)) is (closed class has))
      by go false t = go class has

  has_one : (ns : List ℕ) (n : ℕ) → AllHas ns → Contains ns n → Has n
  has_one [] n all (k, inside, is) = absurd (omega (arith, inside))
  has_one (m ∷ ns) n all (zero, inside, is) = subst Has is all.0
  has_one (m ∷ ns) n all (suc k, inside, is) = has_one ns n all.1 (k, omega (arith, inside), is)

  pub holder_in : (heap : Heap) (class holder : ℕ) → Closed heap → Has class → Contains (chain_of heap class) holder → Has holder
  holder_in heap class holder closed has among =
      has_one (chain_of heap class) holder (chain_has heap class (λ n h. superclass_is_in heap n closed h) has) among

  -- ---- what lookups find

  -- the cells that are named with what is found
  abbrev pub FoundIn : Found → Type 0
  FoundIn (found.Method body holder) = Has holder
  FoundIn (found.Getter holder word) = Unit {0}
  FoundIn (found.Setter holder word) = Unit {0}
  FoundIn (found.Nested class holder) = Has holder
  FoundIn (found.Factory class) = Has class
  FoundIn (found.Kernel number) = Unit {0}
  FoundIn found.NotPublic = Unit {0}
  FoundIn found.Absent = Unit {0}

  belongs_in : (heap : Heap) (code : CodeProgram) (side : Side) (chain factories : List ℕ) (f : Found) → ((n : ℕ) → Contains chain n → Has n) → ((n : ℕ) → Contains factories n → Has n) → Belongs heap code side chain factories f → FoundIn f
  belongs_in heap code side chain factories (found.Method body holder) chains facs b = chains holder b.0
  belongs_in heap code side chain factories (found.Getter holder word) chains facs b = tt
  belongs_in heap code side chain factories (found.Setter holder word) chains facs b = tt
  belongs_in heap code side chain factories (found.Nested class holder) chains facs b = chains holder b.1
  belongs_in heap code side chain factories (found.Factory class) chains facs b = facs class b
  belongs_in heap code side chain factories (found.Kernel number) chains facs b = tt
  belongs_in heap code side chain factories found.NotPublic chains facs b = tt
  belongs_in heap code side chain factories found.Absent chains facs b = tt

  nothing_in : (n : ℕ) → Contains [] n → Has n
  nothing_in n (k, inside, is) = absurd (omega (arith, inside))

  one_in : (at n : ℕ) → Has at → Contains (at ∷ []) n → Has n
  one_in at n has c = has_one (at ∷ []) n (has, tt) c

  from_instance : (heap : Heap) (code : CodeProgram) (class sel : ℕ) (kind : Sending) → Closed heap → Has class → FoundIn (found_from heap code (start.Instance class) sel kind)
  from_instance heap code class sel kind closed has =
      belongs_in heap code InstanceSide (chain_of heap class) [] (found_from heap code (start.Instance class) sel kind) (λ n c. holder_in heap class n closed has c) nothing_in (instance_belongs heap code class sel kind)

  from_side : (heap : Heap) (code : CodeProgram) (class : ℕ) (factory : Bool) (sel : ℕ) (kind : Sending) → Closed heap → Has class → FoundIn (found_from heap code (start.ClassSide class factory) sel kind)
  from_side heap code class factory sel kind closed has =
      belongs_in heap code ClassSide (chain_of heap class) (factories_at class factory) (found_from heap code (start.ClassSide class factory) sel kind) (λ n c. holder_in heap class n closed has c) (factories factory)
      (class_belongs heap code class factory sel kind)
    where
      factories : (b : Bool) (n : ℕ) → Contains (factories_at class b) n → Has n
      factories true n c = one_in class n has c
      factories false n c = nothing_in n c

  from_kernel : (heap : Heap) (code : CodeProgram) (named : KernelRow) (sel : ℕ) (kind : Sending) → FoundIn (found_from heap code (start.Kernel named) sel kind)
  from_kernel heap code named sel kind =
      belongs_in heap code InstanceSide [] [] (found_from heap code (start.Kernel named) sel kind) nothing_in nothing_in (kernel_belongs heap code InstanceSide named sel kind)

  -- what a send to a value, to super and to a private member finds
  pub found_value_in : (heap : Heap) (code : CodeProgram) (receiver : Value) (sel : ℕ) (kind : Sending) → Closed heap → In Has receiver → FoundIn (found_from heap code (start_of heap receiver) sel kind)
  found_value_in heap code (Ref at) sel kind closed i = by (shape_at heap at) (shape_in heap at closed i)
    where
      by : (shape : NewCell) → ShapeIn shape → FoundIn (found_from heap code (start_of_cell shape at) sel kind)
      by (new.Object class words) s = from_instance heap code class sel kind closed s
      by (new.Class decl base encl holder over) s = from_side heap code at true sel kind closed i
      by (new.Block body env home receiver holder) s = from_kernel heap code row.Block sel kind
      by (new.Environment parent locals) s = from_kernel heap code row.Object sel kind
      by (new.Array size) s = from_kernel heap code row.Array sel kind
      by (new.Text bytes) s = from_kernel heap code row.String sel kind
      by (new.Facet facet) s = from_kernel heap code (facet_row facet) sel kind
      by (new.Mirror mirrored) s = from_kernel heap code row.Mirror sel kind
      by (new.Message name args) s = from_kernel heap code row.Message sel kind
  found_value_in heap code Nil sel kind closed i = from_kernel heap code row.UndefinedObject sel kind
  found_value_in heap code True sel kind closed i = from_kernel heap code row.Boolean sel kind
  found_value_in heap code False sel kind closed i = from_kernel heap code row.Boolean sel kind
  found_value_in heap code (Int number) sel kind closed i = from_kernel heap code row.Integer sel kind
  found_value_in heap code (Sym name) sel kind closed i = from_kernel heap code row.Symbol sel kind
  found_value_in heap code (Kernel class) sel kind closed i = from_kernel heap code (kernel_class_row class) sel kind

  pub found_super_in : (heap : Heap) (code : CodeProgram) (holder : ℕ) (side : Side) (sel : ℕ) → Has no_class → Closed heap → Has holder → FoundIn (found_from heap code (super_start heap holder side) sel Inner)
  found_super_in heap code holder InstanceSide sel none closed has = from_instance heap code (superclass_of heap holder) sel Inner closed (superclass_of_in heap holder none closed has)
  found_super_in heap code holder ClassSide sel none closed has = from_side heap code (superclass_of heap holder) false sel Inner closed (superclass_of_in heap holder none closed has)

  pub found_private_in : (heap : Heap) (code : CodeProgram) (holder : ℕ) (side : Side) (sel : ℕ) → Has holder → FoundIn (found_private heap code holder side sel)
  found_private_in heap code holder side sel has =
      belongs_in heap code side (holder ∷ []) [] (found_private heap code holder side sel) (λ n c. one_in holder n has c) nothing_in (private_belongs heap code holder side sel)
