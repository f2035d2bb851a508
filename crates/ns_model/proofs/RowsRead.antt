-- The rows of the kernel read of a code its names and the records of its classes alone; `numArgs` also the heads of
-- bodies.
use Rattle.std.proofs.Common.{◌≡◌, ℕ, List, [], ◌∷◌, ◌++◌, length, refl, ap, ap₂}
use Rattle.std.specs.Prelude.{pos, codes, Bool, Option, Some, None, Ok}
use Rattle.ns_base.specs.declared.selector.Sel.{Sel}
use Rattle.ns_code.specs.declared.program.CodeProgram.{CodeProgram}
use Rattle.ns_code.specs.declared.body.BodyCode.{BodyCode}
use Rattle.ns_code.specs.Selector.{selector_text}
use Rattle.ns_world.specs.declared.value.Value.{Value}
use Rattle.ns_world.specs.declared.value.Value.TheVariants as value
use Rattle.ns_world.specs.declared.cell.NewCell.{NewCell}
use Rattle.ns_world.specs.declared.cell.NewCell.TheVariants as new
use Rattle.ns_world.specs.declared.kernel.ClassName.{ClassName}
use Rattle.ns_world.specs.declared.kernel.ClassName.TheVariants.{Declared, ClassOf, Kernel}
use Rattle.ns_world.specs.Cell.{ClassCell, ArrayCell, TextCell}
use Rattle.ns_world.specs.Heap.{Heap, chain_of, cell_number}
use Rattle.ns_world.specs.Starts.{class_name_of}
use Rattle.ns_world.specs.Layout.{declaration_of}
use Rattle.ns_world.specs.World.{World}
use Rattle.ns_world.specs.declared.kernel_parts.DataRow.{DataRow}
use Rattle.ns_world.specs.declared.kernel_parts.DataRow.TheVariants as data_row
use Rattle.ns_kdata.specs.Outcome.{Answers, making, unchanged}
use Rattle.ns_kdata.specs.Arguments.{argument, symbol_text, shape_of_value}
use Rattle.ns_world.specs.Booleans.{truth}
use Rattle.ns_kdata.specs.Texts.{is_before}
use Rattle.ns_kdata.specs.Rows.{symbol_less}
use Rattle.ns_world.specs.declared.kernel_parts.FacetRow.{FacetRow}
use Rattle.ns_world.specs.declared.kernel_parts.FacetRow.TheVariants as facet
use Rattle.ns_facets.specs.Console.{printing}
use Rattle.ns_world.specs.declared.kernel_parts.MirrorRow.{MirrorRow}
use Rattle.ns_world.specs.declared.kernel_parts.MirrorRow.TheVariants as mirror_row
use Rattle.ns_mirror.specs.declared.slots.Entry.{Entry}
use Rattle.ns_mirror.specs.declared.slots.SlotPlace.{SlotPlace}
use Rattle.ns_mirror.specs.Looking.{mirrored, object_class}
use Rattle.ns_mirror.specs.Naming.{class_text}
use Rattle.ns_mirror.specs.Slots.{declared_slots, slot_symbols, slot_names_along, entry_of, place_of, slot_or, slot_along, slot_of}
use Rattle.ns_mirror.specs.Slots.{read_slot, write_slot, slot, slot_put}
use Rattle.ns_mirror.specs.Selectors.{public_selectors, methods_of_shape}
use Rattle.ns_mirror.specs.Mirror.{reflected, perform, mirror}
use Rattle.ns_world.specs.declared.kernel_row.Row.{Row}
use Rattle.ns_world.specs.declared.kernel_row.Row.TheVariants as row
use Rattle.ns_moves.specs.declared.site.Site.{Site}
use Rattle.ns_classes.specs.Apply.{class_fault}
use Rattle.ns_moves.specs.Control.{Progress, Gives, Now, gives}
use Rattle.ns_moves.specs.Classes.{class_made, mixed}
use Rattle.ns_moves.specs.Bodies.{parameters_of}
use Rattle.ns_moves.specs.Blocks.{block_body_in}
use Rattle.ns_moves.specs.Kernel.{outcome_reached, reflected_reached, facet_reached, data_reached, row_reached}
use Rattle.ns_model.proofs.Lookups.{recoded, above_same, word_same}

module _ (code : CodeProgram) (texts : List (List ℕ)) (bodies : List BodyCode) where
  abbrev other : CodeProgram
  other = recoded code texts bodies

  -- ---- the data of values

  pub symbol_same : (symbol : Value) → symbol_text code symbol ≡ symbol_text other symbol
  symbol_same value.Nil = refl
  symbol_same value.True = refl
  symbol_same value.False = refl
  symbol_same (value.Int number) = refl
  symbol_same (value.Sym sel) = refl
  symbol_same (value.Kernel class) = refl
  symbol_same (value.Ref at) = refl

  less_same : (symbol argument : Value) → symbol_less code symbol argument ≡ symbol_less other symbol argument
  less_same symbol value.Nil = refl
  less_same symbol value.True = refl
  less_same symbol value.False = refl
  less_same symbol (value.Int number) = refl
  less_same symbol (value.Sym sel) = ap (λ text. Ok (truth (is_before text (selector_text code sel.0)))) (symbol_same symbol)
  less_same symbol (value.Kernel class) = refl
  less_same symbol (value.Ref at) = refl

  data_same : (about : DataRow) (receiver : Value) (arguments : List Value) (site : Site) (progress : Progress)
      → data_reached code about receiver arguments site progress ≡ data_reached other about receiver arguments site progress
  data_same data_row.Identical receiver arguments site progress = refl
  data_same data_row.Equal receiver arguments site progress = refl
  data_same data_row.IsNil receiver arguments site progress = refl
  data_same data_row.NotNil receiver arguments site progress = refl
  data_same data_row.KernelObject receiver arguments site progress = refl
  data_same data_row.DoesNotUnderstand receiver arguments site progress = refl
  data_same data_row.NewObject receiver arguments site progress = refl
  data_same data_row.NewArray receiver arguments site progress = refl
  data_same data_row.NilPrint receiver arguments site progress = refl
  data_same data_row.Not receiver arguments site progress = refl
  data_same data_row.BooleanPrint receiver arguments site progress = refl
  data_same data_row.And receiver arguments site progress = refl
  data_same data_row.Or receiver arguments site progress = refl
  data_same data_row.IntegerPrint receiver arguments site progress = refl
  data_same data_row.TextSize receiver arguments site progress = refl
  data_same data_row.TextAt receiver arguments site progress = refl
  data_same data_row.TextCopy receiver arguments site progress = refl
  data_same data_row.TextJoin receiver arguments site progress = refl
  data_same data_row.TextEqual receiver arguments site progress = refl
  data_same data_row.TextLess receiver arguments site progress = refl
  data_same data_row.TextPrint receiver arguments site progress = refl
  data_same data_row.SymbolSize receiver arguments site progress =
      ap (λ text. outcome_reached (Answers (value.Int (pos (length text))) progress.world) site progress) (symbol_same receiver)
  data_same data_row.SymbolText receiver arguments site progress =
      ap (λ text. outcome_reached (making progress.world (TextCell text)) site progress) (symbol_same receiver)
  data_same data_row.SymbolPrint receiver arguments site progress =
      ap (λ text. outcome_reached (making progress.world (TextCell (codes "#" ++ text))) site progress) (symbol_same receiver)
  data_same data_row.SymbolLess receiver arguments site progress =
      ap (λ result. outcome_reached (unchanged progress.world result) site progress) (less_same receiver (argument arguments 0))
  data_same data_row.ArraySize receiver arguments site progress = refl
  data_same data_row.ArrayAt receiver arguments site progress = refl
  data_same data_row.ArrayPut receiver arguments site progress = refl
  data_same data_row.MessageSelector receiver arguments site progress = refl
  data_same data_row.MessageArguments receiver arguments site progress = refl

  -- ---- facets

  printing_same : (world : World) (text : Value) (tail : List ℕ) → printing world code text tail ≡ printing world other text tail
  printing_same world value.Nil tail = refl
  printing_same world value.True tail = refl
  printing_same world value.False tail = refl
  printing_same world (value.Int number) tail = refl
  printing_same world (value.Sym sel) tail = refl
  printing_same world (value.Kernel class) tail = refl
  printing_same world (value.Ref at) tail = refl

  facet_same : (about : FacetRow) (arguments : List Value) (site : Site) (progress : Progress)
      → facet_reached code about arguments site progress ≡ facet_reached other about arguments site progress
  facet_same (facet.Top sel) arguments site progress = refl
  facet_same facet.PlatformConsole arguments site progress = refl
  facet_same facet.PlatformKernel arguments site progress = refl
  facet_same facet.PlatformMirrors arguments site progress = refl
  facet_same facet.PlatformBoard arguments site progress = refl
  facet_same facet.KernelObject arguments site progress = refl
  facet_same facet.KernelArray arguments site progress = refl
  facet_same facet.ConsolePrint arguments site progress =
      ap (λ outcome. outcome_reached outcome site progress) (printing_same progress.world (argument arguments 0) [])
  facet_same facet.ConsolePrintLine arguments site progress =
      ap (λ outcome. outcome_reached outcome site progress) (printing_same progress.world (argument arguments 0) (10 ∷ []))
  facet_same facet.BoardAt arguments site progress = refl
  facet_same facet.BoardPut arguments site progress = refl

  -- ---- mirrors

  pub class_same : (class : ClassName) → class_text code class ≡ class_text other class
  class_same (Declared decl) = refl
  class_same (ClassOf decl) = refl
  class_same (Kernel named) = refl

  names_same : (heap : Heap) (chain : List ℕ) → slot_names_along heap code chain ≡ slot_names_along heap other chain
  names_same heap [] = refl
  names_same heap (class ∷ chain) = ap (λ names. names ++ slot_symbols (declared_slots code (declaration_of heap class))) (names_same heap chain)

  -- the slot at a word
  abbrev at_word : Bool → ℕ → Option SlotPlace
  at_word mutable word = Some (record { word = word; mutable = mutable })

  place_same : (heap : Heap) (holder : ℕ) (o : Option Entry) → place_of heap code holder o ≡ place_of heap other holder o
  place_same heap holder None = refl
  place_same heap holder (Some entry) =
      ap (at_word entry.mutable) (word_same code texts bodies heap holder entry.number)

  along_same : (heap : Heap) (chain : List ℕ) (sel : Sel) → slot_along heap code chain sel ≡ slot_along heap other chain sel
  along_same heap [] sel = refl
  along_same heap (holder ∷ chain) sel =
      ap₂ slot_or (place_same heap holder (entry_of (declared_slots code (declaration_of heap holder)) sel 0)) (along_same heap chain sel)

  slot_same : (heap : Heap) (object : Value) (sel : Sel) → slot_of heap code object sel ≡ slot_of heap other object sel
  slot_same heap object sel = along_same heap (chain_of heap (object_class heap object)) sel

  read_same : (heap : Heap) (object name : Value) → slot heap code object name ≡ slot heap other object name
  read_same heap object value.Nil = refl
  read_same heap object value.True = refl
  read_same heap object value.False = refl
  read_same heap object (value.Int number) = refl
  read_same heap object (value.Sym sel) = ap (read_slot heap object) (slot_same heap object sel)
  read_same heap object (value.Kernel class) = refl
  read_same heap object (value.Ref at) = refl

  put_same : (world : World) (object name new : Value) → slot_put world code object name new ≡ slot_put world other object name new
  put_same world object value.Nil new = refl
  put_same world object value.True new = refl
  put_same world object value.False new = refl
  put_same world object (value.Int number) new = refl
  put_same world object (value.Sym sel) new = ap (write_slot world object new) (slot_same world.cells object sel)
  put_same world object (value.Kernel class) new = refl
  put_same world object (value.Ref at) new = refl

  methods_same : (heap : Heap) (cell : NewCell) → methods_of_shape heap code cell ≡ methods_of_shape heap other cell
  methods_same heap (new.Object class words) = refl
  methods_same heap (new.Class decl base encl holder over) = refl
  methods_same heap (new.Block body env home receiver holder) = refl
  methods_same heap (new.Environment parent locals) = refl
  methods_same heap (new.Array size) = refl
  methods_same heap (new.Text bytes) = refl
  methods_same heap (new.Facet kind) = refl
  methods_same heap (new.Mirror shown) = refl
  methods_same heap (new.Message sel args) = refl

  perform_same : (world : World) (object name list : Value) → perform world code object name list ≡ perform world other object name list
  perform_same world object value.Nil list = refl
  perform_same world object value.True list = refl
  perform_same world object value.False list = refl
  perform_same world object (value.Int number) list = refl
  perform_same world object (value.Sym sel) list = refl
  perform_same world object (value.Kernel class) list = refl
  perform_same world object (value.Ref at) list = refl

  mirror_same : (about : MirrorRow) (number : ℕ) (arguments : List Value) (site : Site) (progress : Progress)
      → reflected_reached (mirror progress.world code about number arguments) site progress
      ≡ reflected_reached (mirror progress.world other about number arguments) site progress
  mirror_same mirror_row.On number arguments site progress = refl
  mirror_same mirror_row.ClassName number arguments site progress =
      ap (λ text. reflected_reached (reflected (making progress.world (TextCell text))) site progress)
      (class_same (class_name_of progress.world.cells (mirrored progress.world.cells number)))
  mirror_same mirror_row.SlotNames number arguments site progress =
      ap (λ names. reflected_reached (reflected (making progress.world (ArrayCell names))) site progress)
      (names_same progress.world.cells (chain_of progress.world.cells (object_class progress.world.cells (mirrored progress.world.cells number))))
  mirror_same mirror_row.Slot number arguments site progress =
      ap (λ result. reflected_reached (reflected (unchanged progress.world result)) site progress)
      (read_same progress.world.cells (mirrored progress.world.cells number) (argument arguments 0))
  mirror_same mirror_row.SlotPut number arguments site progress =
      ap (λ outcome. reflected_reached (reflected outcome) site progress)
      (put_same progress.world (mirrored progress.world.cells number) (argument arguments 0) (argument arguments 1))
  mirror_same mirror_row.Selectors number arguments site progress =
      ap (λ methods. reflected_reached (reflected (making progress.world (ArrayCell (public_selectors methods)))) site progress)
      (methods_same progress.world.cells (shape_of_value progress.world.cells (mirrored progress.world.cells number)))
  mirror_same mirror_row.Enclosing number arguments site progress = refl
  mirror_same mirror_row.Perform number arguments site progress =
      ap (λ outcome. reflected_reached outcome site progress)
      (perform_same progress.world (mirrored progress.world.cells number) (argument arguments 0) (argument arguments 1))

  -- ---- all rows

  mixed_same : (mixin : NewCell) (over : Value) (site : Site) (progress : Progress) → mixed code mixin over site progress ≡ mixed other mixin over site progress
  mixed_same (new.Object class words) over site progress = refl
  mixed_same (new.Class decl base encl holder under) over site progress =
      ap (λ above. class_made (ClassCell decl above encl holder over) (class_fault progress.world.cells over) site progress (λ number next. Gives (value.Ref number) next))
      (above_same code texts bodies progress.world.cells over)
  mixed_same (new.Block body env home receiver holder) over site progress = refl
  mixed_same (new.Environment parent locals) over site progress = refl
  mixed_same (new.Array size) over site progress = refl
  mixed_same (new.Text bytes) over site progress = refl
  mixed_same (new.Facet kind) over site progress = refl
  mixed_same (new.Mirror shown) over site progress = refl
  mixed_same (new.Message sel args) over site progress = refl

  pub row_same : ((body : ℕ) → parameters_of code body ≡ parameters_of other body)
      → (about : Row) (sel : Sel) (receiver : Value) (arguments : List Value) (site : Site) (progress : Progress)
      → row_reached code about sel receiver arguments site progress ≡ row_reached other about sel receiver arguments site progress
  row_same params (row.Data about) sel receiver arguments site progress = data_same about receiver arguments site progress
  row_same params (row.Integer int) sel receiver arguments site progress = refl
  row_same params row.Top sel receiver arguments site progress = refl
  row_same params (row.Facet about) sel receiver arguments site progress = facet_same about arguments site progress
  row_same params (row.Mirror about) sel receiver arguments site progress = mirror_same about (cell_number receiver) arguments site progress
  row_same params (row.Method method) sel receiver arguments site progress = refl
  row_same params row.Apply sel receiver arguments site progress =
      ap Now (mixed_same (shape_of_value progress.world.cells receiver) (argument arguments 0) site progress)
  row_same params row.Value sel receiver arguments site progress = refl
  row_same params row.ValueWithArguments sel receiver arguments site progress = refl
  row_same params row.NumArgs sel receiver arguments site progress =
      ap (λ n. gives (value.Int (pos n)) progress) (params (block_body_in (shape_of_value progress.world.cells receiver)))
