-- The rows of facets and of mirrors stay within a set of cells.
use Rattle.std.proofs.Common.{◌≡◌, ℕ, ◌+◌, List, [], ◌∷◌, ◌++◌, length, Option, Some, None, Bool, true, false, cond, refl, ap, ◌∙◌}
use Rattle.std.specs.Prelude.{Result, Ok, Err, ◌==◌, ◌&&◌, is_none, nat_le}
use Rattle.std.specs.List.{slice_index_or}
use Rattle.std.specs.Fmt.{signed_decimal}
use Rattle.ns_base.specs.declared.selector.Sel.{Sel}
use Rattle.ns_code.specs.declared.program.CodeProgram.{CodeProgram}
use Rattle.ns_code.specs.declared.class.ClassCode.{ClassCode}
use Rattle.ns_code.specs.declared.class.SlotCode.{SlotCode}
use Rattle.ns_code.specs.declared.class.MethodCode.{MethodCode}
use Rattle.ns_code.specs.Selector.{selector_text, selector_arity}
use Rattle.ns_world.specs.declared.value.Value.{Value}
use Rattle.ns_world.specs.declared.value.Value.TheVariants.{Nil, True, False, Int, Sym, Kernel, Ref}
use Rattle.ns_world.specs.declared.ending.Fault.{Fault}
use Rattle.ns_world.specs.declared.ending.Fault.TheVariants as fault
use Rattle.ns_world.specs.declared.ending.Kind.TheVariants as kind
use Rattle.ns_world.specs.declared.cell.NewCell.{NewCell}
use Rattle.ns_world.specs.declared.cell.NewCell.TheVariants as new
use Rattle.ns_world.specs.declared.cell.FacetKind.{FacetKind}
use Rattle.ns_world.specs.declared.cell.FacetKind.TheVariants as kinds
use Rattle.ns_world.specs.Cell.{Cell, ObjectCell, ClassCell, BlockCell, EnvironmentCell, ArrayCell, TextCell, FacetCell, MirrorCell, MessageCell}
use Rattle.ns_world.specs.Heap.{Heap, find_cell, chain_of, shape_at, no_class, cell_number, word_of_object}
use Rattle.ns_world.specs.Seek.{first_such, is_facet, is_top}
use Rattle.ns_world.specs.Starts.{class_name_of}
use Rattle.ns_kdata.specs.Outcome.{RowOutcome, Answers, Fails, making, unchanged, wrong_kind}
use Rattle.ns_kdata.specs.Arguments.{items_of, shape_of_value, is_text, is_array, bytes_of, place_in}
use Rattle.ns_world.specs.World.{stored}
use Rattle.ns_world.specs.Layout.{declaration_of}
use Rattle.ns_world.specs.declared.kernel_parts.FacetRow.{FacetRow}
use Rattle.ns_world.specs.declared.kernel_parts.FacetRow.TheVariants as facet
use Rattle.ns_facets.specs.declared.board.Board.{Board}
use Rattle.ns_facets.specs.declared.board.Plain.{Plain}
use Rattle.ns_facets.specs.declared.board.Plain.TheVariants as plain
use Rattle.ns_facets.specs.Facet as facets
use Rattle.ns_facets.specs.Board as boards
use Rattle.ns_facets.specs.Console as console
use Rattle.ns_facets.specs.Platform.{cell_value, top_class, granted}
use Rattle.ns_mirror.specs.declared.row.Mirrored.TheVariants.{Answer, Perform}
use Rattle.ns_world.specs.declared.kernel_parts.MirrorRow.{MirrorRow}
use Rattle.ns_world.specs.declared.kernel_parts.MirrorRow.TheVariants as mirrors
use Rattle.ns_mirror.specs.Mirror.{Reflected, Reflects, Refuses, reflected, performed, perform, row_outcome}
use Rattle.ns_mirror.specs.Looking as looking
use Rattle.ns_mirror.specs.declared.slots.SlotPlace.{SlotPlace}
use Rattle.ns_mirror.specs.Slots as slots
use Rattle.ns_mirror.specs.Selectors as selectors
use Rattle.ns_mirror.specs.Naming as naming
use Rattle.ns_moves.specs.Control.{Progress, in_world}
use Rattle.ns_moves.specs.Suiting.{facet_in, facet_at, facet_of_row, is_reference}
use Rattle.ns_machine_reach.specs.Within.{Lacks, HasLater, IsGranted, In, AllIn, NumberIn, Kept}
use Rattle.ns_machine_reach.proofs.Cells.{all_append}
use Rattle.ns_machine_reach.proofs.Reading.{Closed, ShapeIn, shape_in, value_shape_in, word_at_in}
use Rattle.ns_machine_reach.proofs.Rows.{OutcomeIn, AnswerIn, unchanged_in, making_in, stored_in}

module _ (Has : ℕ → Type 0) (first : Progress) where
  -- ---- which facet a receiver is

  -- A facet that a row has as its receiver is a cell of the set.
  pub record IsTheFacet (now : Progress) (kind : FacetKind) : Type 0 where
    pub at : ℕ
    pub has : Has at
    pub is : find_cell now.world.cells at ≡ Some (FacetCell kind)

  pub the_facet : (now : Progress) (receiver : Value) (kind : FacetKind) → In Has receiver → facet_at now.world.cells receiver ≡ Some kind → IsTheFacet now kind
  the_facet now (Ref at) kind i e = by (find_cell now.world.cells at) refl e
    where
      cell_is : (cell : Cell) → find_cell now.world.cells at ≡ Some cell → facet_in (Some cell) ≡ Some kind → IsTheFacet now kind
      cell_is (FacetCell other) f e = record { at = at; has = i; is = f ∙ ap (λ k. Some (FacetCell k)) (cc (e)) }
      cell_is (ObjectCell class entries) f e = absurd (cc (e))
      cell_is (ClassCell decl base encl holder over) f e = absurd (cc (e))
      cell_is (BlockCell body env home receiver holder) f e = absurd (cc (e))
      cell_is (EnvironmentCell parent locals) f e = absurd (cc (e))
      cell_is (ArrayCell items) f e = absurd (cc (e))
      cell_is (TextCell bytes) f e = absurd (cc (e))
      cell_is (MirrorCell mirrored) f e = absurd (cc (e))
      cell_is (MessageCell sel args) f e = absurd (cc (e))

      by : (o : Option Cell) → find_cell now.world.cells at ≡ o → facet_in o ≡ Some kind → IsTheFacet now kind
      by None f e = absurd (cc (e))
      by (Some cell) f e = cell_is cell f e
  the_facet now Nil kind i e = absurd (cc (e))
  the_facet now True kind i e = absurd (cc (e))
  the_facet now False kind i e = absurd (cc (e))
  the_facet now (Int number) kind i e = absurd (cc (e))
  the_facet now (Sym sel) kind i e = absurd (cc (e))
  the_facet now (Kernel class) kind i e = absurd (cc (e))

  -- it was there at first
  there_at_first : (now : Progress) (kind : FacetKind) → Kept Has first now → IsTheFacet now kind → Lacks Has kind first.world.cells → ⊥
  there_at_first now kind kept it lacks = lacks it.at it.has (kept.facets it.at kind it.is)

  value_of_number : (o : Option ℕ) → NumberIn Has o → In Has (cell_value o)
  value_of_number (Some at) i = i
  value_of_number None i = tt

  granted_in : (now : Progress) (kind : FacetKind) → Kept Has first now → IsTheFacet now kinds.Platform → IsGranted kind → In Has (granted now.world.cells kind)
  granted_in now kind kept it may = value_of_number (first_such (is_facet kind) now.world.cells) (kept.closed it.at (FacetCell kinds.Platform) it.has it.is kind may)

  top_in : (now : Progress) (number : ℕ) (classes : List ClassCode) (sel : Sel) → Kept Has first now → IsTheFacet now kinds.Manifest → In Has (top_class now.world.cells number classes sel)
  top_in now number [] sel kept it = tt
  top_in now number (class ∷ classes) sel kept it = by (sel.0 == class.name.0 && is_none class.outer) (top_in now (number + 1) classes sel kept it)
    where
      by : (b : Bool) → In Has (top_class now.world.cells (number + 1) classes sel) → In Has (cond b (cell_value (first_such (is_top number) now.world.cells)) (top_class now.world.cells (number + 1) classes sel))
      by true rest = value_of_number (first_such (is_top number) now.world.cells) (kept.closed it.at (FacetCell kinds.Manifest) it.has it.is number)
      by false rest = rest

  -- ---- what is printed

  bytes_printed : (now : Progress) (bytes : List ℕ) → Kept Has first now → IsTheFacet now kinds.Console → OutcomeIn Has first now (console.printed_bytes now.world bytes)
  bytes_printed now bytes kept it = by (nat_le (length now.world.output + length bytes) now.world.limits.out)
    where
      by : (b : Bool) → OutcomeIn Has first now (console.printed_as (cond b (Some (record now.world { output = now.world.output ++ bytes })) None))
      by true = (
        tt,
        record {
          size = kept.size;
          closed = kept.closed;
          outside = kept.outside;
          facets = kept.facets;
          manifest = kept.manifest;
          quiet = λ lacks. absurd (there_at_first now kinds.Console kept it lacks);
          board = kept.board;
        },
      )
      by false = tt

  text_printed : (now : Progress) (text : Value) (tail : List ℕ) → Kept Has first now → IsTheFacet now kinds.Console → OutcomeIn Has first now (console.printed_text now.world text tail)
  text_printed now text tail kept it = by (is_text now.world.cells text)
    where
      by : (b : Bool) → OutcomeIn Has first now (cond b (console.printed_bytes now.world (bytes_of now.world.cells text ++ tail)) (Fails wrong_kind))
      by true = bytes_printed now (bytes_of now.world.cells text ++ tail) kept it
      by false = tt

  printing_in : (code : CodeProgram) (now : Progress) (value : Value) (tail : List ℕ) → Kept Has first now → IsTheFacet now kinds.Console → OutcomeIn Has first now (console.printing now.world code value tail)
  printing_in code now (Int number) tail kept it = bytes_printed now (signed_decimal number ++ tail) kept it
  printing_in code now (Sym sel) tail kept it = bytes_printed now (selector_text code sel.0 ++ tail) kept it
  printing_in code now Nil tail kept it = text_printed now Nil tail kept it
  printing_in code now True tail kept it = text_printed now True tail kept it
  printing_in code now False tail kept it = text_printed now False tail kept it
  printing_in code now (Kernel class) tail kept it = text_printed now (Kernel class) tail kept it
  printing_in code now (Ref at) tail kept it = text_printed now (Ref at) tail kept it

  -- ---- the board

  plain_in : (value : Plain) → In Has (boards.value_of value)
  plain_in plain.Nil = tt
  plain_in plain.True = tt
  plain_in plain.False = tt
  plain_in (plain.Int number) = tt

  at_place_in : (places : List Plain) (place : Result ℕ Fault) → AnswerIn Has first (boards.value_at_place places place)
  at_place_in places (Ok place) = plain_in (slice_index_or places place plain.Nil)
  at_place_in places (Err fault) = tt

  put_answer_in : (place : Result ℕ Fault) (put : Result Plain Fault) (value : Value) → In Has value → AnswerIn Has first (boards.answer_of_put place put value)
  put_answer_in (Err fault) put value i = tt
  put_answer_in (Ok place) (Err fault) value i = tt
  put_answer_in (Ok place) (Ok held) value i = i

  board_kept : (now : Progress) (board : Board) → Kept Has first now → IsTheFacet now kinds.Board → Kept Has first (record now { board = board })
  board_kept now board kept it = record {
    size = kept.size;
    closed = kept.closed;
    outside = kept.outside;
    facets = kept.facets;
    manifest = kept.manifest;
    quiet = kept.quiet;
    board = λ lacks. absurd (there_at_first now kinds.Board kept it lacks);
  }

  -- what a row comes to, with the board after it
  abbrev pub WithBoard : Progress → Board → RowOutcome → Type 0
  WithBoard now board outcome = OutcomeIn Has first (record now { board = board }) outcome × Kept Has first (record now { board = board })

  -- ---- the rows of facets

  pub facet_row_in : (code : CodeProgram) (now : Progress) (about : FacetRow) (one two : Value) → Kept Has first now → In Has one → In Has two → IsTheFacet now (facet_of_row about)
      → WithBoard now (facets.row_board about one two now.board) (facets.row_outcome now.world code about one two now.board)
  facet_row_in code now (facet.Top sel) one two kept a b it = ((top_in now 0 code.classes sel kept it, kept), kept)
  facet_row_in code now facet.PlatformConsole one two kept a b it = ((granted_in now kinds.Console kept it tt, kept), kept)
  facet_row_in code now facet.PlatformKernel one two kept a b it = ((granted_in now kinds.Kernel kept it tt, kept), kept)
  facet_row_in code now facet.PlatformMirrors one two kept a b it = ((granted_in now kinds.Mirrors kept it tt, kept), kept)
  facet_row_in code now facet.PlatformBoard one two kept a b it = ((granted_in now kinds.Board kept it tt, kept), kept)
  facet_row_in code now facet.KernelObject one two kept a b it = ((tt, kept), kept)
  facet_row_in code now facet.KernelArray one two kept a b it = ((tt, kept), kept)
  facet_row_in code now facet.ConsolePrint one two kept a b it = (printing_in code now one [] kept it, kept)
  facet_row_in code now facet.ConsolePrintLine one two kept a b it = (printing_in code now one (10 ∷ []) kept it, kept)
  facet_row_in code now facet.BoardAt one two kept a b it =
      (unchanged_in Has first now (boards.board_at now.board one) kept (at_place_in now.board.places (place_in one 64)), kept)
  facet_row_in code now facet.BoardPut one two kept a b it =
      let after = board_kept now (boards.board_with now.board one two) kept it in
      (unchanged_in Has first (record now { board = boards.board_with now.board one two }) (boards.board_put one two) after (put_answer_in (place_in one 64) (boards.plain_of two) two b), after)

  -- ---- mirrors

  -- what a mirror's row comes to
  abbrev pub ReflectedIn : Progress → Reflected → Type 0
  ReflectedIn now (Reflects (Answer value) world) = In Has value × Kept Has first (in_world now world)
  ReflectedIn now (Reflects (Perform receiver sel array) world) = In Has receiver × Has array × Kept Has first (in_world now world)
  ReflectedIn now (Refuses fault) = Unit {0}

  outcome_reflected : (now : Progress) (outcome : RowOutcome) → OutcomeIn Has first now outcome → ReflectedIn now (reflected outcome)
  outcome_reflected now (Answers value world) o = o
  outcome_reflected now (Fails fault) o = tt

  symbols_in : (named : List SlotCode) → AllIn Has (slots.slot_symbols named)
  symbols_in [] = tt
  symbols_in (slot ∷ named) = (tt, symbols_in named)

  names_in : (heap : Heap) (code : CodeProgram) (chain : List ℕ) → AllIn Has (slots.slot_names_along heap code chain)
  names_in heap code [] = tt
  names_in heap code (class ∷ chain) = all_append Has (slots.slot_names_along heap code chain) (slots.slot_symbols (slots.declared_slots code (declaration_of heap class))) (names_in heap code chain) (symbols_in (slots.declared_slots code (declaration_of heap class)))

  public_in : (methods : List MethodCode) → AllIn Has (selectors.public_selectors methods)
  public_in [] = tt
  public_in (method ∷ methods) = by (method.access == 0) (public_in methods)
    where
      by : (b : Bool) → AllIn Has (selectors.public_selectors methods) → AllIn Has (cond b (Sym method.sel ∷ selectors.public_selectors methods) (selectors.public_selectors methods))
      by true rest = (tt, rest)
      by false rest = rest

  pub word_of_object_in : (heap : Heap) (value : Value) (word : ℕ) → Closed Has heap → In Has value → In Has (word_of_object heap value word)
  word_of_object_in heap (Ref at) word closed i = word_at_in Has heap at word closed i
  word_of_object_in heap Nil word closed i = tt
  word_of_object_in heap True word closed i = tt
  word_of_object_in heap False word closed i = tt
  word_of_object_in heap (Int number) word closed i = tt
  word_of_object_in heap (Sym sel) word closed i = tt
  word_of_object_in heap (Kernel class) word closed i = tt

  slot_read_in : (heap : Heap) (code : CodeProgram) (value name : Value) → Closed Has heap → In Has value → AnswerIn Has first (slots.slot heap code value name)
  slot_read_in heap code value (Sym sel) closed i = by (slots.slot_of heap code value sel)
    where
      by : (o : Option SlotPlace) → AnswerIn Has first (slots.read_slot heap value o)
      by None = tt
      by (Some place) = word_of_object_in heap value place.word closed i
  slot_read_in heap code value Nil closed i = tt
  slot_read_in heap code value True closed i = tt
  slot_read_in heap code value False closed i = tt
  slot_read_in heap code value (Int number) closed i = tt
  slot_read_in heap code value (Kernel class) closed i = tt
  slot_read_in heap code value (Ref at) closed i = tt

  slot_written_in : (code : CodeProgram) (now : Progress) (object name value : Value) → Kept Has first now → In Has object → In Has value → OutcomeIn Has first now (slots.slot_put now.world code object name value)
  slot_written_in code now object (Sym sel) value kept i v = by (slots.slot_of now.world.cells code object sel)
    where
      tested : (place : SlotPlace) (b : Bool) → OutcomeIn Has first now (cond b (Answers value (stored now.world object place.word value)) (Fails (fault.Kind kind.FixedSlot)))
      tested place true = (v, stored_in Has first now object place.word value kept i v)
      tested place false = tt

      by : (o : Option SlotPlace) → OutcomeIn Has first now (slots.write_slot now.world object value o)
      by None = tt
      by (Some place) = tested place place.mutable
  slot_written_in code now object Nil value kept i v = tt
  slot_written_in code now object True value kept i v = tt
  slot_written_in code now object False value kept i v = tt
  slot_written_in code now object (Int number) value kept i v = tt
  slot_written_in code now object (Kernel class) value kept i v = tt
  slot_written_in code now object (Ref at) value kept i v = tt

  enclosing_in_set : (shape : NewCell) → ShapeIn Has shape → In Has (looking.enclosing_in shape)
  enclosing_in_set (new.Class decl base encl holder over) s = s.0
  enclosing_in_set (new.Object class words) s = tt
  enclosing_in_set (new.Block body env home receiver holder) s = tt
  enclosing_in_set (new.Environment parent locals) s = tt
  enclosing_in_set (new.Array size) s = tt
  enclosing_in_set (new.Text bytes) s = tt
  enclosing_in_set (new.Facet kind) s = tt
  enclosing_in_set (new.Mirror mirrored) s = tt
  enclosing_in_set (new.Message sel args) s = tt

  class_enclosing_in : (heap : Heap) (class : ℕ) → Closed Has heap → Has class → In Has (looking.enclosing_of_class heap class)
  class_enclosing_in heap class closed has = by (class == no_class)
    where
      by : (b : Bool) → In Has (cond b Nil (looking.enclosing_in (shape_at heap class)))
      by true = tt
      by false = enclosing_in_set (shape_at heap class) (shape_in Has heap class closed has)

  around_in : (heap : Heap) (shape : NewCell) → Closed Has heap → ShapeIn Has shape → In Has (looking.enclosing_of_shape heap shape)
  around_in heap (new.Object class words) closed s = class_enclosing_in heap class closed s
  around_in heap (new.Class decl base encl holder over) closed s = s.0
  around_in heap (new.Block body env home receiver holder) closed s = tt
  around_in heap (new.Environment parent locals) closed s = tt
  around_in heap (new.Array size) closed s = tt
  around_in heap (new.Text bytes) closed s = tt
  around_in heap (new.Facet kind) closed s = tt
  around_in heap (new.Mirror mirrored) closed s = tt
  around_in heap (new.Message sel args) closed s = tt

  array_number_in : (heap : Heap) (args : Value) → is_array heap args ≡ true → In Has args → Has (cell_number args)
  array_number_in heap (Ref at) e i = i
  array_number_in heap Nil e i = absurd (cc (e))
  array_number_in heap True e i = absurd (cc (e))
  array_number_in heap False e i = absurd (cc (e))
  array_number_in heap (Int number) e i = absurd (cc (e))
  array_number_in heap (Sym sel) e i = absurd (cc (e))
  array_number_in heap (Kernel class) e i = absurd (cc (e))

  perform_in : (code : CodeProgram) (now : Progress) (receiver name args : Value) → Kept Has first now → In Has receiver → In Has args → ReflectedIn now (perform now.world code receiver name args)
  perform_in code now receiver (Sym sel) args kept r i = by (is_array now.world.cells args) refl
    where
      many : (b : Bool) → Has (cell_number args) → ReflectedIn now (cond b (Reflects (Perform receiver sel (cell_number args)) now.world) (Refuses (fault.Kind kind.WrongArity)))
      many true has = (r, has, kept)
      many false has = tt

      by : (b : Bool) → is_array now.world.cells args ≡ b → ReflectedIn now (cond b (performed now.world code receiver sel args) (Refuses wrong_kind))
      by true e = many (length (items_of now.world.cells args) == selector_arity code sel.0) (array_number_in now.world.cells args e i)
      by false e = tt
  perform_in code now receiver Nil args kept r i = tt
  perform_in code now receiver True args kept r i = tt
  perform_in code now receiver False args kept r i = tt
  perform_in code now receiver (Int number) args kept r i = tt
  perform_in code now receiver (Kernel class) args kept r i = tt
  perform_in code now receiver (Ref at) args kept r i = tt

  mirrored_in_set : (shape : NewCell) → ShapeIn Has shape → In Has (looking.mirrored_in shape)
  mirrored_in_set (new.Mirror mirrored) s = s
  mirrored_in_set (new.Object class words) s = tt
  mirrored_in_set (new.Class decl base encl holder over) s = tt
  mirrored_in_set (new.Block body env home receiver holder) s = tt
  mirrored_in_set (new.Environment parent locals) s = tt
  mirrored_in_set (new.Array size) s = tt
  mirrored_in_set (new.Text bytes) s = tt
  mirrored_in_set (new.Facet kind) s = tt
  mirrored_in_set (new.Message sel args) s = tt

  mirror_row_in : (code : CodeProgram) (now : Progress) (about : MirrorRow) (value one two : Value) → HasLater Has first.world.cells → Kept Has first now → In Has value → In Has one → In Has two → ReflectedIn now (row_outcome now.world code about value one two)
  mirror_row_in code now mirrors.On value one two later kept v a b = outcome_reflected now (making now.world (MirrorCell one)) (making_in Has first now (MirrorCell one) later kept a (λ kind e. absurd (cc (e))))
  mirror_row_in code now mirrors.ClassName value one two later kept v a b =
      let text = naming.class_text code (class_name_of now.world.cells value) in
      outcome_reflected now (making now.world (TextCell text)) (making_in Has first now (TextCell text) later kept tt (λ kind e. absurd (cc (e))))
  mirror_row_in code now mirrors.SlotNames value one two later kept v a b =
      let names = slots.slot_names_along now.world.cells code (chain_of now.world.cells (looking.object_class now.world.cells value)) in
      outcome_reflected now (making now.world (ArrayCell names)) (making_in Has first now (ArrayCell names) later kept (names_in now.world.cells code (chain_of now.world.cells (looking.object_class now.world.cells value))) (λ kind e. absurd (cc (e))))
  mirror_row_in code now mirrors.Slot value one two later kept v a b =
      outcome_reflected now (unchanged now.world (slots.slot now.world.cells code value one)) (unchanged_in Has first now (slots.slot now.world.cells code value one) kept (slot_read_in now.world.cells code value one kept.closed v))
  mirror_row_in code now mirrors.SlotPut value one two later kept v a b = outcome_reflected now (slots.slot_put now.world code value one two) (slot_written_in code now value one two kept v b)
  mirror_row_in code now mirrors.Selectors value one two later kept v a b =
      let methods = selectors.methods_of_shape now.world.cells code (shape_of_value now.world.cells value) in
      outcome_reflected now (making now.world (ArrayCell (selectors.public_selectors methods))) (making_in Has first now (ArrayCell (selectors.public_selectors methods)) later kept (public_in methods) (λ kind e. absurd (cc (e))))
  mirror_row_in code now mirrors.Enclosing value one two later kept v a b =
      (around_in now.world.cells (shape_of_value now.world.cells value) kept.closed (value_shape_in Has now.world.cells value kept.closed v), kept)
  mirror_row_in code now mirrors.Perform value one two later kept v a b = perform_in code now value one two kept v b

  -- a mirror's row is sent to a cell
  pub mirrored_row_in : (code : CodeProgram) (now : Progress) (about : MirrorRow) (receiver one two : Value) → HasLater Has first.world.cells → Kept Has first now → is_reference receiver ≡ true → In Has receiver → In Has one → In Has two
      → ReflectedIn now (row_outcome now.world code about (looking.mirrored now.world.cells (cell_number receiver)) one two)
  mirrored_row_in code now about (Ref at) one two later kept is r a b =
      mirror_row_in code now about (looking.mirrored now.world.cells at) one two later kept (mirrored_in_set (shape_at now.world.cells at) (shape_in Has now.world.cells at kept.closed r)) a b
  mirrored_row_in code now about Nil one two later kept is r a b = absurd (cc (is))
  mirrored_row_in code now about True one two later kept is r a b = absurd (cc (is))
  mirrored_row_in code now about False one two later kept is r a b = absurd (cc (is))
  mirrored_row_in code now about (Int number) one two later kept is r a b = absurd (cc (is))
  mirrored_row_in code now about (Sym sel) one two later kept is r a b = absurd (cc (is))
  mirrored_row_in code now about (Kernel class) one two later kept is r a b = absurd (cc (is))
