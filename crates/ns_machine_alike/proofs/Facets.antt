-- The rows of facets answer paired values, print the same bytes and leave the same board.
use Rattle.std.proofs.Common.{◌≡◌, ℕ, ◌+◌, List, [], ◌∷◌, ◌++◌, length, Option, Some, None, false, refl, ap, ◌∙◌, subst}
use Rattle.std.specs.Prelude.{Result, Ok, Err, ◌==◌, ◌&&◌, is_none, is_some, nat_le}
use Rattle.std.specs.List.{slice_index_or}
use Rattle.std.specs.Fmt.{signed_decimal}
use Rattle.ns_base.specs.declared.selector.Sel.{Sel}
use Rattle.ns_code.specs.declared.program.CodeProgram.{CodeProgram}
use Rattle.ns_code.specs.declared.class.ClassCode.{ClassCode}
use Rattle.ns_code.specs.Selector.{selector_text}
use Rattle.ns_world.specs.declared.value.Value.{Value}
use Rattle.ns_world.specs.declared.value.Value.TheVariants.{Nil, True, False, Int, Sym, Kernel, Ref}
use Rattle.ns_world.specs.declared.value.KClass.TheVariants as class
use Rattle.ns_world.specs.declared.ending.Fault.{Fault}
use Rattle.ns_world.specs.declared.cell.FacetKind.{FacetKind}
use Rattle.ns_world.specs.declared.cell.FacetKind.TheVariants as kinds
use Rattle.ns_world.specs.Cell.{Cell, ObjectCell, ClassCell, BlockCell, EnvironmentCell, ArrayCell, TextCell, FacetCell, MirrorCell, MessageCell}
use Rattle.ns_world.specs.Heap.{Heap, find_cell}
use Rattle.ns_world.specs.Seek.{first_such, is_facet, is_top}
use Rattle.ns_world.specs.World.{World, printed}
use Rattle.ns_kdata.specs.Outcome.{Fails, unchanged, wrong_kind}
use Rattle.ns_kdata.specs.Arguments.{argument, is_text, bytes_of, place_in}
use Rattle.ns_world.specs.declared.kernel_parts.FacetRow.{FacetRow}
use Rattle.ns_world.specs.declared.kernel_parts.FacetRow.TheVariants as facet
use Rattle.ns_facets.specs.declared.board.Board.{Board}
use Rattle.ns_facets.specs.declared.board.Plain.{Plain}
use Rattle.ns_facets.specs.declared.board.Plain.TheVariants as plain
use Rattle.ns_facets.specs.Facet as facets
use Rattle.ns_facets.specs.Board as boards
use Rattle.ns_facets.specs.Console as console
use Rattle.ns_facets.specs.Platform.{cell_value, top_class, granted}
use Rattle.ns_moves.specs.declared.site.Site.{Site}
use Rattle.ns_moves.specs.Suiting.{facet_in, facet_at, facet_of_row, is_reference}
use Rattle.ns_moves.specs.Control.{Progress}
use Rattle.ns_moves.specs.Kernel as kernel
use Rattle.ns_machine_reach.specs.Within.{IsGranted}
use Rattle.ns_machine_alike.specs.Paired.{IsPairing, Paired, Partners, Same, AllPaired, NumberPaired, FacetPaired, CellPaired, MaybeCellPaired, Abreast, ControlPaired}
use Rattle.ns_machine_alike.proofs.Values.{cond_so, at_index}
use Rattle.ns_machine_alike.proofs.Charging.{some_if, board_abreast, bytes_printed, same_print}
use Rattle.ns_machine_alike.proofs.Reading.{bytes_same}
use Rattle.ns_machine_alike.proofs.Integers.{AnswerPaired}
use Rattle.ns_machine_alike.proofs.Rows.{same_text, OutcomePaired, unchanged_paired, outcome_paired}

module _ (Pair : ℕ → ℕ → Type 0) where
  number_value : (o o' : Option ℕ) → NumberPaired Pair o o' → Paired Pair (cell_value o) (cell_value o')
  number_value (Some n) (Some m) p = Partners n m p
  number_value None None p = Same Nil refl
  number_value (Some n) None p = absurd p
  number_value None (Some m) p = absurd p

  -- ---- the board

  plain_self : (value : Plain) → Paired Pair (boards.value_of value) (boards.value_of value)
  plain_self plain.Nil = Same Nil refl
  plain_self plain.True = Same True refl
  plain_self plain.False = Same False refl
  plain_self (plain.Int number) = Same (Int number) refl

  at_place_self : (places : List Plain) (r : Result ℕ Fault) → AnswerPaired Pair (boards.value_at_place places r) (boards.value_at_place places r)
  at_place_self places (Ok place) = plain_self (slice_index_or places place plain.Nil)
  at_place_self places (Err f) = refl

  same_place : (place place' : Value) → Paired Pair place place' → place_in place 64 ≡ place_in place' 64
  same_place place place' (Partners n m p) = refl
  same_place place place' (Same same e) = refl

  same_plain : (value value' : Value) → Paired Pair value value' → boards.plain_of value ≡ boards.plain_of value'
  same_plain value value' (Partners n m p) = refl
  same_plain value value' (Same same e) = refl

  board_at_paired : (board board' : Board) (place place' : Value) → board ≡ board' → Paired Pair place place' → AnswerPaired Pair (boards.board_at board place) (boards.board_at board' place')
  board_at_paired board board' place place' e p =
      subst (AnswerPaired Pair (boards.board_at board place)) (ap (λ (b : Board). boards.board_at b place) e ∙ ap (boards.value_at_place board'.places) (same_place place place' p)) (at_place_self board.places (place_in place 64))

  put_self : (r : Result ℕ Fault) (q : Result Plain Fault) (value value' : Value) → Paired Pair value value' → AnswerPaired Pair (boards.answer_of_put r q value) (boards.answer_of_put r q value')
  put_self (Err f) q value value' v = refl
  put_self (Ok place) (Err f) value value' v = refl
  put_self (Ok place) (Ok held) value value' v = v

  board_put_paired : (place place' value value' : Value) → Paired Pair place place' → Paired Pair value value' → AnswerPaired Pair (boards.board_put place value) (boards.board_put place' value')
  board_put_paired place place' value value' p v =
      subst (AnswerPaired Pair (boards.board_put place value)) (ap (λ r. boards.answer_of_put r (boards.plain_of value) value') (same_place place place' p) ∙ ap (λ q. boards.answer_of_put (place_in place' 64) q value') (same_plain value value' v))
      (put_self (place_in place 64) (boards.plain_of value) value value' v)

  same_board_with : (board board' : Board) (place place' value value' : Value) → board ≡ board' → Paired Pair place place' → Paired Pair value value' → boards.board_with board place value ≡ boards.board_with board' place' value'
  same_board_with board board' place place' value value' e p v =
      ap (λ b. boards.board_with b place value) e
      ∙ (ap (λ r. boards.board_after_put board' r (boards.plain_of value)) (same_place place place' p) ∙ ap (boards.board_after_put board' (place_in place' 64)) (same_plain value value' v))

module _ (Pair : ℕ → ℕ → Type 0) (first second : Progress) (pairing : IsPairing Pair first.world second.world) where
  module _ (one two : Progress) (a : Abreast Pair first second one two) where
    abbrev heap : Heap
    heap = one.world.cells

    abbrev other : Heap
    other = two.world.cells

    -- ---- which facet a receiver is

    -- the facet that is a row's receiver, and its partner
    pub record TheFacet (kind : FacetKind) : Type 0 where
      pub at : ℕ
      pub partner : ℕ
      pub pair : Pair at partner
      pub is : find_cell heap at ≡ Some (FacetCell kind)
      pub holds : FacetPaired Pair heap other kind

    facet_cell : (kind : FacetKind) (n m : ℕ) (cell cell' : Cell) → Pair n m → find_cell heap n ≡ Some cell → CellPaired Pair first second heap other cell cell' → facet_in (Some cell) ≡ Some kind → TheFacet kind
    facet_cell kind n m (FacetCell k) (FacetCell k') p f q e =
        let same : k ≡ kind = cc (e) in
        record { at = n; partner = m; pair = p; is = f ∙ ap (λ j. Some (FacetCell j)) same; holds = subst (FacetPaired Pair heap other) same q.1 }
    facet_cell kind n m (ObjectCell class entries) cell' p f q e = absurd (cc (e))
    facet_cell kind n m (ClassCell decl base encl holder over) cell' p f q e = absurd (cc (e))
    facet_cell kind n m (BlockCell body env home receiver holder) cell' p f q e = absurd (cc (e))
    facet_cell kind n m (EnvironmentCell parent locals) cell' p f q e = absurd (cc (e))
    facet_cell kind n m (ArrayCell items) cell' p f q e = absurd (cc (e))
    facet_cell kind n m (TextCell bytes) cell' p f q e = absurd (cc (e))
    facet_cell kind n m (MirrorCell mirrored) cell' p f q e = absurd (cc (e))
    facet_cell kind n m (MessageCell sel args) cell' p f q e = absurd (cc (e))
    facet_cell kind n m (FacetCell k) cell' p f q e = absurd q

    the_facet : (kind : FacetKind) (receiver receiver' : Value) → Paired Pair receiver receiver' → facet_at heap receiver ≡ Some kind → TheFacet kind
    the_facet kind receiver receiver' (Partners n m p) e = by (find_cell heap n) refl (find_cell other m) (a.heaps.cells n m p) e
      where
        by : (o : Option Cell) → find_cell heap n ≡ o → (o' : Option Cell) → MaybeCellPaired Pair first second heap other o o' → facet_in o ≡ Some kind → TheFacet kind
        by (Some cell) f (Some cell') q e = facet_cell kind n m cell cell' p f q e
        by (Some cell) f None q e = absurd q
        by None f o' q e = absurd (cc (e))
    the_facet kind receiver receiver' (Same same r) e = by same r e
      where
        by : (v : Value) → is_reference v ≡ false → facet_at heap v ≡ Some kind → TheFacet kind
        by Nil r e = absurd (cc (e))
        by True r e = absurd (cc (e))
        by False r e = absurd (cc (e))
        by (Int number) r e = absurd (cc (e))
        by (Sym sel) r e = absurd (cc (e))
        by (Kernel named) r e = absurd (cc (e))
        by (Ref at) r e = absurd (cc (r))

    top_paired : (number : ℕ) (classes : List ClassCode) (sel : Sel) → FacetPaired Pair heap other kinds.Manifest → Paired Pair (top_class heap number classes sel) (top_class other number classes sel)
    top_paired number [] sel f = Same Nil refl
    top_paired number (class ∷ classes) sel f =
        cond_so (Paired Pair) (sel.0 == class.name.0 && is_none class.outer) (sel.0 == class.name.0 && is_none class.outer) (cell_value (first_such (is_top number) heap)) (top_class heap (number + 1) classes sel)
        (cell_value (first_such (is_top number) other)) (top_class other (number + 1) classes sel) refl (λ t. number_value Pair (first_such (is_top number) heap) (first_such (is_top number) other) (f number)) (λ t. top_paired (number + 1) classes sel f)

    granted_paired : (kind : FacetKind) → IsGranted kind → FacetPaired Pair heap other kinds.Platform → Paired Pair (granted heap kind) (granted other kind)
    granted_paired kind g f = number_value Pair (first_such (is_facet kind) heap) (first_such (is_facet kind) other) (f kind g)

    -- ---- what is printed

    print_paired : (bytes bytes' : List ℕ) → bytes ≡ bytes' → OutcomePaired Pair first second pairing one two a (console.printed_bytes one.world bytes) (console.printed_bytes two.world bytes')
    print_paired bytes bytes' e =
        subst (λ b. OutcomePaired Pair first second pairing one two a (console.printed_bytes one.world bytes) (console.printed_bytes two.world b)) e
        (by (printed one.world bytes) refl (printed two.world bytes) refl
        (some_if (nat_le (length one.world.output + length bytes) one.world.limits.out) (nat_le (length two.world.output + length bytes) two.world.limits.out) (record one.world { output = one.world.output ++ bytes })
        (record two.world { output = two.world.output ++ bytes }) (same_print Pair first second pairing one two bytes a)))
      where
        by : (o : Option World) → printed one.world bytes ≡ o → (o' : Option World) → printed two.world bytes ≡ o' → is_some o ≡ is_some o' → OutcomePaired Pair first second pairing one two a (console.printed_as o) (console.printed_as o')
        by (Some world) f (Some world') f' s = (Same Nil refl, bytes_printed Pair first second pairing one two bytes world world' f f' a)
        by None f None f' s = refl
        by (Some world) f None f' s = absurd (cc (s))
        by None f (Some world') f' s = absurd (cc (s))

    print_text : (text text' : Value) (tail : List ℕ) → Paired Pair text text' → OutcomePaired Pair first second pairing one two a (console.printed_text one.world text tail) (console.printed_text two.world text' tail)
    print_text text text' tail p =
        cond_so (OutcomePaired Pair first second pairing one two a) (is_text heap text) (is_text other text') (console.printed_bytes one.world (bytes_of heap text ++ tail)) (Fails wrong_kind) (console.printed_bytes two.world (bytes_of other text' ++ tail)) (Fails wrong_kind)
        (same_text Pair first second pairing one two a text text' p)
        (λ t. print_paired (bytes_of heap text ++ tail) (bytes_of other text' ++ tail) (ap (λ b. b ++ tail) (bytes_same Pair first second pairing heap other a.heaps text text' p))) (λ t. refl)

    printing_paired : (code : CodeProgram) (value value' : Value) (tail : List ℕ) → Paired Pair value value' → OutcomePaired Pair first second pairing one two a (console.printing one.world code value tail) (console.printing two.world code value' tail)
    printing_paired code value value' tail (Partners n m p) = print_text (Ref n) (Ref m) tail (Partners n m p)
    printing_paired code value value' tail (Same same e) = by same e
      where
        by : (v : Value) → is_reference v ≡ false → OutcomePaired Pair first second pairing one two a (console.printing one.world code v tail) (console.printing two.world code v tail)
        by (Int number) e = print_paired (signed_decimal number ++ tail) (signed_decimal number ++ tail) refl
        by (Sym sel) e = print_paired (selector_text code sel.0 ++ tail) (selector_text code sel.0 ++ tail) refl
        by Nil e = print_text Nil Nil tail (Same Nil refl)
        by True e = print_text True True tail (Same True refl)
        by False e = print_text False False tail (Same False refl)
        by (Kernel named) e = print_text (Kernel named) (Kernel named) tail (Same (Kernel named) refl)
        by (Ref at) e = absurd (cc (e))

    -- ---- the rows of facets

    -- an outcome that leaves the board
    facet_answers : (code : CodeProgram) (asked : FacetRow) (x x' y y' : Value) → Paired Pair x x' → Paired Pair y y' → TheFacet (facet_of_row asked)
        → OutcomePaired Pair first second pairing one two a (facets.row_outcome one.world code asked x y one.board) (facets.row_outcome two.world code asked x' y' two.board)
    facet_answers code (facet.Top sel) x x' y y' p q it = (top_paired 0 code.classes sel it.holds, a)
    facet_answers code facet.PlatformConsole x x' y y' p q it = (granted_paired kinds.Console tt it.holds, a)
    facet_answers code facet.PlatformKernel x x' y y' p q it = (granted_paired kinds.Kernel tt it.holds, a)
    facet_answers code facet.PlatformMirrors x x' y y' p q it = (granted_paired kinds.Mirrors tt it.holds, a)
    facet_answers code facet.PlatformBoard x x' y y' p q it = (granted_paired kinds.Board tt it.holds, a)
    facet_answers code facet.KernelObject x x' y y' p q it = (Same (Kernel class.Object) refl, a)
    facet_answers code facet.KernelArray x x' y y' p q it = (Same (Kernel class.Array) refl, a)
    facet_answers code facet.ConsolePrint x x' y y' p q it = printing_paired code x x' [] p
    facet_answers code facet.ConsolePrintLine x x' y y' p q it = printing_paired code x x' (10 ∷ []) p
    facet_answers code facet.BoardAt x x' y y' p q it =
        unchanged_paired Pair first second pairing one two a (boards.board_at one.board x) (boards.board_at two.board x') (board_at_paired Pair one.board two.board x x' (a.board it.at it.partner it.pair it.is) p)
    facet_answers code facet.BoardPut x x' y y' p q it = unchanged_paired Pair first second pairing one two a (boards.board_put x y) (boards.board_put x' y') (board_put_paired Pair x x' y y' p q)

    facet_reached_paired : (code : CodeProgram) (asked : FacetRow) (arguments arguments' : List Value) (site site' : Site) → AllPaired Pair arguments arguments' → site ≡ site' → TheFacet (facet_of_row asked)
        → ControlPaired Pair first second (kernel.facet_reached code asked arguments site one) (kernel.facet_reached code asked arguments' site' two)
    facet_reached_paired code asked arguments arguments' site site' all e it = by asked it
      where
        x : Paired Pair (argument arguments 0) (argument arguments' 0)
        x = at_index Pair arguments arguments' 0 all

        y : Paired Pair (argument arguments 1) (argument arguments' 1)
        y = at_index Pair arguments arguments' 1 all

        -- the board stays
        stays : (q : FacetRow) → TheFacet (facet_of_row q)
            → ControlPaired Pair first second (kernel.outcome_reached (facets.facet one.world code q arguments one.board) site one) (kernel.outcome_reached (facets.facet two.world code q arguments' two.board) site' two)
        stays q f =
            outcome_paired Pair first second pairing one two a (facets.facet one.world code q arguments one.board) (facets.facet two.world code q arguments' two.board) site site'
            (facet_answers code q (argument arguments 0) (argument arguments' 0) (argument arguments 1) (argument arguments' 1) x y f) e

        by : (q : FacetRow) → TheFacet (facet_of_row q) → ControlPaired Pair first second (kernel.facet_reached code q arguments site one) (kernel.facet_reached code q arguments' site' two)
        by (facet.Top sel) f = stays (facet.Top sel) f
        by facet.PlatformConsole f = stays facet.PlatformConsole f
        by facet.PlatformKernel f = stays facet.PlatformKernel f
        by facet.PlatformMirrors f = stays facet.PlatformMirrors f
        by facet.PlatformBoard f = stays facet.PlatformBoard f
        by facet.KernelObject f = stays facet.KernelObject f
        by facet.KernelArray f = stays facet.KernelArray f
        by facet.ConsolePrint f = stays facet.ConsolePrint f
        by facet.ConsolePrintLine f = stays facet.ConsolePrintLine f
        by facet.BoardAt f = stays facet.BoardAt f
        by facet.BoardPut f =
            outcome_paired Pair first second pairing (record one { board = boards.board_with one.board (argument arguments 0) (argument arguments 1) }) (record two { board = boards.board_with two.board (argument arguments' 0) (argument arguments' 1) })
            put (unchanged one.world (boards.board_put (argument arguments 0) (argument arguments 1))) (unchanged two.world (boards.board_put (argument arguments' 0) (argument arguments' 1))) site site'
            (unchanged_paired Pair first second pairing (record one { board = boards.board_with one.board (argument arguments 0) (argument arguments 1) }) (record two { board = boards.board_with two.board (argument arguments' 0) (argument arguments' 1) }) put
            (boards.board_put (argument arguments 0) (argument arguments 1)) (boards.board_put (argument arguments' 0) (argument arguments' 1)) (board_put_paired Pair (argument arguments 0) (argument arguments' 0) (argument arguments 1) (argument arguments' 1) x y)) e
          where
            put : Abreast Pair first second (record one { board = boards.board_with one.board (argument arguments 0) (argument arguments 1) }) (record two { board = boards.board_with two.board (argument arguments' 0) (argument arguments' 1) })
            put =
                board_abreast Pair first second pairing one two (boards.board_with one.board (argument arguments 0) (argument arguments 1)) (boards.board_with two.board (argument arguments' 0) (argument arguments' 1))
                (λ n m q g. same_board_with Pair one.board two.board (argument arguments 0) (argument arguments' 0) (argument arguments 1) (argument arguments' 1) (a.board f.at f.partner f.pair f.is) x y) a

  -- a row of a facet is sent to that facet
  pub facet_row_paired : (code : CodeProgram) (asked : FacetRow) (receiver receiver' : Value) (arguments arguments' : List Value) (site site' : Site) (one two : Progress)
      → Abreast Pair first second one two → Paired Pair receiver receiver' → AllPaired Pair arguments arguments' → site ≡ site'
      → facet_at one.world.cells receiver ≡ Some (facet_of_row asked)
      → ControlPaired Pair first second (kernel.facet_reached code asked arguments site one) (kernel.facet_reached code asked arguments' site' two)
  facet_row_paired code asked receiver receiver' arguments arguments' site site' one two a r all s suits =
      facet_reached_paired one two a code asked arguments arguments' site site' all s (the_facet one two a (facet_of_row asked) receiver receiver' r suits)
