-- The rows of values, texts, symbols, arrays and messages answer paired values and leave the runs abreast.
use Rattle.std.proofs.Common.{◌≡◌, ℕ, ℤ, pos, List, [], ◌++◌, length, Option, Some, None, false, cond, refl, ap, ◌∙◌, subst, replicate}
use Rattle.std.specs.Prelude.{Result, Ok, Err, int_lt, ◌||◌, not, codes, unsigned_abs, is_some}
use Rattle.std.specs.Fmt.{signed_decimal}
use Rattle.std.specs.Str.{bytes_eq}
use Rattle.ns_base.specs.Quoted.{quoted}
use Rattle.ns_code.specs.declared.program.CodeProgram.{CodeProgram}
use Rattle.ns_world.specs.declared.value.Value.{Value}
use Rattle.ns_world.specs.declared.value.Value.TheVariants.{Nil, True, False, Int, Sym, Kernel, Ref}
use Rattle.ns_world.specs.declared.value.KClass.TheVariants.{Object}
use Rattle.ns_world.specs.declared.ending.Fault.{Fault}
use Rattle.ns_world.specs.declared.ending.Fault.TheVariants as fault
use Rattle.ns_world.specs.declared.ending.Kind.TheVariants as kind
use Rattle.ns_world.specs.declared.cell.NewCell.{NewCell}
use Rattle.ns_world.specs.declared.cell.NewCell.TheVariants as new
use Rattle.ns_world.specs.Cell.{Cell, ObjectCell, ArrayCell, TextCell}
use Rattle.ns_world.specs.Heap.{Heap, heap_size, no_class}
use Rattle.ns_world.specs.World.{World, made, stored}
use Rattle.ns_world.specs.Booleans.{truth}
use Rattle.ns_kdata.specs.Outcome.{RowOutcome, Answers, Fails, making, made_as, unchanged, wrong_kind, out_of_range}
use Rattle.ns_kdata.specs.declared.arguments.Part.{Part}
use Rattle.ns_kdata.specs.Arguments.{argument, items_of, shape_of_value, is_text, is_text_shape, is_message, is_message_shape, bytes_of, symbol_text, number_of, place_in, part_in}
use Rattle.ns_kdata.specs.Rows as rows
use Rattle.ns_kdata.specs.Texts as texts
use Rattle.ns_kdata.specs.Datum.{row_outcome, datum}
use Rattle.ns_world.specs.declared.kernel_parts.DataRow.{DataRow}
use Rattle.ns_world.specs.declared.kernel_parts.DataRow.TheVariants as row
use Rattle.ns_moves.specs.declared.site.Site.{Site}
use Rattle.ns_moves.specs.Suiting.{is_reference}
use Rattle.ns_moves.specs.Control.{Progress, in_world}
use Rattle.ns_moves.specs.Kernel as kernel
use Rattle.ns_machine_alike.specs.Paired.{IsPairing, Paired, Partners, Same, AllPaired, CellPaired, Abreast, ControlPaired}
use Rattle.ns_machine_alike.proofs.Values.{cond_so, at_index, all_nil, same_length}
use Rattle.ns_machine_alike.proofs.Keeping.{NoBoard, same_number, same_made, made_abreast, written_abreast}
use Rattle.ns_machine_alike.proofs.Reading.{ShapePaired, value_shape_paired, items_paired, bytes_same}
use Rattle.ns_machine_alike.proofs.Integers.{same_fault, AnswerPaired, truth_paired, int_paired, same_number_of}

module _ (Pair : ℕ → ℕ → Type 0) where
  -- ---- values

  same_is_nil : (value value' : Value) → Paired Pair value value' → rows.is_nil value ≡ rows.is_nil value'
  same_is_nil value value' (Partners n m p) = refl
  same_is_nil value value' (Same same e) = refl

  same_boolean_text : (value value' : Value) → Paired Pair value value' → rows.boolean_text value ≡ rows.boolean_text value'
  same_boolean_text value value' (Partners n m p) = refl
  same_boolean_text value value' (Same same e) = refl

  same_symbol : (code : CodeProgram) (value value' : Value) → Paired Pair value value' → symbol_text code value ≡ symbol_text code value'
  same_symbol code value value' (Partners n m p) = refl
  same_symbol code value value' (Same same e) = refl

  same_place : (place place' : Value) (size : ℕ) → Paired Pair place place' → place_in place size ≡ place_in place' size
  same_place place place' size (Partners n m p) = refl
  same_place place place' size (Same same e) = refl

  same_part : (x x' y y' : Value) (size : ℕ) → Paired Pair x x' → Paired Pair y y' → part_in x y size ≡ part_in x' y' size
  same_part x x' y y' size (Partners n m p) q = refl
  same_part x x' y y' size (Same same e) (Partners n m p) = by same
    where
      by : (v : Value) → part_in v (Ref n) size ≡ part_in v (Ref m) size
      by (Int number) = refl
      by Nil = refl
      by True = refl
      by False = refl
      by (Sym sel) = refl
      by (Kernel class) = refl
      by (Ref at) = refl
  same_part x x' y y' size (Same same e) (Same other f) = refl

  negation_paired : (value value' : Value) → Paired Pair value value' → Paired Pair (rows.negation value) (rows.negation value')
  negation_paired value value' (Partners n m p) = Same True refl
  negation_paired value value' (Same same e) = by same
    where
      by : (v : Value) → Paired Pair (rows.negation v) (rows.negation v)
      by True = Same False refl
      by False = Same True refl
      by Nil = Same True refl
      by (Int number) = Same True refl
      by (Sym sel) = Same True refl
      by (Kernel class) = Same True refl
      by (Ref at) = Same True refl

  only_true_paired : (value value' : Value) → Paired Pair value value' → Paired Pair (rows.only_true value) (rows.only_true value')
  only_true_paired value value' (Partners n m p) = Same False refl
  only_true_paired value value' (Same same e) = by same
    where
      by : (v : Value) → Paired Pair (rows.only_true v) (rows.only_true v)
      by True = Same True refl
      by False = Same False refl
      by Nil = Same False refl
      by (Int number) = Same False refl
      by (Sym sel) = Same False refl
      by (Kernel class) = Same False refl
      by (Ref at) = Same False refl

  conjunction_paired : (receiver receiver' x x' : Value) → Paired Pair receiver receiver' → Paired Pair x x' → AnswerPaired Pair (rows.conjunction receiver x) (rows.conjunction receiver' x')
  conjunction_paired receiver receiver' x x' r (Partners n m p) = refl
  conjunction_paired receiver receiver' x x' r (Same same e) = by same
    where
      by : (v : Value) → AnswerPaired Pair (rows.conjunction receiver v) (rows.conjunction receiver' v)
      by True = only_true_paired receiver receiver' r
      by False = Same False refl
      by Nil = refl
      by (Int number) = refl
      by (Sym sel) = refl
      by (Kernel class) = refl
      by (Ref at) = refl

  disjunction_paired : (receiver receiver' x x' : Value) → Paired Pair receiver receiver' → Paired Pair x x' → AnswerPaired Pair (rows.disjunction receiver x) (rows.disjunction receiver' x')
  disjunction_paired receiver receiver' x x' r (Partners n m p) = refl
  disjunction_paired receiver receiver' x x' r (Same same e) = by same
    where
      by : (v : Value) → AnswerPaired Pair (rows.disjunction receiver v) (rows.disjunction receiver' v)
      by True = Same True refl
      by False = only_true_paired receiver receiver' r
      by Nil = refl
      by (Int number) = refl
      by (Sym sel) = refl
      by (Kernel class) = refl
      by (Ref at) = refl

  byte_self : (bytes : List ℕ) (r : Result ℕ Fault) → AnswerPaired Pair (texts.byte_at_place bytes r) (texts.byte_at_place bytes r)
  byte_self bytes (Ok place) = Same (Int _) refl
  byte_self bytes (Err f) = refl

  symbol_less_paired : (code : CodeProgram) (symbol symbol' x x' : Value) → Paired Pair symbol symbol' → Paired Pair x x' → AnswerPaired Pair (rows.symbol_less code symbol x) (rows.symbol_less code symbol' x')
  symbol_less_paired code symbol symbol' x x' r (Partners n m p) = refl
  symbol_less_paired code symbol symbol' x x' r (Same same e) = by same
    where
      by : (v : Value) → AnswerPaired Pair (rows.symbol_less code symbol v) (rows.symbol_less code symbol' v)
      by (Sym sel) =
          truth_paired Pair (texts.is_before (symbol_text code symbol) (symbol_text code (Sym sel))) (texts.is_before (symbol_text code symbol') (symbol_text code (Sym sel))) (ap (λ t. texts.is_before t (symbol_text code (Sym sel))) (same_symbol code symbol symbol' r))
      by Nil = refl
      by True = refl
      by False = refl
      by (Int number) = refl
      by (Kernel class) = refl
      by (Ref at) = refl

  item_paired : (items items' : List Value) (r r' : Result ℕ Fault) → AllPaired Pair items items' → r ≡ r' → AnswerPaired Pair (rows.item_at_place items r) (rows.item_at_place items' r')
  item_paired items items' r r' all e = subst (λ q. AnswerPaired Pair (rows.item_at_place items r) (rows.item_at_place items' q)) e (by r)
    where
      by : (q : Result ℕ Fault) → AnswerPaired Pair (rows.item_at_place items q) (rows.item_at_place items' q)
      by (Ok place) = at_index Pair items items' place all
      by (Err f) = refl

module _ (Pair : ℕ → ℕ → Type 0) (first second : Progress) (pairing : IsPairing Pair first.world second.world) where
  same_value_of : (x x' y y' : Value) → Paired Pair x x' → Paired Pair y y' → rows.same_value x y ≡ rows.same_value x' y'
  same_value_of x x' y y' (Partners n m p) (Partners a b q) = same_number Pair first second pairing n m a b p q
  same_value_of x x' y y' (Partners n m p) (Same same e) = by same e
    where
      by : (v : Value) → is_reference v ≡ false → rows.same_value (Ref n) v ≡ rows.same_value (Ref m) v
      by Nil e = refl
      by True e = refl
      by False e = refl
      by (Int number) e = refl
      by (Sym sel) e = refl
      by (Kernel class) e = refl
      by (Ref at) e = absurd (cc (e))
  same_value_of x x' y y' (Same same e) (Partners a b q) = by same e
    where
      by : (v : Value) → is_reference v ≡ false → rows.same_value v (Ref a) ≡ rows.same_value v (Ref b)
      by Nil e = refl
      by True e = refl
      by False e = refl
      by (Int number) e = refl
      by (Sym sel) e = refl
      by (Kernel class) e = refl
      by (Ref at) e = absurd (cc (e))
  same_value_of x x' y y' (Same same e) (Same other f) = refl

  -- a word that is stored in a value
  pub stored_abreast : (one two : Progress) (object object' : Value) (word : ℕ) (value value' : Value) → Abreast Pair first second one two → Paired Pair object object' → Paired Pair value value'
      → Abreast Pair first second (in_world one (stored one.world object word value)) (in_world two (stored two.world object' word value'))
  stored_abreast one two object object' word value value' a (Partners n m p) q = written_abreast Pair first second pairing one two n m word value value' a p q
  stored_abreast one two object object' word value value' a (Same same e) q = by same e
    where
      by : (v : Value) → is_reference v ≡ false → Abreast Pair first second (in_world one (stored one.world v word value)) (in_world two (stored two.world v word value'))
      by Nil e = a
      by True e = a
      by False e = a
      by (Int number) e = a
      by (Sym sel) e = a
      by (Kernel class) e = a
      by (Ref at) e = absurd (cc (e))

  -- ---- shapes

  shape_text : (shape shape' : NewCell) → ShapePaired Pair first second pairing shape shape' → is_text_shape shape ≡ is_text_shape shape'
  shape_text (new.Text bytes) (new.Text bytes') s = refl
  shape_text (new.Array size) (new.Array size') s = refl
  shape_text (new.Object class words) (new.Object class' words') s = refl
  shape_text (new.Class decl base encl holder over) (new.Class decl' base' encl' holder' over') s = refl
  shape_text (new.Block body env home receiver holder) (new.Block body' env' home' receiver' holder') s = refl
  shape_text (new.Environment parent locals) (new.Environment parent' locals') s = refl
  shape_text (new.Facet kind) (new.Facet kind') s = refl
  shape_text (new.Mirror mirrored) (new.Mirror mirrored') s = refl
  shape_text (new.Message sel args) (new.Message sel' args') s = refl
  shape_text shape shape' s = absurd s

  shape_message : (shape shape' : NewCell) → ShapePaired Pair first second pairing shape shape' → is_message_shape shape ≡ is_message_shape shape'
  shape_message (new.Message sel args) (new.Message sel' args') s = refl
  shape_message (new.Text bytes) (new.Text bytes') s = refl
  shape_message (new.Array size) (new.Array size') s = refl
  shape_message (new.Object class words) (new.Object class' words') s = refl
  shape_message (new.Class decl base encl holder over) (new.Class decl' base' encl' holder' over') s = refl
  shape_message (new.Block body env home receiver holder) (new.Block body' env' home' receiver' holder') s = refl
  shape_message (new.Environment parent locals) (new.Environment parent' locals') s = refl
  shape_message (new.Facet kind) (new.Facet kind') s = refl
  shape_message (new.Mirror mirrored) (new.Mirror mirrored') s = refl
  shape_message shape shape' s = absurd s

  shape_selector : (shape shape' : NewCell) → ShapePaired Pair first second pairing shape shape' → rows.selector_in shape ≡ rows.selector_in shape'
  shape_selector (new.Message sel args) (new.Message sel' args') s = ap Sym s.0
  shape_selector (new.Text bytes) (new.Text bytes') s = refl
  shape_selector (new.Array size) (new.Array size') s = refl
  shape_selector (new.Object class words) (new.Object class' words') s = refl
  shape_selector (new.Class decl base encl holder over) (new.Class decl' base' encl' holder' over') s = refl
  shape_selector (new.Block body env home receiver holder) (new.Block body' env' home' receiver' holder') s = refl
  shape_selector (new.Environment parent locals) (new.Environment parent' locals') s = refl
  shape_selector (new.Facet kind) (new.Facet kind') s = refl
  shape_selector (new.Mirror mirrored) (new.Mirror mirrored') s = refl
  shape_selector shape shape' s = absurd s

  selector_self : (shape : NewCell) → Paired Pair (rows.selector_in shape) (rows.selector_in shape)
  selector_self (new.Message sel args) = Same (Sym sel) refl
  selector_self (new.Text bytes) = Same Nil refl
  selector_self (new.Array size) = Same Nil refl
  selector_self (new.Object class words) = Same Nil refl
  selector_self (new.Class decl base encl holder over) = Same Nil refl
  selector_self (new.Block body env home receiver holder) = Same Nil refl
  selector_self (new.Environment parent locals) = Same Nil refl
  selector_self (new.Facet kind) = Same Nil refl
  selector_self (new.Mirror mirrored) = Same Nil refl

  shape_arguments : (shape shape' : NewCell) → ShapePaired Pair first second pairing shape shape' → Paired Pair (rows.arguments_in shape) (rows.arguments_in shape')
  shape_arguments (new.Message sel args) (new.Message sel' args') s = s.1
  shape_arguments (new.Text bytes) (new.Text bytes') s = Same Nil refl
  shape_arguments (new.Array size) (new.Array size') s = Same Nil refl
  shape_arguments (new.Object class words) (new.Object class' words') s = Same Nil refl
  shape_arguments (new.Class decl base encl holder over) (new.Class decl' base' encl' holder' over') s = Same Nil refl
  shape_arguments (new.Block body env home receiver holder) (new.Block body' env' home' receiver' holder') s = Same Nil refl
  shape_arguments (new.Environment parent locals) (new.Environment parent' locals') s = Same Nil refl
  shape_arguments (new.Facet kind) (new.Facet kind') s = Same Nil refl
  shape_arguments (new.Mirror mirrored) (new.Mirror mirrored') s = Same Nil refl
  shape_arguments shape shape' s = absurd s

  -- ---- outcomes

  module _ (one two : Progress) (a : Abreast Pair first second one two) where
    abbrev pub OutcomePaired : RowOutcome → RowOutcome → Type 0
    OutcomePaired (Answers value world) (Answers value' world') = Paired Pair value value' × Abreast Pair first second (in_world one world) (in_world two world')
    OutcomePaired (Answers value world) (Fails f') = ⊥
    OutcomePaired (Fails f) (Answers value' world') = ⊥
    OutcomePaired (Fails f) (Fails f') = f ≡ f'

    pub unchanged_paired : (answer answer' : Result Value Fault) → AnswerPaired Pair answer answer' → OutcomePaired (unchanged one.world answer) (unchanged two.world answer')
    unchanged_paired (Ok value) (Ok value') p = (p, a)
    unchanged_paired (Err f) (Err f') p = p
    unchanged_paired (Ok value) (Err f') p = absurd p
    unchanged_paired (Err f) (Ok value') p = absurd p

    pub making_paired : (cell cell' : Cell) → CellPaired Pair first second one.world.cells two.world.cells cell cell' → NoBoard cell → OutcomePaired (making one.world cell) (making two.world cell')
    making_paired cell cell' p plain = by (made one.world cell) refl (made two.world cell') refl (same_made Pair first second pairing one two cell cell' a p)
      where
        by : (o : Option World) → made one.world cell ≡ o → (o' : Option World) → made two.world cell' ≡ o' → is_some o ≡ is_some o' → OutcomePaired (made_as (heap_size one.world.cells) o) (made_as (heap_size two.world.cells) o')
        by (Some world) e (Some world') e' s =
            let m = made_abreast Pair first second pairing one two cell cell' world world' e e' a p plain in
            (Partners (heap_size one.world.cells) (heap_size two.world.cells) m.0, m.1)
        by None e None e' s = refl
        by (Some world) e None e' s = absurd (cc (s))
        by None e (Some world') e' s = absurd (cc (s))

    pub text_paired : (bytes bytes' : List ℕ) → bytes ≡ bytes' → OutcomePaired (making one.world (TextCell bytes)) (making two.world (TextCell bytes'))
    text_paired bytes bytes' e = making_paired (TextCell bytes) (TextCell bytes') e (λ q. absurd (cc (q)))

    abbrev heap : Heap
    heap = one.world.cells

    abbrev other : Heap
    other = two.world.cells

    pub same_text : (value value' : Value) → Paired Pair value value' → is_text heap value ≡ is_text other value'
    same_text value value' p = shape_text (shape_of_value heap value) (shape_of_value other value') (value_shape_paired Pair first second pairing heap other a.heaps value value' p)

    same_message : (value value' : Value) → Paired Pair value value' → is_message heap value ≡ is_message other value'
    same_message value value' p = shape_message (shape_of_value heap value) (shape_of_value other value') (value_shape_paired Pair first second pairing heap other a.heaps value value' p)

    bytes : (value value' : Value) → Paired Pair value value' → bytes_of heap value ≡ bytes_of other value'
    bytes value value' p = bytes_same Pair first second pairing heap other a.heaps value value' p

    items : (value value' : Value) → Paired Pair value value' → AllPaired Pair (items_of heap value) (items_of other value')
    items value value' p = items_paired Pair first second pairing heap other a.heaps value value' p

    sized_paired : (size : ℤ) → OutcomePaired (rows.array_of_size one.world size) (rows.array_of_size two.world size)
    sized_paired size =
        cond_so OutcomePaired (int_lt size (pos 0) || int_lt (pos 64000000) size) (int_lt size (pos 0) || int_lt (pos 64000000) size) (Fails out_of_range) (making one.world (ArrayCell (replicate (unsigned_abs size) Nil)))
        (Fails out_of_range) (making two.world (ArrayCell (replicate (unsigned_abs size) Nil))) refl (λ t. refl)
        (λ t. making_paired (ArrayCell (replicate (unsigned_abs size) Nil)) (ArrayCell (replicate (unsigned_abs size) Nil)) (all_nil Pair (unsigned_abs size)) (λ q. absurd (cc (q))))

    new_array_paired : (x x' : Value) → Paired Pair x x' → OutcomePaired (rows.new_array one.world x) (rows.new_array two.world x')
    new_array_paired x x' (Partners n m p) = refl
    new_array_paired x x' (Same same e) = by same
      where
        by : (v : Value) → OutcomePaired (rows.new_array one.world v) (rows.new_array two.world v)
        by (Int size) = sized_paired size
        by Nil = refl
        by True = refl
        by False = refl
        by (Sym sel) = refl
        by (Kernel class) = refl
        by (Ref at) = refl

    same_text_at : (text text' place place' : Value) → Paired Pair text text' → Paired Pair place place' → AnswerPaired Pair (texts.text_at heap text place) (texts.text_at other text' place')
    same_text_at text text' place place' p q =
        subst (AnswerPaired Pair (texts.text_at heap text place))
        (ap (λ b. texts.byte_at_place b (place_in place (length b))) (bytes text text' p) ∙ ap (texts.byte_at_place (bytes_of other text')) (same_place Pair place place' (length (bytes_of other text')) q))
        (byte_self Pair (bytes_of heap text) (place_in place (length (bytes_of heap text))))

    copied_paired : (b b' : List ℕ) (r r' : Result Part Fault) → b ≡ b' → r ≡ r' → OutcomePaired (texts.copied one.world b r) (texts.copied two.world b' r')
    copied_paired b b' r r' e f = subst (λ q. OutcomePaired (texts.copied one.world b r) (texts.copied two.world b' q)) f (by r)
      where
        by : (q : Result Part Fault) → OutcomePaired (texts.copied one.world b q) (texts.copied two.world b' q)
        by (Ok part) = text_paired (texts.bytes_in b part) (texts.bytes_in b' part) (ap (λ c. texts.bytes_in c part) e)
        by (Err g) = refl

    copy_paired : (text text' x x' y y' : Value) → Paired Pair text text' → Paired Pair x x' → Paired Pair y y' → OutcomePaired (texts.text_copy one.world text x y) (texts.text_copy two.world text' x' y')
    copy_paired text text' x x' y y' p q r =
        copied_paired (bytes_of heap text) (bytes_of other text') (part_in x y (length (bytes_of heap text))) (part_in x' y' (length (bytes_of other text'))) (bytes text text' p)
        (ap (λ b. part_in x y (length b)) (bytes text text' p) ∙ same_part Pair x x' y y' (length (bytes_of other text')) q r)

    join_paired : (text text' x x' : Value) → Paired Pair text text' → Paired Pair x x' → OutcomePaired (texts.text_join one.world text x) (texts.text_join two.world text' x')
    join_paired text text' x x' p q =
        cond_so OutcomePaired (is_text heap x) (is_text other x') (making one.world (TextCell (bytes_of heap text ++ bytes_of heap x))) (Fails wrong_kind) (making two.world (TextCell (bytes_of other text' ++ bytes_of other x'))) (Fails wrong_kind) (same_text x x' q)
        (λ t. text_paired (bytes_of heap text ++ bytes_of heap x) (bytes_of other text' ++ bytes_of other x') (ap (λ b. b ++ bytes_of heap x) (bytes text text' p) ∙ ap (λ b. bytes_of other text' ++ b) (bytes x x' q))) (λ t. refl)

    equal_paired : (text text' x x' : Value) → Paired Pair text text' → Paired Pair x x' → Paired Pair (texts.text_equal heap text x) (texts.text_equal other text' x')
    equal_paired text text' x x' p q =
        cond_so (Paired Pair) (is_text heap x) (is_text other x') (truth (bytes_eq (bytes_of heap text) (bytes_of heap x))) (truth false) (truth (bytes_eq (bytes_of other text') (bytes_of other x'))) (truth false) (same_text x x' q)
        (λ t. truth_paired Pair (bytes_eq (bytes_of heap text) (bytes_of heap x)) (bytes_eq (bytes_of other text') (bytes_of other x')) (ap (λ b. bytes_eq b (bytes_of heap x)) (bytes text text' p) ∙ ap (bytes_eq (bytes_of other text')) (bytes x x' q)))
        (λ t. Same False refl)

    less_paired : (text text' x x' : Value) → Paired Pair text text' → Paired Pair x x' → AnswerPaired Pair (texts.text_less heap text x) (texts.text_less other text' x')
    less_paired text text' x x' p q =
        cond_so (AnswerPaired Pair) (is_text heap x) (is_text other x') (Ok (truth (texts.is_before (bytes_of heap text) (bytes_of heap x)))) (Err wrong_kind) (Ok (truth (texts.is_before (bytes_of other text') (bytes_of other x')))) (Err wrong_kind) (same_text x x' q)
        (λ t. truth_paired Pair (texts.is_before (bytes_of heap text) (bytes_of heap x)) (texts.is_before (bytes_of other text') (bytes_of other x'))
        (ap (λ b. texts.is_before b (bytes_of heap x)) (bytes text text' p) ∙ ap (texts.is_before (bytes_of other text')) (bytes x x' q))) (λ t. refl)

    put_paired : (array array' : Value) (r r' : Result ℕ Fault) (value value' : Value) → Paired Pair array array' → r ≡ r' → Paired Pair value value' → OutcomePaired (rows.put_at_place one.world array r value) (rows.put_at_place two.world array' r' value')
    put_paired array array' r r' value value' p e v = subst (λ q. OutcomePaired (rows.put_at_place one.world array r value) (rows.put_at_place two.world array' q value')) e (by r)
      where
        by : (q : Result ℕ Fault) → OutcomePaired (rows.put_at_place one.world array q value) (rows.put_at_place two.world array' q value')
        by (Ok place) = (v, stored_abreast one two array array' place value value' a p v)
        by (Err f) = refl

    -- the place that a value names among elements
    same_item : (array array' place place' : Value) → Paired Pair array array' → Paired Pair place place' → place_in place (length (items_of heap array)) ≡ place_in place' (length (items_of other array'))
    same_item array array' place place' p q =
        ap (place_in place) (same_length Pair (items_of heap array) (items_of other array') (items array array' p)) ∙ same_place Pair place place' (length (items_of other array')) q

    same_refusal : (x x' : Value) → Paired Pair x x' → rows.not_understood heap x ≡ rows.not_understood other x'
    same_refusal x x' p = ap (λ b. cond b (fault.Kind kind.NotUnderstood) wrong_kind) (same_message x x' p)

    same_selector : (x x' : Value) → Paired Pair x x' → rows.message_selector heap x ≡ rows.message_selector other x'
    same_selector x x' p = shape_selector (shape_of_value heap x) (shape_of_value other x') (value_shape_paired Pair first second pairing heap other a.heaps x x' p)

    data_paired : (code : CodeProgram) (asked : DataRow) (r r' x x' y y' : Value) → Paired Pair r r' → Paired Pair x x' → Paired Pair y y' → OutcomePaired (row_outcome one.world code asked r x y) (row_outcome two.world code asked r' x' y')
    data_paired code row.Identical r r' x x' y y' p q s = (truth_paired Pair (rows.same_value r x) (rows.same_value r' x') (same_value_of r r' x x' p q), a)
    data_paired code row.Equal r r' x x' y y' p q s = (truth_paired Pair (rows.same_value r x) (rows.same_value r' x') (same_value_of r r' x x' p q), a)
    data_paired code row.IsNil r r' x x' y y' p q s = (truth_paired Pair (rows.is_nil r) (rows.is_nil r') (same_is_nil Pair r r' p), a)
    data_paired code row.NotNil r r' x x' y y' p q s = (truth_paired Pair (not (rows.is_nil r)) (not (rows.is_nil r')) (ap not (same_is_nil Pair r r' p)), a)
    data_paired code row.KernelObject r r' x x' y y' p q s = (Same (Kernel Object) refl, a)
    data_paired code row.DoesNotUnderstand r r' x x' y y' p q s = same_refusal x x' q
    data_paired code row.NewObject r r' x x' y y' p q s = making_paired (ObjectCell no_class []) (ObjectCell no_class []) (pairing.none, tt) (λ e. absurd (cc (e)))
    data_paired code row.NewArray r r' x x' y y' p q s = new_array_paired x x' q
    data_paired code row.NilPrint r r' x x' y y' p q s = text_paired (codes "nil") (codes "nil") refl
    data_paired code row.Not r r' x x' y y' p q s = (negation_paired Pair r r' p, a)
    data_paired code row.BooleanPrint r r' x x' y y' p q s = text_paired (rows.boolean_text r) (rows.boolean_text r') (same_boolean_text Pair r r' p)
    data_paired code row.And r r' x x' y y' p q s = unchanged_paired (rows.conjunction r x) (rows.conjunction r' x') (conjunction_paired Pair r r' x x' p q)
    data_paired code row.Or r r' x x' y y' p q s = unchanged_paired (rows.disjunction r x) (rows.disjunction r' x') (disjunction_paired Pair r r' x x' p q)
    data_paired code row.IntegerPrint r r' x x' y y' p q s = text_paired (signed_decimal (number_of r)) (signed_decimal (number_of r')) (ap signed_decimal (same_number_of Pair r r' p))
    data_paired code row.TextSize r r' x x' y y' p q s = (int_paired Pair (pos (length (bytes_of heap r))) (pos (length (bytes_of other r'))) (ap (λ b. pos (length b)) (bytes r r' p)), a)
    data_paired code row.TextAt r r' x x' y y' p q s = unchanged_paired (texts.text_at heap r x) (texts.text_at other r' x') (same_text_at r r' x x' p q)
    data_paired code row.TextCopy r r' x x' y y' p q s = copy_paired r r' x x' y y' p q s
    data_paired code row.TextJoin r r' x x' y y' p q s = join_paired r r' x x' p q
    data_paired code row.TextEqual r r' x x' y y' p q s = (equal_paired r r' x x' p q, a)
    data_paired code row.TextLess r r' x x' y y' p q s = unchanged_paired (texts.text_less heap r x) (texts.text_less other r' x') (less_paired r r' x x' p q)
    data_paired code row.TextPrint r r' x x' y y' p q s = text_paired (quoted (bytes_of heap r)) (quoted (bytes_of other r')) (ap quoted (bytes r r' p))
    data_paired code row.SymbolSize r r' x x' y y' p q s = (int_paired Pair (pos (length (symbol_text code r))) (pos (length (symbol_text code r'))) (ap (λ b. pos (length b)) (same_symbol Pair code r r' p)), a)
    data_paired code row.SymbolText r r' x x' y y' p q s = text_paired (symbol_text code r) (symbol_text code r') (same_symbol Pair code r r' p)
    data_paired code row.SymbolPrint r r' x x' y y' p q s = text_paired (codes "#" ++ symbol_text code r) (codes "#" ++ symbol_text code r') (ap (λ b. codes "#" ++ b) (same_symbol Pair code r r' p))
    data_paired code row.SymbolLess r r' x x' y y' p q s = unchanged_paired (rows.symbol_less code r x) (rows.symbol_less code r' x') (symbol_less_paired Pair code r r' x x' p q)
    data_paired code row.ArraySize r r' x x' y y' p q s =
        (int_paired Pair (pos (length (items_of heap r))) (pos (length (items_of other r'))) (ap pos (same_length Pair (items_of heap r) (items_of other r') (items r r' p))), a)
    data_paired code row.ArrayAt r r' x x' y y' p q s =
        unchanged_paired (rows.array_at heap r x) (rows.array_at other r' x')
        (item_paired Pair (items_of heap r) (items_of other r') (place_in x (length (items_of heap r))) (place_in x' (length (items_of other r'))) (items r r' p) (same_item r r' x x' p q))
    data_paired code row.ArrayPut r r' x x' y y' p q s = put_paired r r' (place_in x (length (items_of heap r))) (place_in x' (length (items_of other r'))) y y' p (same_item r r' x x' p q) s
    data_paired code row.MessageSelector r r' x x' y y' p q s =
        (subst (Paired Pair (rows.message_selector heap r)) (same_selector r r' p) (selector_self (shape_of_value heap r)), a)
    data_paired code row.MessageArguments r r' x x' y y' p q s =
        (shape_arguments (shape_of_value heap r) (shape_of_value other r') (value_shape_paired Pair first second pairing heap other a.heaps r r' p), a)

    -- ---- where control goes

    pub outcome_paired : (outcome outcome' : RowOutcome) (site site' : Site) → OutcomePaired outcome outcome' → site ≡ site' → ControlPaired Pair first second (kernel.outcome_reached outcome site one) (kernel.outcome_reached outcome' site' two)
    outcome_paired (Answers value world) (Answers value' world') site site' o e = o
    outcome_paired (Fails f) (Fails f') site site' o e = (same_fault Pair f f' site site' o e, a)
    outcome_paired (Answers value world) (Fails f') site site' o e = absurd o
    outcome_paired (Fails f) (Answers value' world') site site' o e = absurd o

    refused_paired : (x x' : Value) (site site' : Site) → Paired Pair x x' → site ≡ site'
        → ControlPaired Pair first second (kernel.message_refused (Fails (rows.not_understood heap x)) (rows.message_selector heap x) site one) (kernel.message_refused (Fails (rows.not_understood other x')) (rows.message_selector other x') site' two)
    refused_paired x x' site site' p e = (
      same_fault Pair (rows.not_understood heap x) (rows.not_understood other x') (kernel.message_site (rows.not_understood heap x) (rows.message_selector heap x) site)
          (kernel.message_site (rows.not_understood other x') (rows.message_selector other x') site') (same_refusal x x' p)
          (ap (λ f. kernel.message_site f (rows.message_selector heap x) site) (same_refusal x x' p) ∙ (ap (λ v. kernel.message_site (rows.not_understood other x') v site) (same_selector x x' p) ∙ ap (kernel.message_site (rows.not_understood other x') (rows.message_selector other x')) e)),
      a,
    )

    data_reached_paired : (code : CodeProgram) (asked : DataRow) (r r' : Value) (arguments arguments' : List Value) (site site' : Site) → Paired Pair r r' → AllPaired Pair arguments arguments' → site ≡ site'
        → ControlPaired Pair first second (kernel.data_reached code asked r arguments site one) (kernel.data_reached code asked r' arguments' site' two)
    data_reached_paired code asked r r' arguments arguments' site site' p all e = by asked
      where
        plain : (q : DataRow) → ControlPaired Pair first second (kernel.outcome_reached (datum one.world code q r arguments) site one) (kernel.outcome_reached (datum two.world code q r' arguments') site' two)
        plain q =
            outcome_paired (datum one.world code q r arguments) (datum two.world code q r' arguments') site site'
            (data_paired code q r r' (argument arguments 0) (argument arguments' 0) (argument arguments 1) (argument arguments' 1) p (at_index Pair arguments arguments' 0 all) (at_index Pair arguments arguments' 1 all)) e

        by : (q : DataRow) → ControlPaired Pair first second (kernel.data_reached code q r arguments site one) (kernel.data_reached code q r' arguments' site' two)
        by row.DoesNotUnderstand = refused_paired (argument arguments 0) (argument arguments' 0) site site' (at_index Pair arguments arguments' 0 all) e
        by row.Identical = plain row.Identical
        by row.Equal = plain row.Equal
        by row.IsNil = plain row.IsNil
        by row.NotNil = plain row.NotNil
        by row.KernelObject = plain row.KernelObject
        by row.NewObject = plain row.NewObject
        by row.NewArray = plain row.NewArray
        by row.NilPrint = plain row.NilPrint
        by row.Not = plain row.Not
        by row.BooleanPrint = plain row.BooleanPrint
        by row.And = plain row.And
        by row.Or = plain row.Or
        by row.IntegerPrint = plain row.IntegerPrint
        by row.TextSize = plain row.TextSize
        by row.TextAt = plain row.TextAt
        by row.TextCopy = plain row.TextCopy
        by row.TextJoin = plain row.TextJoin
        by row.TextEqual = plain row.TextEqual
        by row.TextLess = plain row.TextLess
        by row.TextPrint = plain row.TextPrint
        by row.SymbolSize = plain row.SymbolSize
        by row.SymbolText = plain row.SymbolText
        by row.SymbolPrint = plain row.SymbolPrint
        by row.SymbolLess = plain row.SymbolLess
        by row.ArraySize = plain row.ArraySize
        by row.ArrayAt = plain row.ArrayAt
        by row.ArrayPut = plain row.ArrayPut
        by row.MessageSelector = plain row.MessageSelector
        by row.MessageArguments = plain row.MessageArguments

  pub data_row_paired : (code : CodeProgram) (asked : DataRow) (receiver receiver' : Value) (arguments arguments' : List Value) (site site' : Site) (one two : Progress)
      → Abreast Pair first second one two → Paired Pair receiver receiver' → AllPaired Pair arguments arguments' → site ≡ site'
      → ControlPaired Pair first second (kernel.data_reached code asked receiver arguments site one) (kernel.data_reached code asked receiver' arguments' site' two)
  data_row_paired code asked receiver receiver' arguments arguments' site site' one two a r all s = data_reached_paired one two a code asked receiver receiver' arguments arguments' site site' r all s
