-- Blocks, and the methods of the kernel that evaluate them, keep two runs paired.
use Rattle.std.proofs.Common.{◌≡◌, ℕ, ℤ, pos, List, [], ◌∷◌, length, Option, Some, None, true, false, cond, refl, ap, ◌∙◌, subst}
use Rattle.std.specs.Prelude.{◌==◌, nat_lt, int_lt, unsigned_abs, ◌+ℤ◌, ◌&&◌}
use Rattle.std.specs.Int.{w64, saturate_signed}
use Rattle.std.specs.Ordering.{int_eq}
use Rattle.ns_code.specs.declared.program.CodeProgram.{CodeProgram}
use Rattle.ns_world.specs.declared.value.Value.{Value}
use Rattle.ns_world.specs.declared.value.Value.TheVariants.{Nil, True, False, Int, Sym, Kernel, Ref}
use Rattle.ns_world.specs.declared.ending.Kind.TheVariants.{WrongArity, WrongKind}
use Rattle.ns_world.specs.declared.ending.LimitKind.TheVariants.{Steps, Depth}
use Rattle.ns_world.specs.declared.cell.NewCell.{NewCell}
use Rattle.ns_world.specs.declared.cell.NewCell.TheVariants as new
use Rattle.ns_world.specs.Cell.{Cell, BlockCell, ArrayCell, TextCell}
use Rattle.ns_world.specs.Heap.{Heap, heap_size}
use Rattle.ns_world.specs.World.{stepped, entered}
use Rattle.ns_kdata.specs.Arguments.{items_of, is_array, is_array_shape, shape_of_value}
use Rattle.ns_world.specs.declared.kernel_parts.KMethod.{KMethod}
use Rattle.ns_world.specs.declared.kernel_parts.KMethod.TheVariants as method
use Rattle.ns_kcode.specs.declared.state.KState.{KState}
use Rattle.ns_kcode.specs.declared.state.KAction.{KAction}
use Rattle.ns_kcode.specs.declared.state.KAction.TheVariants as action
use Rattle.ns_kcode.specs.Next as kcode
use Rattle.ns_kcode.specs.Rows.{beginning}
use Rattle.ns_moves.specs.declared.site.Site.{Site}
use Rattle.ns_moves.specs.Site.{error}
use Rattle.ns_moves.specs.Suiting.{is_reference}
use Rattle.ns_moves.specs.Control.{Progress, Activation, FromBody, Gives, Halts, Enter, Evaluate, Begin, Waits, Finishes, halts, fails, charged}
use Rattle.ns_moves.specs.Bodies.{parameters_of, opened}
use Rattle.ns_moves.specs.Blocks.{new_cell, new_block, new_text, new_array, is_block_shape, is_block, block_body_in, block_arity, block_entered, evaluated, value_with_arguments, is_integer, has_arguments, turns_of, method_begun, listed, waiting, item_at, acted, method_next, taken}
use Rattle.ns_machine_alike.specs.Paired.{IsPairing, Paired, Partners, Same, AllPaired, MaybePaired, EndingPaired, CellPaired, HeapPaired, KStatePaired, Abreast, ActivationPaired, AfterPaired, ControlPaired, WaitingPaired}
use Rattle.ns_machine_alike.proofs.Values.{cond_so, at_index, same_length}
use Rattle.ns_machine_alike.proofs.Charging.{step_charged, frame_charged, left_abreast}
use Rattle.ns_machine_alike.proofs.Keeping.{NoBoard, cell_charged}
use Rattle.ns_machine_alike.proofs.Reading.{ShapePaired, value_shape_paired, items_paired}
use Rattle.ns_machine_alike.proofs.Actions.{same_error, opened_paired}

module _ (Pair : ℕ → ℕ → Type 0) (first second : Progress) (pairing : IsPairing Pair first.world second.world) where
  -- ---- new cells

  new_cell_paired : (cell cell' : Cell) (one two : Progress) → Abreast Pair first second one two → CellPaired Pair first second one.world.cells two.world.cells cell cell' → NoBoard cell
      → AfterPaired Pair first second (new_cell cell one) (new_cell cell' two)
  new_cell_paired cell cell' one two a p plain =
      cell_charged Pair first second pairing (AfterPaired Pair first second) Halts Halts one two cell cell' (Gives (Ref (heap_size one.world.cells))) (Gives (Ref (heap_size two.world.cells))) a p plain (refl, a)
      (λ next next' new b. (Partners (heap_size one.world.cells) (heap_size two.world.cells) new, b))

  pub new_block_paired : (activation activation' : Activation) (body : ℕ) (one two : Progress) → Abreast Pair first second one two → ActivationPaired Pair first second activation activation'
      → AfterPaired Pair first second (new_block activation body one) (new_block activation' body two)
  new_block_paired activation activation' body one two a p =
      new_cell_paired (BlockCell body activation.env activation.home activation.self activation.holder) (BlockCell body activation'.env activation'.home activation'.self activation'.holder) one two a (refl, p.env, p.home, p.self, p.holder) (λ e. absurd (cc (e)))

  pub new_text_paired : (bytes : List ℕ) (one two : Progress) → Abreast Pair first second one two → AfterPaired Pair first second (new_text bytes one) (new_text bytes two)
  new_text_paired bytes one two a = new_cell_paired (TextCell bytes) (TextCell bytes) one two a refl (λ e. absurd (cc (e)))

  pub new_array_paired : (items items' : List Value) (one two : Progress) → Abreast Pair first second one two → AllPaired Pair items items' → AfterPaired Pair first second (new_array items one) (new_array items' two)
  new_array_paired items items' one two a all = new_cell_paired (ArrayCell items) (ArrayCell items') one two a all (λ e. absurd (cc (e)))

  -- ---- evaluating a block

  entered_paired : (code : CodeProgram) (shape shape' : NewCell) (arguments arguments' : List Value) (site site' : Site) (one two : Progress) → Abreast Pair first second one two → ShapePaired Pair first second pairing shape shape'
      → AllPaired Pair arguments arguments' → site ≡ site' → ControlPaired Pair first second (block_entered code shape arguments site one) (block_entered code shape' arguments' site' two)
  entered_paired code (new.Block body env home receiver holder) (new.Block body' env' home' receiver' holder') arguments arguments' site site' one two a s all e =
      cond_so (ControlPaired Pair first second) (length arguments == parameters_of code body) (length arguments' == parameters_of code body')
      (charged halts Steps (stepped one.world) one (λ progress.
      charged halts Depth (entered progress.world) progress
      (opened code halts (Enter FromBody) (record { self = receiver; holder = holder; body = body; home = home; env = env; site = site }) arguments)))
      (fails WrongArity site one)
      (charged halts Steps (stepped two.world) two (λ progress.
      charged halts Depth (entered progress.world) progress
      (opened code halts (Enter FromBody) (record { self = receiver'; holder = holder'; body = body'; home = home'; env = env'; site = site' }) arguments')))
      (fails WrongArity site' two)
      (ap (λ n. n == parameters_of code body) (same_length Pair arguments arguments' all) ∙ ap (λ b. length arguments' == parameters_of code b) s.0)
      (λ t. step_charged Pair first second pairing (ControlPaired Pair first second) halts halts one two (λ progress.
      charged halts Depth (entered progress.world) progress
      (opened code halts (Enter FromBody) (record { self = receiver; holder = holder; body = body; home = home; env = env; site = site }) arguments)) (λ progress.
      charged halts Depth (entered progress.world) progress
      (opened code halts (Enter FromBody) (record { self = receiver'; holder = holder'; body = body'; home = home'; env = env'; site = site' }) arguments')) a (refl, a)
      (λ next next' same same' b. frame_charged Pair first second pairing (ControlPaired Pair first second) halts halts next next'
      (opened code halts (Enter FromBody) (record { self = receiver; holder = holder; body = body; home = home; env = env; site = site }) arguments)
      (opened code halts (Enter FromBody) (record { self = receiver'; holder = holder'; body = body'; home = home'; env = env'; site = site' }) arguments') b (refl, b)
      (λ last last' more more' z. opened_paired Pair first second pairing (ControlPaired Pair first second) code halts halts (Enter FromBody) (Enter FromBody)
      (record { self = receiver; holder = holder; body = body; home = home; env = env; site = site }) (record { self = receiver'; holder = holder'; body = body'; home = home'; env = env'; site = site' }) arguments arguments' last last' z
      (record { self = s.3; holder = s.4; body = s.0; home = s.2; env = s.1; site = e }) all (refl, z)
      (λ inner inner' locals locals' end end' q own own' l y. (tt, tt, q, l, y)))))
      (λ t. (same_error Pair WrongArity site site' e, a))
  entered_paired code (new.Object class words) (new.Object class' words') arguments arguments' site site' one two a s all e = (same_error Pair WrongKind site site' e, a)
  entered_paired code (new.Class decl base encl holder over) (new.Class decl' base' encl' holder' over') arguments arguments' site site' one two a s all e = (same_error Pair WrongKind site site' e, a)
  entered_paired code (new.Environment parent locals) (new.Environment parent' locals') arguments arguments' site site' one two a s all e = (same_error Pair WrongKind site site' e, a)
  entered_paired code (new.Array size) (new.Array size') arguments arguments' site site' one two a s all e = (same_error Pair WrongKind site site' e, a)
  entered_paired code (new.Text bytes) (new.Text bytes') arguments arguments' site site' one two a s all e = (same_error Pair WrongKind site site' e, a)
  entered_paired code (new.Facet facet) (new.Facet facet') arguments arguments' site site' one two a s all e = (same_error Pair WrongKind site site' e, a)
  entered_paired code (new.Mirror mirrored) (new.Mirror mirrored') arguments arguments' site site' one two a s all e = (same_error Pair WrongKind site site' e, a)
  entered_paired code (new.Message sel args) (new.Message sel' args') arguments arguments' site site' one two a s all e = (same_error Pair WrongKind site site' e, a)
  entered_paired code shape shape' arguments arguments' site site' one two a s all e = absurd s

  pub evaluated_paired : (code : CodeProgram) (block block' : Value) (arguments arguments' : List Value) (site site' : Site) (one two : Progress)
      → Abreast Pair first second one two → Paired Pair block block' → AllPaired Pair arguments arguments' → site ≡ site'
      → ControlPaired Pair first second (evaluated code block arguments site one) (evaluated code block' arguments' site' two)
  evaluated_paired code block block' arguments arguments' site site' one two a b all s =
      entered_paired code (shape_of_value one.world.cells block) (shape_of_value two.world.cells block') arguments arguments' site site' one two a (value_shape_paired Pair first second pairing one.world.cells two.world.cells a.heaps block block' b) all s

  -- a test of the shape of a value
  shape_array : (shape shape' : NewCell) → ShapePaired Pair first second pairing shape shape' → is_array_shape shape ≡ is_array_shape shape'
  shape_array (new.Array size) (new.Array size') s = refl
  shape_array (new.Object class words) (new.Object class' words') s = refl
  shape_array (new.Class decl base encl holder over) (new.Class decl' base' encl' holder' over') s = refl
  shape_array (new.Block body env home receiver holder) (new.Block body' env' home' receiver' holder') s = refl
  shape_array (new.Environment parent locals) (new.Environment parent' locals') s = refl
  shape_array (new.Text bytes) (new.Text bytes') s = refl
  shape_array (new.Facet kind) (new.Facet kind') s = refl
  shape_array (new.Mirror mirrored) (new.Mirror mirrored') s = refl
  shape_array (new.Message sel args) (new.Message sel' args') s = refl
  shape_array shape shape' s = absurd s

  shape_block : (shape shape' : NewCell) → ShapePaired Pair first second pairing shape shape' → is_block_shape shape ≡ is_block_shape shape'
  shape_block (new.Block body env home receiver holder) (new.Block body' env' home' receiver' holder') s = refl
  shape_block (new.Array size) (new.Array size') s = refl
  shape_block (new.Object class words) (new.Object class' words') s = refl
  shape_block (new.Class decl base encl holder over) (new.Class decl' base' encl' holder' over') s = refl
  shape_block (new.Environment parent locals) (new.Environment parent' locals') s = refl
  shape_block (new.Text bytes) (new.Text bytes') s = refl
  shape_block (new.Facet kind) (new.Facet kind') s = refl
  shape_block (new.Mirror mirrored) (new.Mirror mirrored') s = refl
  shape_block (new.Message sel args) (new.Message sel' args') s = refl
  shape_block shape shape' s = absurd s

  shape_body : (shape shape' : NewCell) → ShapePaired Pair first second pairing shape shape' → block_body_in shape ≡ block_body_in shape'
  shape_body (new.Block body env home receiver holder) (new.Block body' env' home' receiver' holder') s = s.0
  shape_body (new.Array size) (new.Array size') s = refl
  shape_body (new.Object class words) (new.Object class' words') s = refl
  shape_body (new.Class decl base encl holder over) (new.Class decl' base' encl' holder' over') s = refl
  shape_body (new.Environment parent locals) (new.Environment parent' locals') s = refl
  shape_body (new.Text bytes) (new.Text bytes') s = refl
  shape_body (new.Facet kind) (new.Facet kind') s = refl
  shape_body (new.Mirror mirrored) (new.Mirror mirrored') s = refl
  shape_body (new.Message sel args) (new.Message sel' args') s = refl
  shape_body shape shape' s = absurd s

  pub same_array : (heap other : Heap) (value value' : Value) → HeapPaired Pair first second heap other → Paired Pair value value' → is_array heap value ≡ is_array other value'
  same_array heap other value value' h p = shape_array (shape_of_value heap value) (shape_of_value other value') (value_shape_paired Pair first second pairing heap other h value value' p)

  pub same_block : (heap other : Heap) (value value' : Value) → HeapPaired Pair first second heap other → Paired Pair value value' → is_block heap value ≡ is_block other value'
  same_block heap other value value' h p = shape_block (shape_of_value heap value) (shape_of_value other value') (value_shape_paired Pair first second pairing heap other h value value' p)

  pub same_arity : (code : CodeProgram) (heap other : Heap) (block block' : Value) → HeapPaired Pair first second heap other → Paired Pair block block' → block_arity code heap block ≡ block_arity code other block'
  same_arity code heap other block block' h p = ap (parameters_of code) (shape_body (shape_of_value heap block) (shape_of_value other block') (value_shape_paired Pair first second pairing heap other h block block' p))

  pub with_arguments_paired : (block block' array array' : Value) (site site' : Site) (one two : Progress) → Abreast Pair first second one two → Paired Pair block block' → Paired Pair array array' → site ≡ site'
      → ControlPaired Pair first second (value_with_arguments block array site one) (value_with_arguments block' array' site' two)
  with_arguments_paired block block' array array' site site' one two a b p e =
      let items = items_paired Pair first second pairing one.world.cells two.world.cells a.heaps array array' p in
      cond_so (ControlPaired Pair first second) (is_array one.world.cells array) (is_array two.world.cells array')
      (cond (nat_lt 255 (length (items_of one.world.cells array))) (fails WrongArity site one) (Evaluate block (items_of one.world.cells array) site one)) (fails WrongKind site one)
      (cond (nat_lt 255 (length (items_of two.world.cells array'))) (fails WrongArity site' two) (Evaluate block' (items_of two.world.cells array') site' two)) (fails WrongKind site' two)
      (same_array one.world.cells two.world.cells array array' a.heaps p)
      (λ t. cond_so (ControlPaired Pair first second) (nat_lt 255 (length (items_of one.world.cells array))) (nat_lt 255 (length (items_of two.world.cells array'))) (fails WrongArity site one) (Evaluate block (items_of one.world.cells array) site one)
      (fails WrongArity site' two) (Evaluate block' (items_of two.world.cells array') site' two)
      (ap (nat_lt 255) (same_length Pair (items_of one.world.cells array) (items_of two.world.cells array') items)) (λ u. (same_error Pair WrongArity site site' e, a)) (λ u. (b, items, e, a)))
      (λ t. (same_error Pair WrongKind site site' e, a))

  -- ---- methods of the kernel

  same_integer : (value value' : Value) → Paired Pair value value' → is_integer value ≡ is_integer value'
  same_integer value value' (Partners n m p) = refl
  same_integer value value' (Same same e) = refl

  same_arguments : (heap other : Heap) (named : KMethod) (a a' b b' : Value) → HeapPaired Pair first second heap other → Paired Pair a a' → Paired Pair b b' → has_arguments heap named a b ≡ has_arguments other named a' b'
  same_arguments heap other named a a' b b' h p q = by named
    where
      one : is_block heap a ≡ is_block other a'
      one = same_block heap other a a' h p

      two : is_block heap b ≡ is_block other b'
      two = same_block heap other b b' h q

      both : (is_block heap a && is_block heap b) ≡ (is_block other a' && is_block other b')
      both = ap (λ c. c && is_block heap b) one ∙ ap (λ c. is_block other a' && c) two

      by : (n : KMethod) → has_arguments heap n a b ≡ has_arguments other n a' b'
      by method.IfTrueIfFalse = both
      by method.IfFalseIfTrue = both
      by method.ToDo = ap (λ c. c && is_block heap b) (same_integer a a' p) ∙ ap (λ c. is_integer a' && c) two
      by method.And = one
      by method.Or = one
      by method.IfTrue = one
      by method.IfFalse = one
      by method.WhileTrue = one
      by method.WhileFalse = one
      by method.TimesRepeat = one
      by method.Do = one

  same_turns : (heap other : Heap) (named : KMethod) (receiver receiver' : Value) → HeapPaired Pair first second heap other → Paired Pair receiver receiver' → turns_of heap named receiver ≡ turns_of other named receiver'
  same_turns heap other method.Do receiver receiver' h p = same_length Pair (items_of heap receiver) (items_of other receiver') (items_paired Pair first second pairing heap other h receiver receiver' p)
  same_turns heap other method.And receiver receiver' h p = refl
  same_turns heap other method.Or receiver receiver' h p = refl
  same_turns heap other method.IfTrue receiver receiver' h p = refl
  same_turns heap other method.IfFalse receiver receiver' h p = refl
  same_turns heap other method.IfTrueIfFalse receiver receiver' h p = refl
  same_turns heap other method.IfFalseIfTrue receiver receiver' h p = refl
  same_turns heap other method.WhileTrue receiver receiver' h p = refl
  same_turns heap other method.WhileFalse receiver receiver' h p = refl
  same_turns heap other method.ToDo receiver receiver' h p = refl
  same_turns heap other method.TimesRepeat receiver receiver' h p = refl

  pub method_begun_paired : (named : KMethod) (receiver receiver' x x' y y' : Value) (site site' : Site) (one two : Progress) → Abreast Pair first second one two → Paired Pair receiver receiver' → Paired Pair x x' → Paired Pair y y' → site ≡ site'
      → ControlPaired Pair first second (method_begun named receiver x y site one) (method_begun named receiver' x' y' site' two)
  method_begun_paired named receiver receiver' x x' y y' site site' one two a r p q e =
      cond_so (ControlPaired Pair first second) (has_arguments one.world.cells named x y) (has_arguments two.world.cells named x' y')
      (charged halts Depth (entered one.world) one (Begin named (beginning receiver x y (pos (turns_of one.world.cells named receiver))) site)) (fails WrongKind site one)
      (charged halts Depth (entered two.world) two (Begin named (beginning receiver' x' y' (pos (turns_of two.world.cells named receiver'))) site')) (fails WrongKind site' two)
      (same_arguments one.world.cells two.world.cells named x x' y y' a.heaps p q)
      (λ t. frame_charged Pair first second pairing (ControlPaired Pair first second) halts halts one two (Begin named (beginning receiver x y (pos (turns_of one.world.cells named receiver))) site)
      (Begin named (beginning receiver' x' y' (pos (turns_of two.world.cells named receiver'))) site') a (refl, a)
      (λ next next' same same' b.
      (refl, record { receiver = r; first = p; second = q; size = ap pos (same_turns one.world.cells two.world.cells named receiver receiver' a.heaps r); count = refl; last = tt }, e, b)))
      (λ t. (same_error Pair WrongKind site site' e, a))

  -- what a method does next in both
  abbrev KActionPaired : KAction → KAction → Type 0
  KActionPaired (action.Evaluate block argument turn count) (action.Evaluate block' argument' turn' count') = Paired Pair block block' × MaybePaired Pair argument argument' × (turn ≡ turn') × (count ≡ count')
  KActionPaired (action.EvaluateItem block item count) (action.EvaluateItem block' item' count') = Paired Pair block block' × (item ≡ item') × (count ≡ count')
  KActionPaired (action.Answer value) (action.Answer value') = Paired Pair value value'
  KActionPaired (action.Fail kind) (action.Fail kind') = kind ≡ kind'
  KActionPaired one other = ⊥

  value_of_paired : (block block' : Value) (last last' : Option Value) → Paired Pair block block' → MaybePaired Pair last last' → KActionPaired (kcode.value_of block last) (kcode.value_of block' last')
  value_of_paired block block' None None b l = (b, tt, refl, refl)
  value_of_paired block block' (Some value) (Some value') b l = l
  value_of_paired block block' None (Some value') b l = absurd l
  value_of_paired block block' (Some value) None b l = absurd l

  and_paired : (receiver receiver' block block' : Value) (last last' : Option Value) → Paired Pair receiver receiver' → Paired Pair block block' → MaybePaired Pair last last'
      → KActionPaired (kcode.and_next receiver block last) (kcode.and_next receiver' block' last')
  and_paired receiver receiver' block block' last last' (Partners n m p) b l = Partners n m p
  and_paired receiver receiver' block block' last last' (Same value e) b l = by value e
    where
      by : (v : Value) → is_reference v ≡ false → KActionPaired (kcode.and_next v block last) (kcode.and_next v block' last')
      by True e = value_of_paired block block' last last' b l
      by False e = Same False refl
      by Nil e = Same Nil refl
      by (Int number) e = Same (Int number) refl
      by (Sym sel) e = Same (Sym sel) refl
      by (Kernel class) e = Same (Kernel class) refl
      by (Ref at) e = absurd (cc (e))

  or_paired : (receiver receiver' block block' : Value) (last last' : Option Value) → Paired Pair receiver receiver' → Paired Pair block block' → MaybePaired Pair last last'
      → KActionPaired (kcode.or_next receiver block last) (kcode.or_next receiver' block' last')
  or_paired receiver receiver' block block' last last' (Partners n m p) b l = Partners n m p
  or_paired receiver receiver' block block' last last' (Same value e) b l = by value e
    where
      by : (v : Value) → is_reference v ≡ false → KActionPaired (kcode.or_next v block last) (kcode.or_next v block' last')
      by True e = Same True refl
      by False e = value_of_paired block block' last last' b l
      by Nil e = Same Nil refl
      by (Int number) e = Same (Int number) refl
      by (Sym sel) e = Same (Sym sel) refl
      by (Kernel class) e = Same (Kernel class) refl
      by (Ref at) e = absurd (cc (e))

  if_true_paired : (receiver receiver' block block' : Value) (last last' : Option Value) → Paired Pair receiver receiver' → Paired Pair block block' → MaybePaired Pair last last'
      → KActionPaired (kcode.if_true_next receiver block last) (kcode.if_true_next receiver' block' last')
  if_true_paired receiver receiver' block block' last last' (Partners n m p) b l = Same Nil refl
  if_true_paired receiver receiver' block block' last last' (Same value e) b l = by value
    where
      by : (v : Value) → KActionPaired (kcode.if_true_next v block last) (kcode.if_true_next v block' last')
      by True = value_of_paired block block' last last' b l
      by False = Same Nil refl
      by Nil = Same Nil refl
      by (Int number) = Same Nil refl
      by (Sym sel) = Same Nil refl
      by (Kernel class) = Same Nil refl
      by (Ref at) = Same Nil refl

  if_false_paired : (receiver receiver' block block' : Value) (last last' : Option Value) → Paired Pair receiver receiver' → Paired Pair block block' → MaybePaired Pair last last'
      → KActionPaired (kcode.if_false_next receiver block last) (kcode.if_false_next receiver' block' last')
  if_false_paired receiver receiver' block block' last last' (Partners n m p) b l = Same Nil refl
  if_false_paired receiver receiver' block block' last last' (Same value e) b l = by value
    where
      by : (v : Value) → KActionPaired (kcode.if_false_next v block last) (kcode.if_false_next v block' last')
      by False = value_of_paired block block' last last' b l
      by True = Same Nil refl
      by Nil = Same Nil refl
      by (Int number) = Same Nil refl
      by (Sym sel) = Same Nil refl
      by (Kernel class) = Same Nil refl
      by (Ref at) = Same Nil refl

  choice_paired : (receiver receiver' x x' y y' : Value) (last last' : Option Value) → Paired Pair receiver receiver' → Paired Pair x x' → Paired Pair y y' → MaybePaired Pair last last'
      → KActionPaired (kcode.choice_next receiver x y last) (kcode.choice_next receiver' x' y' last')
  choice_paired receiver receiver' x x' y y' last last' (Partners n m p) b c l = value_of_paired y y' last last' c l
  choice_paired receiver receiver' x x' y y' last last' (Same value e) b c l = by value
    where
      by : (v : Value) → KActionPaired (kcode.choice_next v x y last) (kcode.choice_next v x' y' last')
      by True = value_of_paired x x' last last' b l
      by False = value_of_paired y y' last last' c l
      by Nil = value_of_paired y y' last last' c l
      by (Int number) = value_of_paired y y' last last' c l
      by (Sym sel) = value_of_paired y y' last last' c l
      by (Kernel class) = value_of_paired y y' last last' c l
      by (Ref at) = value_of_paired y y' last last' c l

  while_true_paired : (receiver receiver' block block' : Value) (last last' : Option Value) → Paired Pair receiver receiver' → Paired Pair block block' → MaybePaired Pair last last'
      → KActionPaired (kcode.while_true_next receiver block last) (kcode.while_true_next receiver' block' last')
  while_true_paired receiver receiver' block block' None None r b l = (r, tt, refl, refl)
  while_true_paired receiver receiver' block block' None (Some last') r b l = absurd l
  while_true_paired receiver receiver' block block' (Some last) None r b l = absurd l
  while_true_paired receiver receiver' block block' (Some last) (Some last') r b l = by last last' l
    where
      same : (v : Value) → KActionPaired (kcode.while_true_next receiver block (Some v)) (kcode.while_true_next receiver' block' (Some v))
      same True = (b, tt, refl, refl)
      same False = Same Nil refl
      same Nil = refl
      same (Int number) = refl
      same (Sym sel) = refl
      same (Kernel class) = refl
      same (Ref at) = refl

      by : (v v' : Value) → Paired Pair v v' → KActionPaired (kcode.while_true_next receiver block (Some v)) (kcode.while_true_next receiver' block' (Some v'))
      by v v' (Partners n m p) = refl
      by v v' (Same value e) = same value

  while_false_paired : (receiver receiver' block block' : Value) (last last' : Option Value) → Paired Pair receiver receiver' → Paired Pair block block' → MaybePaired Pair last last'
      → KActionPaired (kcode.while_false_next receiver block last) (kcode.while_false_next receiver' block' last')
  while_false_paired receiver receiver' block block' None None r b l = (r, tt, refl, refl)
  while_false_paired receiver receiver' block block' None (Some last') r b l = absurd l
  while_false_paired receiver receiver' block block' (Some last) None r b l = absurd l
  while_false_paired receiver receiver' block block' (Some last) (Some last') r b l = by last last' l
    where
      same : (v : Value) → KActionPaired (kcode.while_false_next receiver block (Some v)) (kcode.while_false_next receiver' block' (Some v))
      same False = (b, tt, refl, refl)
      same True = Same Nil refl
      same Nil = refl
      same (Int number) = refl
      same (Sym sel) = refl
      same (Kernel class) = refl
      same (Ref at) = refl

      by : (v v' : Value) → Paired Pair v v' → KActionPaired (kcode.while_false_next receiver block (Some v)) (kcode.while_false_next receiver' block' (Some v'))
      by v v' (Partners n m p) = refl
      by v v' (Same value e) = same value

  tested_paired : (count count' : ℤ) (last last' : Option Value) → count ≡ count' → MaybePaired Pair last last' → MaybePaired Pair (kcode.tested count last) (kcode.tested count' last')
  tested_paired count count' last last' e l =
      subst (λ c. MaybePaired Pair (kcode.tested count last) (kcode.tested c last')) e (cond_so (MaybePaired Pair) (int_eq count (pos 0)) (int_eq count (pos 0)) None last None last' refl (λ t. tt) (λ t. l))

  -- the actions of methods that count their turns
  counted : (start end count : ℤ) (block block' : Value) → Paired Pair block block' → KActionPaired (kcode.to_do_next (Int start) (Int end) block count) (kcode.to_do_next (Int start) (Int end) block' count)
  counted start end count block block' b =
      cond_so KActionPaired (kcode.has_turn (start +ℤ count) end) (kcode.has_turn (start +ℤ count) end)
      (action.Evaluate block (Some (Int (start +ℤ count))) true (saturate_signed w64 (count +ℤ pos 1))) (action.Answer (Int start))
      (action.Evaluate block' (Some (Int (start +ℤ count))) true (saturate_signed w64 (count +ℤ pos 1))) (action.Answer (Int start)) refl
      (λ t. (b, Same (Int (start +ℤ count)) refl, refl, refl)) (λ t. Same (Int start) refl)

  to_do_paired : (receiver receiver' x x' block block' : Value) (count : ℤ) → Paired Pair receiver receiver' → Paired Pair x x' → Paired Pair block block'
      → KActionPaired (kcode.to_do_next receiver x block count) (kcode.to_do_next receiver' x' block' count)
  to_do_paired receiver receiver' x x' block block' count (Partners n m p) q b = other x x'
    where
      other : (v v' : Value) → KActionPaired (kcode.to_do_next (Ref n) v block count) (kcode.to_do_next (Ref m) v' block' count)
      other v v' = Partners n m p
  to_do_paired receiver receiver' x x' block block' count (Same value e) q b = by value e
    where
      number : (start : ℤ) (v v' : Value) → Paired Pair v v' → KActionPaired (kcode.to_do_next (Int start) v block count) (kcode.to_do_next (Int start) v' block' count)
      number start v v' (Partners n m p) = Same (Int start) refl
      number start v v' (Same end r) = inner end
        where
          inner : (w : Value) → KActionPaired (kcode.to_do_next (Int start) w block count) (kcode.to_do_next (Int start) w block' count)
          inner (Int end) = counted start end count block block' b
          inner Nil = Same (Int start) refl
          inner True = Same (Int start) refl
          inner False = Same (Int start) refl
          inner (Sym sel) = Same (Int start) refl
          inner (Kernel class) = Same (Int start) refl
          inner (Ref at) = Same (Int start) refl

      by : (v : Value) → is_reference v ≡ false → KActionPaired (kcode.to_do_next v x block count) (kcode.to_do_next v x' block' count)
      by (Int start) e = number start x x' q
      by Nil e = Same Nil refl
      by True e = Same True refl
      by False e = Same False refl
      by (Sym sel) e = Same (Sym sel) refl
      by (Kernel class) e = Same (Kernel class) refl
      by (Ref at) e = absurd (cc (e))

  times_paired : (receiver receiver' block block' : Value) (count : ℤ) → Paired Pair receiver receiver' → Paired Pair block block' → KActionPaired (kcode.times_next receiver block count) (kcode.times_next receiver' block' count)
  times_paired receiver receiver' block block' count (Partners n m p) b = Partners n m p
  times_paired receiver receiver' block block' count (Same value e) b = by value e
    where
      by : (v : Value) → is_reference v ≡ false → KActionPaired (kcode.times_next v block count) (kcode.times_next v block' count)
      by (Int times) e =
          cond_so KActionPaired (int_lt count times) (int_lt count times) (action.Evaluate block None true (count +ℤ pos 1)) (action.Answer (Int times)) (action.Evaluate block' None true (count +ℤ pos 1)) (action.Answer (Int times)) refl
          (λ t. (b, tt, refl, refl)) (λ t. Same (Int times) refl)
      by Nil e = Same Nil refl
      by True e = Same True refl
      by False e = Same False refl
      by (Sym sel) e = Same (Sym sel) refl
      by (Kernel class) e = Same (Kernel class) refl
      by (Ref at) e = absurd (cc (e))

  do_paired : (receiver receiver' block block' : Value) (size count : ℤ) → Paired Pair receiver receiver' → Paired Pair block block' → KActionPaired (kcode.do_next receiver block size count) (kcode.do_next receiver' block' size count)
  do_paired receiver receiver' block block' size count r b =
      cond_so KActionPaired (int_lt count size) (int_lt count size) (action.EvaluateItem block count (count +ℤ pos 1)) (action.Answer receiver) (action.EvaluateItem block' count (count +ℤ pos 1)) (action.Answer receiver') refl (λ t. (b, refl, refl)) (λ t. r)

  next_paired : (named : KMethod) (s z : KState) → KStatePaired Pair s z → KActionPaired (kcode.next named s) (kcode.next named z)
  next_paired method.And s z k = and_paired s.receiver z.receiver s.first z.first s.last z.last k.receiver k.first k.last
  next_paired method.Or s z k = or_paired s.receiver z.receiver s.first z.first s.last z.last k.receiver k.first k.last
  next_paired method.IfTrue s z k = if_true_paired s.receiver z.receiver s.first z.first s.last z.last k.receiver k.first k.last
  next_paired method.IfFalse s z k = if_false_paired s.receiver z.receiver s.first z.first s.last z.last k.receiver k.first k.last
  next_paired method.IfTrueIfFalse s z k = choice_paired s.receiver z.receiver s.first z.first s.second z.second s.last z.last k.receiver k.first k.second k.last
  next_paired method.IfFalseIfTrue s z k = choice_paired s.receiver z.receiver s.second z.second s.first z.first s.last z.last k.receiver k.second k.first k.last
  next_paired method.WhileTrue s z k = while_true_paired s.receiver z.receiver s.first z.first (kcode.tested s.count s.last) (kcode.tested z.count z.last) k.receiver k.first (tested_paired s.count z.count s.last z.last k.count k.last)
  next_paired method.WhileFalse s z k = while_false_paired s.receiver z.receiver s.first z.first (kcode.tested s.count s.last) (kcode.tested z.count z.last) k.receiver k.first (tested_paired s.count z.count s.last z.last k.count k.last)
  next_paired method.ToDo s z k = subst (λ c. KActionPaired (kcode.to_do_next s.receiver s.first s.second s.count) (kcode.to_do_next z.receiver z.first z.second c)) k.count (to_do_paired s.receiver z.receiver s.first z.first s.second z.second s.count k.receiver k.first k.second)
  next_paired method.TimesRepeat s z k = subst (λ c. KActionPaired (kcode.times_next s.receiver s.first s.count) (kcode.times_next z.receiver z.first c)) k.count (times_paired s.receiver z.receiver s.first z.first s.count k.receiver k.first)
  next_paired method.Do s z k =
      subst (λ c. KActionPaired (kcode.do_next s.receiver s.first s.size s.count) (kcode.do_next z.receiver z.first z.size c)) k.count
      (subst (λ n. KActionPaired (kcode.do_next s.receiver s.first s.size s.count) (kcode.do_next z.receiver z.first n s.count)) k.size (do_paired s.receiver z.receiver s.first z.first s.size s.count k.receiver k.first))

  listed_paired : (argument argument' : Option Value) → MaybePaired Pair argument argument' → AllPaired Pair (listed argument) (listed argument')
  listed_paired (Some value) (Some value') p = (p, tt)
  listed_paired None None p = tt
  listed_paired (Some value) None p = absurd p
  listed_paired None (Some value') p = absurd p

  waiting_paired : (s z : KState) (count count' : ℤ) → KStatePaired Pair s z → count ≡ count' → KStatePaired Pair (waiting s count) (waiting z count')
  waiting_paired s z count count' k e = record { receiver = k.receiver; first = k.first; second = k.second; size = k.size; count = e; last = tt }

  acted_paired : (next next' : KAction) (s z : KState) (site site' : Site) (one two : Progress) → Abreast Pair first second one two → KStatePaired Pair s z → KActionPaired next next' → site ≡ site'
      → WaitingPaired Pair first second (acted next s site one) (acted next' z site' two)
  acted_paired (action.Evaluate block argument true count) (action.Evaluate block' argument' true count') s z site site' one two a k p e =
      step_charged Pair first second pairing (WaitingPaired Pair first second) (λ ending progress. Finishes (Halts ending progress)) (λ ending progress. Finishes (Halts ending progress)) one two
      (Waits block (listed argument) (waiting s count)) (Waits block' (listed argument') (waiting z count')) a (refl, a)
      (λ next next' same same' b. (p.0, listed_paired argument argument' p.1, waiting_paired s z count count' k p.3, b))
  acted_paired (action.Evaluate block argument false count) (action.Evaluate block' argument' false count') s z site site' one two a k p e = (p.0, listed_paired argument argument' p.1, waiting_paired s z count count' k p.3, a)
  acted_paired (action.Evaluate block argument true count) (action.Evaluate block' argument' false count') s z site site' one two a k p e = absurd (let q = p.2 in cc)
  acted_paired (action.Evaluate block argument false count) (action.Evaluate block' argument' true count') s z site site' one two a k p e = absurd (let q = p.2 in cc)
  acted_paired (action.EvaluateItem block item count) (action.EvaluateItem block' item' count') s z site site' one two a k p e =
      step_charged Pair first second pairing (WaitingPaired Pair first second) (λ ending progress. Finishes (Halts ending progress)) (λ ending progress. Finishes (Halts ending progress)) one two
      (λ progress. Waits block (item_at progress.world.cells s.receiver item ∷ []) (waiting s count) progress) (λ progress. Waits block' (item_at progress.world.cells z.receiver item' ∷ []) (waiting z count') progress) a (refl, a)
      (λ next next' same same' b. (p.0, (at_item next next' b, tt), waiting_paired s z count count' k p.2, b))
    where
      at_item : (next next' : Progress) → Abreast Pair first second next next' → Paired Pair (item_at next.world.cells s.receiver item) (item_at next'.world.cells z.receiver item')
      at_item next next' b =
          subst (λ i. Paired Pair (item_at next.world.cells s.receiver item) (item_at next'.world.cells z.receiver i)) p.1
          (at_index Pair (items_of next.world.cells s.receiver) (items_of next'.world.cells z.receiver) (unsigned_abs item) (items_paired Pair first second pairing next.world.cells next'.world.cells b.heaps s.receiver z.receiver k.receiver))
  acted_paired (action.Answer value) (action.Answer value') s z site site' one two a k p e = (p, left_abreast Pair first second pairing one two a)
  acted_paired (action.Fail kind) (action.Fail kind') s z site site' one two a k p e =
      (subst (λ q. EndingPaired Pair (error kind site) (error q site')) p (same_error Pair kind site site' e), a)
  acted_paired next next' s z site site' one two a k p e = absurd p

  pub method_next_paired : (named : KMethod) (state state' : KState) (site site' : Site) (one two : Progress)
      → Abreast Pair first second one two → KStatePaired Pair state state' → site ≡ site'
      → WaitingPaired Pair first second (method_next named state site one) (method_next named state' site' two)
  method_next_paired named state state' site site' one two a k s = acted_paired (kcode.next named state) (kcode.next named state') state state' site site' one two a k (next_paired named state state' k) s

  -- a block has answered
  pub taken_paired : (state state' : KState) (value value' : Value) → KStatePaired Pair state state' → Paired Pair value value' → KStatePaired Pair (taken state value) (taken state' value')
  taken_paired state state' value value' k v = record { receiver = k.receiver; first = k.first; second = k.second; size = k.size; count = k.count; last = v }
