-- Blocks, and the methods of the kernel that evaluate them, stay within a set of cells.
use Rattle.std.proofs.Common.{ℕ, ℤ, pos, List, [], ◌∷◌, length, Option, Some, None, Bool, true, false, cond}
use Rattle.std.specs.Prelude.{◌==◌, nat_lt, int_lt, unsigned_abs, ◌+ℤ◌}
use Rattle.std.specs.Int.{w64, saturate_signed}
use Rattle.ns_code.specs.declared.program.CodeProgram.{CodeProgram}
use Rattle.ns_world.specs.declared.value.Value.{Value}
use Rattle.ns_world.specs.declared.value.Value.TheVariants.{Nil, True, False, Int, Sym, Kernel, Ref}
use Rattle.ns_world.specs.declared.ending.Kind.TheVariants.{WrongArity, WrongKind}
use Rattle.ns_world.specs.declared.ending.LimitKind.TheVariants.{Steps, Depth}
use Rattle.ns_world.specs.declared.cell.NewCell.{NewCell}
use Rattle.ns_world.specs.declared.cell.NewCell.TheVariants as new
use Rattle.ns_world.specs.Cell.{Cell, BlockCell, ArrayCell, TextCell}
use Rattle.ns_world.specs.Heap.{heap_size}
use Rattle.ns_world.specs.World.{stepped, entered}
use Rattle.ns_kdata.specs.Arguments.{items_of, is_array, shape_of_value}
use Rattle.ns_world.specs.declared.kernel_parts.KMethod.{KMethod}
use Rattle.ns_world.specs.declared.kernel_parts.KMethod.TheVariants as method
use Rattle.ns_kcode.specs.declared.state.KState.{KState}
use Rattle.ns_kcode.specs.declared.state.KAction.{KAction}
use Rattle.ns_kcode.specs.declared.state.KAction.TheVariants as action
use Rattle.ns_kcode.specs.Next as kcode
use Rattle.ns_kcode.specs.Rows.{beginning}
use Rattle.ns_moves.specs.declared.site.Site.{Site}
use Rattle.ns_moves.specs.Control.{Progress, Activation, FromBody, Gives, Halts, Enter, Evaluate, Begin, Waits, Finishes, halts, fails, charged}
use Rattle.ns_moves.specs.Bodies.{parameters_of, opened}
use Rattle.ns_moves.specs.Blocks.{new_cell, new_block, new_text, new_array, block_entered, evaluated, value_with_arguments, has_arguments, turns_of, method_begun, listed, waiting, item_at, acted, method_next, taken}
use Rattle.ns_machine_reach.specs.Within.{HasLater, In, AllIn, MaybeIn, CellIn, Kept, ActivationIn, KStateIn, AfterIn, ControlIn, WaitingIn}
use Rattle.ns_machine_reach.proofs.Cells.{at_index}
use Rattle.ns_machine_reach.proofs.Keeping.{NoFacet, left_kept}
use Rattle.ns_machine_reach.proofs.Reading.{ShapeIn, value_shape_in, items_in}
use Rattle.ns_machine_reach.proofs.Actions.{step_charged, frame_charged, cell_charged, opened_in}

module _ (Has : ℕ → Type 0) (first : Progress) where
  -- ---- new cells

  new_cell_in : (cell : Cell) (now : Progress) → HasLater Has first.world.cells → Kept Has first now → CellIn Has now.world.cells cell → NoFacet cell → AfterIn Has first (new_cell cell now)
  new_cell_in cell now later kept inside plain =
      cell_charged Has first (AfterIn Has first) Halts now cell (Gives (Ref (heap_size now.world.cells))) later kept inside plain (tt, kept) (λ next has k. (has, k))

  pub new_block_in : (activation : Activation) (body : ℕ) (now : Progress) → HasLater Has first.world.cells → Kept Has first now → ActivationIn Has activation → AfterIn Has first (new_block activation body now)
  new_block_in activation body now later kept a =
      new_cell_in (BlockCell body activation.env activation.home activation.self activation.holder) now later kept (a.2, a.0, a.1) (λ kind e. absurd (cc (e)))

  pub new_text_in : (bytes : List ℕ) (now : Progress) → HasLater Has first.world.cells → Kept Has first now → AfterIn Has first (new_text bytes now)
  new_text_in bytes now later kept = new_cell_in (TextCell bytes) now later kept tt (λ kind e. absurd (cc (e)))

  pub new_array_in : (items : List Value) (now : Progress) → HasLater Has first.world.cells → Kept Has first now → AllIn Has items → AfterIn Has first (new_array items now)
  new_array_in items now later kept all = new_cell_in (ArrayCell items) now later kept all (λ kind e. absurd (cc (e)))

  -- ---- evaluating a block

  entered_in : (code : CodeProgram) (shape : NewCell) (arguments : List Value) (site : Site) (now : Progress) → HasLater Has first.world.cells → Kept Has first now → ShapeIn Has shape → AllIn Has arguments
      → ControlIn Has first (block_entered code shape arguments site now)
  entered_in code (new.Block body env home receiver holder) arguments site now later kept s all = by (length arguments == parameters_of code body)
    where
      open_in : (next : Progress) → Kept Has first next → ControlIn Has first (opened code halts (Enter FromBody) (record { self = receiver; holder = holder; body = body; home = home; env = env; site = site }) arguments next)
      open_in next k =
          opened_in Has first (ControlIn Has first) code halts (Enter FromBody) (record { self = receiver; holder = holder; body = body; home = home; env = env; site = site }) arguments next later k (s.1, s.2, s.0) all (tt, k)
          (λ inner locals last a l z. (tt, a, l, z))

      by : (b : Bool) → ControlIn Has first (cond b (charged halts Steps (stepped now.world) now (λ progress.
          charged halts Depth (entered progress.world) progress
          (opened code halts (Enter FromBody) (record { self = receiver; holder = holder; body = body; home = home; env = env; site = site }) arguments))) (fails WrongArity site now))
      by true =
          step_charged Has first (ControlIn Has first) halts now (λ progress.
          charged halts Depth (entered progress.world) progress
          (opened code halts (Enter FromBody) (record { self = receiver; holder = holder; body = body; home = home; env = env; site = site }) arguments)) kept (tt, kept)
          (λ next same k. frame_charged Has first (ControlIn Has first) halts next
          (opened code halts (Enter FromBody) (record { self = receiver; holder = holder; body = body; home = home; env = env; site = site }) arguments) k (tt, k) (λ last same' z. open_in last z))
      by false = (tt, kept)
  entered_in code (new.Object class words) arguments site now later kept s all = (tt, kept)
  entered_in code (new.Class decl base encl holder over) arguments site now later kept s all = (tt, kept)
  entered_in code (new.Environment parent locals) arguments site now later kept s all = (tt, kept)
  entered_in code (new.Array size) arguments site now later kept s all = (tt, kept)
  entered_in code (new.Text bytes) arguments site now later kept s all = (tt, kept)
  entered_in code (new.Facet facet) arguments site now later kept s all = (tt, kept)
  entered_in code (new.Mirror mirrored) arguments site now later kept s all = (tt, kept)
  entered_in code (new.Message sel args) arguments site now later kept s all = (tt, kept)

  pub evaluated_in : (code : CodeProgram) (block : Value) (arguments : List Value) (site : Site) (now : Progress) → HasLater Has first.world.cells → Kept Has first now → In Has block → AllIn Has arguments
      → ControlIn Has first (evaluated code block arguments site now)
  evaluated_in code block arguments site now later kept b all =
      entered_in code (shape_of_value now.world.cells block) arguments site now later kept (value_shape_in Has now.world.cells block kept.closed b) all

  pub with_arguments_in : (block array : Value) (site : Site) (now : Progress) → Kept Has first now → In Has block → In Has array → ControlIn Has first (value_with_arguments block array site now)
  with_arguments_in block array site now kept b i = by (is_array now.world.cells array)
    where
      few : (c : Bool) → ControlIn Has first (cond c (fails WrongArity site now) (Evaluate block (items_of now.world.cells array) site now))
      few true = (tt, kept)
      few false = (b, items_in Has now.world.cells array kept.closed i, kept)

      by : (c : Bool) → ControlIn Has first (cond c (cond (nat_lt 255 (length (items_of now.world.cells array))) (fails WrongArity site now) (Evaluate block (items_of now.world.cells array) site now)) (fails WrongKind site now))
      by true = few (nat_lt 255 (length (items_of now.world.cells array)))
      by false = (tt, kept)

  -- ---- methods of the kernel

  pub method_begun_in : (named : KMethod) (receiver one two : Value) (site : Site) (now : Progress) → Kept Has first now → In Has receiver → In Has one → In Has two → ControlIn Has first (method_begun named receiver one two site now)
  method_begun_in named receiver one two site now kept r a b = by (has_arguments now.world.cells named one two)
    where
      by : (c : Bool) → ControlIn Has first (cond c (charged halts Depth (entered now.world) now
          (Begin named (beginning receiver one two (pos (turns_of now.world.cells named receiver))) site)) (fails WrongKind site now))
      by true = frame_charged Has first (ControlIn Has first) halts now (Begin named (beginning receiver one two (pos (turns_of now.world.cells named receiver))) site) kept (tt, kept) (λ next same k. ((r, a, b, tt), k))
      by false = (tt, kept)

  -- what a method does next
  abbrev KActionIn : KAction → Type 0
  KActionIn (action.Evaluate block argument turn count) = In Has block × MaybeIn Has argument
  KActionIn (action.EvaluateItem block item count) = In Has block
  KActionIn (action.Answer value) = In Has value
  KActionIn (action.Fail kind) = Unit {0}

  value_of_in : (block : Value) (last : Option Value) → In Has block → MaybeIn Has last → KActionIn (kcode.value_of block last)
  value_of_in block None b l = (b, tt)
  value_of_in block (Some value) b l = l

  and_in : (receiver block : Value) (last : Option Value) → In Has receiver → In Has block → MaybeIn Has last → KActionIn (kcode.and_next receiver block last)
  and_in True block last r b l = value_of_in block last b l
  and_in False block last r b l = tt
  and_in Nil block last r b l = tt
  and_in (Int number) block last r b l = tt
  and_in (Sym sel) block last r b l = tt
  and_in (Kernel class) block last r b l = tt
  and_in (Ref at) block last r b l = r

  or_in : (receiver block : Value) (last : Option Value) → In Has receiver → In Has block → MaybeIn Has last → KActionIn (kcode.or_next receiver block last)
  or_in True block last r b l = tt
  or_in False block last r b l = value_of_in block last b l
  or_in Nil block last r b l = tt
  or_in (Int number) block last r b l = tt
  or_in (Sym sel) block last r b l = tt
  or_in (Kernel class) block last r b l = tt
  or_in (Ref at) block last r b l = r

  if_true_in : (receiver block : Value) (last : Option Value) → In Has block → MaybeIn Has last → KActionIn (kcode.if_true_next receiver block last)
  if_true_in True block last b l = value_of_in block last b l
  if_true_in False block last b l = tt
  if_true_in Nil block last b l = tt
  if_true_in (Int number) block last b l = tt
  if_true_in (Sym sel) block last b l = tt
  if_true_in (Kernel class) block last b l = tt
  if_true_in (Ref at) block last b l = tt

  if_false_in : (receiver block : Value) (last : Option Value) → In Has block → MaybeIn Has last → KActionIn (kcode.if_false_next receiver block last)
  if_false_in True block last b l = tt
  if_false_in False block last b l = value_of_in block last b l
  if_false_in Nil block last b l = tt
  if_false_in (Int number) block last b l = tt
  if_false_in (Sym sel) block last b l = tt
  if_false_in (Kernel class) block last b l = tt
  if_false_in (Ref at) block last b l = tt

  choice_in : (receiver one two : Value) (last : Option Value) → In Has one → In Has two → MaybeIn Has last → KActionIn (kcode.choice_next receiver one two last)
  choice_in True one two last a b l = value_of_in one last a l
  choice_in False one two last a b l = value_of_in two last b l
  choice_in Nil one two last a b l = value_of_in two last b l
  choice_in (Int number) one two last a b l = value_of_in two last b l
  choice_in (Sym sel) one two last a b l = value_of_in two last b l
  choice_in (Kernel class) one two last a b l = value_of_in two last b l
  choice_in (Ref at) one two last a b l = value_of_in two last b l

  while_true_in : (receiver block : Value) (last : Option Value) → In Has receiver → In Has block → KActionIn (kcode.while_true_next receiver block last)
  while_true_in receiver block None r b = (r, tt)
  while_true_in receiver block (Some True) r b = (b, tt)
  while_true_in receiver block (Some False) r b = tt
  while_true_in receiver block (Some Nil) r b = tt
  while_true_in receiver block (Some (Int number)) r b = tt
  while_true_in receiver block (Some (Sym sel)) r b = tt
  while_true_in receiver block (Some (Kernel class)) r b = tt
  while_true_in receiver block (Some (Ref at)) r b = tt

  while_false_in : (receiver block : Value) (last : Option Value) → In Has receiver → In Has block → KActionIn (kcode.while_false_next receiver block last)
  while_false_in receiver block None r b = (r, tt)
  while_false_in receiver block (Some False) r b = (b, tt)
  while_false_in receiver block (Some True) r b = tt
  while_false_in receiver block (Some Nil) r b = tt
  while_false_in receiver block (Some (Int number)) r b = tt
  while_false_in receiver block (Some (Sym sel)) r b = tt
  while_false_in receiver block (Some (Kernel class)) r b = tt
  while_false_in receiver block (Some (Ref at)) r b = tt

  counted_in : (receiver end block : Value) (count : ℤ) → In Has receiver → In Has block → KActionIn (kcode.to_do_next receiver end block count)
  counted_in (Int start) (Int end) block count r b = by (kcode.has_turn (start +ℤ count) end)
    where
      by : (c : Bool) → KActionIn (cond c (action.Evaluate block (Some (Int (start +ℤ count))) true (saturate_signed w64 (count +ℤ pos 1))) (action.Answer (Int start)))
      by true = (b, tt)
      by false = tt
  counted_in (Int start) Nil block count r b = tt
  counted_in (Int start) True block count r b = tt
  counted_in (Int start) False block count r b = tt
  counted_in (Int start) (Sym sel) block count r b = tt
  counted_in (Int start) (Kernel class) block count r b = tt
  counted_in (Int start) (Ref at) block count r b = tt
  counted_in Nil end block count r b = tt
  counted_in True end block count r b = tt
  counted_in False end block count r b = tt
  counted_in (Sym sel) end block count r b = tt
  counted_in (Kernel class) end block count r b = tt
  counted_in (Ref at) end block count r b = r

  repeated_in : (receiver block : Value) (count : ℤ) → In Has receiver → In Has block → KActionIn (kcode.times_next receiver block count)
  repeated_in (Int times) block count r b = by (int_lt count times)
    where
      by : (c : Bool) → KActionIn (cond c (action.Evaluate block None true (count +ℤ pos 1)) (action.Answer (Int times)))
      by true = (b, tt)
      by false = tt
  repeated_in Nil block count r b = tt
  repeated_in True block count r b = tt
  repeated_in False block count r b = tt
  repeated_in (Sym sel) block count r b = tt
  repeated_in (Kernel class) block count r b = tt
  repeated_in (Ref at) block count r b = r

  items_done_in : (receiver block : Value) (size count : ℤ) → In Has receiver → In Has block → KActionIn (kcode.do_next receiver block size count)
  items_done_in receiver block size count r b = by (int_lt count size)
    where
      by : (c : Bool) → KActionIn (cond c (action.EvaluateItem block count (count +ℤ pos 1)) (action.Answer receiver))
      by true = b
      by false = r

  next_in : (named : KMethod) (state : KState) → KStateIn Has state → KActionIn (kcode.next named state)
  next_in method.And s k = and_in s.receiver s.first s.last k.0 k.1 k.3
  next_in method.Or s k = or_in s.receiver s.first s.last k.0 k.1 k.3
  next_in method.IfTrue s k = if_true_in s.receiver s.first s.last k.1 k.3
  next_in method.IfFalse s k = if_false_in s.receiver s.first s.last k.1 k.3
  next_in method.IfTrueIfFalse s k = choice_in s.receiver s.first s.second s.last k.1 k.2 k.3
  next_in method.IfFalseIfTrue s k = choice_in s.receiver s.second s.first s.last k.2 k.1 k.3
  next_in method.WhileTrue s k = while_true_in s.receiver s.first (kcode.tested s.count s.last) k.0 k.1
  next_in method.WhileFalse s k = while_false_in s.receiver s.first (kcode.tested s.count s.last) k.0 k.1
  next_in method.ToDo s k = counted_in s.receiver s.first s.second s.count k.0 k.2
  next_in method.TimesRepeat s k = repeated_in s.receiver s.first s.count k.0 k.1
  next_in method.Do s k = items_done_in s.receiver s.first s.size s.count k.0 k.1

  argument_listed : (argument : Option Value) → MaybeIn Has argument → AllIn Has (listed argument)
  argument_listed (Some value) i = (i, tt)
  argument_listed None i = tt

  acted_in : (next : KAction) (state : KState) (site : Site) (now : Progress) → Kept Has first now → KStateIn Has state → KActionIn next → WaitingIn Has first (acted next state site now)
  acted_in (action.Evaluate block argument true count) state site now kept s i =
      step_charged Has first (WaitingIn Has first) (λ ending progress. Finishes (Halts ending progress)) now (Waits block (listed argument) (waiting state count)) kept (tt, kept)
      (λ next same k. (i.0, argument_listed argument i.1, (s.0, s.1, s.2, tt), k))
  acted_in (action.Evaluate block argument false count) state site now kept s i = (i.0, argument_listed argument i.1, (s.0, s.1, s.2, tt), kept)
  acted_in (action.EvaluateItem block item count) state site now kept s i =
      step_charged Has first (WaitingIn Has first) (λ ending progress. Finishes (Halts ending progress)) now
      (λ progress. Waits block (item_at progress.world.cells state.receiver item ∷ []) (waiting state count) progress) kept (tt, kept)
      (λ next same k. (i, (at_index Has (items_of next.world.cells state.receiver) (unsigned_abs item) (items_in Has next.world.cells state.receiver k.closed s.0), tt), (s.0, s.1, s.2, tt), k))
  acted_in (action.Answer value) state site now kept s i = (i, left_kept Has first now kept)
  acted_in (action.Fail kind) state site now kept s i = (tt, kept)

  pub method_next_in : (named : KMethod) (state : KState) (site : Site) (now : Progress) → Kept Has first now → KStateIn Has state → WaitingIn Has first (method_next named state site now)
  method_next_in named state site now kept s = acted_in (kcode.next named state) state site now kept s (next_in named state s)

  -- a block has answered
  pub taken_in : (state : KState) (value : Value) → KStateIn Has state → In Has value → KStateIn Has (taken state value)
  taken_in state value s i = (s.0, s.1, s.2, i)
