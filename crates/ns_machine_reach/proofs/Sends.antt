-- Sends stay within a set of cells.
use Rattle.std.proofs.Common.{◌≡◌, ℕ, suc, ℤ, List, [], ◌∷◌, Option, true, sym, subst}
use Rattle.std.specs.Prelude.{Result, Ok, Err, IfOk, IsTrue}
use Rattle.ns_base.specs.declared.selector.Sel.{Sel}
use Rattle.ns_base.specs.declared.place.Place.{Place as SourcePlace}
use Rattle.ns_code.specs.declared.program.CodeProgram.{CodeProgram}
use Rattle.ns_code.specs.declared.own.Own.TheVariants.{DoesNotUnderstand}
use Rattle.ns_code.specs.Selector.{own_number}
use Rattle.ns_world.specs.declared.value.Value.{Value}
use Rattle.ns_world.specs.declared.value.Value.TheVariants.{Nil, True, False, Int, Sym, Kernel, Ref}
use Rattle.ns_world.specs.declared.ending.Fault.{Fault}
use Rattle.ns_world.specs.declared.ending.LimitKind.TheVariants.{Cells}
use Rattle.ns_world.specs.Cell.{ArrayCell, MessageCell}
use Rattle.ns_world.specs.Heap.{Heap, heap_size, cell_number}
use Rattle.ns_world.specs.World.{made, stored}
use Rattle.ns_world.specs.Starts.{start_of}
use Rattle.ns_kint.specs.Integer.{integer, is_integer_or_boolean}
use Rattle.ns_world.specs.declared.kernel_parts.IntRow.{IntRow}
use Rattle.ns_kdata.specs.Arguments.{argument, number_of, shape_of_value}
use Rattle.ns_kdata.specs.Outcome.{RowOutcome, Answers, Fails}
use Rattle.ns_kdata.specs.Rows.{message_selector}
use Rattle.ns_kdata.specs.Datum.{datum}
use Rattle.ns_world.specs.declared.kernel_parts.DataRow.{DataRow}
use Rattle.ns_world.specs.declared.kernel_parts.DataRow.TheVariants as about
use Rattle.ns_facets.specs.declared.board.Board.{Board}
use Rattle.ns_world.specs.declared.kernel_parts.FacetRow.{FacetRow}
use Rattle.ns_world.specs.declared.kernel_parts.FacetRow.TheVariants as facet
use Rattle.ns_facets.specs.Facet.{board_after, facet as facet_outcome}
use Rattle.ns_mirror.specs.declared.row.Mirrored.TheVariants.{Answer, Perform as MirrorPerform}
use Rattle.ns_mirror.specs.Mirror.{Reflected, Reflects, Refuses, mirror}
use Rattle.ns_find.specs.declared.found.Found.{Found}
use Rattle.ns_find.specs.declared.found.Found.TheVariants as found
use Rattle.ns_find.specs.declared.found.Sending.{Sending}
use Rattle.ns_find.specs.declared.found.Sending.TheVariants.{Plain, Inner}
use Rattle.ns_find.specs.declared.members.Side.{Side}
use Rattle.ns_find.specs.Find.{found_from, found_private, super_start}
use Rattle.ns_classes.specs.Nested.{kept_class}
use Rattle.ns_world.specs.declared.kernel_row.Row.{Row}
use Rattle.ns_world.specs.declared.kernel_row.Row.TheVariants as row
use Rattle.ns_moves.specs.declared.site.Site.{Site}
use Rattle.ns_moves.specs.Control.{Progress, in_world, Activation, FromMethod, Control, Enter, gives, halts, charged}
use Rattle.ns_moves.specs.Bodies.{opened, enclosing, side_at, side_of_body}
use Rattle.ns_moves.specs.Classes.{instance}
use Rattle.ns_world.specs.KernelTable.{row_at}
use Rattle.ns_moves.specs.Kernel as kernel
use Rattle.ns_moves.specs.Suiting.{RowSuits, FoundSuits, facet_of_row}
use Rattle.ns_moves.specs.Sends.{Target, To, ToPrivate, ToSuper, receiver_of, found_at, site_at, Arguments, Listed, Wrapped, given, first_of, one_more, method_entered, factory_entered, set, nested_in, row_sent, done_with, message_sel, not_found, answered_by, sent, sent_from}
use Rattle.ns_machine_reach.specs.Within.{HasLater, In, AllIn, Kept, ActivationIn, ControlIn}
use Rattle.ns_machine_reach.proofs.Keeping.{begun_kept, faulted}
use Rattle.ns_machine_reach.proofs.Reading.{value_shape_in, argument_in, FoundIn, found_value_in, found_super_in, found_private_in}
use Rattle.ns_machine_reach.proofs.Rows.{OutcomeIn, AnswerIn, data_in, stored_in}
use Rattle.ns_machine_reach.proofs.Facets.{WithBoard, the_facet, facet_row_in, ReflectedIn, mirrored_row_in, word_of_object_in}
use Rattle.ns_machine_reach.proofs.Actions.{step_charged, frame_charged, cell_charged, opened_in, mixed_in, kept_class_in, nested_in_set, instance_in}
use Rattle.ns_machine_reach.proofs.Blocks.{with_arguments_in, method_begun_in}

-- What is known of the rows of Integer, and of rows that are found.
pub record Known : Type 0 where
  pub integers : (row : IntRow) (left : ℤ) (right : Value) → IfOk (integer row left right) (λ v. IsTrue (is_integer_or_boolean v))
  pub value : (heap : Heap) (code : CodeProgram) (receiver : Value) (sel : ℕ) (kind : Sending) → FoundSuits heap receiver (found_from heap code (start_of heap receiver) sel kind)
  pub above : (heap : Heap) (code : CodeProgram) (receiver : Value) (holder : ℕ) (side : Side) (sel : ℕ) → FoundSuits heap receiver (found_from heap code (super_start heap holder side) sel Inner)
  pub own : (heap : Heap) (code : CodeProgram) (receiver : Value) (holder : ℕ) (side : Side) (sel : ℕ) → FoundSuits heap receiver (found_private heap code holder side sel)

module _ (Has : ℕ → Type 0) (first : Progress) (known : Known) where
  -- ---- rows of the kernel

  outcome_in : (outcome : RowOutcome) (site : Site) (now : Progress) → Kept Has first now → OutcomeIn Has first now outcome → ControlIn Has first (kernel.outcome_reached outcome site now)
  outcome_in (Answers value world) site now kept o = o
  outcome_in (Fails fault) site now kept o = (faulted Has fault site, kept)

  answer_in : (answer : Result Value Fault) (site : Site) (now : Progress) → Kept Has first now → AnswerIn Has first answer → ControlIn Has first (kernel.answer_reached answer site now)
  answer_in (Ok value) site now kept i = (i, kept)
  answer_in (Err fault) site now kept i = (faulted Has fault site, kept)

  refused_in : (outcome : RowOutcome) (selector : Value) (site : Site) (now : Progress) → Kept Has first now → OutcomeIn Has first now outcome → ControlIn Has first (kernel.message_refused outcome selector site now)
  refused_in (Answers value world) selector site now kept o = o
  refused_in (Fails fault) selector site now kept o = (faulted Has fault (kernel.message_site fault selector site), kept)

  plain_in : (value : Value) → is_integer_or_boolean value ≡ true → In Has value
  plain_in (Int number) e = tt
  plain_in True e = tt
  plain_in False e = tt
  plain_in Nil e = tt
  plain_in (Sym sel) e = tt
  plain_in (Kernel class) e = tt
  plain_in (Ref at) e = absurd (cc (e))

  integer_in : (int : IntRow) (left : ℤ) (right : Value) → AnswerIn Has first (integer int left right)
  integer_in int left right = by (integer int left right) (known.integers int left right)
    where
      by : (answer : Result Value Fault) → IfOk answer (λ v. IsTrue (is_integer_or_boolean v)) → AnswerIn Has first answer
      by (Ok value) k = plain_in value k
      by (Err fault) k = tt

  data_row_in : (code : CodeProgram) (asked : DataRow) (receiver : Value) (arguments : List Value) (site : Site) (now : Progress) → HasLater Has first.world.cells → Kept Has first now → In Has receiver → AllIn Has arguments
      → ControlIn Has first (kernel.data_reached code asked receiver arguments site now)
  data_row_in code asked receiver arguments site now later kept r all = by asked
    where
      out : (other : DataRow) → OutcomeIn Has first now (datum now.world code other receiver arguments)
      out other = data_in Has first code now other receiver (argument arguments 0) (argument arguments 1) later kept r (argument_in Has arguments 0 all) (argument_in Has arguments 1 all)

      plain : (other : DataRow) → ControlIn Has first (kernel.outcome_reached (datum now.world code other receiver arguments) site now)
      plain other = outcome_in (datum now.world code other receiver arguments) site now kept (out other)

      by : (other : DataRow) → ControlIn Has first (kernel.data_reached code other receiver arguments site now)
      by about.DoesNotUnderstand =
          refused_in (datum now.world code about.DoesNotUnderstand receiver arguments) (message_selector now.world.cells (argument arguments 0)) site now kept (out about.DoesNotUnderstand)
      by about.Identical = plain about.Identical
      by about.Equal = plain about.Equal
      by about.IsNil = plain about.IsNil
      by about.NotNil = plain about.NotNil
      by about.KernelObject = plain about.KernelObject
      by about.NewObject = plain about.NewObject
      by about.NewArray = plain about.NewArray
      by about.NilPrint = plain about.NilPrint
      by about.Not = plain about.Not
      by about.BooleanPrint = plain about.BooleanPrint
      by about.And = plain about.And
      by about.Or = plain about.Or
      by about.IntegerPrint = plain about.IntegerPrint
      by about.TextSize = plain about.TextSize
      by about.TextAt = plain about.TextAt
      by about.TextCopy = plain about.TextCopy
      by about.TextJoin = plain about.TextJoin
      by about.TextEqual = plain about.TextEqual
      by about.TextLess = plain about.TextLess
      by about.TextPrint = plain about.TextPrint
      by about.SymbolSize = plain about.SymbolSize
      by about.SymbolText = plain about.SymbolText
      by about.SymbolPrint = plain about.SymbolPrint
      by about.SymbolLess = plain about.SymbolLess
      by about.ArraySize = plain about.ArraySize
      by about.ArrayAt = plain about.ArrayAt
      by about.ArrayPut = plain about.ArrayPut
      by about.MessageSelector = plain about.MessageSelector
      by about.MessageArguments = plain about.MessageArguments

  boarded_in : (outcome : RowOutcome) (board : Board) (site : Site) (now : Progress) → WithBoard Has first now board outcome → ControlIn Has first (kernel.outcome_reached outcome site (record now { board = board }))
  boarded_in outcome board site now w = outcome_in outcome site (record now { board = board }) w.1 w.0

  facet_reached_in : (code : CodeProgram) (of : FacetRow) (receiver : Value) (arguments : List Value) (site : Site) (now : Progress) → Kept Has first now → In Has receiver → AllIn Has arguments
      → RowSuits now.world.cells receiver (row.Facet of) → ControlIn Has first (kernel.facet_reached code of arguments site now)
  facet_reached_in code of receiver arguments site now kept r all suits =
      boarded_in (facet_outcome now.world code of arguments now.board) (board_after of arguments now.board) site now
      (facet_row_in Has first code now of (argument arguments 0) (argument arguments 1) kept (argument_in Has arguments 0 all) (argument_in Has arguments 1 all)
      (the_facet Has first now receiver (facet_of_row of) r suits))

  reflected_in : (outcome : Reflected) (site : Site) (now : Progress) → Kept Has first now → ReflectedIn Has first now outcome → ControlIn Has first (kernel.reflected_reached outcome site now)
  reflected_in (Reflects (Answer value) world) site now kept i = i
  reflected_in (Reflects (MirrorPerform receiver sel array) world) site now kept i = i
  reflected_in (Refuses fault) site now kept i = (faulted Has fault site, kept)

  row_in : (code : CodeProgram) (r : Row) (sel : Sel) (receiver : Value) (arguments : List Value) (site : Site) (now : Progress) → HasLater Has first.world.cells → Kept Has first now → In Has receiver → AllIn Has arguments
      → RowSuits now.world.cells receiver r → ControlIn Has first (kernel.row_reached code r sel receiver arguments site now)
  row_in code (row.Data asked) sel receiver arguments site now later kept i all suits = data_row_in code asked receiver arguments site now later kept i all
  row_in code (row.Integer int) sel receiver arguments site now later kept i all suits =
      answer_in (integer int (number_of receiver) (argument arguments 0)) site now kept (integer_in int (number_of receiver) (argument arguments 0))
  row_in code row.Top sel receiver arguments site now later kept i all suits = facet_reached_in code (facet.Top sel) receiver arguments site now kept i all suits
  row_in code (row.Facet of) sel receiver arguments site now later kept i all suits = facet_reached_in code of receiver arguments site now kept i all suits
  row_in code (row.Mirror of) sel receiver arguments site now later kept i all suits =
      reflected_in (mirror now.world code of (cell_number receiver) arguments) site now kept
      (mirrored_row_in Has first code now of receiver (argument arguments 0) (argument arguments 1) later kept suits i (argument_in Has arguments 0 all) (argument_in Has arguments 1 all))
  row_in code (row.Method method) sel receiver arguments site now later kept i all suits =
      method_begun_in Has first method receiver (argument arguments 0) (argument arguments 1) site now kept i (argument_in Has arguments 0 all) (argument_in Has arguments 1 all)
  row_in code row.Apply sel receiver arguments site now later kept i all suits =
      mixed_in Has first code (shape_of_value now.world.cells receiver) (argument arguments 0) site now later kept (value_shape_in Has now.world.cells receiver kept.closed i) (argument_in Has arguments 0 all)
  row_in code row.Value sel receiver arguments site now later kept i all suits = (i, all, kept)
  row_in code row.ValueWithArguments sel receiver arguments site now later kept i all suits =
      with_arguments_in Has first receiver (argument arguments 0) site now kept i (argument_in Has arguments 0 all)
  row_in code row.NumArgs sel receiver arguments site now later kept i all suits = (tt, kept)

  -- ---- arguments

  abbrev ArgumentsIn : Arguments → Type 0
  ArgumentsIn (Listed values) = AllIn Has values
  ArgumentsIn (Wrapped sel values) = AllIn Has values

  given_in : (arguments : Arguments) (now : Progress) (go : List Value → Progress → Control) → HasLater Has first.world.cells → Kept Has first now → ArgumentsIn arguments
      → ((values : List Value) (next : Progress) → AllIn Has values → Kept Has first next → ControlIn Has first (go values next)) → ControlIn Has first (given arguments now go)
  given_in (Listed values) now go later kept all goes = goes values now all kept
  given_in (Wrapped sel values) now go later kept all goes =
      cell_charged Has first (ControlIn Has first) halts now (ArrayCell values)
      (λ next. charged halts Cells (made next.world (MessageCell sel (Ref (heap_size now.world.cells)))) next (go (Ref (heap_size next.world.cells) ∷ []))) later kept all (λ kind e. absurd (cc (e))) (tt, kept)
      (λ next has k. cell_charged Has first (ControlIn Has first) halts next (MessageCell sel (Ref (heap_size now.world.cells))) (go (Ref (heap_size next.world.cells) ∷ [])) later k has (λ kind e. absurd (cc (e))) (tt, k)
      (λ last has' z. goes (Ref (heap_size next.world.cells) ∷ []) last (has', tt) z))

  first_in : (values : List Value) → AllIn Has values → In Has (first_of values)
  first_in [] all = tt
  first_in (value ∷ values) all = all.0

  -- ---- what is done with what is found

  method_entered_in : (code : CodeProgram) (body holder : ℕ) (receiver : Value) (arguments : Arguments) (site : Site) (now : Progress) → HasLater Has first.world.cells → Kept Has first now → In Has receiver → ArgumentsIn arguments → Has holder
      → ControlIn Has first (method_entered code body holder receiver arguments site now)
  method_entered_in code body holder receiver arguments site now later kept i all h =
      frame_charged Has first (ControlIn Has first) halts now
      (λ progress. given arguments progress λ values progress.
      opened code halts (λ activation locals progress. Enter FromMethod activation locals (one_more progress))
      (record { self = receiver; holder = holder; body = body; home = progress.begun; env = Nil; site = site }) values progress) kept (tt, kept)
      (λ next same k. given_in arguments next
      (λ values progress. opened code halts (λ activation locals progress. Enter FromMethod activation locals (one_more progress))
      (record { self = receiver; holder = holder; body = body; home = progress.begun; env = Nil; site = site }) values progress) later k all
      (λ values last a z. opened_in Has first (ControlIn Has first) code halts (λ activation locals progress. Enter FromMethod activation locals (one_more progress))
      (record { self = receiver; holder = holder; body = body; home = last.begun; env = Nil; site = site }) values last later z (i, h, tt) a (tt, z)
      (λ inner locals end b l y. (tt, b, l, begun_kept Has first end (suc end.begun) y))))

  factory_entered_in : (code : CodeProgram) (class : ℕ) (arguments : Arguments) (site : Site) (now : Progress) → HasLater Has first.world.cells → Kept Has first now → ArgumentsIn arguments → Has class
      → ControlIn Has first (factory_entered code class arguments site now)
  factory_entered_in code class arguments site now later kept all c =
      frame_charged Has first (ControlIn Has first) halts now (λ progress. given arguments progress λ values progress. instance code class values site progress) kept (tt, kept)
      (λ next same k. given_in arguments next (λ values progress. instance code class values site progress) later k all (λ values last a z. instance_in Has first code class values site last later z c a))

  set_in : (word : ℕ) (receiver : Value) (arguments : Arguments) (now : Progress) → HasLater Has first.world.cells → Kept Has first now → In Has receiver → ArgumentsIn arguments → ControlIn Has first (set word receiver arguments now)
  set_in word receiver arguments now later kept i all =
      given_in arguments now (λ values progress. gives receiver (in_world progress (stored progress.world receiver word (first_of values)))) later kept all
      (λ values last a z. (i, stored_in Has first last receiver word (first_of values) z i (first_in values a)))

  nested_sent_in : (code : CodeProgram) (receiver : Value) (holder class : ℕ) (site : Site) (now : Progress) → HasLater Has first.world.cells → Kept Has first now → In Has receiver → Has holder
      → ControlIn Has first (nested_in code receiver holder class site now)
  nested_sent_in code (Ref object) holder class site now later kept i h =
      nested_in_set Has first code object holder class (kept_class now.world.cells code object holder class) site now later kept i h (kept_class_in Has first code now object holder class kept i)
  nested_sent_in code Nil holder class site now later kept i h = (tt, kept)
  nested_sent_in code True holder class site now later kept i h = (tt, kept)
  nested_sent_in code False holder class site now later kept i h = (tt, kept)
  nested_sent_in code (Int number) holder class site now later kept i h = (tt, kept)
  nested_sent_in code (Sym sel) holder class site now later kept i h = (tt, kept)
  nested_sent_in code (Kernel kernel_class) holder class site now later kept i h = (tt, kept)

  -- a row of the kernel is sent what it is found for, and never a Message
  abbrev CanDo : Heap → Value → Arguments → Found → Type 0
  CanDo heap receiver (Listed values) member = FoundSuits heap receiver member
  CanDo heap receiver (Wrapped sel values) (found.Kernel number) = ⊥
  CanDo heap receiver (Wrapped sel values) (found.Method body holder) = Unit {0}
  CanDo heap receiver (Wrapped sel values) (found.Getter holder word) = Unit {0}
  CanDo heap receiver (Wrapped sel values) (found.Setter holder word) = Unit {0}
  CanDo heap receiver (Wrapped sel values) (found.Nested class holder) = Unit {0}
  CanDo heap receiver (Wrapped sel values) (found.Factory class) = Unit {0}
  CanDo heap receiver (Wrapped sel values) found.NotPublic = Unit {0}
  CanDo heap receiver (Wrapped sel values) found.Absent = Unit {0}

  row_sent_in : (code : CodeProgram) (number : ℕ) (sel : Sel) (receiver : Value) (arguments : Arguments) (site : Site) (now : Progress) → HasLater Has first.world.cells → Kept Has first now → In Has receiver → ArgumentsIn arguments
      → CanDo now.world.cells receiver arguments (found.Kernel number) → ControlIn Has first (row_sent code number sel receiver arguments site now)
  row_sent_in code number sel receiver (Listed values) site now later kept i all can = row_in code (row_at number) sel receiver values site now later kept i all can
  row_sent_in code number sel receiver (Wrapped other values) site now later kept i all can = absurd can

  done_in : (code : CodeProgram) (member : Found) (sel : Sel) (receiver : Value) (arguments : Arguments) (site : Site) (now : Progress) → HasLater Has first.world.cells → Kept Has first now → In Has receiver → ArgumentsIn arguments → FoundIn Has member
      → CanDo now.world.cells receiver arguments member → ControlIn Has first (done_with code member sel receiver arguments site now)
  done_in code (found.Method body holder) sel receiver arguments site now later kept i all f can = method_entered_in code body holder receiver arguments site now later kept i all f
  done_in code (found.Getter holder word) sel receiver arguments site now later kept i all f can = (word_of_object_in Has first now.world.cells receiver word kept.closed i, kept)
  done_in code (found.Setter holder word) sel receiver arguments site now later kept i all f can = set_in word receiver arguments now later kept i all
  done_in code (found.Nested class holder) sel receiver arguments site now later kept i all f can = nested_sent_in code receiver holder class site now later kept i f
  done_in code (found.Factory class) sel receiver arguments site now later kept i all f can = factory_entered_in code class arguments site now later kept all f
  done_in code (found.Kernel number) sel receiver arguments site now later kept i all f can = row_sent_in code number sel receiver arguments site now later kept i all can
  done_in code found.NotPublic sel receiver arguments site now later kept i all f can = (tt, kept)
  done_in code found.Absent sel receiver arguments site now later kept i all f can = (tt, kept)

  not_found_in : (code : CodeProgram) (member : Found) (sel : Sel) (receiver : Value) (values : List Value) (site : Site) (now : Progress) → HasLater Has first.world.cells → Kept Has first now → In Has receiver → AllIn Has values → FoundIn Has member
      → ControlIn Has first (not_found code member sel receiver values site now)
  not_found_in code (found.Kernel number) sel receiver values site now later kept i all f = (tt, kept)
  not_found_in code (found.Method body holder) sel receiver values site now later kept i all f = done_in code (found.Method body holder) (message_sel code) receiver (Wrapped sel values) site now later kept i all f tt
  not_found_in code (found.Getter holder word) sel receiver values site now later kept i all f = done_in code (found.Getter holder word) (message_sel code) receiver (Wrapped sel values) site now later kept i all f tt
  not_found_in code (found.Setter holder word) sel receiver values site now later kept i all f = done_in code (found.Setter holder word) (message_sel code) receiver (Wrapped sel values) site now later kept i all f tt
  not_found_in code (found.Nested class holder) sel receiver values site now later kept i all f = done_in code (found.Nested class holder) (message_sel code) receiver (Wrapped sel values) site now later kept i all f tt
  not_found_in code (found.Factory class) sel receiver values site now later kept i all f = done_in code (found.Factory class) (message_sel code) receiver (Wrapped sel values) site now later kept i all f tt
  not_found_in code found.NotPublic sel receiver values site now later kept i all f = (tt, kept)
  not_found_in code found.Absent sel receiver values site now later kept i all f = (tt, kept)

  answered_in : (code : CodeProgram) (member : Found) (sel : Sel) (receiver : Value) (values : List Value) (site : Site) (now : Progress) → HasLater Has first.world.cells → Kept Has first now → In Has receiver → AllIn Has values → FoundIn Has member
      → FoundSuits now.world.cells receiver member → ControlIn Has first (answered_by code member sel receiver values site now)
  answered_in code found.Absent sel receiver values site now later kept i all f suits =
      not_found_in code (found_from now.world.cells code (start_of now.world.cells receiver) (own_number code DoesNotUnderstand) Inner) sel receiver values site now later kept i all
      (found_value_in Has now.world.cells code receiver (own_number code DoesNotUnderstand) Inner kept.closed i)
  answered_in code (found.Method body holder) sel receiver values site now later kept i all f suits = done_in code (found.Method body holder) sel receiver (Listed values) site now later kept i all f suits
  answered_in code (found.Getter holder word) sel receiver values site now later kept i all f suits = done_in code (found.Getter holder word) sel receiver (Listed values) site now later kept i all f suits
  answered_in code (found.Setter holder word) sel receiver values site now later kept i all f suits = done_in code (found.Setter holder word) sel receiver (Listed values) site now later kept i all f suits
  answered_in code (found.Nested class holder) sel receiver values site now later kept i all f suits = done_in code (found.Nested class holder) sel receiver (Listed values) site now later kept i all f suits
  answered_in code (found.Factory class) sel receiver values site now later kept i all f suits = done_in code (found.Factory class) sel receiver (Listed values) site now later kept i all f suits
  answered_in code (found.Kernel number) sel receiver values site now later kept i all f suits = done_in code (found.Kernel number) sel receiver (Listed values) site now later kept i all f suits
  answered_in code found.NotPublic sel receiver values site now later kept i all f suits = (tt, kept)

  -- ---- a send

  -- where a send goes; the declaration of a private member is one in the set
  abbrev pub TargetIn : Heap → Activation → Target → Type 0
  TargetIn heap activation (To receiver kind) = In Has receiver
  TargetIn heap activation (ToPrivate level) = In Has (enclosing heap activation level).object × Has (enclosing heap activation level).holder
  TargetIn heap activation ToSuper = Unit {0}

  target_receiver : (heap : Heap) (activation : Activation) (target : Target) → ActivationIn Has activation → TargetIn heap activation target → In Has (receiver_of heap activation target)
  target_receiver heap activation (To receiver kind) a t = t
  target_receiver heap activation (ToPrivate level) a t = t.0
  target_receiver heap activation ToSuper a t = a.0

  target_found : (code : CodeProgram) (now : Progress) (activation : Activation) (target : Target) (sel : ℕ) → HasLater Has first.world.cells → Kept Has first now → ActivationIn Has activation → TargetIn now.world.cells activation target
      → FoundIn Has (found_at now.world.cells code activation target sel)
  target_found code now activation (To receiver kind) sel later kept a t = found_value_in Has now.world.cells code receiver sel kind kept.closed t
  target_found code now activation (ToPrivate level) sel later kept a t =
      found_private_in Has now.world.cells code (enclosing now.world.cells activation level).holder (side_at code activation level) sel t.1
  target_found code now activation ToSuper sel later kept a t = found_super_in Has now.world.cells code activation.holder (side_of_body code activation.body) sel later.none kept.closed a.1

  target_suits : (heap : Heap) (code : CodeProgram) (activation : Activation) (target : Target) (sel : ℕ) → FoundSuits heap (receiver_of heap activation target) (found_at heap code activation target sel)
  target_suits heap code activation (To receiver kind) sel = known.value heap code receiver sel kind
  target_suits heap code activation (ToPrivate level) sel = known.own heap code (enclosing heap activation level).object (enclosing heap activation level).holder (side_at code activation level) sel
  target_suits heap code activation ToSuper sel = known.above heap code activation.self activation.holder (side_of_body code activation.body) sel

  pub sent_in : (code : CodeProgram) (activation : Activation) (target : Target) (sel : Sel) (values : List Value) (place : Option SourcePlace) (now : Progress) → HasLater Has first.world.cells → Kept Has first now → ActivationIn Has activation
      → TargetIn now.world.cells activation target → AllIn Has values → ControlIn Has first (sent code activation target sel values place now)
  sent_in code activation target sel values place now later kept a t all =
      step_charged Has first (ControlIn Has first) halts now
      (answered_by code (found_at now.world.cells code activation target sel.0) sel (receiver_of now.world.cells activation target) values (site_at now.world.cells place (receiver_of now.world.cells activation target) sel)) kept (tt, kept)
      (λ next same k. answered_in code (found_at now.world.cells code activation target sel.0) sel (receiver_of now.world.cells activation target) values (site_at now.world.cells place (receiver_of now.world.cells activation target) sel) next later k
      (target_receiver now.world.cells activation target a t) all (target_found code now activation target sel.0 later kept a t)
      (subst (λ heap. FoundSuits heap (receiver_of now.world.cells activation target) (found_at now.world.cells code activation target sel.0)) (sym same) (target_suits now.world.cells code activation target sel.0)))

  pub sent_from_in : (code : CodeProgram) (receiver : Value) (sel : Sel) (values : List Value) (site : Site) (now : Progress) → HasLater Has first.world.cells → Kept Has first now → In Has receiver → AllIn Has values
      → ControlIn Has first (sent_from code receiver sel values site now)
  sent_from_in code receiver sel values site now later kept i all =
      step_charged Has first (ControlIn Has first) halts now (answered_by code (found_from now.world.cells code (start_of now.world.cells receiver) sel.0 Plain) sel receiver values site) kept (tt, kept)
      (λ next same k. answered_in code (found_from now.world.cells code (start_of now.world.cells receiver) sel.0 Plain) sel receiver values site next later k i all
      (found_value_in Has now.world.cells code receiver sel.0 Plain kept.closed i)
      (subst (λ heap. FoundSuits heap receiver (found_from now.world.cells code (start_of now.world.cells receiver) sel.0 Plain)) (sym same) (known.value now.world.cells code receiver sel.0 Plain)))
