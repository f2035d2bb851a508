-- Sends keep two runs paired.
use Rattle.std.proofs.Common.{◌≡◌, ℕ, zero, suc, List, [], ◌∷◌, pos, false, refl, sym, ap, ◌∙◌, subst}
use Rattle.std.specs.Prelude.{Option}
use Rattle.ns_base.specs.declared.selector.Sel.{Sel}
use Rattle.ns_base.specs.declared.place.Place.{Place as SourcePlace}
use Rattle.ns_code.specs.declared.program.CodeProgram.{CodeProgram}
use Rattle.ns_code.specs.declared.own.Own.TheVariants.{DoesNotUnderstand}
use Rattle.ns_code.specs.Selector.{own_number}
use Rattle.ns_world.specs.declared.value.Value.{Value}
use Rattle.ns_world.specs.declared.value.Value.TheVariants.{Nil, True, False, Int, Sym, Kernel, Ref}
use Rattle.ns_world.specs.declared.ending.Kind.TheVariants as kind
use Rattle.ns_world.specs.declared.ending.LimitKind.TheVariants.{Cells}
use Rattle.ns_world.specs.Cell.{ArrayCell, MessageCell}
use Rattle.ns_world.specs.Heap.{Heap, heap_size, word_of_object}
use Rattle.ns_world.specs.World.{made, stored}
use Rattle.ns_world.specs.Starts.{start_of}
use Rattle.ns_kdata.specs.Arguments.{argument, shape_of_value}
use Rattle.ns_world.specs.declared.kernel_parts.FacetRow.TheVariants as facet
use Rattle.ns_find.specs.declared.found.Found.{Found}
use Rattle.ns_find.specs.declared.found.Found.TheVariants as found
use Rattle.ns_find.specs.declared.found.Sending.{Sending}
use Rattle.ns_find.specs.declared.found.Sending.TheVariants.{Plain, Inner}
use Rattle.ns_find.specs.declared.members.Side.{Side}
use Rattle.ns_find.specs.Find.{found_from, found_private, super_start}
use Rattle.ns_classes.specs.Nested.{kept_class}
use Rattle.ns_world.specs.declared.kernel_row.Row.{Row}
use Rattle.ns_world.specs.declared.kernel_row.Row.TheVariants as row
use Rattle.ns_moves.specs.declared.site.Site.{Site}
use Rattle.ns_moves.specs.Control.{Progress, in_world, Activation, FromMethod, Control, Enter, gives, halts, charged}
use Rattle.ns_moves.specs.Bodies.{opened, enclosing, side_at, side_of_body}
use Rattle.ns_moves.specs.Classes.{instance}
use Rattle.ns_world.specs.KernelTable.{row_at}
use Rattle.ns_moves.specs.Kernel as kernel
use Rattle.ns_moves.specs.Suiting.{RowSuits, FoundSuits, is_reference}
use Rattle.ns_moves.specs.Blocks.{block_arity}
use Rattle.ns_moves.specs.Sends.{Target, To, ToPrivate, ToSuper, receiver_of, found_at, site_at, Arguments, Listed, Wrapped, given, first_of, one_more, method_entered, factory_entered, set, nested_in, row_sent, done_with, message_sel, not_found, answered_by, sent, sent_from}
use Rattle.ns_machine_alike.specs.Paired.{IsPairing, BeganAlike, Began, Paired, Partners, Same, AllPaired, MemberPaired, Abreast, ActivationPaired, ControlPaired}
use Rattle.ns_machine_alike.proofs.Values.{at_index}
use Rattle.ns_machine_alike.proofs.Charging.{step_charged, frame_charged, begun_abreast}
use Rattle.ns_machine_alike.proofs.Keeping.{cell_charged}
use Rattle.ns_machine_alike.proofs.Reading.{value_shape_paired}
use Rattle.ns_machine_alike.proofs.Finding.{found_value_paired, found_super_paired, found_private_paired, same_site}
use Rattle.ns_machine_alike.proofs.Integers.{integer_row_paired}
use Rattle.ns_machine_alike.proofs.Rows.{stored_abreast, data_row_paired}
use Rattle.ns_machine_alike.proofs.Mirrors.{word_of_object_paired, mirror_row_paired}
use Rattle.ns_machine_alike.proofs.Facets.{facet_row_paired}
use Rattle.ns_machine_alike.proofs.Actions.{same_error, opened_paired, mixed_paired, kept_class_paired, nested_paired, instance_paired}
use Rattle.ns_machine_alike.proofs.Blocks.{same_arity, with_arguments_paired, method_begun_paired}

-- Rows that are found suit the receiver.
pub record Known : Type 0 where
  pub value : (heap : Heap) (code : CodeProgram) (receiver : Value) (sel : ℕ) (kind : Sending) → FoundSuits heap receiver (found_from heap code (start_of heap receiver) sel kind)
  pub above : (heap : Heap) (code : CodeProgram) (receiver : Value) (holder : ℕ) (side : Side) (sel : ℕ) → FoundSuits heap receiver (found_from heap code (super_start heap holder side) sel Inner)
  pub own : (heap : Heap) (code : CodeProgram) (receiver : Value) (holder : ℕ) (side : Side) (sel : ℕ) → FoundSuits heap receiver (found_private heap code holder side sel)

module _ (Pair : ℕ → ℕ → Type 0) (first second : Progress) (pairing : IsPairing Pair first.world second.world) (known : Known) where
  -- ---- rows of the kernel

  row_paired : (code : CodeProgram) (r : Row) (sel : Sel) (receiver receiver' : Value) (arguments arguments' : List Value) (site site' : Site) (one two : Progress)
      → Abreast Pair first second one two → Paired Pair receiver receiver' → AllPaired Pair arguments arguments' → site ≡ site' → RowSuits one.world.cells receiver r
      → ControlPaired Pair first second (kernel.row_reached code r sel receiver arguments site one) (kernel.row_reached code r sel receiver' arguments' site' two)
  row_paired code (row.Data asked) sel receiver receiver' arguments arguments' site site' one two a r all e suits = data_row_paired Pair first second pairing code asked receiver receiver' arguments arguments' site site' one two a r all e
  row_paired code (row.Integer int) sel receiver receiver' arguments arguments' site site' one two a r all e suits = integer_row_paired Pair first second pairing int receiver receiver' arguments arguments' site site' one two a r all e
  row_paired code row.Top sel receiver receiver' arguments arguments' site site' one two a r all e suits = facet_row_paired Pair first second pairing code (facet.Top sel) receiver receiver' arguments arguments' site site' one two a r all e suits
  row_paired code (row.Facet of) sel receiver receiver' arguments arguments' site site' one two a r all e suits = facet_row_paired Pair first second pairing code of receiver receiver' arguments arguments' site site' one two a r all e suits
  row_paired code (row.Mirror of) sel receiver receiver' arguments arguments' site site' one two a r all e suits = mirror_row_paired Pair first second pairing code of receiver receiver' arguments arguments' site site' one two a r all e
  row_paired code (row.Method named) sel receiver receiver' arguments arguments' site site' one two a r all e suits =
      method_begun_paired Pair first second pairing named receiver receiver' (argument arguments 0) (argument arguments' 0) (argument arguments 1) (argument arguments' 1) site site' one two a r (at_index Pair arguments arguments' 0 all) (at_index Pair arguments arguments' 1 all) e
  row_paired code row.Apply sel receiver receiver' arguments arguments' site site' one two a r all e suits =
      mixed_paired Pair first second pairing code (shape_of_value one.world.cells receiver) (shape_of_value two.world.cells receiver') (argument arguments 0) (argument arguments' 0) site site' one two a
      (value_shape_paired Pair first second pairing one.world.cells two.world.cells a.heaps receiver receiver' r) (at_index Pair arguments arguments' 0 all) e
  row_paired code row.Value sel receiver receiver' arguments arguments' site site' one two a r all e suits = (r, all, e, a)
  row_paired code row.ValueWithArguments sel receiver receiver' arguments arguments' site site' one two a r all e suits =
      with_arguments_paired Pair first second pairing receiver receiver' (argument arguments 0) (argument arguments' 0) site site' one two a r (at_index Pair arguments arguments' 0 all) e
  row_paired code row.NumArgs sel receiver receiver' arguments arguments' site site' one two a r all e suits = (
    subst (λ n. Paired Pair (Int (pos (block_arity code one.world.cells receiver))) (Int (pos n))) (same_arity Pair first second pairing code one.world.cells two.world.cells receiver receiver' a.heaps r)
        (Same (Int (pos (block_arity code one.world.cells receiver))) refl),
    a,
  )

  -- ---- arguments

  -- the same arguments, as they stand or in a Message of one selector
  abbrev ArgumentsPaired : Arguments → Arguments → Type 0
  ArgumentsPaired (Listed values) (Listed values') = AllPaired Pair values values'
  ArgumentsPaired (Wrapped sel values) (Wrapped sel' values') = (sel ≡ sel') × AllPaired Pair values values'
  ArgumentsPaired one other = ⊥

  given_paired : (arguments arguments' : Arguments) (one two : Progress) (go go' : List Value → Progress → Control) → Abreast Pair first second one two → ArgumentsPaired arguments arguments'
      → ((values values' : List Value) (next next' : Progress) → AllPaired Pair values values' → Abreast Pair first second next next' → ControlPaired Pair first second (go values next) (go' values' next'))
      → ControlPaired Pair first second (given arguments one go) (given arguments' two go')
  given_paired (Listed values) (Listed values') one two go go' a p goes = goes values values' one two p a
  given_paired (Wrapped sel values) (Wrapped sel' values') one two go go' a p goes =
      cell_charged Pair first second pairing (ControlPaired Pair first second) halts halts one two (ArrayCell values) (ArrayCell values')
      (λ next. charged halts Cells (made next.world (MessageCell sel (Ref (heap_size one.world.cells)))) next (go (Ref (heap_size next.world.cells) ∷ [])))
      (λ next. charged halts Cells (made next.world (MessageCell sel' (Ref (heap_size two.world.cells)))) next (go' (Ref (heap_size next.world.cells) ∷ []))) a p.1 (λ q. absurd (cc (q))) (refl, a)
      (λ next next' new b. cell_charged Pair first second pairing (ControlPaired Pair first second) halts halts next next' (MessageCell sel (Ref (heap_size one.world.cells))) (MessageCell sel' (Ref (heap_size two.world.cells)))
      (go (Ref (heap_size next.world.cells) ∷ [])) (go' (Ref (heap_size next'.world.cells) ∷ [])) b (p.0, Partners (heap_size one.world.cells) (heap_size two.world.cells) new) (λ q. absurd (cc (q))) (refl, b)
      (λ last last' newer z. goes (Ref (heap_size next.world.cells) ∷ []) (Ref (heap_size next'.world.cells) ∷ []) last last' (Partners (heap_size next.world.cells) (heap_size next'.world.cells) newer, tt) z))
  given_paired (Listed values) (Wrapped sel values') one two go go' a p goes = absurd p
  given_paired (Wrapped sel values) (Listed values') one two go go' a p goes = absurd p

  first_paired : (values values' : List Value) → AllPaired Pair values values' → Paired Pair (first_of values) (first_of values')
  first_paired [] [] p = Same Nil refl
  first_paired (value ∷ values) (value' ∷ values') p = p.0
  first_paired [] (value' ∷ values') p = absurd p
  first_paired (value ∷ values) [] p = absurd p

  -- ---- what is done with what is found

  -- the homes of two methods that begin
  home_begins : (one two : Progress) → Abreast Pair first second one two → BeganAlike first.begun second.begun one.begun two.begun
  home_begins one two a = record { since = a.begun; one = a.begins; two = a.other_begins }

  method_entered_paired : (code : CodeProgram) (body body' holder holder' : ℕ) (receiver receiver' : Value) (arguments arguments' : Arguments) (site site' : Site) (one two : Progress) → Abreast Pair first second one two → body ≡ body' → Pair holder holder'
      → Paired Pair receiver receiver' → ArgumentsPaired arguments arguments' → site ≡ site'
      → ControlPaired Pair first second (method_entered code body holder receiver arguments site one) (method_entered code body' holder' receiver' arguments' site' two)
  method_entered_paired code body body' holder holder' receiver receiver' arguments arguments' site site' one two a b h r all e =
      frame_charged Pair first second pairing (ControlPaired Pair first second) halts halts one two
      (λ progress. given arguments progress λ values progress.
      opened code halts (λ activation locals progress. Enter FromMethod activation locals (one_more progress))
      (record { self = receiver; holder = holder; body = body; home = progress.begun; env = Nil; site = site }) values progress)
      (λ progress. given arguments' progress λ values progress.
      opened code halts (λ activation locals progress. Enter FromMethod activation locals (one_more progress))
      (record { self = receiver'; holder = holder'; body = body'; home = progress.begun; env = Nil; site = site' }) values progress) a (refl, a)
      (λ next next' same same' k. given_paired arguments arguments' next next'
      (λ values progress. opened code halts (λ activation locals progress. Enter FromMethod activation locals (one_more progress))
      (record { self = receiver; holder = holder; body = body; home = progress.begun; env = Nil; site = site }) values progress)
      (λ values progress. opened code halts (λ activation locals progress. Enter FromMethod activation locals (one_more progress))
      (record { self = receiver'; holder = holder'; body = body'; home = progress.begun; env = Nil; site = site' }) values progress) k all
      (λ values values' last last' v z. opened_paired Pair first second pairing (ControlPaired Pair first second) code halts halts
      (λ activation locals progress. Enter FromMethod activation locals (one_more progress)) (λ activation locals progress. Enter FromMethod activation locals (one_more progress))
      (record { self = receiver; holder = holder; body = body; home = last.begun; env = Nil; site = site })
      (record { self = receiver'; holder = holder'; body = body'; home = last'.begun; env = Nil; site = site' }) values values' last last' z
      (record { self = r; holder = h; body = b; home = Began (home_begins last last' z); env = Same Nil refl; site = e }) v (refl, z)
      (λ inner inner' locals locals' end end' q own own' l y.
      (tt, subst (λ n. BeganAlike first.begun second.begun n inner'.home) (sym own) (subst (λ n. BeganAlike first.begun second.begun last.begun n) (sym own') (home_begins last last' z)), q, l, begun_abreast Pair first second pairing end end' y))))

  factory_entered_paired : (code : CodeProgram) (class class' : ℕ) (arguments arguments' : Arguments) (site site' : Site) (one two : Progress) → Abreast Pair first second one two → Pair class class' → ArgumentsPaired arguments arguments' → site ≡ site'
      → ControlPaired Pair first second (factory_entered code class arguments site one) (factory_entered code class' arguments' site' two)
  factory_entered_paired code class class' arguments arguments' site site' one two a c all e =
      frame_charged Pair first second pairing (ControlPaired Pair first second) halts halts one two (λ progress. given arguments progress λ values progress. instance code class values site progress)
      (λ progress. given arguments' progress λ values progress. instance code class' values site' progress) a (refl, a)
      (λ next next' same same' k. given_paired arguments arguments' next next' (λ values progress. instance code class values site progress) (λ values progress. instance code class' values site' progress) k all
      (λ values values' last last' v z. instance_paired Pair first second pairing code class class' values values' site site' last last' z c v e))

  set_paired : (word word' : ℕ) (receiver receiver' : Value) (arguments arguments' : Arguments) (one two : Progress) → Abreast Pair first second one two → word ≡ word' → Paired Pair receiver receiver' → ArgumentsPaired arguments arguments'
      → ControlPaired Pair first second (set word receiver arguments one) (set word' receiver' arguments' two)
  set_paired word word' receiver receiver' arguments arguments' one two a w r all =
      subst (λ k. ControlPaired Pair first second (set word receiver arguments one) (set k receiver' arguments' two)) w
      (given_paired arguments arguments' one two (λ values progress. gives receiver (in_world progress (stored progress.world receiver word (first_of values)))) (λ values progress. gives receiver' (in_world progress (stored progress.world receiver' word (first_of values)))) a all
      (λ values values' last last' v z. (r, stored_abreast Pair first second pairing last last' receiver receiver' word (first_of values) (first_of values') z r (first_paired values values' v))))

  nested_sent_paired : (code : CodeProgram) (receiver receiver' : Value) (holder holder' class : ℕ) (site site' : Site) (one two : Progress) → Abreast Pair first second one two → Paired Pair receiver receiver' → Pair holder holder' → site ≡ site'
      → ControlPaired Pair first second (nested_in code receiver holder class site one) (nested_in code receiver' holder' class site' two)
  nested_sent_paired code receiver receiver' holder holder' class site site' one two a (Partners n m p) h e =
      nested_paired Pair first second pairing code n m holder holder' class (kept_class one.world.cells code n holder class) (kept_class two.world.cells code m holder' class) site site' one two a p h
      (kept_class_paired Pair first second pairing code one.world.cells two.world.cells n m holder holder' class a.heaps p h) e
  nested_sent_paired code receiver receiver' holder holder' class site site' one two a (Same value r) h e = by value r
    where
      by : (v : Value) → is_reference v ≡ false → ControlPaired Pair first second (nested_in code v holder class site one) (nested_in code v holder' class site' two)
      by Nil r = (same_error Pair kind.NotUnderstood site site' e, a)
      by True r = (same_error Pair kind.NotUnderstood site site' e, a)
      by False r = (same_error Pair kind.NotUnderstood site site' e, a)
      by (Int number) r = (same_error Pair kind.NotUnderstood site site' e, a)
      by (Sym sel) r = (same_error Pair kind.NotUnderstood site site' e, a)
      by (Kernel class') r = (same_error Pair kind.NotUnderstood site site' e, a)
      by (Ref at) r = absurd (cc (r))

  -- a row of the kernel is sent what it is found for, and never a Message
  abbrev CanDo : Heap → Value → Arguments → Found → Type 0
  CanDo heap receiver (Listed values) member = FoundSuits heap receiver member
  CanDo heap receiver (Wrapped sel values) (found.Kernel number) = ⊥
  CanDo heap receiver (Wrapped sel values) (found.Method body holder) = Unit {0}
  CanDo heap receiver (Wrapped sel values) (found.Getter holder word) = Unit {0}
  CanDo heap receiver (Wrapped sel values) (found.Setter holder word) = Unit {0}
  CanDo heap receiver (Wrapped sel values) (found.Nested class holder) = Unit {0}
  CanDo heap receiver (Wrapped sel values) (found.Factory class) = Unit {0}
  CanDo heap receiver (Wrapped sel values) found.NotPublic = Unit {0}
  CanDo heap receiver (Wrapped sel values) found.Absent = Unit {0}

  row_sent_paired : (code : CodeProgram) (number number' : ℕ) (sel : Sel) (receiver receiver' : Value) (arguments arguments' : Arguments) (site site' : Site) (one two : Progress) → Abreast Pair first second one two → number ≡ number'
      → Paired Pair receiver receiver' → ArgumentsPaired arguments arguments' → site ≡ site' → CanDo one.world.cells receiver arguments (found.Kernel number)
      → ControlPaired Pair first second (row_sent code number sel receiver arguments site one) (row_sent code number' sel receiver' arguments' site' two)
  row_sent_paired code number number' sel receiver receiver' (Listed values) (Listed values') site site' one two a n r all e can =
      subst (λ k. ControlPaired Pair first second (row_sent code number sel receiver (Listed values) site one) (row_sent code k sel receiver' (Listed values') site' two)) n
      (row_paired code (row_at number) sel receiver receiver' values values' site site' one two a r all e can)
  row_sent_paired code number number' sel receiver receiver' (Wrapped other values) (Wrapped other' values') site site' one two a n r all e can = absurd can
  row_sent_paired code number number' sel receiver receiver' (Listed values) (Wrapped other' values') site site' one two a n r all e can = absurd all
  row_sent_paired code number number' sel receiver receiver' (Wrapped other values) (Listed values') site site' one two a n r all e can = absurd all

  done_paired : (code : CodeProgram) (member member' : Found) (sel : Sel) (receiver receiver' : Value) (arguments arguments' : Arguments) (site site' : Site) (one two : Progress) → Abreast Pair first second one two → MemberPaired Pair member member'
      → Paired Pair receiver receiver' → ArgumentsPaired arguments arguments' → site ≡ site' → CanDo one.world.cells receiver arguments member
      → ControlPaired Pair first second (done_with code member sel receiver arguments site one) (done_with code member' sel receiver' arguments' site' two)
  done_paired code (found.Method body holder) (found.Method body' holder') sel receiver receiver' arguments arguments' site site' one two a m r all e can =
      method_entered_paired code body body' holder holder' receiver receiver' arguments arguments' site site' one two a m.0 m.1 r all e
  done_paired code (found.Getter holder word) (found.Getter holder' word') sel receiver receiver' arguments arguments' site site' one two a m r all e can =
      (subst (λ w. Paired Pair (word_of_object one.world.cells receiver word) (word_of_object two.world.cells receiver' w)) m.1 (word_of_object_paired Pair first second pairing one.world.cells two.world.cells receiver receiver' word a.heaps r), a)
  done_paired code (found.Setter holder word) (found.Setter holder' word') sel receiver receiver' arguments arguments' site site' one two a m r all e can = set_paired word word' receiver receiver' arguments arguments' one two a m.1 r all
  done_paired code (found.Nested class holder) (found.Nested class' holder') sel receiver receiver' arguments arguments' site site' one two a m r all e can =
      subst (λ c. ControlPaired Pair first second (nested_in code receiver holder class site one) (nested_in code receiver' holder' c site' two)) m.0 (nested_sent_paired code receiver receiver' holder holder' class site site' one two a r m.1 e)
  done_paired code (found.Factory class) (found.Factory class') sel receiver receiver' arguments arguments' site site' one two a m r all e can = factory_entered_paired code class class' arguments arguments' site site' one two a m all e
  done_paired code (found.Kernel number) (found.Kernel number') sel receiver receiver' arguments arguments' site site' one two a m r all e can =
      row_sent_paired code number number' sel receiver receiver' arguments arguments' site site' one two a m r all e can
  done_paired code found.NotPublic found.NotPublic sel receiver receiver' arguments arguments' site site' one two a m r all e can = (same_error Pair kind.NotPublic site site' e, a)
  done_paired code found.Absent found.Absent sel receiver receiver' arguments arguments' site site' one two a m r all e can = (same_error Pair kind.NotUnderstood site site' e, a)
  done_paired code member member' sel receiver receiver' arguments arguments' site site' one two a m r all e can = absurd m

  not_found_paired : (code : CodeProgram) (member member' : Found) (sel : Sel) (receiver receiver' : Value) (values values' : List Value) (site site' : Site) (one two : Progress) → Abreast Pair first second one two → MemberPaired Pair member member'
      → Paired Pair receiver receiver' → AllPaired Pair values values' → site ≡ site'
      → ControlPaired Pair first second (not_found code member sel receiver values site one) (not_found code member' sel receiver' values' site' two)
  not_found_paired code (found.Kernel number) (found.Kernel number') sel receiver receiver' values values' site site' one two a m r all e = (same_error Pair kind.NotUnderstood site site' e, a)
  not_found_paired code (found.Method body holder) (found.Method body' holder') sel receiver receiver' values values' site site' one two a m r all e =
      done_paired code (found.Method body holder) (found.Method body' holder') (message_sel code) receiver receiver' (Wrapped sel values) (Wrapped sel values') site site' one two a m r (refl, all) e tt
  not_found_paired code (found.Getter holder word) (found.Getter holder' word') sel receiver receiver' values values' site site' one two a m r all e =
      done_paired code (found.Getter holder word) (found.Getter holder' word') (message_sel code) receiver receiver' (Wrapped sel values) (Wrapped sel values') site site' one two a m r (refl, all) e tt
  not_found_paired code (found.Setter holder word) (found.Setter holder' word') sel receiver receiver' values values' site site' one two a m r all e =
      done_paired code (found.Setter holder word) (found.Setter holder' word') (message_sel code) receiver receiver' (Wrapped sel values) (Wrapped sel values') site site' one two a m r (refl, all) e tt
  not_found_paired code (found.Nested class holder) (found.Nested class' holder') sel receiver receiver' values values' site site' one two a m r all e =
      done_paired code (found.Nested class holder) (found.Nested class' holder') (message_sel code) receiver receiver' (Wrapped sel values) (Wrapped sel values') site site' one two a m r (refl, all) e tt
  not_found_paired code (found.Factory class) (found.Factory class') sel receiver receiver' values values' site site' one two a m r all e =
      done_paired code (found.Factory class) (found.Factory class') (message_sel code) receiver receiver' (Wrapped sel values) (Wrapped sel values') site site' one two a m r (refl, all) e tt
  not_found_paired code found.NotPublic found.NotPublic sel receiver receiver' values values' site site' one two a m r all e = (same_error Pair kind.NotPublic site site' e, a)
  not_found_paired code found.Absent found.Absent sel receiver receiver' values values' site site' one two a m r all e = (same_error Pair kind.NotUnderstood site site' e, a)
  not_found_paired code member member' sel receiver receiver' values values' site site' one two a m r all e = absurd m

  answered_paired : (code : CodeProgram) (member member' : Found) (sel : Sel) (receiver receiver' : Value) (values values' : List Value) (site site' : Site) (one two : Progress) → Abreast Pair first second one two → MemberPaired Pair member member'
      → Paired Pair receiver receiver' → AllPaired Pair values values' → site ≡ site' → FoundSuits one.world.cells receiver member
      → ControlPaired Pair first second (answered_by code member sel receiver values site one) (answered_by code member' sel receiver' values' site' two)
  answered_paired code found.Absent found.Absent sel receiver receiver' values values' site site' one two a m r all e suits =
      not_found_paired code (found_from one.world.cells code (start_of one.world.cells receiver) (own_number code DoesNotUnderstand) Inner) (found_from two.world.cells code (start_of two.world.cells receiver') (own_number code DoesNotUnderstand) Inner)
      sel receiver receiver' values values' site site' one two a (found_value_paired Pair first second pairing one.world.cells two.world.cells a.heaps code receiver receiver' (own_number code DoesNotUnderstand) Inner r) r all e
  answered_paired code (found.Method body holder) (found.Method body' holder') sel receiver receiver' values values' site site' one two a m r all e suits =
      done_paired code (found.Method body holder) (found.Method body' holder') sel receiver receiver' (Listed values) (Listed values') site site' one two a m r all e suits
  answered_paired code (found.Getter holder word) (found.Getter holder' word') sel receiver receiver' values values' site site' one two a m r all e suits =
      done_paired code (found.Getter holder word) (found.Getter holder' word') sel receiver receiver' (Listed values) (Listed values') site site' one two a m r all e suits
  answered_paired code (found.Setter holder word) (found.Setter holder' word') sel receiver receiver' values values' site site' one two a m r all e suits =
      done_paired code (found.Setter holder word) (found.Setter holder' word') sel receiver receiver' (Listed values) (Listed values') site site' one two a m r all e suits
  answered_paired code (found.Nested class holder) (found.Nested class' holder') sel receiver receiver' values values' site site' one two a m r all e suits =
      done_paired code (found.Nested class holder) (found.Nested class' holder') sel receiver receiver' (Listed values) (Listed values') site site' one two a m r all e suits
  answered_paired code (found.Factory class) (found.Factory class') sel receiver receiver' values values' site site' one two a m r all e suits =
      done_paired code (found.Factory class) (found.Factory class') sel receiver receiver' (Listed values) (Listed values') site site' one two a m r all e suits
  answered_paired code (found.Kernel number) (found.Kernel number') sel receiver receiver' values values' site site' one two a m r all e suits =
      done_paired code (found.Kernel number) (found.Kernel number') sel receiver receiver' (Listed values) (Listed values') site site' one two a m r all e suits
  answered_paired code found.NotPublic found.NotPublic sel receiver receiver' values values' site site' one two a m r all e suits = (same_error Pair kind.NotPublic site site' e, a)
  answered_paired code member member' sel receiver receiver' values values' site site' one two a m r all e suits = absurd m

  -- ---- a send

  -- Two sends go to the same: to paired values, to the private members of partners at one level, or above the holders.
  abbrev pub TargetPaired : Heap → Heap → Activation → Activation → Target → Target → Type 0
  TargetPaired heap other activation activation' (To receiver kind) (To receiver' kind') = Paired Pair receiver receiver' × (kind ≡ kind')
  TargetPaired heap other activation activation' (ToPrivate level) (ToPrivate level') =
      (level ≡ level') × Paired Pair (enclosing heap activation level).object (enclosing other activation' level').object
      × Pair (enclosing heap activation level).holder (enclosing other activation' level').holder
  TargetPaired heap other activation activation' ToSuper ToSuper = Unit {0}
  TargetPaired heap other activation activation' target target' = ⊥

  same_side : (code : CodeProgram) (activation activation' : Activation) (level : ℕ) → ActivationPaired Pair first second activation activation' → side_at code activation level ≡ side_at code activation' level
  same_side code activation activation' zero p = ap (side_of_body code) p.body
  same_side code activation activation' (suc level) p = refl

  target_receiver : (heap other : Heap) (activation activation' : Activation) (target target' : Target) → ActivationPaired Pair first second activation activation' → TargetPaired heap other activation activation' target target'
      → Paired Pair (receiver_of heap activation target) (receiver_of other activation' target')
  target_receiver heap other activation activation' (To receiver kind) (To receiver' kind') p t = t.0
  target_receiver heap other activation activation' (ToPrivate level) (ToPrivate level') p t = t.1
  target_receiver heap other activation activation' ToSuper ToSuper p t = p.self
  target_receiver heap other activation activation' target target' p t = absurd t

  target_found : (code : CodeProgram) (one two : Progress) (activation activation' : Activation) (target target' : Target) (sel : ℕ) → Abreast Pair first second one two → ActivationPaired Pair first second activation activation'
      → TargetPaired one.world.cells two.world.cells activation activation' target target' → MemberPaired Pair (found_at one.world.cells code activation target sel) (found_at two.world.cells code activation' target' sel)
  target_found code one two activation activation' (To receiver kind) (To receiver' kind') sel a p t =
      subst (λ k. MemberPaired Pair (found_from one.world.cells code (start_of one.world.cells receiver) sel kind) (found_from two.world.cells code (start_of two.world.cells receiver') sel k)) t.1
      (found_value_paired Pair first second pairing one.world.cells two.world.cells a.heaps code receiver receiver' sel kind t.0)
  target_found code one two activation activation' (ToPrivate level) (ToPrivate level') sel a p t =
      subst (λ s. MemberPaired Pair (found_private one.world.cells code (enclosing one.world.cells activation level).holder (side_at code activation level) sel) (found_private two.world.cells code (enclosing two.world.cells activation' level').holder s sel))
      (same_side code activation activation' level p ∙ ap (side_at code activation') t.0)
      (found_private_paired Pair first second pairing one.world.cells two.world.cells a.heaps code (enclosing one.world.cells activation level).holder (enclosing two.world.cells activation' level').holder (side_at code activation level) sel t.2)
  target_found code one two activation activation' ToSuper ToSuper sel a p t =
      subst (λ s. MemberPaired Pair (found_from one.world.cells code (super_start one.world.cells activation.holder (side_of_body code activation.body)) sel Inner) (found_from two.world.cells code (super_start two.world.cells activation'.holder s) sel Inner))
      (ap (side_of_body code) p.body)
      (found_super_paired Pair first second pairing one.world.cells two.world.cells a.heaps code activation.holder activation'.holder (side_of_body code activation.body) sel p.holder)
  target_found code one two activation activation' target target' sel a p t = absurd t

  target_suits : (heap : Heap) (code : CodeProgram) (activation : Activation) (target : Target) (sel : ℕ) → FoundSuits heap (receiver_of heap activation target) (found_at heap code activation target sel)
  target_suits heap code activation (To receiver kind) sel = known.value heap code receiver sel kind
  target_suits heap code activation (ToPrivate level) sel = known.own heap code (enclosing heap activation level).object (enclosing heap activation level).holder (side_at code activation level) sel
  target_suits heap code activation ToSuper sel = known.above heap code activation.self activation.holder (side_of_body code activation.body) sel

  pub sent_paired : (code : CodeProgram) (activation activation' : Activation) (target target' : Target) (sel : Sel) (values values' : List Value) (place : Option SourcePlace) (one two : Progress)
      → Abreast Pair first second one two → ActivationPaired Pair first second activation activation' → TargetPaired one.world.cells two.world.cells activation activation' target target' → AllPaired Pair values values'
      → ControlPaired Pair first second (sent code activation target sel values place one) (sent code activation' target' sel values' place two)
  sent_paired code activation activation' target target' sel values values' place one two a p t all =
      let receivers = target_receiver one.world.cells two.world.cells activation activation' target target' p t in
      step_charged Pair first second pairing (ControlPaired Pair first second) halts halts one two
      (answered_by code (found_at one.world.cells code activation target sel.0) sel (receiver_of one.world.cells activation target) values (site_at one.world.cells place (receiver_of one.world.cells activation target) sel))
      (answered_by code (found_at two.world.cells code activation' target' sel.0) sel (receiver_of two.world.cells activation' target') values' (site_at two.world.cells place (receiver_of two.world.cells activation' target') sel)) a (refl, a)
      (λ next next' same same' b. answered_paired code (found_at one.world.cells code activation target sel.0) (found_at two.world.cells code activation' target' sel.0) sel (receiver_of one.world.cells activation target)
      (receiver_of two.world.cells activation' target') values values' (site_at one.world.cells place (receiver_of one.world.cells activation target) sel) (site_at two.world.cells place (receiver_of two.world.cells activation' target') sel) next next' b
      (target_found code one two activation activation' target target' sel.0 a p t) receivers all
      (same_site Pair first second pairing one.world.cells two.world.cells a.heaps place (receiver_of one.world.cells activation target) (receiver_of two.world.cells activation' target') sel receivers)
      (subst (λ heap. FoundSuits heap (receiver_of one.world.cells activation target) (found_at one.world.cells code activation target sel.0)) (sym same) (target_suits one.world.cells code activation target sel.0)))

  pub sent_from_paired : (code : CodeProgram) (receiver receiver' : Value) (sel : Sel) (values values' : List Value) (site site' : Site) (one two : Progress)
      → Abreast Pair first second one two → Paired Pair receiver receiver' → AllPaired Pair values values' → site ≡ site'
      → ControlPaired Pair first second (sent_from code receiver sel values site one) (sent_from code receiver' sel values' site' two)
  sent_from_paired code receiver receiver' sel values values' site site' one two a r all s =
      step_charged Pair first second pairing (ControlPaired Pair first second) halts halts one two
      (answered_by code (found_from one.world.cells code (start_of one.world.cells receiver) sel.0 Plain) sel receiver values site)
      (answered_by code (found_from two.world.cells code (start_of two.world.cells receiver') sel.0 Plain) sel receiver' values' site') a (refl, a)
      (λ next next' same same' b. answered_paired code (found_from one.world.cells code (start_of one.world.cells receiver) sel.0 Plain) (found_from two.world.cells code (start_of two.world.cells receiver') sel.0 Plain) sel receiver receiver' values values' site site' next next' b
      (found_value_paired Pair first second pairing one.world.cells two.world.cells a.heaps code receiver receiver' sel.0 Plain r) r all s
      (subst (λ heap. FoundSuits heap receiver (found_from one.world.cells code (start_of one.world.cells receiver) sel.0 Plain)) (sym same) (known.value one.world.cells code receiver sel.0 Plain)))
