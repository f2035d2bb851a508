-- Values that rows of the kernel give at once.
use Rattle.std.proofs.Common.{◌≡◌, ℕ, ap, sym, ◌∙◌, refl, subst, arith, List, [], ◌∷◌, All, Ok, Result, Bool, not}
use Rattle.ns_code.specs.declared.program.CodeProgram.{CodeProgram}
use Rattle.ns_world.specs.declared.ending.Fault.{Fault}
use Rattle.ns_world.specs.declared.value.Value.{Value}
use Rattle.ns_world.specs.declared.value.Value.TheVariants as value
use Rattle.ns_world.specs.Booleans.{truth}
use Rattle.ns_world.specs.Heap.{Heap}
use Rattle.ns_world.specs.Lawful.{IsLive, IsLiveValue}
use Rattle.ns_find.specs.declared.found.Found.{Found}
use Rattle.ns_find.specs.declared.found.Sending.{Sending}
use Rattle.ns_world.specs.declared.kernel_parts.DataRow.{DataRow}
use Rattle.ns_world.specs.declared.kernel_parts.DataRow.TheVariants.{ArrayPut, DoesNotUnderstand, Equal, Identical, IsNil, NotNil}
use Rattle.ns_kdata.specs.Arguments.{argument, number_of, CellIsThere}
use Rattle.ns_kdata.specs.Datum.{datum, row_outcome}
use Rattle.ns_kdata.specs.Giving.{GivesAtOnce}
use Rattle.ns_kdata.specs.Outcome.{RowOutcome, Answers}
use Rattle.ns_kdata.specs.Rows.{is_nil, put_at_place, same_value}
use Rattle.ns_world.specs.World.{World, stored}
use Rattle.ns_world.specs.declared.kernel_parts.IntRow.{IntRow}
use Rattle.ns_kint.specs.Integer.{integer}
use Rattle.ns_world.specs.declared.kernel_row.Row.{Row}
use Rattle.ns_world.specs.declared.kernel_row.Row.TheVariants.{Data, Integer}
use Rattle.ns_moves.specs.declared.site.Site.{Site}
use Rattle.ns_moves.specs.Control.{Activation, Control, Progress, gives, in_world}
use Rattle.ns_moves.specs.Kernel.{row_reached, answer_reached, data_reached, outcome_reached}
use Rattle.ns_moves.specs.Sends.{To, answered_by}
use Rattle.ns_moves.specs.Arrivals.{arrived}
use Rattle.ns_machine_frames.specs.declared.registers.Registers.{Registers}
use Rattle.ns_machine_frames.specs.Stack.{stood, with_top}
use Rattle.ns_machine_frames.specs.View.{site_shown, frames_shown}
use Rattle.ns_machine_core.specs.declared.state.Core.{Core}
use Rattle.ns_machine_core.specs.declared.state.Next.{Next}
use Rattle.ns_machine_core.specs.Shown.{phase_shown, progress_in}
use Rattle.ns_machine_core.specs.Doing.{IsSettled}
use Rattle.ns_machine_sends.specs.declared.sent.Sent.{Sent}
use Rattle.ns_machine_sends.specs.Going.{arguments_in}
use Rattle.ns_machine_sends.specs.Sending.{CanSend, looked_up, Sends}
use Rattle.ns_machine_quick.specs.Rows.{FindsRow, RowGives, NamesPlace}
use Rattle.ns_machine_quick.proofs.Slotted.{with_stored, stored_limits}

-- ---- the argument

-- the cell of a live value is there
pub live_there : (heap : Heap) (code : CodeProgram) (v : Value) → IsLive heap code v → CellIsThere heap v
live_there heap code (value.Ref at) live = live
live_there heap code value.Nil live = tt
live_there heap code value.True live = tt
live_there heap code value.False live = tt
live_there heap code (value.Int number) live = tt
live_there heap code (value.Sym sel) live = tt
live_there heap code (value.Kernel class) live = tt

-- the first of live arguments is there, and so is nil
pub first_there : (heap : Heap) (code : CodeProgram) (values : List Value) (v : Value) → All (IsLiveValue heap code) values →
    v ≡ argument values 0 → CellIsThere heap v
first_there heap code [] v live is = subst (CellIsThere heap) (sym is) tt
first_there heap code (one ∷ values) v live is = subst (CellIsThere heap) (sym is) (live_there heap code one (live 0 one (omega arith)).0)

-- ---- the value

pub integer_gives : (code : CodeProgram) (heap : Heap) (row : IntRow) (receiver right value : Value) →
    integer row (number_of receiver) right ≡ Ok value
    → RowGives code heap (Integer row) receiver right value
integer_gives code heap row receiver right value is arguments site progress first same =
    ap (λ (a : Value). answer_reached (integer row (number_of receiver) a) site progress) first
    ∙ ap (λ (r : Result Value Fault). answer_reached r site progress) is

-- what a row of data comes to that answers a value and changes nothing
data_answers : (code : CodeProgram) (row : DataRow) (receiver value : Value) (arguments : List Value) (site : Site) (progress : Progress)
    → datum progress.world code row receiver arguments ≡ Answers value progress.world → data_reached code row receiver arguments site progress ≡ gives value progress
data_answers code DoesNotUnderstand receiver value arguments site progress is = absurd (cc)
data_answers code row receiver value arguments site progress is = ap (λ (o : RowOutcome). outcome_reached o site progress) is

pub data_gives : (code : CodeProgram) (heap : Heap) (row : DataRow) (receiver first value : Value) →
    GivesAtOnce heap code row receiver first value
    → RowGives code heap (Data row) receiver first value
data_gives code heap row receiver first value is arguments site progress same cells =
    data_answers code row receiver value arguments site progress
    (subst (λ (a : Value). row_outcome progress.world code row receiver a (argument arguments 1) ≡ Answers value progress.world) (sym same)
    (is progress.world (argument arguments 1) cells))

-- ---- rows that compare values alone

pub nil_gives : (code : CodeProgram) (heap : Heap) (receiver first one : Value) (test : Bool) → one ≡ truth test → test ≡ is_nil receiver
    → RowGives code heap (Data IsNil) receiver first one
nil_gives code heap receiver first one test is told =
    data_gives code heap IsNil receiver first one
    (λ (world : World) (second : Value) same. ap (λ (v : Value). Answers v world) (sym (is ∙ ap truth told)))

pub some_gives : (code : CodeProgram) (heap : Heap) (receiver first one : Value) (test : Bool) → one ≡ truth test → test ≡ not (is_nil receiver)
    → RowGives code heap (Data NotNil) receiver first one
some_gives code heap receiver first one test is told =
    data_gives code heap NotNil receiver first one
    (λ (world : World) (second : Value) same. ap (λ (v : Value). Answers v world) (sym (is ∙ ap truth told)))

pub same_gives : (code : CodeProgram) (heap : Heap) (receiver first one : Value) (test : Bool) → one ≡ truth test → test ≡ same_value receiver first
    → RowGives code heap (Data Identical) receiver first one
same_gives code heap receiver first one test is told =
    data_gives code heap Identical receiver first one
    (λ (world : World) (second : Value) same. ap (λ (v : Value). Answers v world) (sym (is ∙ ap truth told)))

pub equal_gives : (code : CodeProgram) (heap : Heap) (receiver first one : Value) (test : Bool) → one ≡ truth test → test ≡ same_value receiver first
    → RowGives code heap (Data Equal) receiver first one
equal_gives code heap receiver first one test is told =
    data_gives code heap Equal receiver first one
    (λ (world : World) (second : Value) same. ap (λ (v : Value). Answers v world) (sym (is ∙ ap truth told)))

-- ---- the send

-- what a lookup that found a row answers
pub row_looked_up : (code : CodeProgram) (core : Core) (at : Registers) (sent : Sent) (receiver : Value) (kind : Sending) (row : Row) (activation : Activation)
    → FindsRow code core sent receiver kind row
    → looked_up code core at sent activation (To receiver kind)
    ≡ row_reached code row sent.site.sel receiver (arguments_in core at sent) (site_shown core.places sent.site) (progress_in core)
row_looked_up code core at sent receiver kind row activation finds =
    ap (λ (f : Found). answered_by code f sent.site.sel receiver (arguments_in core at sent) (site_shown core.places sent.site) (progress_in core)) finds.found
    ∙ ap (λ (r : Row). row_reached code r sent.site.sel receiver (arguments_in core at sent) (site_shown core.places sent.site) (progress_in core)) finds.row_is

pub row_sends : (code : CodeProgram) (core new : Core) (at : Registers) (sent : Sent) (receiver : Value) (kind : Sending) (row : Row) (value : Value) (next : Next)
    (activation : Activation) → CanSend code core at sent receiver → FindsRow code core sent receiver kind row
    → RowGives code core.run.world.world.cells row receiver (argument (arguments_in core at sent) 0) value
    → IsSettled code core (with_top sent.floor at) sent.site (Ok value) new next
    → Sends code core at sent.floor (looked_up code core at sent activation (To receiver kind)) new next
row_sends code core new at sent receiver kind row value next activation can finds given is = record {
  state = is.state
      ∙ ap (λ (c : Control). arrived code (phase_shown core.phase) c (frames_shown code core.places (stood core.stack (with_top sent.floor at))))
      (sym (row_looked_up code core at sent receiver kind row activation finds
      ∙ given (arguments_in core at sent) (site_shown core.places sent.site) (progress_in core) refl refl));
  stand = is.stand;
  stays = is.stays;
  kept = rw is.run can.kept;
}

-- ---- an element that is stored

pub put_sends : (code : CodeProgram) (core new : Core) (at : Registers) (sent : Sent) (receiver : Value) (kind : Sending) (place : ℕ) (values : List Value) (v : Value)
    (next : Next) (activation : Activation) → CanSend code core at sent receiver → FindsRow code core sent receiver kind (Data ArrayPut)
    → NamesPlace core at sent receiver place → values ≡ arguments_in core at sent → v ≡ argument values 1
    → IsSettled code (with_stored core receiver place v) (with_top sent.floor at) sent.site (Ok v) new next
    → Sends code core at sent.floor (looked_up code core at sent activation (To receiver kind)) new next
put_sends code core new at sent receiver kind place values v next activation can finds names all same is = record {
  state = is.state
      ∙ ap (λ (c : Control). arrived code (phase_shown core.phase) c (frames_shown code core.places (stood core.stack (with_top sent.floor at))))
      (ap (λ (w : Value). gives w (in_world (progress_in core) (stored core.run.world.world receiver place w))) (same ∙ ap (λ (l : List Value). argument l 1) all)
      ∙ sym (row_looked_up code core at sent receiver kind (Data ArrayPut) activation finds
      ∙ ap (λ (p : Result ℕ Fault). outcome_reached (put_at_place core.run.world.world receiver p (argument (arguments_in core at sent) 1))
      (site_shown core.places sent.site) (progress_in core)) names));
  stand = is.stand;
  stays = record {
    world = record { limits = is.stays.world.limits ∙ stored_limits core.run.world.world receiver place v; room = is.stays.world.room };
    values = is.stays.values;
    frames = is.stays.frames;
    places = is.stays.places;
    arguments = is.stays.arguments;
  };
  kept = rw is.run can.kept;
}
