-- No reply has the status of a fault of a file or of a stream, so no call ends with its number.
use Rattle.std.proofs.Common.{◌≡◌, ◌≢◌, ◌∙◌, ◌⊎◌, inl, inr, ℕ, ◌==◌, Bool, true, false, cond, List, [], ◌∷◌, length, nat_lt, Option, Some, None, ap, sym, refl, subst}
use Rattle.std.proofs.lemmas.Bool.{false≢true}
use Rattle.ns_base.specs.Limits.{InRange}
use Rattle.ns_base.specs.Status.{exit_code}
use Rattle.ns_base.specs.declared.status.Status.{Status}
use Rattle.ns_base.specs.declared.status.Status.TheVariants as status
use Rattle.ns_handed.specs.Hands.{are_of, hands_of}
use Rattle.ns_handed.specs.Laid.{values_from}
use Rattle.ns_machine.specs.Asking.{MayAsk, named}
use Rattle.ns_machine.specs.Machine.{MachineView}
use Rattle.ns_moves.specs.State.{ending_of}
use Rattle.ns_opened.specs.Host.{Ends, EndsAsking, EndsOpening, EndsTurn, EndsWithoutFault, IsNoFault, Numbered, terms_of}
use Rattle.ns_opened.specs.Laid.{cells_used, has_room, with_texts}
use Rattle.ns_opened.specs.Opened.{
  Answers,
  AnswersBy,
  AnswersIn,
  AnswersOf,
  AnswersOwn,
  AnswersWith,
  Asked,
  Asks,
  Opens,
  asked,
  asked_on,
  gone_on,
  image_bytes,
  open_code,
  open_image,
  opened,
  printed_by,
  program_in,
  turn_answer,
  turn_of,
}
use Rattle.ns_opened.specs.declared.host.HostTerms.{HostTerms}
use Rattle.ns_opened.specs.declared.open.Terms.{Terms}
use Rattle.ns_reply.specs.Reply.{is_fault, is_too_large, program_bytes, refusal_status, refused, reply_of, status_at, told_of}
use Rattle.ns_reply.specs.Room.{GivesReply, IsUntouched}
use Rattle.ns_reply.specs.declared.reply.Refusal.{Refusal}
use Rattle.ns_reply.specs.declared.reply.Refusal.TheVariants as why
use Rattle.ns_reply.specs.declared.reply.Reply.{Reply}
use Rattle.ns_reply.specs.declared.room.Told.{Told}
use Rattle.ns_run_code.specs.Exec.{ImageCode, admitted, image_code, refused_code, refused_image}
use Rattle.ns_world.specs.declared.ending.Ending.{Ending}
use Rattle.ns_world.specs.declared.ending.Ending.TheVariants.{Done, Error, Limit}
use Rattle.ns_world.specs.declared.value.Value.{Value}

-- ---- replies

-- A reply without a fault, and what is said of each reply of a kind.
abbrev Faultless : Reply → Type 0
Faultless reply = is_fault reply.status ≡ false

abbrev AllFaultless : (Reply → Type 0) → Type 0
AllFaultless Is = (reply : Reply) → Is reply → Faultless reply

refusal_faultless : (why : Refusal) → is_fault (refusal_status why) ≡ false
refusal_faultless why.NotAProgram = refl
refusal_faultless why.NotAnImage = refl
refusal_faultless why.BadLimits = refl
refusal_faultless why.OtherProgram = refl
refusal_faultless why.NoRoom = refl
refusal_faultless why.MayNotAsk = refl
refusal_faultless why.TooLarge = refl

end_faultless : (ending : Option Ending) → is_fault (status_at ending) ≡ false
end_faultless None = refl
end_faultless (Some (Done value)) = refl
end_faultless (Some (Error error)) = refl
end_faultless (Some (Limit limit)) = refl

-- One of a given kind, where it is a certain reply.
is_refused : (why : Refusal) (reply : Reply) → reply ≡ refused why → Faultless reply
is_refused why reply is = subst Faultless (sym is) (refusal_faultless why)

told_faultless : (bytes : List ℕ) (name before : ℕ) (machine : MachineView) → Faultless (told_of bytes name before machine)
told_faultless bytes name before machine = end_faultless (ending_of machine.state)

of_machine : (name before : ℕ) (machine : MachineView) → Faultless (reply_of name before machine)
of_machine name before machine =
    elim (is_too_large machine) as (λ q. Faultless (cond q (refused why.TooLarge) (told_of (program_bytes machine) name before machine))) [
      | true ↦ refl
      | false ↦ told_faultless (program_bytes machine) name before machine
    ]

-- ---- where it isn't decided which of two replies it is

not_true : (b : Bool) → ¬ (b ≡ true) → b ≡ false
not_true true not = absurd (not refl)
not_true false not = refl

either_faultless : (P : Type 0) (reply one other : Reply) → (P → reply ≡ one) → (¬ P → reply ≡ other) → Faultless one → Faultless other → Faultless reply
either_faultless P reply one other if_so if_not one_is other_is =
    not_true (is_fault reply.status) (λ fault.
    false≢true (sym (subst Faultless (sym (if_not (λ p. false≢true (sym (subst Faultless (sym (if_so p)) one_is) ∙ fault)))) other_is) ∙ fault))

-- ---- opening

of_code : (terms : Terms) (arguments : List (List ℕ)) (code : ImageCode) → Faultless (open_code terms arguments code)
of_code terms arguments (refused_image cause) = refl
of_code terms arguments (refused_code cause at) = refl
of_code terms arguments (admitted code) = of_machine terms.name 0 (opened terms arguments code)

of_image : (terms : Terms) (arguments : List (List ℕ)) (image : List ℕ) → Faultless (open_image terms arguments image)
of_image terms arguments image =
    elim (nat_lt image_bytes (length image)) as (λ q. Faultless (cond q (refused why.NotAnImage) (open_code terms arguments (image_code image)))) [
      | true ↦ refl
      | false ↦ of_code terms arguments (image_code image)
    ]

opens_faultless : (terms : Terms) (arguments : List (List ℕ)) (image : List ℕ) → AllFaultless (Opens terms arguments image)
opens_faultless terms arguments image reply opens =
    either_faultless (InRange terms.limits) reply (open_image terms arguments image) (refused why.BadLimits)
    opens.in_range opens.out_of_range (of_image terms arguments image) refl

-- ---- questions

by_faultless : (question : Asked) (receiver : Value) (arguments : List Value) (machine : MachineView) → AllFaultless (AnswersBy question receiver arguments machine)
by_faultless question receiver arguments machine reply answers =
    either_faultless (MayAsk machine.code machine.state receiver question.selector arguments) reply
    (asked question receiver arguments machine) (refused why.MayNotAsk) answers.may answers.may_not
    (of_machine question.name (printed_by machine) (asked_on question.steps receiver (named machine.code question.selector) arguments machine)) refl

values_faultless : (question : Asked) (values : List Value) (machine : MachineView) → AllFaultless (Answers question values machine)
values_faultless question [] machine reply is = is_refused why.MayNotAsk reply is
values_faultless question (receiver ∷ arguments) machine reply answers = by_faultless question receiver arguments machine reply answers

with_faultless : (question : Asked) (values : List Value) (machine : Option MachineView) → AllFaultless (AnswersWith question values machine)
with_faultless question values None reply is = is_refused why.NotAProgram reply is
with_faultless question values (Some machine) reply answers = values_faultless question values machine reply answers

in_faultless : (question : Asked) (machine : MachineView) (room : Bool) → AllFaultless (AnswersIn question machine room)
in_faultless question machine false reply is = is_refused why.NoRoom reply is
in_faultless question machine true reply answers =
    with_faultless question (values_from (cells_used machine) (hands_of question.values)) (with_texts (hands_of question.values) question.texts machine) reply answers

of_faultless : (question : Asked) (machine : Option MachineView) → AllFaultless (AnswersOf question machine)
of_faultless question None reply is = is_refused why.NotAProgram reply is
of_faultless question (Some machine) reply answers = in_faultless question machine (has_room (hands_of question.values) machine) reply answers

own_faultless : (question : Asked) (bytes : List ℕ) (own : Bool) → AllFaultless (AnswersOwn question bytes own)
own_faultless question bytes false reply is = is_refused why.OtherProgram reply is
own_faultless question bytes true reply answers = of_faultless question (program_in bytes) reply answers

-- ---- turns

turn_faultless : (name steps : ℕ) (machine : Option MachineView) → Faultless (turn_of name steps machine)
turn_faultless name steps None = refl
turn_faultless name steps (Some machine) = of_machine name (printed_by machine) (gone_on steps machine)

-- ---- how calls end

number_faultless : (status : Status) → is_fault status ≡ false → IsNoFault (exit_code status)
number_faultless status.Done is = (λ e. false≢true (ap (λ n. n == 4) e), λ e. false≢true (ap (λ n. n == 5) e))
number_faultless status.ProgramError is = (λ e. false≢true (ap (λ n. n == 4) e), λ e. false≢true (ap (λ n. n == 5) e))
number_faultless status.Refused is = (λ e. false≢true (ap (λ n. n == 4) e), λ e. false≢true (ap (λ n. n == 5) e))
number_faultless status.Limit is = (λ e. false≢true (ap (λ n. n == 4) e), λ e. false≢true (ap (λ n. n == 5) e))
number_faultless status.ReadFault is = absurd (false≢true (sym is))
number_faultless status.WriteFault is = absurd (false≢true (sym is))
number_faultless status.Memory is = (λ e. false≢true (ap (λ n. n == 4) e), λ e. false≢true (ap (λ n. n == 5) e))

-- With a reply, or for want of memory.
ends_faultless : (Is : Reply → Type 0) → AllFaultless Is → (status : Status) (old new : List ℕ) (told : Told) → Ends Is status old new told
    → is_fault status ≡ false
ends_faultless Is all status old new told (inl (reply, is, gives)) = ap is_fault gives.status_is ∙ all reply is
ends_faultless Is all status old new told (inr (memory, untouched)) = ap is_fault memory

without_fault : (Is : Reply → Type 0) → AllFaultless Is → EndsWithoutFault (Ends Is)
without_fault Is all result old new told (status, number, ends) =
    subst IsNoFault (sym number) (number_faultless status (ends_faultless Is all status old new told ends))

-- Openings, questions and turns end so.
pub openings : (given : HostTerms) (arguments : List (List ℕ)) (image : List ℕ) → EndsWithoutFault (EndsOpening given arguments image)
openings given arguments image = without_fault (Opens (terms_of given) arguments image) (opens_faultless (terms_of given) arguments image)

pub questions : (question : Asked) (bytes : List ℕ) → EndsWithoutFault (EndsAsking question bytes)
questions question bytes = without_fault (Asks question bytes) (own_faultless question bytes (are_of question.name question.values))

pub turns : (name steps : ℕ) (bytes : List ℕ) → EndsWithoutFault (EndsTurn name steps bytes)
turns name steps bytes =
    without_fault (λ reply. reply ≡ turn_answer name steps bytes)
    (λ reply is. subst Faultless (sym is) (turn_faultless name steps (program_in bytes)))
