-- Sends to Booleans.
use Rattle.std.proofs.Common.{◌≡◌, ℕ, ◌+◌, ◌-◌, ℤ, List, ◌∷◌, ap, sym, ◌∙◌, refl, subst, arith, Bool, true, Option, Some, None, Ok, if◌then◌else◌}
use Rattle.std.specs.Prelude.{pos}
use Rattle.std.proofs.lemmas.Option.{none-some}
use Rattle.ns_code.specs.declared.program.CodeProgram.{CodeProgram}
use Rattle.ns_world.specs.declared.ending.Kind.TheVariants.{WrongKind}
use Rattle.ns_world.specs.declared.ending.LimitKind.TheVariants.{Depth}
use Rattle.ns_world.specs.declared.kernel.ClassName.TheVariants as name
use Rattle.ns_world.specs.declared.kernel_class.KernelRow.TheVariants as class
use Rattle.ns_world.specs.declared.kernel.Start.TheVariants as start
use Rattle.ns_world.specs.declared.value.Value.{Value}
use Rattle.ns_world.specs.declared.value.Value.TheVariants as value
use Rattle.ns_world.specs.Heap.{Heap}
use Rattle.ns_world.specs.Starts.{start_of, class_name_of, class_name_at}
use Rattle.ns_world.specs.World.{World, entered}
use Rattle.ns_world.specs.Booleans.{is_boolean}
use Rattle.ns_find.specs.declared.found.Sending.{Sending}
use Rattle.ns_kcode.specs.declared.state.KAction.{KAction}
use Rattle.ns_kcode.specs.declared.state.KAction.TheVariants as action
use Rattle.ns_world.specs.declared.kernel_parts.KMethod.{KMethod}
use Rattle.ns_world.specs.declared.kernel_parts.KMethod.TheVariants as method
use Rattle.ns_kcode.specs.declared.state.KState.{KState}
use Rattle.ns_kcode.specs.Next.{next, and_next, or_next, if_true_next, if_false_next}
use Rattle.ns_kcode.specs.Rows.{beginning}
use Rattle.ns_kdata.specs.Arguments.{argument}
use Rattle.ns_machine_plan.specs.Booleans.{FindsBoolean}
use Rattle.ns_world.specs.declared.kernel_row.Row.TheVariants.{Method}
use Rattle.ns_moves.specs.declared.site.Site.{Site}
use Rattle.ns_moves.specs.Blocks.{turns_of, acted}
use Rattle.ns_moves.specs.Control.{Activation, Control, Begin, Progress, Gives, halts, fails, charged, in_world}
use Rattle.ns_moves.specs.Sends.{To}
use Rattle.ns_moves.specs.Arrivals.{acted_on}
use Rattle.ns_moves.specs.Charging.{action_charges}
use Rattle.ns_moves.specs.Move.{move}
use Rattle.ns_moves.specs.Returns.{settled}
use Rattle.ns_moves.specs.State as state
use Rattle.ns_machine_frames.specs.declared.registers.Registers.{Registers}
use Rattle.ns_machine_frames.specs.Stack.{stood, with_top}
use Rattle.ns_machine_frames.specs.View.{site_shown, frames_shown}
use Rattle.ns_machine_core.specs.declared.state.Core.{Core}
use Rattle.ns_machine_core.specs.declared.state.Next.{Next}
use Rattle.ns_machine_core.specs.Doing.{IsSettled}
use Rattle.ns_machine_core.specs.Shown.{phase_shown, progress_in}
use Rattle.ns_machine_sends.specs.declared.sent.Sent.{Sent}
use Rattle.ns_machine_sends.specs.Going.{arguments_in}
use Rattle.ns_machine_sends.specs.Sending.{CanSend, looked_up}
use Rattle.ns_machine_quick.specs.Booleans.{where_true, where_false, answer_at_once, AnswersAt}
use Rattle.ns_machine_quick.specs.Looping.{CanLoop}
use Rattle.ns_machine_quick.specs.Rows.{FindsRow}
use Rattle.ns_machine_quick.proofs.IntegerSends.{class_finds}
use Rattle.ns_machine_sends.specs.laws.Opened.{depth_fits}
use Rattle.ns_machine_quick.proofs.Valued.{row_looked_up}

-- ---- what is found

-- the lookup of a Boolean starts at the rows of Boolean
boolean_starts : (heap : Heap) (receiver : Value) → is_boolean receiver ≡ true → start_of heap receiver ≡ start.Kernel class.Boolean
boolean_starts heap value.True is = refl
boolean_starts heap value.False is = refl
boolean_starts heap value.Nil is = absurd (cc)
boolean_starts heap (value.Int number) is = absurd (cc)
boolean_starts heap (value.Sym sel) is = absurd (cc)
boolean_starts heap (value.Kernel kernel) is = absurd (cc)
boolean_starts heap (value.Ref at) is = absurd (cc)

-- and that is its class
pub boolean_named : (heap : Heap) (receiver : Value) → is_boolean receiver ≡ true → name.Kernel class.Boolean ≡ class_name_of heap receiver
boolean_named heap receiver is = ap (class_name_at heap) (sym (boolean_starts heap receiver is))

-- so it finds the method that its selector spells
pub boolean_finds : (code : CodeProgram) (core : Core) (sent : Sent) (receiver : Value) (kind : Sending) (named : KMethod) →
    is_boolean receiver ≡ true
    → FindsBoolean core.run.world.world.cells code sent.site.sel kind named → FindsRow code core sent receiver kind (Method named)
boolean_finds code core sent receiver kind named is finds =
    class_finds code core sent receiver kind class.Boolean (Method named) (boolean_starts core.run.world.world.cells receiver is) finds

-- ---- what the method answers

only_true : (receiver one answer : Value) → where_true receiver one ≡ Some answer → (receiver ≡ value.True) × (one ≡ answer)
only_true value.True one answer is = (refl, cc)
only_true value.False one answer is = absurd (none-some answer is)
only_true value.Nil one answer is = absurd (none-some answer is)
only_true (value.Int number) one answer is = absurd (none-some answer is)
only_true (value.Sym sel) one answer is = absurd (none-some answer is)
only_true (value.Kernel kernel) one answer is = absurd (none-some answer is)
only_true (value.Ref at) one answer is = absurd (none-some answer is)

only_false : (receiver one answer : Value) → where_false receiver one ≡ Some answer → (receiver ≡ value.False) × (one ≡ answer)
only_false value.False one answer is = (refl, cc)
only_false value.True one answer is = absurd (none-some answer is)
only_false value.Nil one answer is = absurd (none-some answer is)
only_false (value.Int number) one answer is = absurd (none-some answer is)
only_false (value.Sym sel) one answer is = absurd (none-some answer is)
only_false (value.Kernel kernel) one answer is = absurd (none-some answer is)
only_false (value.Ref at) one answer is = absurd (none-some answer is)

-- the first action of a method that answers at once is that answer
answers_first : (named : KMethod) (receiver answer first second : Value) (size : ℤ) → answer_at_once named receiver ≡ Some answer
    → next named (beginning receiver first second size) ≡ action.Answer answer
answers_first method.And receiver answer first second size is =
    let only = only_false receiver value.False answer is in ap (λ (r : Value). and_next r first None) only.0 ∙ ap action.Answer only.1
answers_first method.Or receiver answer first second size is =
    let only = only_true receiver value.True answer is in ap (λ (r : Value). or_next r first None) only.0 ∙ ap action.Answer only.1
answers_first method.IfTrue receiver answer first second size is =
    let only = only_false receiver value.Nil answer is in ap (λ (r : Value). if_true_next r first None) only.0 ∙ ap action.Answer only.1
answers_first method.IfFalse receiver answer first second size is =
    let only = only_true receiver value.Nil answer is in ap (λ (r : Value). if_false_next r first None) only.0 ∙ ap action.Answer only.1
answers_first method.IfTrueIfFalse receiver answer first second size is = absurd (none-some answer is)
answers_first method.IfFalseIfTrue receiver answer first second size is = absurd (none-some answer is)
answers_first method.WhileTrue receiver answer first second size is = absurd (none-some answer is)
answers_first method.WhileFalse receiver answer first second size is = absurd (none-some answer is)
answers_first method.ToDo receiver answer first second size is = absurd (none-some answer is)
answers_first method.TimesRepeat receiver answer first second size is = absurd (none-some answer is)
answers_first method.Do receiver answer first second size is = absurd (none-some answer is)

-- ---- the method begins, and ends

module _ (code : CodeProgram) (core : Core) (at : Registers) (sent : Sent) (receiver : Value) (named : KMethod) where
  abbrev begun : KState
  begun = beginning receiver (argument (arguments_in core at sent) 0) (argument (arguments_in core at sent) 1) (pos (turns_of core.run.world.world.cells named receiver))

  abbrev site : Site
  site = site_shown core.places sent.site

  -- what it has done with one frame more
  abbrev within : Progress
  within = in_world (progress_in core) (record core.run.world.world { depth = core.run.world.world.depth + 1 })

  abbrev frames : List state.Frame
  frames = frames_shown code core.places (stood core.stack (with_top sent.floor at))

  looked_begun : (kind : Sending) (activation : Activation) → FindsRow code core sent receiver kind (Method named) → CanLoop core at sent named
      → looked_up code core at sent activation (To receiver kind) ≡ Begin named begun site within
  looked_begun kind activation finds loops =
      row_looked_up code core at sent receiver kind (Method named) activation finds
      ∙ (ap (λ (b : Bool). if b then charged halts Depth (entered core.run.world.world) (progress_in core) (Begin named begun site)
      else fails WrongKind site (progress_in core)) loops.asks
      ∙ ap (λ (o : Option World). charged halts Depth o (progress_in core) (Begin named begun site)) (depth_fits core.run.world.world loops.depth))

  ends_so : (answer : Value) → next named begun ≡ action.Answer answer
      → move code (state.Going (phase_shown core.phase) (state.Looping named begun site ∷ frames) within)
      ≡ settled code (phase_shown core.phase) (Gives answer (progress_in core)) frames
  ends_so answer is =
      ap (λ (a : KAction). acted_on code (phase_shown core.phase) named site (acted a begun site within) frames) is
      ∙ ap (λ (n : ℕ). settled code (phase_shown core.phase) (Gives answer (in_world (progress_in core) (record core.run.world.world { depth = n }))) frames) again
    where
      again : core.run.world.world.depth + 1 - 1 ≡ core.run.world.world.depth
      again = omega arith

  -- Both moves bring what it answers to the body that runs.
  pub answers_so : (kind : Sending) (answer : Value) (new : Core) (n : Next) (activation : Activation) → CanSend code core at sent receiver
      → FindsRow code core sent receiver kind (Method named) → CanLoop core at sent named → answer_at_once named receiver ≡ Some answer
      → IsSettled code core (with_top sent.floor at) sent.site (Ok answer) new n
      → AnswersAt code core at sent.floor (looked_up code core at sent activation (To receiver kind)) new n
  answers_so kind answer new n activation can finds loops answers is =
      let first = answers_first named receiver answer (argument (arguments_in core at sent) 0) (argument (arguments_in core at sent) 1)
      (pos (turns_of core.run.world.world.cells named receiver)) answers in
      subst (λ (c : Control). AnswersAt code core at sent.floor c new n) (sym (looked_begun kind activation finds loops))
      (record {
        state = is.state ∙ sym (ends_so answer first);
        goes = refl;
        free = ap action_charges first;
        stand = is.stand;
        stays = is.stays;
        kept = rw is.run can.kept;
      })
