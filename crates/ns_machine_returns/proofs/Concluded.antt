-- What comes after the last frame.
use Rattle.std.proofs.Common.{◌≡◌, ℕ, ◌≤◌, List, [], ◌∷◌, length, take, refl, ap, sym, ◌∙◌, subst, arith, Option, slice_get}
use Rattle.ns_base.specs.declared.place.Place.{Place as SourcePlace}
use Rattle.ns_base.specs.declared.selector.Sel.{Sel}
use Rattle.ns_code.specs.declared.program.CodeProgram.{CodeProgram}
use Rattle.ns_code.specs.declared.own.Own.TheVariants.{MainArgs}
use Rattle.ns_world.specs.declared.value.Value.{Value}
use Rattle.ns_world.specs.declared.value.Value.TheVariants.{Ref}
use Rattle.ns_world.specs.declared.kernel.ClassName.{ClassName}
use Rattle.ns_world.specs.declared.ending.Ending.TheVariants.{Done}
use Rattle.ns_world.specs.Starts.{class_name_of}
use Rattle.ns_moves.specs.Start.{platform}
use Rattle.ns_moves.specs.State as state
use Rattle.ns_moves.specs.State.{State, Pends, Ended, Sending}
use Rattle.ns_moves.specs.Steps.{opening_place}
use Rattle.ns_moves.specs.Returns.{concluded, delivered}
use Rattle.ns_moves.specs.Sends.{own_sel}
use Rattle.ns_machine_frames.specs.declared.frame.Frame.{Frame}
use Rattle.ns_machine_frames.specs.declared.frame.Pending.TheVariants as pending
use Rattle.ns_machine_frames.specs.declared.registers.Registers.{Registers}
use Rattle.ns_machine_frames.specs.declared.stack.Stack.{Stack}
use Rattle.ns_machine_frames.specs.Standing.{Stood, standing, at_next}
use Rattle.ns_machine_frames.specs.Stack.{stood, with_top, IsLaid}
use Rattle.ns_machine_frames.specs.View.{frames_shown}
use Rattle.ns_machine_core.specs.declared.state.Core.{Core}
use Rattle.ns_machine_core.specs.declared.state.Phase.{Phase}
use Rattle.ns_machine_core.specs.declared.state.Phase.TheVariants as phase
use Rattle.ns_machine_core.specs.declared.state.Next.TheVariants as next
use Rattle.ns_machine_core.specs.declared.own.OwnSends.{OwnSends}
use Rattle.ns_machine_core.specs.Shown.{phase_shown, progress_in}
use Rattle.ns_machine_core.specs.Standing.{HasRooms, AreStanding}
use Rattle.ns_machine_core.specs.Own.{AreOwn}
use Rattle.ns_machine_core.specs.laws.Pushed.{ended_stays}
use Rattle.ns_machine_returns.specs.Handing.{IsHanded}

stood_none : (stack : Stack) (at : Registers) → stack.frames.items ≡ [] → stood stack at ≡ []
stood_none stack at none = ap (λ (frames : List Frame). standing (at_next at.next frames) (take at.top stack.values.items)) none

-- a value with no frame left
alone : (code : CodeProgram) (core : Core) (at : Registers) (value : Value) → core.stack.frames.items ≡ []
    → delivered code (phase_shown core.phase) value (frames_shown code core.places (stood core.stack at)) (progress_in core)
    ≡ concluded code (phase_shown core.phase) value (progress_in core)
alone code core at value none =
    ap (λ (s : List Stood). delivered code (phase_shown core.phase) value (frames_shown code core.places s) (progress_in core)) (stood_none core.stack at none)

run_ends : (code : CodeProgram) (core : Core) (at : Registers) (value : Value) (p : Phase) → core.phase ≡ p → core.stack.frames.items ≡ []
    → concluded code (phase_shown p) value (progress_in core) ≡ Ended (Done value) (phase_shown p) (progress_in core)
    → IsHanded code core at value (record core { ending = Done value }) next.Ended
run_ends code core at value p is none ends = record {
  state = sym (alone code core at value none ∙ subst (λ (q : Phase). concluded code (phase_shown q) value (progress_in core) ≡ Ended (Done value) (phase_shown q) (progress_in core)) (sym is) ends);
  stand = tt;
  run = refl;
  stays = ended_stays core (Done value);
}

pub start_ends : (code : CodeProgram) (core : Core) (at : Registers) (value : Value) → core.phase ≡ phase.Start →
    core.stack.frames.items ≡ []
    → IsHanded code core at value (record core { ending = Done value }) next.Ended
start_ends code core at value is none = run_ends code core at value phase.Start is none refl

pub second_ends : (code : CodeProgram) (core : Core) (at : Registers) (value : Value) → core.phase ≡ phase.Second →
    core.stack.frames.items ≡ []
    → IsHanded code core at value (record core { ending = Done value }) next.Ended
second_ends code core at value is none = run_ends code core at value phase.Second is none refl

pub hosted_ends : (code : CodeProgram) (core : Core) (at : Registers) (value : Value) → core.phase ≡ phase.Hosted →
    core.stack.frames.items ≡ []
    → IsHanded code core at value (record core { ending = Done value }) next.Ended
hosted_ends code core at value is none = run_ends code core at value phase.Hosted is none refl

-- ---- the second opening send

-- there is room for its two arguments
pub two_fit : (code : CodeProgram) (core : Core) → HasRooms code core → 2 ≤ core.arguments.room
two_fit code core rooms = let enough = rooms.evaluations in omega (arith, enough)

-- without frames any top within what is filled stands
none_stand : (code : CodeProgram) (stack : Stack) (at : Registers) → stack.frames.items ≡ [] → at.top ≤ length stack.values.items
    → length stack.values.items ≤ stack.values.room → stack.values.room ≤ 4294967295 → AreStanding code stack at
none_stand code stack at none filled within small = record {
  laid = record { frames = rw none tt; base = rw none tt; filled = filled; within = within; small = small };
  within = rw none tt;
}

pub second_opens : (code : CodeProgram) (core : Core) (at bare : Registers) (stack : Stack) (own : OwnSends) (receiver : Value) (arguments : ℕ) (class : ClassName)
    → AreOwn code core.places own → core.stack.frames.items ≡ [] → core.phase ≡ phase.First arguments
    → class ≡ class_name_of core.run.world.world.cells receiver → stack.frames.items ≡ [] → IsLaid stack bare
    → stack.values.room ≡ core.stack.values.room → stack.frames.room ≡ core.stack.frames.room
    → IsHanded code core at receiver
    (record core {
      stack = stack;
      phase = phase.Second;
      waiting = pending.Sending receiver own.main_args (record { place = own.opening; class = class; sel = own.main_args }) 0;
      arguments = record core.arguments { items = platform ∷ Ref arguments ∷ [] };
    })
    (next.Waits bare)
second_opens code core at bare stack own receiver arguments class owns none is_first is_class empty laid values frames = record {
  state = waits ∙ sym (alone code core at receiver none ∙ ap (λ (p : Phase). concluded code (phase_shown p) receiver (progress_in core)) is_first);
  stand =
      let low : 0 ≤ length stack.values.items = omega arith in (
        none_stand code stack bare empty laid.filled laid.within laid.small,
        record {
          order = omega arith;
          low = omega arith;
          reach = omega arith;
          stands = none_stand code stack (with_top 0 bare) empty low laid.within laid.small;
        },
      );
  run = refl;
  stays = record { world = record { limits = refl; room = (refl, refl) }; values = values; frames = frames; places = refl; arguments = refl };
}
  where
    sel_is : own.main_args ≡ own_sel code MainArgs
    sel_is = let e = owns.main_args in ap (λ (n : ℕ). let s : Sel = record { 0 = n } in s) e

    pending_for : Sel → Option SourcePlace → ClassName → List Stood → State
    pending_for sel place named frames =
        Pends state.Second (Sending receiver sel (platform ∷ Ref arguments ∷ []) (record { place = place; class = named; sel = sel }))
        (frames_shown code core.places frames) (progress_in core)

    waits : pending_for own.main_args (slice_get core.places own.opening) class (stood stack (with_top 0 bare))
        ≡ pending_for (own_sel code MainArgs) (opening_place code) (class_name_of core.run.world.world.cells receiver) []
    waits = rw (stood_none stack (with_top 0 bare) empty, is_class, owns.opening, sel_is) refl
