-- The initialiser of a superclass can be entered.
use Rattle.std.proofs.Common.{◌≡◌, ℕ, ◌-◌, ◌<◌, ◌≤◌, ◌==◌, List, ◌∷◌, length, take, drop, refl, ap, sym, ◌∙◌, subst, arith, All}
use Rattle.std.specs.Prelude.{IsTrue}
use Rattle.ns_code.specs.declared.program.CodeProgram.{CodeProgram}
use Rattle.ns_code.specs.declared.instruction.Instr.TheVariants as instr
use Rattle.ns_code.specs.Soundness.{initialiser_kind}
use Rattle.ns_world.specs.declared.value.Value.{Value}
use Rattle.ns_world.specs.Heap.{find_cell, is_class}
use Rattle.ns_world.specs.Lawful.{IsLawful, IsLiveValue}
use Rattle.ns_world.specs.World.{World, WorldView}
use Rattle.ns_moves.specs.declared.site.Site.{Site}
use Rattle.ns_moves.specs.declared.control.Exit.TheVariants as exit
use Rattle.ns_moves.specs.declared.control.Entered.{Entered}
use Rattle.ns_moves.specs.declared.control.PartReached.TheVariants as part
use Rattle.ns_moves.specs.Control.{Progress, Activation as ShownActivation, in_world}
use Rattle.ns_moves.specs.Classes.{super_part}
use Rattle.ns_moves.specs.Actions.{Action, BeginsPart}
use Rattle.ns_moves.specs.Spending.{Spends, PartSpends}
use Rattle.ns_moves.specs.Fitting.{Asks, HandsOn, FitsEntered, FitsNextPart, EntersPart}
use Rattle.ns_moves.specs.Lawful.{LawfulRun, LawfulPart, FitsActivation}
use Rattle.ns_moves.specs.Shown.{part_shown, locals_shown}
use Rattle.ns_moves.specs.Shown as shows
use Rattle.ns_machine_frames.specs.declared.frame.Frame.{Frame}
use Rattle.ns_machine_frames.specs.declared.frame.Frame.TheVariants.{Running}
use Rattle.ns_machine_frames.specs.declared.frame.Activation.{Activation}
use Rattle.ns_machine_frames.specs.declared.frame.RunningFrame.{RunningFrame}
use Rattle.ns_machine_frames.specs.declared.registers.Registers.{Registers}
use Rattle.ns_machine_frames.specs.Standing.{Stood, standing, at_next, below, operands_in}
use Rattle.ns_machine_frames.specs.Stack.{stood, in_use, with_top, IsLaid}
use Rattle.ns_machine_frames.specs.Room.{FramesFitWithin, bound}
use Rattle.ns_machine_frames.specs.View.{site_shown, activation_shown}
use Rattle.ns_machine_frames.specs.laws.Counts.{many_stand, many_next}
use Rattle.ns_machine_core.specs.declared.state.Core.{Core}
use Rattle.ns_machine_core.specs.Shown.{progress_in}
use Rattle.ns_moves.specs.Bodies.{height_in, greatest_of}
use Rattle.ns_machine_core.specs.Arriving.{CanEnter}
use Rattle.ns_machine_core.specs.Entering.{WhatIsReachedIsEntered}
use Rattle.ns_machine_core.specs.Doing.{CanDo}
use Rattle.ns_machine_core.specs.laws.Pushed.{operands_count}
use Rattle.ns_machine_core.specs.laws.Worlds.{in_other}
use Rattle.ns_machine_core.specs.laws.Kept.{rooms_stay}
use Rattle.ns_machine_returns.specs.Parts.{part_call, listed}
use Rattle.ns_machine_returns.proofs.PartFound.{PartFinds}
use Rattle.ns_machine_returns.proofs.PartDone.{IsReached, world_stays, locals_are}

-- where the arguments begin, the frames reach no further than they may
reach_is : (code : CodeProgram) (core : Core) (at : Registers) (first : ℕ) (frame : RunningFrame) →
    core.stack.frames.items ≡ Running frame ∷ below core.stack.frames.items
    → IsLaid core.stack (with_top first at) → FramesFitWithin (height_in code) (greatest_of code.bodies) (length core.stack.values.items) core.stack.frames.items
    → length (operands_in (stood core.stack (with_top first at))) ≤ height_in code frame.activation.body
    → first ≤ bound (greatest_of code.bodies) core.stack.frames.items
reach_is code core at first frame top laid within few =
    let here = subst (λ (frames : List Frame). length (operands_in (standing (at_next at.next frames) (take first core.stack.values.items))) ≤ height_in code frame.activation.body) top few in
    let count = operands_count frame.operands first core.stack.values.items laid.filled in
    let reach = (subst (FramesFitWithin (height_in code) (greatest_of code.bodies) (length core.stack.values.items)) top within).1 in
    subst (λ (frames : List Frame). first ≤ bound (greatest_of code.bodies) frames) (sym top) (omega (arith, here, count, reach))

pub enters : ((code : CodeProgram) → WhatIsReachedIsEntered code)
    → ((code : CodeProgram) (activation : ShownActivation) (arguments : List Value) (p : Progress) → LawfulRun code p → IsLiveValue p.world.cells code activation.self
    → All (IsLiveValue p.world.cells code) arguments → LawfulPart code (super_part code activation arguments p))
    → ((code : CodeProgram) (action : Action) (p : Progress) → Spends code action p)
    → ((code : CodeProgram) (action : Action) (p : Progress) → LawfulRun code p → Asks code action p → HandsOn code action p)
    → (code : CodeProgram) (core : Core) (world : WorldView) (at : Registers) (argc : ℕ) (frame : RunningFrame) (items : List Value) (entered : Entered)
    → CanDo code core at (instr.InitSuper argc) → core.stack.frames.items ≡ Running frame ∷ below core.stack.frames.items
    → PartFinds code core frame.activation (stood core.stack (with_top (at.top - argc) at)) items → IsLaid core.stack (with_top (at.top - argc) at)
    → items ≡ drop (at.top - argc) (in_use core.stack at) → IsReached code core world frame.activation items (part.Enters entered)
    → CanEnter code (in_other core world) at (part_call frame.activation.site (at.top - argc)) exit.Body (listed entered)
enters reached keeps spends hands code core world at argc frame items entered can top finds laid items_are is =
    reached code initialiser_kind (in_other core world) at (part_call frame.activation.site first) exit.Body (listed entered) site finds.sound
    (fits_entered, record { met = tt; kind = subst (λ (k : ℕ). IsTrue (k == initialiser_kind)) (sym fits_part.1) refl; own = tt })
    (record {
      begins = record {
        begins = record { laid = can.stands.frames.laid; waits = laid; low = low; frames = let few = depth in let room = can.stands.rooms.frames in let same = limit in omega (arith, few, room, same) };
        within = can.stands.frames.within;
        reach = reach_is code core at first frame top laid can.stands.frames.within finds.few;
      };
      rooms = rooms_stay code core (in_other core world) can.stands.rooms (world_stays core world is.rest);
      depth = depth;
      floor = omega arith;
      first = low;
      place = tt;
      given = refl;
    })
  where
    first : ℕ
    first = at.top - argc

    low : at.top - argc ≤ at.top
    low = omega arith

    site : Site
    site = site_shown core.places frame.activation.site

    act : ShownActivation
    act = activation_shown core.places frame.activation

    after : Progress
    after = in_world (progress_in core) world.world

    handed : HandsOn code (BeginsPart act items) (progress_in core)
    handed = hands code (BeginsPart act items) (progress_in core) finds.lawful (finds.holder, finds.arguments)

    fits_part : FitsNextPart code (part_shown code site items (part.Enters entered) after)
    fits_part = subst (FitsNextPart code) (sym is.is) handed.0

    enters_part : FitsEntered world.world.cells code (shows.activation_shown site entered) (locals_shown code world.world.cells items entered)
    enters_part = subst (EntersPart code) (sym is.is) (handed.1 finds.message)

    fits_entered : FitsEntered world.world.cells code (shows.activation_shown site entered)
        (locals_shown code world.world.cells (drop (at.top - argc) (in_use core.stack at)) (listed entered))
    fits_entered =
        subst (λ (values : List Value). FitsEntered world.world.cells code (shows.activation_shown site entered) (locals_shown code world.world.cells values (listed entered))) items_are
        (subst (FitsEntered world.world.cells code (shows.activation_shown site entered)) (locals_are code core world frame.activation items entered is) enters_part)

    lawful : LawfulPart code (part_shown code site items (part.Enters entered) after)
    lawful = subst (LawfulPart code) (sym is.is) (keeps code act items (progress_in core) finds.lawful finds.live finds.arguments)

    spent : PartSpends (progress_in core) (part_shown code site items (part.Enters entered) after)
    spent = subst (PartSpends (progress_in core)) (sym is.is) (spends code (BeginsPart act items) (progress_in core))

    limit : world.world.limits.depth ≡ core.run.world.world.limits.depth
    limit = ap (λ limits. limits.depth) is.rest.limits

    depth : length core.stack.frames.items < world.world.limits.depth
    depth =
        let before = can.framed.depth ∙ (many_stand (at_next at.next core.stack.frames.items) (take at.top core.stack.values.items) ∙ many_next at.next core.stack.frames.items) in
        let one = spent.depth in
        let within = lawful.0.within.depth in
        omega (arith, before, one, within)

-- ---- what the action asks for

pub holder_is_class : ((world : World) (code : CodeProgram) (activation : ShownActivation) → IsLawful world code → FitsActivation world.cells code activation
    → IsTrue (is_class (find_cell world.cells activation.holder)))
    → (code : CodeProgram) (core : Core) (activation : Activation) (under : List Stood) (items : List Value) → PartFinds code core activation under items
    → IsTrue (is_class (find_cell core.run.world.world.cells activation.holder))
holder_is_class law code core activation under items finds =
    law core.run.world.world code (activation_shown core.places activation) finds.lawful finds.fits
