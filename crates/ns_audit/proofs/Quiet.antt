-- Where the bodies of a module never send `perform:with:`, no send of that waits for one of them.
use Rattle.std.proofs.Common.{◌≡◌, ℕ, List, [], ◌∷◌, refl, sym, subst, Option, Some, Bool, true, false, cond}
use Rattle.ns_base.specs.declared.place.Place.{Place as SourcePlace}
use Rattle.ns_base.specs.declared.selector.Sel.{Sel}
use Rattle.ns_code.specs.declared.program.CodeProgram.{CodeProgram}
use Rattle.ns_code.specs.declared.instruction.Instr.{Instr}
use Rattle.ns_code.specs.declared.instruction.Instr.TheVariants as i
use Rattle.ns_world.specs.declared.value.Value.{Value}
use Rattle.ns_world.specs.declared.ending.LimitKind.TheVariants.{Steps}
use Rattle.ns_world.specs.World.{stepped}
use Rattle.ns_world.specs.Booleans.{is_boolean}
use Rattle.ns_find.specs.declared.found.Sending.TheVariants.{Inner}
use Rattle.ns_moves.specs.declared.site.Site.{Site}
use Rattle.ns_world.specs.declared.kernel_parts.KMethod.{KMethod}
use Rattle.ns_moves.specs.Control.{Progress, Activation, After, Gives, Halts, Control, Now, Enter, Evaluate, Begin, Perform, PartControl, Skip, Stop, EnterPart, Waiting, Waits, Finishes, frame_left}
use Rattle.ns_moves.specs.Blocks.{new_text, new_block, new_array, evaluated, method_next}
use Rattle.ns_moves.specs.Classes.{super_part, body_ended}
use Rattle.ns_moves.specs.Sends.{Target, To, ToPrivate, ToSuper, to_value, sent}
use Rattle.ns_moves.specs.laws.Onward.{charged_all}
use Rattle.ns_moves.specs.State.{Leaving, Loud, Silent, Frame, Running, Looping, Pending, Sending, Performing, Evaluating, Phase, Start, First, Second, Hosted, State, Unbegun, Going, Pends, Ended, Stuck}
use Rattle.ns_moves.specs.Steps.{PlacedInstr, steps_from, literal}
use Rattle.ns_moves.specs.Returns.{concluded, delivered, settled, returned, is_home, has_home, unwound, returned_home}
use Rattle.ns_moves.specs.Arrivals.{arrived, part_arrived, acted_on}
use Rattle.ns_moves.specs.Jumps.{goes_back, jumped, takes_jump, jumped_on}
use Rattle.ns_moves.specs.Instructions.{executed}
use Rattle.ns_moves.specs.Move.{move, resumed, sent_on}
use Rattle.ns_moves.specs.laws.Operands.{on_top_all, taken_all, picked_all}
use Rattle.ns_audit.specs.Audit.{is_perform, sent_by}
use Rattle.ns_audit.proofs.Performing.{ControlAsks, sent_asks, NeverPerforms, evaluated_never}

module _ (code : CodeProgram) (inside : ℕ → Bool) where
  -- ---- what waits for a body of the module

  abbrev pub QuietAt : List Frame → Type 0
  QuietAt [] = Unit {0}
  QuietAt (Running leaving activation locals rest stack ∷ frames) = inside activation.body ≡ false
  QuietAt (Looping method state site ∷ frames) = Unit {0}

  abbrev pub QuietFor : Pending → List Frame → Type 0
  QuietFor (Sending receiver sel arguments site) frames = Unit {0}
  QuietFor (Performing receiver sel array site) frames = QuietAt frames
  QuietFor (Evaluating block arguments site) frames = Unit {0}

  -- No send of `perform:with:` waits for a body of the module.
  abbrev pub Quiet : State → Type 0
  Quiet (Unbegun arguments progress) = Unit {0}
  Quiet (Going phase frames progress) = Unit {0}
  Quiet (Pends phase pending frames progress) = QuietFor pending frames
  Quiet (Ended ending phase progress) = Unit {0}
  Quiet (Stuck progress) = Unit {0}

  -- ---- where values go

  concluded_quiet : (phase : Phase) (value : Value) (progress : Progress) → Quiet (concluded code phase value progress)
  concluded_quiet Start value progress = tt
  concluded_quiet (First arguments) value progress = tt
  concluded_quiet Second value progress = tt
  concluded_quiet Hosted value progress = tt

  delivered_quiet : (phase : Phase) (value : Value) (frames : List Frame) (progress : Progress) →
      Quiet (delivered code phase value frames progress)
  delivered_quiet phase value [] progress = concluded_quiet phase value progress
  delivered_quiet phase value (Running leaving activation locals rest stack ∷ frames) progress = tt
  delivered_quiet phase value (Looping method state site ∷ frames) progress = tt

  settled_quiet : (phase : Phase) (after : After) (frames : List Frame) → Quiet (settled code phase after frames)
  settled_quiet phase (Gives value progress) frames = delivered_quiet phase value frames progress
  settled_quiet phase (Halts ending progress) frames = tt

  returned_quiet : (phase : Phase) (leaving : Leaving) (activation : Activation) (value : Value) (frames : List Frame) (progress : Progress) →
      Quiet (returned code phase leaving activation value frames progress)
  returned_quiet phase (Loud exit) activation value frames progress =
      settled_quiet phase (body_ended code exit activation value progress) frames
  returned_quiet phase Silent activation value frames progress = tt

  tested_quiet : (b : Bool) (first second : State) → Quiet first → Quiet second → Quiet (cond b first second)
  tested_quiet true first second one other = one
  tested_quiet false first second one other = other

  unwound_quiet : (phase : Phase) (home : ℕ) (value : Value) (frames : List Frame) (progress : Progress) →
      Quiet (unwound code phase home value frames progress)
  unwound_quiet phase home value [] progress = tt
  unwound_quiet phase home value (frame ∷ frames) progress =
      tested_quiet (is_home home frame) (delivered code phase value frames (frame_left progress)) (unwound code phase home value frames (frame_left progress))
      (delivered_quiet phase value frames (frame_left progress)) (unwound_quiet phase home value frames (frame_left progress))

  home_quiet : (phase : Phase) (activation : Activation) (value : Value) (frames : List Frame) (progress : Progress) →
      Quiet (returned_home code phase activation value frames progress)
  home_quiet phase activation value frames progress =
      tested_quiet (has_home activation.home frames) _ _ (unwound_quiet phase activation.home value frames progress) tt

  -- ---- where control goes

  abbrev PerformsAt : Control → List Frame → Type 0
  PerformsAt (Now after) frames = Unit {0}
  PerformsAt (Enter exit activation locals progress) frames = Unit {0}
  PerformsAt (Evaluate block arguments site progress) frames = Unit {0}
  PerformsAt (Begin method state site progress) frames = Unit {0}
  PerformsAt (Perform receiver sel array site progress) frames = QuietAt frames

  arrived_quiet : (phase : Phase) (control : Control) (frames : List Frame) → PerformsAt control frames →
      Quiet (arrived code phase control frames)
  arrived_quiet phase (Now after) frames at = settled_quiet phase after frames
  arrived_quiet phase (Enter exit activation locals progress) frames at = tt
  arrived_quiet phase (Evaluate block arguments site progress) frames at = tt
  arrived_quiet phase (Begin method state site progress) frames at = tt
  arrived_quiet phase (Perform receiver sel array site progress) frames at = at

  part_quiet : (phase : Phase) (part : PartControl) (frames : List Frame) → Quiet (part_arrived code phase part frames)
  part_quiet phase (Skip progress) frames = tt
  part_quiet phase (Stop ending progress) frames = tt
  part_quiet phase (EnterPart activation locals progress) frames = tt

  acted_quiet : (phase : Phase) (method : KMethod) (site : Site) (waiting : Waiting) (frames : List Frame) →
      Quiet (acted_on code phase method site waiting frames)
  acted_quiet phase method site (Waits block arguments state progress) frames = tt
  acted_quiet phase method site (Finishes after) frames = settled_quiet phase after frames

  -- above frames that are no body's of the module any send may wait
  anything_at : (control : Control) (frames : List Frame) → QuietAt frames → PerformsAt control frames
  anything_at (Now after) frames at = tt
  anything_at (Enter exit activation locals progress) frames at = tt
  anything_at (Evaluate block arguments site progress) frames at = tt
  anything_at (Begin method state site progress) frames at = tt
  anything_at (Perform receiver sel array site progress) frames at = at

  never_at : (control : Control) (frames : List Frame) → NeverPerforms control → PerformsAt control frames
  never_at (Now after) frames never = tt
  never_at (Enter exit activation locals progress) frames never = tt
  never_at (Evaluate block arguments site progress) frames never = tt
  never_at (Begin method state site progress) frames never = tt
  never_at (Perform receiver sel array site progress) frames never = absurd never

  -- ---- instructions

  -- Where its body is of the module, an instruction doesn't send `perform:with:`.
  abbrev pub Harmless : ℕ → Instr → Type 0
  Harmless body instr = (sel : Sel) → sent_by instr ≡ Some sel → inside body ≡ true → is_perform code sel ≡ false

  module _ (phase : Phase) (leaving : Leaving) (a : Activation) (ls : List Value) (rest : List PlacedInstr) (frames : List Frame) (p : Progress) where
    abbrev own : List Value → List Frame
    own stack = Running leaving a ls rest stack ∷ frames

    -- a send that comes to one of `perform:with:` is one of that, and so its body is none of the module
    asked_at : (control : Control) (sel : Sel) (stack : List Value) → ControlAsks code sel.0 control →
        (inside a.body ≡ true → is_perform code sel ≡ false) → PerformsAt control (own stack)
    asked_at (Now after) sel stack asks harmless = tt
    asked_at (Enter exit activation locals progress) sel stack asks harmless = tt
    asked_at (Evaluate block arguments site progress) sel stack asks harmless = tt
    asked_at (Begin method state site progress) sel stack asks harmless = tt
    asked_at (Perform receiver name array site progress) sel stack asks harmless = tested (inside a.body) refl
      where
        tested : (b : Bool) → inside a.body ≡ b → inside a.body ≡ false
        tested false e = e
        tested true e =
            let performs : is_perform code sel ≡ true = asks in
            let not : is_perform code sel ≡ false = harmless e in
            absurd (cc)

    sends_quiet : (target : Target) (sel : Sel) (vs stack : List Value) (place : Option SourcePlace) →
        (inside a.body ≡ true → is_perform code sel ≡ false) →
        Quiet (arrived code phase (sent code a target sel vs place p) (own stack))
    sends_quiet target sel vs stack place harmless =
        arrived_quiet phase (sent code a target sel vs place p) (own stack)
        (asked_at (sent code a target sel vs place p) sel stack (sent_asks code a target sel vs place p) harmless)

    jumps_quiet : (landing : List PlacedInstr) (stack : List Value) → Quiet (jumped phase leaving a ls rest landing stack frames p)
    jumps_quiet landing stack =
        tested_quiet (goes_back rest landing) _ _
        (charged_all Quiet (λ ending q. Ended ending phase q) Steps (stepped p.world) p (Going phase (Running leaving a ls landing stack ∷ frames)) tt (λ world e. tt)) tt

    jumps_on_quiet : (wanted : Bool) (v : Value) (landing : List PlacedInstr) (stack : List Value) →
        Quiet (jumped_on phase wanted v leaving a ls rest landing stack frames p)
    jumps_on_quiet wanted v landing stack =
        tested_quiet (is_boolean v) _ _ (tested_quiet (takes_jump wanted v) _ _ (jumps_quiet landing stack) tt) tt

    executed_quiet : (instr : Instr) (place : Option SourcePlace) (stack : List Value) → Harmless a.body instr →
        Quiet (executed code phase instr place leaving a ls rest stack frames p)
    executed_quiet i.PushNil place stack harmless = tt
    executed_quiet i.PushTrue place stack harmless = tt
    executed_quiet i.PushFalse place stack harmless = tt
    executed_quiet (i.PushInt number) place stack harmless = tt
    executed_quiet (i.PushSym sel) place stack harmless = tt
    executed_quiet (i.PushText text) place stack harmless = settled_quiet phase (new_text (literal code text) p) (own stack)
    executed_quiet i.PushSelf place stack harmless = tt
    executed_quiet (i.PushOuter level) place stack harmless = tt
    executed_quiet (i.PushLocal hops index) place stack harmless = tt
    executed_quiet (i.StoreLocal hops index) place stack harmless = on_top_all Quiet (Stuck p) stack _ tt (λ v below. tt)
    executed_quiet (i.PushBlock body) place stack harmless = settled_quiet phase (new_block a body p) (own stack)
    executed_quiet (i.MakeArray count) place stack harmless =
        taken_all Quiet (Stuck p) count [] stack _ tt (λ items below. settled_quiet phase (new_array items p) (own below))
    executed_quiet i.Pop place stack harmless = on_top_all Quiet (Stuck p) stack _ tt (λ v below. tt)
    executed_quiet (i.Pick number) place stack harmless = picked_all Quiet (Stuck p) number stack _ tt (λ v. tt)
    executed_quiet (i.Send sel argc) place stack harmless =
        taken_all Quiet (Stuck p) argc [] stack _ tt
        (λ vs below. on_top_all Quiet (Stuck p) below _ tt (λ receiver below. sends_quiet (to_value receiver) sel vs below place (harmless sel refl)))
    executed_quiet (i.SendInner sel argc) place stack harmless =
        taken_all Quiet (Stuck p) argc [] stack _ tt
        (λ vs below. on_top_all Quiet (Stuck p) below _ tt (λ receiver below. sends_quiet (To receiver Inner) sel vs below place (harmless sel refl)))
    executed_quiet (i.SendPrivate level sel argc) place stack harmless =
        taken_all Quiet (Stuck p) argc [] stack _ tt (λ vs below. sends_quiet (ToPrivate level) sel vs below place (harmless sel refl))
    executed_quiet (i.SendSuper sel argc) place stack harmless =
        taken_all Quiet (Stuck p) argc [] stack _ tt (λ vs below. sends_quiet ToSuper sel vs below place (harmless sel refl))
    executed_quiet (i.InitSuper argc) place stack harmless =
        taken_all Quiet (Stuck p) argc [] stack _ tt (λ vs below. part_quiet phase (super_part code a vs p) (own below))
    executed_quiet (i.StoreSlot slot) place stack harmless = on_top_all Quiet (Stuck p) stack _ tt (λ v below. tt)
    executed_quiet i.Return place stack harmless =
        on_top_all Quiet (Stuck p) stack _ tt (λ v below. returned_quiet phase leaving a v frames p)
    executed_quiet i.ReturnSelf place stack harmless = returned_quiet phase leaving a a.self frames p
    executed_quiet i.ReturnHome place stack harmless = on_top_all Quiet (Stuck p) stack _ tt (λ v below. home_quiet phase a v (own below) p)
    executed_quiet (i.Jump target) place stack harmless = jumps_quiet (steps_from code a.body target) stack
    executed_quiet (i.JumpFalse target) place stack harmless =
        on_top_all Quiet (Stuck p) stack _ tt (λ v below. jumps_on_quiet false v (steps_from code a.body target) below)
    executed_quiet (i.JumpTrue target) place stack harmless =
        on_top_all Quiet (Stuck p) stack _ tt (λ v below. jumps_on_quiet true v (steps_from code a.body target) below)

  -- ---- moves

  -- The next instruction is harmless, and no frame stands below a send that a host made.
  abbrev pub StepIsHarmless : State → Type 0
  StepIsHarmless (Going phase (Running leaving activation locals (step ∷ rest) stack ∷ frames) progress) = Harmless activation.body step.0
  StepIsHarmless (Pends phase (Sending receiver sel arguments site) frames progress) = frames ≡ []
  StepIsHarmless state = Unit {0}

  resumed_quiet : (phase : Phase) (pending : Pending) (frames : List Frame) (progress : Progress) → QuietFor pending frames →
      StepIsHarmless (Pends phase pending frames progress) → Quiet (resumed code phase pending frames progress)
  resumed_quiet phase (Sending receiver sel arguments site) frames progress quiet harmless =
      arrived_quiet phase (sent_on code receiver sel arguments site progress) frames
      (anything_at (sent_on code receiver sel arguments site progress) frames (subst QuietAt (sym harmless) tt))
  resumed_quiet phase (Performing receiver sel array site) frames progress quiet harmless =
      arrived_quiet phase _ frames (anything_at _ frames quiet)
  resumed_quiet phase (Evaluating block arguments site) frames progress quiet harmless =
      arrived_quiet phase (evaluated code block arguments site progress) frames
      (never_at (evaluated code block arguments site progress) frames (evaluated_never code block arguments site progress))

  -- A move of such a state leaves one.
  pub move_quiet : (state : State) → Quiet state → StepIsHarmless state → Quiet (move code state)
  move_quiet (Unbegun arguments progress) quiet harmless = tt
  move_quiet (Going phase [] progress) quiet harmless = tt
  move_quiet (Going phase (Running leaving activation locals [] stack ∷ frames) progress) quiet harmless = tt
  move_quiet (Going phase (Running leaving activation locals (step ∷ rest) stack ∷ frames) progress) quiet harmless =
      executed_quiet phase leaving activation locals rest frames progress step.0 step.1 stack harmless
  move_quiet (Going phase (Looping method state site ∷ frames) progress) quiet harmless =
      acted_quiet phase method site (method_next method state site progress) frames
  move_quiet (Pends phase pending frames progress) quiet harmless = resumed_quiet phase pending frames progress quiet harmless
  move_quiet (Ended ending phase progress) quiet harmless = tt
  move_quiet (Stuck progress) quiet harmless = tt
