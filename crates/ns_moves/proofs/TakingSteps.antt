-- Actions that charge a step, or find none left.
use Rattle.std.proofs.Common.{◌≡◌, inl, inr, List, ◌∷◌, length, refl, ap, ◌∙◌, arith, eqb, Option, Some, None, Bool, true, false, cond}
use Rattle.ns_base.specs.declared.selector.Sel.{Sel}
use Rattle.ns_code.specs.declared.program.CodeProgram.{CodeProgram}
use Rattle.ns_world.specs.declared.value.Value.{Value}
use Rattle.ns_world.specs.declared.cell.NewCell.{NewCell}
use Rattle.ns_world.specs.declared.cell.NewCell.TheVariants as new
use Rattle.ns_world.specs.declared.ending.Ending.{Ending}
use Rattle.ns_world.specs.declared.ending.Ending.TheVariants.{Limit}
use Rattle.ns_world.specs.declared.ending.Kind.TheVariants.{WrongArity}
use Rattle.ns_world.specs.declared.ending.LimitKind.TheVariants.{Steps, Depth}
use Rattle.ns_world.specs.World.{World, stepped, entered, left}
use Rattle.ns_find.specs.declared.found.Found.{Found}
use Rattle.ns_world.specs.declared.kernel_parts.KMethod.{KMethod}
use Rattle.ns_kcode.specs.declared.state.KState.{KState}
use Rattle.ns_kcode.specs.declared.state.KAction.{KAction}
use Rattle.ns_kcode.specs.declared.state.KAction.TheVariants as action
use Rattle.ns_moves.specs.declared.site.Site.{Site}
use Rattle.ns_moves.specs.Control.{Progress, in_world, Activation, FromMethod, FromBody, FromClause, Gives, Halts, Control, Now, Enter}
use Rattle.ns_moves.specs.Control.{Evaluate, Begin, Perform, Waiting, Finishes, charged, halts, fails}
use Rattle.ns_moves.specs.Bodies.{parameters_of, opened}
use Rattle.ns_moves.specs.Blocks.{is_block_shape, block_body_in, block_entered, acted, turned}
use Rattle.ns_moves.specs.Sends.{answered_by}
use Rattle.ns_moves.specs.Onward.{reached}
use Rattle.ns_moves.specs.Spending.{ControlSpends, Stopped}
use Rattle.ns_moves.specs.laws.Onward.{charged_all}
use Rattle.ns_moves.specs.laws.Counting.{step_charged, frame_charged, nothing_charged, opened_counts}
use Rattle.ns_moves.specs.laws.Spending.{answered_spends}
use Rattle.ns_moves.specs.State.{Leaving, Frame, Running, Phase, State, Going, Ended, progress_of, world_of}
use Rattle.ns_moves.specs.Turn.{ends_with_steps}
use Rattle.ns_moves.specs.Steps.{PlacedInstr}
use Rattle.ns_moves.specs.Arrivals.{arrived, acted_on}
use Rattle.ns_moves.specs.Jumps.{goes_back, jumped}
use Rattle.ns_moves.specs.Charging.{action_charges}
use Rattle.ns_moves.specs.Charges.{TookStep, TookNone, MoveTook}
use Rattle.ns_moves.proofs.Walking.{arrived_at}
use Rattle.ns_moves.proofs.TakingNone.{settled_none}

-- ---- a charge

-- what a charge of a step leads to, where nothing more is charged behind it
pub charge_took : {A : Type 0} (to : A → State) (stop : Ending → Progress → A) (go : Progress → A) (old : Progress)
    → ends_with_steps (to (stop (Limit Steps) old)) ≡ true → progress_of (to (stop (Limit Steps) old)) ≡ old
    → ((world : World) → (world_of (to (go (in_world old world)))).steps ≡ world.steps)
    → TookStep old (to (charged stop Steps (stepped old.world) old go))
charge_took to stop go old ended same goes = tested (stepped old.world) refl
  where
    tested : (o : Option World) → stepped old.world ≡ o → TookStep old (to (charged stop Steps o old go))
    tested (Some world) e = let was = step_charged old world e in inl (goes world ∙ was.steps)
    tested None e = inr (record { none = e; ended = ended; same = same })

-- ---- where control goes

abbrev SameSteps : Progress → Control → Type 0
SameSteps old c = (reached c).world.steps ≡ old.world.steps

stopped_steps : (old p : Progress) → Stopped 0 old p → p.world.steps ≡ old.world.steps
stopped_steps old p (inl e) = ap (λ (q : Progress). q.world.steps) e
stopped_steps old p (inr (inl was)) = omega (arith, was.steps)
stopped_steps old p (inr (inr was)) = omega (arith, was.steps)

control_steps : (old : Progress) (c : Control) → ControlSpends 0 old c → SameSteps old c
control_steps old (Now (Gives answer p)) s = omega (arith, s.steps)
control_steps old (Now (Halts ending p)) s = stopped_steps old p s
control_steps old (Enter FromMethod a ls p) s = omega (arith, s.0.steps)
control_steps old (Enter FromBody a ls p) s = omega (arith, s.steps)
control_steps old (Enter (FromClause object holder class) a ls p) s = omega (arith, s.steps)
control_steps old (Evaluate block arguments site p) s = omega (arith, s.steps)
control_steps old (Begin method state site p) s = omega (arith, s.steps)
control_steps old (Perform receiver sel array site p) s = omega (arith, s.steps)

-- ---- sends

pub send_took : (code : CodeProgram) (phase : Phase) (member : Found) (sel : Sel) (receiver : Value) (arguments : List Value) (site : Site)
    (frames : List Frame) (p : Progress)
    → TookStep p (arrived code phase (charged halts Steps (stepped p.world) p (answered_by code member sel receiver arguments site)) frames)
send_took code phase member sel receiver arguments site frames p =
    charge_took (λ c. arrived code phase c frames) halts (answered_by code member sel receiver arguments site) p refl refl
    (λ world. let next : Progress = in_world p world in
    let c : Control = answered_by code member sel receiver arguments site next in
    ap (λ (q : Progress). q.world.steps) (arrived_at code phase c frames)
    ∙ control_steps next c (answered_spends 0 next code member sel receiver arguments site next (nothing_charged next)))

-- ---- evaluations

framed_steps : (code : CodeProgram) (a : Activation) (arguments : List Value) (p : Progress)
    → SameSteps p (charged halts Depth (entered p.world) p (opened code halts (Enter FromBody) a arguments))
framed_steps code a arguments p =
    charged_all (SameSteps p) halts Depth (entered p.world) p (opened code halts (Enter FromBody) a arguments) refl
    (λ world e. let there = frame_charged 0 p p world (nothing_charged p) e in
    let steps : world.steps ≡ p.world.steps = omega (arith, there.steps) in
    opened_counts (SameSteps p) code halts (Enter FromBody) a arguments (in_world p world) steps (λ running locals last same home. same.steps ∙ steps))

pub evaluation_took : (code : CodeProgram) (phase : Phase) (cell : NewCell) (arguments : List Value) (site : Site) (frames : List Frame) (p : Progress)
    → is_block_shape cell ≡ true
    → MoveTook (eqb (length arguments) (parameters_of code (block_body_in cell))) p (arrived code phase (block_entered code cell arguments site p) frames)
evaluation_took code phase (new.Block body env home receiver holder) arguments site frames p is =
    tested (eqb (length arguments) (parameters_of code body))
  where
    inner : Activation
    inner = record { self = receiver; holder = holder; body = body; home = home; env = env; site = site }

    framed : Progress → Control
    framed q = charged halts Depth (entered q.world) q (opened code halts (Enter FromBody) inner arguments)

    tested : (b : Bool) → MoveTook b p (arrived code phase (cond b (charged halts Steps (stepped p.world) p framed) (fails WrongArity site p)) frames)
    tested true =
        charge_took (λ c. arrived code phase c frames) halts framed p refl refl
        (λ world. let next : Progress = in_world p world in
        ap (λ (q : Progress). q.world.steps) (arrived_at code phase (framed next) frames) ∙ framed_steps code inner arguments next)
    tested false = record { steps = refl; going = refl }
evaluation_took code phase (new.Object class words) arguments site frames p is = absurd (cc)
evaluation_took code phase (new.Class decl base encl holder over) arguments site frames p is = absurd (cc)
evaluation_took code phase (new.Environment parent locals) arguments site frames p is = absurd (cc)
evaluation_took code phase (new.Array size) arguments site frames p is = absurd (cc)
evaluation_took code phase (new.Text bytes) arguments site frames p is = absurd (cc)
evaluation_took code phase (new.Facet kind) arguments site frames p is = absurd (cc)
evaluation_took code phase (new.Mirror shown) arguments site frames p is = absurd (cc)
evaluation_took code phase (new.Message sel args) arguments site frames p is = absurd (cc)

-- ---- methods of the kernel

turn_took : (code : CodeProgram) (phase : Phase) (method : KMethod) (site : Site) (go : Progress → Waiting) (frames : List Frame) (p : Progress) (turn : Bool)
    → ((q : Progress) → TookNone q (acted_on code phase method site (go q) frames))
    → MoveTook turn p (acted_on code phase method site (turned turn p go) frames)
turn_took code phase method site go frames p true none =
    charge_took (λ w. acted_on code phase method site w frames) (λ ending q. Finishes (Halts ending q)) go p refl refl
    (λ world. (none (in_world p world)).steps)
turn_took code phase method site go frames p false none = none p

pub action_took : (code : CodeProgram) (phase : Phase) (method : KMethod) (k : KAction) (state : KState) (site : Site) (frames : List Frame) (p : Progress)
    → MoveTook (action_charges k) p (acted_on code phase method site (acted k state site p) frames)
action_took code phase method (action.Evaluate block argument turn count) state site frames p =
    turn_took code phase method site _ frames p turn (λ q. record { steps = refl; going = refl })
action_took code phase method (action.EvaluateItem block item count) state site frames p =
    turn_took code phase method site _ frames p true (λ q. record { steps = refl; going = refl })
action_took code phase method (action.Answer answer) state site frames p =
    settled_none code phase (Gives answer (in_world p (left p.world))) frames p refl
action_took code phase method (action.Fail kind) state site frames p = record { steps = refl; going = refl }

-- ---- jumps

pub jump_took : (phase : Phase) (leaving : Leaving) (a : Activation) (ls : List Value) (rest landing : List PlacedInstr) (stack : List Value) (frames : List Frame)
    (p : Progress)
    → MoveTook (goes_back rest landing) p (jumped phase leaving a ls rest landing stack frames p)
jump_took phase leaving a ls rest landing stack frames p = tested (goes_back rest landing)
  where
    go : Progress → State
    go = Going phase (Running leaving a ls landing stack ∷ frames)

    tested : (b : Bool) → MoveTook b p (cond b (charged (λ ending q. Ended ending phase q) Steps (stepped p.world) p go) (go p))
    tested true = charge_took (λ s. s) (λ ending q. Ended ending phase q) go p refl refl (λ world. refl)
    tested false = record { steps = refl; going = refl }
