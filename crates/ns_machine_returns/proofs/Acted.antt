-- Actions of a method of the kernel that is topmost.
use Rattle.std.proofs.Common.{◌≡◌, ℕ, ◌+◌, ◌≤◌, List, [], ◌∷◌, refl, ap, sym, ◌∙◌, subst, Option, Some, None, Result, Bool, true, false}
use Rattle.ns_code.specs.declared.program.CodeProgram.{CodeProgram}
use Rattle.ns_world.specs.declared.value.Value.{Value}
use Rattle.ns_world.specs.declared.ending.Fault.{Fault}
use Rattle.ns_world.specs.Lawful.{IsLawful}
use Rattle.ns_world.specs.World.{World, WorldView, stepped}
use Rattle.ns_world.specs.declared.ending.LimitKind.TheVariants.{Steps}
use Rattle.ns_world.specs.declared.kernel_parts.KMethod.{KMethod}
use Rattle.ns_kcode.specs.declared.state.KState.{KState}
use Rattle.ns_kcode.specs.declared.state.KAction.{KAction}
use Rattle.ns_kcode.specs.declared.state.KAction.TheVariants as action
use Rattle.ns_kcode.specs.Next.{next as next_action}
use Rattle.ns_moves.specs.declared.site.Site.{Site}
use Rattle.ns_moves.specs.Control.{Progress, Waiting, Waits, Finishes, Halts, charged, in_world}
use Rattle.ns_moves.specs.Blocks.{listed, method_next, acted, waiting, item_at}
use Rattle.ns_moves.specs.Blocks.{turned as turned_turn}
use Rattle.ns_moves.specs.Lawful.{LawfulRun, LawfulWaiting, LiveState}
use Rattle.ns_moves.specs.State.{Going, Pends, Evaluating}
use Rattle.ns_moves.specs.Arrivals.{acted_on}
use Rattle.ns_moves.specs.Move.{move}
use Rattle.ns_moves.specs.declared.methods.Waited.{Waited}
use Rattle.ns_moves.specs.declared.methods.Waited.TheVariants as waited
use Rattle.ns_moves.specs.Room.{SameRest}
use Rattle.ns_moves.specs.Waited.{waiting_shown}
use Rattle.ns_machine_frames.specs.declared.frame.Frame.{Frame}
use Rattle.ns_machine_frames.specs.declared.frame.Frame.TheVariants.{Looping}
use Rattle.ns_machine_frames.specs.declared.frame.LoopingFrame.{LoopingFrame}
use Rattle.ns_machine_frames.specs.declared.registers.Registers.{Registers}
use Rattle.ns_machine_frames.specs.declared.stack.Stack.{Stack}
use Rattle.ns_machine_frames.specs.Standing.{Stood, below, in_state}
use Rattle.ns_machine_frames.specs.Stack.{stood}
use Rattle.ns_machine_frames.specs.Leaving.{turned, with_count}
use Rattle.ns_machine_frames.specs.Room.{DepthGivesRoom}
use Rattle.ns_machine_frames.specs.View.{site_shown, frames_shown}
use Rattle.ns_machine_core.specs.declared.state.Core.{Core}
use Rattle.ns_machine_core.specs.declared.state.Next.{Next}
use Rattle.ns_machine_core.specs.declared.state.Next.TheVariants as next
use Rattle.ns_machine_core.specs.Shown.{phase_shown, progress_in, shown}
use Rattle.ns_machine_core.specs.Doing.{IsSettled}
use Rattle.ns_machine_core.specs.Standing.{HasStandingFrames}
use Rattle.ns_machine_core.specs.Ready.{MakesMove}
use Rattle.ns_machine_returns.specs.Handing.{CanTake, GivesLive}
use Rattle.ns_machine_returns.specs.Acting.{CanAct, Awaits, IsAsked, IsTopmost, awaiting}
use Rattle.ns_machine_returns.proofs.Left.{over, IsLeft, left_stays, left_takes}
use Rattle.ns_machine_core.specs.laws.Worlds.{in_other}
use Rattle.ns_machine_core.specs.laws.Kept.{stays_on, rooms_stay}
use Rattle.ns_machine_returns.proofs.Clauses.{after_lawful}
use Rattle.ns_machine_returns.proofs.Topmost.{sure, argument_fits}
use Rattle.ns_machine_returns.proofs.Awaited.{IsArgued, awaits}

moves_to : (code : CodeProgram) (core : Core) (at : Registers) (looping : LoopingFrame) (w : Waited) (world : WorldView) →
    CanAct code core at
    → core.stack.frames.items ≡ Looping looping ∷ below core.stack.frames.items
    → ((site : Site) (rest : Progress) → waiting_shown site w (in_world rest world.world) ≡ method_next looping.method looping.state site (in_world rest core.run.world.world))
    → acted_on code (phase_shown core.phase) looping.method (site_shown core.places looping.site)
    (waiting_shown (site_shown core.places looping.site) w (in_world (progress_in core) world.world)) (frames_shown code core.places (below (stood core.stack at)))
    ≡ move code (shown code core (next.On at))
moves_to code core at looping w world can top is =
    ap (λ (after : Waiting). acted_on code (phase_shown core.phase) looping.method (site_shown core.places looping.site) after (frames_shown code core.places (below (stood core.stack at))))
    (is (site_shown core.places looping.site) (progress_in core))
    ∙ ap (λ (s : List Stood). move code (Going (phase_shown core.phase) (frames_shown code core.places s) (progress_in core))) (sym (sure code core at looping can top).stood_is)

pub evaluation_moves : (code : CodeProgram) (core new : Core) (at : Registers) (looping : LoopingFrame) (block : Value) (argument : Option Value) (state : KState)
    (world : WorldView) (n : Next) → CanAct code core at → core.stack.frames.items ≡ Looping looping ∷ below core.stack.frames.items
    → ((site : Site) (rest : Progress) → waiting_shown site (waited.Evaluates block argument state) (in_world rest world.world)
    ≡ method_next looping.method looping.state site (in_world rest core.run.world.world))
    → SameRest core.run.world world → Awaits code (in_other core world) at looping block argument state new n → MakesMove code core (next.On at) new n
evaluation_moves code core new at looping block argument state world n can top is rest awaits = record {
  state = awaits.is
      ∙ (ap (λ (s : List Stood). Pends (phase_shown core.phase) (Evaluating block (listed argument) (site_shown core.places looping.site))
      (frames_shown code core.places (turned state s)) (in_world (progress_in core) world.world)) (sure code core at looping can top).stood_is
      ∙ moves_to code core at looping (waited.Evaluates block argument state) world can top is);
  stand = awaits.stand;
  stays = stays_on core (in_other core world) new (record { world = rest; values = refl; frames = refl; places = refl; arguments = refl }) awaits.stays;
  kept = rw awaits.run can.kept;
}

-- a method that ends
pub end_lawful : ((method : KMethod) (state : KState) (site : Site) (code : CodeProgram) (p : Progress) → LawfulRun code p → LiveState p.world.cells code state
    → LawfulWaiting code (method_next method state site p))
    → (code : CodeProgram) (core : Core) (at : Registers) (looping : LoopingFrame) (answer : Result Value Fault) (world : WorldView) → CanAct code core at
    → core.stack.frames.items ≡ Looping looping ∷ below core.stack.frames.items
    → ((site : Site) (rest : Progress) → waiting_shown site (waited.Ends answer) (in_world rest world.world) ≡ method_next looping.method looping.state site (in_world rest core.run.world.world))
    → IsLawful world.world code × GivesLive world.world.cells code answer
end_lawful law code core at looping answer world can top is =
    let site = site_shown core.places looping.site in
    after_lawful code site (in_world (progress_in core) world.world) answer
    (subst (LawfulWaiting code) (sym (is site (progress_in core)))
    (law looping.method looping.state site code (progress_in core) can.lawful (sure code core at looping can top).live))

pub end_takes : (code : CodeProgram) (core : Core) (at here : Registers) (looping : LoopingFrame) (world : WorldView) (stack : Stack) →
    CanAct code core at
    → core.stack.frames.items ≡ Looping looping ∷ below core.stack.frames.items → IsLawful world.world code → IsLeft core at world stack here
    → CanTake code (over core world stack) here
end_takes code core at here looping world stack can top lawful left =
    left_takes code core at here world stack can.stands (sure code core at looping can top).room lawful left

pub end_moves : (code : CodeProgram) (core new : Core) (at here : Registers) (looping : LoopingFrame) (answer : Result Value Fault) (world : WorldView) (stack : Stack) (n : Next)
    → CanAct code core at → core.stack.frames.items ≡ Looping looping ∷ below core.stack.frames.items
    → ((site : Site) (rest : Progress) → waiting_shown site (waited.Ends answer) (in_world rest world.world) ≡ method_next looping.method looping.state site (in_world rest core.run.world.world))
    → IsLeft core at world stack here → IsSettled code (over core world stack) here looping.site answer new n → MakesMove code core (next.On at) new n
end_moves code core new at here looping answer world stack n can top is left is_settled = record {
  state = is_settled.state
      ∙ (ap (λ (s : List Stood). acted_on code (phase_shown core.phase) looping.method (site_shown core.places looping.site)
      (waiting_shown (site_shown core.places looping.site) (waited.Ends answer) (in_world (progress_in core) world.world)) (frames_shown code core.places s)) left.stood
      ∙ moves_to code core at looping (waited.Ends answer) world can top is);
  stand = is_settled.stand;
  stays = stays_on core (over core world stack) new (left_stays core at here world stack left) is_settled.stays;
  kept = rw is_settled.run can.kept;
}

-- ---- the state in which a method waits

-- only its count and its last answer are other ones than before
abbrev WaitsOn : KState → Waiting → Type 0
WaitsOn state (Waits block arguments after progress) = after ≡ waiting state after.count
WaitsOn state (Finishes after) = Unit {0}

waits_charged : (state : KState) (o : Option World) (progress : Progress) (go : Progress → Waiting) →
    ((p : Progress) → WaitsOn state (go p))
    → WaitsOn state (charged (λ ending progress. Finishes (Halts ending progress)) Steps o progress go)
waits_charged state (Some world) progress go waits = waits (in_world progress world)
waits_charged state None progress go waits = tt

waits_turned : (state : KState) (turn : Bool) (progress : Progress) (go : Progress → Waiting) → ((p : Progress) → WaitsOn state (go p))
    → WaitsOn state (turned_turn turn progress go)
waits_turned state true progress go waits = waits_charged state (stepped progress.world) progress go waits
waits_turned state false progress go waits = waits progress

waits_acted : (state : KState) (act : KAction) (site : Site) (progress : Progress) → WaitsOn state (acted act state site progress)
waits_acted state (action.Evaluate block argument turn count) site progress =
    waits_turned state turn progress (Waits block (listed argument) (waiting state count)) (λ p. refl)
waits_acted state (action.EvaluateItem block item count) site progress =
    waits_turned state true progress (λ p. Waits block (item_at p.world.cells state.receiver item ∷ []) (waiting state count) p) (λ p. refl)
waits_acted state (action.Answer value) site progress = tt
waits_acted state (action.Fail kind) site progress = tt

-- so it is written
pub count_is : (looping : LoopingFrame) (state : KState) (frames : List Frame) → frames ≡ Looping looping ∷ below frames
    → state ≡ waiting looping.state state.count → with_count state.count frames ≡ in_state state frames
count_is looping state frames top waits =
    ap (with_count state.count) top
    ∙ (ap (λ (s : KState). Looping (record looping { state = s }) ∷ below frames) (sym waits) ∙ sym (ap (in_state state) top))

-- and so it is the same method's still
pub topmost_still : (looping : LoopingFrame) (state : KState) (frames : List Frame) → frames ≡ Looping looping ∷ below frames
    → IsTopmost looping (in_state state frames)
topmost_still looping state frames top = subst (λ (all : List Frame). IsTopmost looping (in_state state all)) (sym top) (refl, refl)

-- ---- asked by itself

-- The same of a machine that was asked, which is its first one in another world.
module _ (code : CodeProgram) (first : Core) (at : Registers) (looping : LoopingFrame) where
  stands_other : (world : WorldView) → CanAct code first at → SameRest first.run.world world → HasStandingFrames code (in_other first world) at
  stands_other world can rest = record {
    rooms = rooms_stay code first (in_other first world) can.stands.rooms (record { world = rest; values = refl; frames = refl; places = refl; arguments = refl });
    frames = can.stands.frames;
  }

  pub asked_stands : (core : Core) (waited : Waited) → IsAsked code first at looping core waited → HasStandingFrames code core at
  asked_stands core waited asked =
      subst (λ (c : Core). HasStandingFrames code c at) (sym asked.same) (stands_other core.run.world asked.can asked.rest)

  pub asked_top : (core : Core) (waited : Waited) → IsAsked code first at looping core waited
      → core.stack.frames.items ≡ Looping looping ∷ below core.stack.frames.items
  asked_top core waited asked =
      subst (λ (c : Core). c.stack.frames.items ≡ Looping looping ∷ below c.stack.frames.items) (sym asked.same) asked.top

  pub asked_fits : ((greatest : ℕ) → DepthGivesRoom greatest) → (core : Core) (waited : Waited) → IsAsked code first at looping core waited
      → looping.floor + 1 ≤ core.stack.values.room
  asked_fits law core waited asked =
      subst (λ (c : Core). looping.floor + 1 ≤ c.stack.values.room) (sym asked.same) (argument_fits law code first at looping asked.can asked.top)

  pub asked_waits : (core : Core) (block : Value) (argument : Option Value) (state : KState)
      → IsAsked code first at looping core (waited.Evaluates block argument state) → state ≡ waiting looping.state state.count
  asked_waits core block argument state asked =
      let site = site_shown first.places looping.site in
      subst (WaitsOn looping.state) (sym (asked.is site (progress_in first)))
      (waits_acted looping.state (next_action looping.method looping.state) site (progress_in first))

  pub prepared : (core : Core) (above : Registers) (block : Value) (argument : Option Value) (state : KState) (stack : Stack)
      → IsAsked code first at looping core (waited.Evaluates block argument state) → IsArgued core at looping argument state stack above
      → MakesMove code first (next.On at) (awaiting looping block (record core { stack = stack })) (next.Waits above)
  prepared core above block argument state stack asked argued =
      evaluation_moves code first (awaiting looping block (record core { stack = stack })) at looping block argument state core.run.world (next.Waits above)
      asked.can asked.top asked.is asked.rest
      (subst (λ (c : Core). Awaits code c at looping block argument state (awaiting looping block (record core { stack = stack })) (next.Waits above)) asked.same
      (awaits code core at above looping block argument state stack (asked_stands core (waited.Evaluates block argument state) asked)
      (asked_top core (waited.Evaluates block argument state) asked) argued))

  -- the frame of a method that has ended
  pub asked_left : (core : Core) (waited : Waited) (stack : Stack) (here : Registers) → IsAsked code first at looping core waited → IsLeft core at core.run.world stack here
      → IsLeft first at core.run.world stack here
  asked_left core waited stack here asked left = record {
    rest = asked.rest;
    stood = left.stood ∙ ap (λ (c : Core). below (stood c.stack at)) asked.same;
    laid = left.laid;
    values = left.values ∙ ap (λ (c : Core). c.stack.values) asked.same;
    frames = left.frames ∙ ap (λ (c : Core). record c.stack.frames { items = below c.stack.frames.items }) asked.same;
  }

  pub asked_lawful : ((method : KMethod) (state : KState) (site : Site) (code : CodeProgram) (p : Progress) → LawfulRun code p → LiveState p.world.cells code state
      → LawfulWaiting code (method_next method state site p))
      → (core : Core) (answer : Result Value Fault) → IsAsked code first at looping core (waited.Ends answer)
      → IsLawful core.run.world.world code × GivesLive core.run.world.world.cells code answer
  asked_lawful law core answer asked = end_lawful law code first at looping answer core.run.world asked.can asked.top asked.is

  pub asked_takes : (core : Core) (waited : Waited) (stack : Stack) (here : Registers) → IsAsked code first at looping core waited → IsLawful core.run.world.world code
      → IsLeft core at core.run.world stack here → CanTake code (record core { stack = stack }) here
  asked_takes core waited stack here asked lawful left =
      subst (λ (c : Core). CanTake code (record c { stack = stack }) here) (sym asked.same)
      (end_takes code first at here looping core.run.world stack asked.can asked.top lawful (asked_left core waited stack here asked left))

  pub asked_ends : (core new : Core) (answer : Result Value Fault) (stack : Stack) (here : Registers) (n : Next) → IsAsked code first at looping core (waited.Ends answer)
      → IsLeft core at core.run.world stack here → IsSettled code (record core { stack = stack }) here looping.site answer new n
      → MakesMove code first (next.On at) new n
  asked_ends core new answer stack here n asked left settled =
      end_moves code first new at here looping answer core.run.world stack n asked.can asked.top asked.is
      (asked_left core (waited.Ends answer) stack here asked left)
      (subst (λ (c : Core). IsSettled code (record c { stack = stack }) here looping.site answer new n) asked.same settled)
