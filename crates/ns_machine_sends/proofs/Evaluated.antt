-- What the evaluation of a block comes to, and where that leads.
use Rattle.std.proofs.Common.{◌≡◌, ◌≤◌, List, [], length, ap, sym, ◌∙◌, refl, subst, Option, Some, None, Bool, true, false, cond}
use Rattle.std.specs.Prelude.{IsTrue, IsSome, ◌==◌, All}
use Rattle.std.specs.Option.{option_map_or}
use Rattle.ns_code.specs.declared.program.CodeProgram.{CodeProgram}
use Rattle.ns_code.specs.Soundness.{block_kind}
use Rattle.ns_world.specs.declared.value.Value.{Value}
use Rattle.ns_world.specs.declared.cell.NewCell.{NewCell}
use Rattle.ns_world.specs.declared.cell.NewCell.TheVariants as new
use Rattle.ns_world.specs.declared.ending.LimitKind.{LimitKind}
use Rattle.ns_world.specs.declared.ending.LimitKind.TheVariants.{Steps, Depth, Cells}
use Rattle.ns_world.specs.declared.ending.Kind.TheVariants.{WrongArity}
use Rattle.ns_world.specs.declared.value.Value.TheVariants.{Nil, True, False, Int, Sym, Kernel, Ref}
use Rattle.ns_world.specs.Lawful.{IsLiveValue}
use Rattle.ns_world.specs.Cell.{Cell, EnvironmentCell, shape_of}
use Rattle.ns_world.specs.Heap.{Heap, heap_size, find_cell}
use Rattle.ns_world.specs.World.{World, WorldView, stepped, entered, made}
use Rattle.ns_kdata.specs.Arguments.{CellIsThere, shape_of_value}
use Rattle.ns_moves.specs.declared.site.Site.{Site}
use Rattle.ns_moves.specs.declared.control.Reached.{Reached}
use Rattle.ns_moves.specs.declared.control.Reached.TheVariants as reached
use Rattle.ns_moves.specs.Control.{Progress, in_world, Activation, Control, Now, Enter, FromBody, Evaluate, Begin, Perform, Gives, Halts, halts, fails, charged}
use Rattle.ns_moves.specs.Bodies.{parameters_of, has_environment, first_locals, opened}
use Rattle.ns_moves.specs.Shown.{reached_shown}
use Rattle.ns_moves.specs.Blocks.{is_block_shape, is_block, evaluated, block_entered}
use Rattle.ns_moves.specs.Actions.{Action, Evaluates}
use Rattle.ns_moves.specs.Lawful.{LawfulRun, LawfulControl}
use Rattle.ns_moves.specs.Fitting.{GoesOnAt, home_in, Asks, HandsOn}
use Rattle.ns_moves.specs.Spending.{Spends}
use Rattle.ns_moves.specs.Arrivals.{arrived}
use Rattle.ns_moves.specs.declared.run.Run.{Run}
use Rattle.ns_moves.specs.Room.{SameRest}
use Rattle.ns_machine_frames.specs.View.{site_shown}
use Rattle.ns_machine_core.specs.declared.state.Next.{Next}
use Rattle.ns_machine_core.specs.Shown.{phase_shown, progress_in}
use Rattle.ns_machine_core.specs.Arriving.{Arrives, reached_at}
use Rattle.ns_machine_core.specs.laws.Worlds.{in_other}
use Rattle.ns_machine_sends.specs.laws.Goes.{room_above}
use Rattle.ns_machine_frames.specs.declared.registers.Registers.{Registers}
use Rattle.ns_machine_frames.specs.declared.frame.Frame.{Frame}
use Rattle.ns_machine_frames.specs.Stack.{stood, with_top}
use Rattle.ns_machine_frames.specs.View.{frames_shown}
use Rattle.ns_machine_core.specs.declared.state.Core.{Core}
use Rattle.ns_machine_sends.specs.declared.sent.Sent.{Sent}
use Rattle.ns_machine_sends.specs.Going.{ControlGoesOn, ComesToBody, Leads}
use Rattle.ns_machine_sends.specs.Waiting.{EntersOrEnds, IsWaiting, evaluated_with}

-- ---- an evaluation enters a body or halts

abbrev pub EntersOrHalts : Control → Type 0
EntersOrHalts (Now (Gives value progress)) = ⊥
EntersOrHalts (Now (Halts ending progress)) = Unit {0}
EntersOrHalts (Enter exit activation locals progress) = Unit {0}
EntersOrHalts (Evaluate block arguments site progress) = ⊥
EntersOrHalts (Begin method state site progress) = ⊥
EntersOrHalts (Perform receiver sel array site progress) = ⊥

charged_enters : (limit : LimitKind) (o : Option World) (progress : Progress) (go : Progress → Control) →
    ((p : Progress) → EntersOrHalts (go p))
    → EntersOrHalts (charged halts limit o progress go)
charged_enters limit (Some world) progress go goes = goes (in_world progress world)
charged_enters limit None progress go goes = tt

opened_enters : (code : CodeProgram) (activation : Activation) (arguments : List Value) (progress : Progress)
    → EntersOrHalts (opened code halts (Enter FromBody) activation arguments progress)
opened_enters code activation arguments progress = tested (has_environment code activation.body)
  where
    tested : (b : Bool) → EntersOrHalts (cond b
        (charged halts Cells (made progress.world (EnvironmentCell activation.env (first_locals code activation.body arguments))) progress
        (Enter FromBody (record activation { env = Ref (heap_size progress.world.cells) }) []))
        (Enter FromBody activation (first_locals code activation.body arguments) progress))
    tested true = charged_enters Cells (made progress.world (EnvironmentCell activation.env (first_locals code activation.body arguments))) progress
        (Enter FromBody (record activation { env = Ref (heap_size progress.world.cells) }) []) (λ p. tt)
    tested false = tt

entered_enters : (code : CodeProgram) (cell : NewCell) (arguments : List Value) (site : Site) (progress : Progress) →
    EntersOrHalts (block_entered code cell arguments site progress)
entered_enters code (new.Block body env home receiver holder) arguments site progress = tested (length arguments == parameters_of code body)
  where
    inner : Activation
    inner = record { self = receiver; holder = holder; body = body; home = home; env = env; site = site }

    tested : (b : Bool) → EntersOrHalts (cond b
        (charged halts Steps (stepped progress.world) progress (λ progress. charged halts Depth (entered progress.world) progress
        (opened code halts (Enter FromBody) inner arguments)))
        (fails WrongArity site progress))
    tested true = charged_enters Steps (stepped progress.world) progress
        (λ progress. charged halts Depth (entered progress.world) progress (opened code halts (Enter FromBody) inner arguments))
        (λ p. charged_enters Depth (entered p.world) p (opened code halts (Enter FromBody) inner arguments) (opened_enters code inner arguments))
    tested false = tt
entered_enters code _ arguments site progress = tt

pub evaluated_enters : (code : CodeProgram) (block : Value) (arguments : List Value) (site : Site) (progress : Progress) →
    EntersOrHalts (evaluated code block arguments site progress)
evaluated_enters code block arguments site progress =
    entered_enters code (shape_of_value progress.world.cells block) arguments site progress

-- so that is what it has reached
pub enters_or_ends : (code : CodeProgram) (site : Site) (values : List Value) (r : Reached) (progress : Progress)
    → EntersOrHalts (reached_shown code site values r progress) → EntersOrEnds r
enters_or_ends code site values (reached.Gives value) progress none = absurd none
enters_or_ends code site values (reached.Fails fault) progress none = tt
enters_or_ends code site values (reached.Refused sel) progress none = tt
enters_or_ends code site values (reached.Enters exit entered) progress none = tt
enters_or_ends code site values (reached.Evaluates block given) progress none = absurd none
enters_or_ends code site values (reached.Begins method state) progress none = absurd none
enters_or_ends code site values (reached.Performs receiver sel array) progress none = absurd none

-- ---- the evaluation

block_at : (o : Option Cell) → IsTrue (is_block_shape (option_map_or shape_of o (new.Mirror Nil))) → IsSome o
block_at (Some cell) is = refl
block_at None is = absurd (cc)

pub block_there : (heap : Heap) (block : Value) → IsTrue (is_block heap block) → CellIsThere heap block
block_there heap (Ref at) is = block_at (find_cell heap at) is
block_there heap Nil is = tt
block_there heap True is = tt
block_there heap False is = tt
block_there heap (Int number) is = tt
block_there heap (Sym sel) is = tt
block_there heap (Kernel class) is = tt

-- what the laws of evaluations say
pub record EvaluationsKnown : Type 0 where
  pub lawful : (code : CodeProgram) (block : Value) (arguments : List Value) (site : Site) (progress : Progress) → LawfulRun code progress
      → All (IsLiveValue progress.world.cells code) arguments → LawfulControl code (evaluated code block arguments site progress)
  pub hands : (code : CodeProgram) (action : Action) (progress : Progress) → LawfulRun code progress → Asks code action progress → HandsOn code action progress
  pub spends : (code : CodeProgram) (action : Action) (progress : Progress) → Spends code action progress
  pub stays : (code : CodeProgram) (block : Value) (arguments : List Value) (site : Site) (progress : Progress)
      → GoesOnAt (length arguments ≤ 255) site (home_in (shape_of_value progress.world.cells block)) (evaluated code block arguments site progress)

-- An evaluation with these arguments goes on where what they are known to be lets it.
module _ (code : CodeProgram) (core : Core) (sent : Sent) (block : Value) (values : List Value) where
  pub evaluated_goes : EvaluationsKnown → IsWaiting code core values block → ControlGoesOn code (length core.stack.frames.items) (evaluated_with code core sent values block)
  evaluated_goes known is =
      let site = site_shown core.places sent.site in
      let after = known.lawful code block values site (progress_in core) is.lawful is.live in
      record {
        own = block_kind;
        lawful = after;
        fits = known.hands code (Evaluates block values site) (progress_in core) is.lawful is.live;
        room = room_above code (length core.stack.frames.items) 1 (home_in (shape_of_value core.run.world.world.cells block)) (length values ≤ 255) (progress_in core) site
            (evaluated_with code core sent values block) (known.spends code (Evaluates block values site) (progress_in core)) after
            (known.stays code block values site (progress_in core)) is.few is.depth;
      }

  -- what it came to, in another world
  module _ (world : WorldView) (r : Reached) (same : reached_at code (in_other core world) sent.site values r ≡ evaluated_with code core sent values block) where
    pub evaluation_goes : ControlGoesOn code (length core.stack.frames.items) (evaluated_with code core sent values block)
        → ControlGoesOn code (length core.stack.frames.items) (reached_at code (in_other core world) sent.site values r)
    evaluation_goes goes = subst (λ (c : Control). ControlGoesOn code (length core.stack.frames.items) c) (sym same) goes

    pub evaluation_enters : EntersOrEnds r
    evaluation_enters =
        enters_or_ends code (site_shown core.places sent.site) values r (progress_in (in_other core world))
        (subst EntersOrHalts (sym same) (evaluated_enters code block values (site_shown core.places sent.site) (progress_in core)))

    pub evaluation_leads : (new : Core) (at : Registers) (next : Next) → SameRest core.run.world world
        → Arrives code (in_other core world) at sent.floor (reached_at code (in_other core world) sent.site values r) new next
        → Leads code core at sent.floor (evaluated_with code core sent values block) new next
    evaluation_leads new at next rest is = record {
      state = is.state
          ∙ ap (λ (c : Control). arrived code (phase_shown core.phase) c (frames_shown code core.places (stood core.stack (with_top sent.floor at)))) same;
      stand = is.stand;
      memo = ap (λ (run : Run). run.memo) is.run;
      stays = record {
        world = record {
          limits = is.stays.world.limits ∙ rest.limits;
          room = (is.stays.world.room.0 ∙ rest.room.0, is.stays.world.room.1 ∙ rest.room.1);
        };
        values = is.stays.values;
        frames = is.stays.frames;
        places = is.stays.places;
        arguments = is.stays.arguments;
      };
    }

-- what it came to, on the values that were handed over
pub evaluated_control :
    (code : CodeProgram) (core : Core) (sent : Sent) (block : Value) (world : WorldView) (r : Reached) (values there : List Value) →
    values ≡ there
    → ((site : Site) (rest : Progress) → reached_shown code site values r (in_world rest world.world) ≡ evaluated code block values site (in_world rest core.run.world.world))
    → reached_at code (in_other core world) sent.site there r ≡ evaluated_with code core sent there block
evaluated_control code core sent block world r values there same is =
    subst (λ (vs : List Value). reached_shown code (site_shown core.places sent.site) vs r (in_world (progress_in core) world.world)
    ≡ evaluated code block vs (site_shown core.places sent.site) (progress_in core)) same
    (is (site_shown core.places sent.site) (progress_in core))

-- what enters a body or ends brings no value
pub enters_comes : (r : Reached) (frames : List Frame) → EntersOrEnds r → ComesToBody r frames
enters_comes (reached.Gives value) frames none = absurd none
enters_comes (reached.Fails fault) frames is = tt
enters_comes (reached.Refused sel) frames is = tt
enters_comes (reached.Enters exit entered) frames is = tt
enters_comes (reached.Evaluates block given) frames none = absurd none
enters_comes (reached.Begins method state) frames none = absurd none
enters_comes (reached.Performs receiver sel array) frames none = absurd none
