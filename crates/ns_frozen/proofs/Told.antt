-- A state of a run is the one that its plain data stands for.
use Rattle.std.proofs.Common.{◌≡◌, ℕ, List, [], refl, ap, ◌∙◌, Option, Some, None, true, false}
use Rattle.std.specs.Prelude.{unwrap_or}
use Rattle.ns_code.specs.declared.program.CodeProgram.{CodeProgram}
use Rattle.ns_world.specs.declared.ending.Ending.{Ending}
use Rattle.ns_world.specs.declared.ending.Ending.TheVariants.{Done, Error, Limit}
use Rattle.ns_world.specs.declared.ending.LimitKind.TheVariants.{Steps, Cells, Depth, Out}
use Rattle.ns_world.specs.Heap.{Heap}
use Rattle.ns_world.specs.Lawful.{IsLawful}
use Rattle.ns_facets.specs.declared.row.Grants.{Grants}
use Rattle.ns_moves.specs.Control.{Progress}
use Rattle.ns_moves.specs.State as run
use Rattle.ns_moves.specs.State.{Frame, Sending, Performing, Evaluating, Phase, Start, First, Second, Hosted, State, Unbegun, Going, Pends, Ended, Stuck}
use Rattle.ns_moves.specs.Valid.{HasArgumentCells, HasArgumentsIn, EndIsValid, GoesOn, Valid}
use Rattle.ns_moves.specs.ValidFrames.{Nothing, awaited_for, FramesAreValid}
use Rattle.ns_frozen.specs.declared.pending.Pending.{Pending}
use Rattle.ns_frozen.specs.declared.frame.FrozenFrame.{FrozenFrame}
use Rattle.ns_frozen.specs.declared.frozen.Frozen.{Frozen}
use Rattle.ns_frozen.specs.Freezing.{cells_frozen, pending_frozen, phase_frozen, frames_frozen, frozen_at, frozen_of}
use Rattle.ns_frozen.specs.Thawing.{heap_thawed, pending_thawed, arguments_in, phase_thawed, progress_thawed, frames_thawed, thawed}
use Rattle.ns_frozen.specs.Laws.{IsTold}
use Rattle.ns_frozen.proofs.Thawed.{cells_there}
use Rattle.ns_frozen.proofs.Numbers.{pending_there}
use Rattle.ns_frozen.proofs.Based.{lawful_based}
use Rattle.ns_frozen.proofs.Stood.{frames_there}

-- ---- worlds

pub heap_there : (code : CodeProgram) (progress : Progress) → IsLawful progress.world code → heap_thawed code (cells_frozen progress.world.cells) ≡ progress.world.cells
heap_there code progress lawful = cells_there code progress.world.cells (lawful_based code progress.world lawful)

-- what a run has done
progress_there : (code : CodeProgram) (grants : Grants) (progress : Progress) (phase : ℕ) (waits : Option Pending) (ending : Option Ending) (frames : List FrozenFrame) → IsLawful progress.world code
    → progress_thawed code (frozen_at grants progress phase waits ending frames) ≡ progress
progress_there code grants progress phase waits ending frames lawful =
    ap (λ (cells : Heap). record progress { world = record progress.world { cells = cells } }) (heap_there code progress lawful)

-- the array of the arguments
arguments_there : (code : CodeProgram) (grants : Grants) (progress : Progress) (arguments : ℕ) → IsLawful progress.world code → HasArgumentCells code grants arguments progress.world.cells
    → arguments_in code grants (heap_thawed code (cells_frozen progress.world.cells)) ≡ arguments
arguments_there code grants progress arguments lawful has = ap (arguments_in code grants) (heap_there code progress lawful) ∙ ap (λ o. unwrap_or o 0) has

-- the phase of a run that goes on
phase_there : (code : CodeProgram) (grants : Grants) (progress : Progress) (phase : Phase) → IsLawful progress.world code → HasArgumentsIn code grants phase progress.world.cells
    → phase_thawed (arguments_in code grants (heap_thawed code (cells_frozen progress.world.cells))) (phase_frozen phase) ≡ phase
phase_there code grants progress Start lawful has = refl
phase_there code grants progress (First arguments) lawful has = ap First (arguments_there code grants progress arguments lawful has)
phase_there code grants progress Second lawful has = refl
phase_there code grants progress Hosted lawful has = refl

-- the world of a run that has ended
pub ended_lawful : (code : CodeProgram) (grants : Grants) (ending : Ending) (phase : Phase) (progress : Progress) → EndIsValid code grants ending phase progress → IsLawful progress.world code
ended_lawful code grants (Limit Cells) Start progress v = v.lawful
ended_lawful code grants (Limit Steps) Start progress v = absurd v
ended_lawful code grants (Limit Depth) Start progress v = absurd v
ended_lawful code grants (Limit Out) Start progress v = absurd v
ended_lawful code grants (Done value) Start progress v = absurd v
ended_lawful code grants (Error error) Start progress v = absurd v
ended_lawful code grants (Done value) (First arguments) progress v = absurd v
ended_lawful code grants ending phase progress v = v.0.lawful

-- ---- states

-- the frames below what is pending wait
pending_waits : (code : CodeProgram) (progress : Progress) (pending : run.Pending) (frames : List Frame) → FramesAreValid code progress (awaited_for pending) frames
    → frames_thawed code true (frames_frozen code true frames) ≡ frames
pending_waits code progress (Sending receiver sel arguments site) frames v = frames_there code progress (awaited_for (Sending receiver sel arguments site)) frames v
pending_waits code progress (Performing receiver sel array site) frames v = frames_there code progress (awaited_for (Performing receiver sel array site)) frames v
pending_waits code progress (Evaluating block arguments site) frames v = frames_there code progress (awaited_for (Evaluating block arguments site)) frames v

going_there : (code : CodeProgram) (grants : Grants) (phase : Phase) (frames : List Frame) (progress : Progress) → GoesOn code grants phase frames progress → FramesAreValid code progress Nothing frames
    → thawed code (frozen_of code grants (Going phase frames progress)) ≡ Going phase frames progress
going_there code grants Start frames progress g v = absurd (cc (g.some))
going_there code grants (First arguments) frames progress g v =
    ap (λ p. Going p (frames_thawed code false (frames_frozen code false frames)) (progress_thawed code (frozen_of code grants (Going (First arguments) frames progress))))
    (phase_there code grants progress (First arguments) g.world.lawful g.arguments)
    ∙ (ap (λ list. Going (First arguments) list (progress_thawed code (frozen_of code grants (Going (First arguments) frames progress)))) (frames_there code progress Nothing frames v)
    ∙ ap (Going (First arguments) frames) (progress_there code grants progress 1 None None (frames_frozen code false frames) g.world.lawful))
going_there code grants Second frames progress g v =
    ap (λ list. Going Second list (progress_thawed code (frozen_of code grants (Going Second frames progress)))) (frames_there code progress Nothing frames v)
    ∙ ap (Going Second frames) (progress_there code grants progress 2 None None (frames_frozen code false frames) g.world.lawful)
going_there code grants Hosted frames progress g v =
    ap (λ list. Going Hosted list (progress_thawed code (frozen_of code grants (Going Hosted frames progress)))) (frames_there code progress Nothing frames v)
    ∙ ap (Going Hosted frames) (progress_there code grants progress 3 None None (frames_frozen code false frames) g.world.lawful)

ended_there : (code : CodeProgram) (grants : Grants) (ending : Ending) (phase : Phase) (progress : Progress) → IsLawful progress.world code → IsTold (Ended ending phase progress)
    → thawed code (frozen_of code grants (Ended ending phase progress)) ≡ Ended ending phase progress
ended_there code grants ending (First arguments) progress lawful told = absurd told
ended_there code grants ending Start progress lawful told = ap (Ended ending Start) (progress_there code grants progress 0 None (Some ending) [] lawful)
ended_there code grants ending Second progress lawful told = ap (Ended ending Second) (progress_there code grants progress 2 None (Some ending) [] lawful)
ended_there code grants ending Hosted progress lawful told = ap (Ended ending Hosted) (progress_there code grants progress 3 None (Some ending) [] lawful)

-- A state that is told is the one that its plain data stands for.
pub thaws_back : (code : CodeProgram) (grants : Grants) (state : State) → Valid code grants state → IsTold state → thawed code (frozen_of code grants state) ≡ state
thaws_back code grants (Unbegun arguments progress) v told =
    ap (λ n. Unbegun n (progress_thawed code (frozen_of code grants (Unbegun arguments progress)))) (arguments_there code grants progress arguments v.0.lawful v.1)
    ∙ ap (Unbegun arguments) (progress_there code grants progress 0 None None [] v.0.lawful)
thaws_back code grants (Going phase frames progress) v told = going_there code grants phase frames progress v.0 v.2
thaws_back code grants (Pends phase pending frames progress) v told =
    let frozen : Frozen = frozen_of code grants (Pends phase pending frames progress) in
    ap (λ p. Pends p (pending_thawed (pending_frozen pending)) (frames_thawed code true (frames_frozen code true frames)) (progress_thawed code frozen))
    (phase_there code grants progress phase v.0.world.lawful v.0.arguments)
    ∙ (ap (λ p. Pends phase p (frames_thawed code true (frames_frozen code true frames)) (progress_thawed code frozen)) (pending_there pending)
    ∙ (ap (λ list. Pends phase pending list (progress_thawed code frozen)) (pending_waits code progress pending frames v.2)
    ∙ ap (Pends phase pending frames)
    (progress_there code grants progress (phase_frozen phase) (Some (pending_frozen pending)) None (frames_frozen code true frames) v.0.world.lawful)))
thaws_back code grants (Ended ending phase progress) v told = ended_there code grants ending phase progress (ended_lawful code grants ending phase progress v) told
thaws_back code grants (Stuck progress) v told = absurd v

-- Of any state what is told is the same again.
pub thaws_alike : (code : CodeProgram) (grants : Grants) (state : State) → Valid code grants state → frozen_of code grants (thawed code (frozen_of code grants state)) ≡ frozen_of code grants state
thaws_alike code grants (Unbegun arguments progress) v = ap (frozen_of code grants) (thaws_back code grants (Unbegun arguments progress) v tt)
thaws_alike code grants (Going phase frames progress) v = ap (frozen_of code grants) (thaws_back code grants (Going phase frames progress) v tt)
thaws_alike code grants (Pends phase pending frames progress) v = ap (frozen_of code grants) (thaws_back code grants (Pends phase pending frames progress) v tt)
thaws_alike code grants (Ended ending (First arguments) progress) v =
    ap (λ (p : Progress). frozen_at grants p 1 None (Some ending) []) (progress_there code grants progress 1 None (Some ending) [] (ended_lawful code grants ending (First arguments) progress v))
thaws_alike code grants (Ended ending Start progress) v = ap (frozen_of code grants) (thaws_back code grants (Ended ending Start progress) v tt)
thaws_alike code grants (Ended ending Second progress) v = ap (frozen_of code grants) (thaws_back code grants (Ended ending Second progress) v tt)
thaws_alike code grants (Ended ending Hosted progress) v = ap (frozen_of code grants) (thaws_back code grants (Ended ending Hosted progress) v tt)
thaws_alike code grants (Stuck progress) v = absurd v
