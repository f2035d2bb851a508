-- What is said of code and its source: the machine does what the source means.
use Rattle.std.specs.Prelude.{◌≡◌, ◌≤◌, ◌+◌, ◌⊎◌, ℕ, List, ◌++◌, Some, slice_get, true}
use Rattle.ns_base.specs.declared.limits.Limits.{Limits}
use Rattle.ns_base.specs.Limits.{InRange}
use Rattle.ns_scope.specs.declared.program.Program.{Program}
use Rattle.ns_scope.specs.Whole.{IsWhole}
use Rattle.ns_code.specs.declared.program.CodeProgram.{CodeProgram}
use Rattle.ns_code.specs.Fits.{Fits}
use Rattle.ns_verify.specs.Verify.{IsSound}
use Rattle.ns_world.specs.declared.ending.Ending.TheVariants.{Limit}
use Rattle.ns_world.specs.declared.ending.LimitKind.TheVariants.{Steps}
use Rattle.ns_facets.specs.declared.row.Grants.{Grants}
use Rattle.ns_resolved.specs.Classes.{meant}
use Rattle.ns_resolved.specs.Program.{Meant, Declaration, Initialiser, as_initialiser}
use Rattle.ns_resolved.specs.Tables.{tables}
use Rattle.ns_gen_code.specs.Code.{code_of}
use Rattle.ns_model.specs.Run.{does_at}
use Rattle.ns_model.specs.Whole.{RunEnd, ran, report_of, meaning_of_run}
use Rattle.ns_moves.specs.State.{Phase, State, Ended, progress_of}
use Rattle.ns_moves.specs.Move.{moves}
use Rattle.ns_moves.specs.Starts.{new_machine, started}
use Rattle.ns_moves.specs.Turn.{Turns, is_still}
use Rattle.ns_link.specs.Fewer.{limits_to, to_steps}

-- ---- a run and its end

-- The first class of a program has an initialiser, whose place the opening sends have.
pub record HasFirst (meant : Meant) : Type 0 where
  pub class : Declaration
  pub init : Initialiser
  pub is : slice_get meant.classes 0 ≡ Some class
  pub does : does_at meant class.initialiser ≡ as_initialiser init

-- After so many moves a run has come to that end.
pub record EndsAs (code : CodeProgram) (state : State) (ended : RunEnd) : Type 0 where
  pub count : ℕ
  pub phase : Phase
  pub is : moves code count state ≡ Ended ended.ending phase ended.progress

-- a machine on the code of a program, started
abbrev pub begins : Meant → Grants → List (List ℕ) → Limits → State
begins meant grants arguments limits = started (code_of meant) (new_machine (code_of meant) limits grants arguments)

-- The machine on the code of a program, started, comes to the end that the program means by its trees and its tables: with
-- the same ending, world, board and count of activations.
abbrev pub RunsAsMeant : Meant → Type 0
RunsAsMeant meant =
    HasFirst meant → (grants : Grants) (arguments : List (List ℕ)) (limits : Limits)
    → EndsAs (code_of meant) (begins meant grants arguments limits) (ran meant (tables meant) grants arguments limits)

-- What is reported of that end by the code is what the program's run means.
abbrev pub ReportedAsMeant : Meant → Type 0
ReportedAsMeant meant =
    (arguments : List (List ℕ)) (grants : Grants) (limits : Limits)
    → report_of (code_of meant) (ran meant (tables meant) grants arguments limits) ≡ meaning_of_run meant arguments grants limits

-- ---- sources

-- A program that was loaded whole has a first class with an initialiser.
abbrev pub WholeHasFirst : Program → Type 0
WholeHasFirst program = IsWhole program → HasFirst (meant program)

-- So the machine on its code comes to the end that it means, whatever it is granted and given, at every limit.
abbrev pub SourceRunsAsMeant : Program → Type 0
SourceRunsAsMeant program =
    IsWhole program → (grants : Grants) (arguments : List (List ℕ)) (limits : Limits)
    → EndsAs (code_of (meant program)) (begins (meant program) grants arguments limits)
    (ran (meant program) (tables (meant program)) grants arguments limits)

-- ---- turns

-- A state on the way to an end: from there the run comes to it; what was printed stands at its beginning; and where the
-- run moves no more, it is that end.
pub record IsOnTheWay (code : CodeProgram) (state : State) (ended : RunEnd) : Type 0 where
  pub goes_on : EndsAs code state ended
  pub more : List ℕ
  pub printed : ended.progress.world.output ≡ (progress_of state).world.output ++ more
  pub at_rest : is_still state ≡ true → state ≡ Ended ended.ending goes_on.phase ended.progress

-- A turn of so many steps of the machine leaves a state on the way to the end that the program means.
abbrev pub TurnsAreOnTheWay : Meant → Type 0
TurnsAreOnTheWay meant =
    HasFirst meant → (grants : Grants) (arguments : List (List ℕ)) (limits : Limits) (steps : ℕ) (state : State)
    → Turns (code_of meant) steps (begins meant grants arguments limits) state
    → IsOnTheWay (code_of meant) state (ran meant (tables meant) grants arguments limits)

-- ---- turns that are long enough

-- A run has come to that end.
pub record HasEnded (state : State) (ended : RunEnd) : Type 0 where
  pub phase : Phase
  pub is : state ≡ Ended ended.ending phase ended.progress

-- Its code is sound and fits its fields, and the limits are in their ranges.
pub record MayRun (meant : Meant) (limits : Limits) : Type 0 where
  pub first : HasFirst meant
  pub sound : IsSound (code_of meant)
  pub fits : Fits (code_of meant)
  pub range : InRange limits

-- A turn of one step more than the limit leaves the end that the program means.
abbrev pub LongTurnsEnd : Meant → Type 0
LongTurnsEnd meant =
    (grants : Grants) (arguments : List (List ℕ)) (limits : Limits) (state : State) → MayRun meant limits
    → Turns (code_of meant) (limits.steps + 1) (begins meant grants arguments limits) state
    → HasEnded state (ran meant (tables meant) grants arguments limits)

-- ---- fewer steps

-- The same end, but for the limit on steps.
pub record SameEnd (steps : ℕ) (few all : RunEnd) : Type 0 where
  pub ending : few.ending ≡ all.ending
  pub progress : few.progress ≡ to_steps steps all.progress

-- The limit on steps ended the run at a state on the way to the other's end: what was printed is the beginning of what
-- that prints.
pub record EndsOnTheWay (code : CodeProgram) (first : State) (steps : ℕ) (few all : RunEnd) : Type 0 where
  pub ending : few.ending ≡ Limit Steps
  pub moved : ℕ
  pub there : few.progress ≡ to_steps steps (progress_of (moves code moved first))
  pub way : IsOnTheWay code (moves code moved first) all

-- With fewer steps a run means the same, or it is ended by that limit on the way to the same end.
abbrev pub FewerStepsBegin : Meant → Type 0
FewerStepsBegin meant =
    HasFirst meant → (grants : Grants) (arguments : List (List ℕ)) (limits : Limits) (steps : ℕ) → steps ≤ limits.steps
    → SameEnd steps (ran meant (tables meant) grants arguments (limits_to steps limits)) (ran meant (tables meant) grants arguments limits)
    ⊎ EndsOnTheWay (code_of meant) (begins meant grants arguments limits) steps
    (ran meant (tables meant) grants arguments (limits_to steps limits)) (ran meant (tables meant) grants arguments limits)
