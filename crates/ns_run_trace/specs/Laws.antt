-- What is said of traces by the laws about them.
use Rattle.std.specs.Prelude.{◌≡◌, ℕ, List, ◌∷◌, ◌++◌, All, Contains, true, false}
use Rattle.ns_code.specs.declared.program.CodeProgram.{CodeProgram}
use Rattle.ns_facets.specs.declared.row.Grants.{Grants}
use Rattle.ns_json.specs.declared.saying.End.{End}
use Rattle.ns_json.specs.declared.saying.Site.{Site}
use Rattle.ns_moves.specs.Move.{move, moves}
use Rattle.ns_moves.specs.State.{State}
use Rattle.ns_moves.specs.Turn.{is_still}
use Rattle.ns_moves.specs.Valid.{Valid}
use Rattle.ns_run_code.specs.Machine.{rested}
use Rattle.ns_run_trace.specs.Before.{before_end}
use Rattle.ns_run_trace.specs.Trace.{run_trace, sends_before, site_line, told_once}

-- ---- the state before the end

-- So many moves lead to a state in which the run moves on, and the next one ends it.
pub record IsBeforeEnd (code : CodeProgram) (first before : State) : Type 0 where
  pub count : ℕ
  pub is : moves code count first ≡ before
  pub going : is_still before ≡ false
  pub ends : move code before ≡ rested code first

-- From each valid state that moves on there is one such state, and it is where a trace is told of; a state that moves no more is its own.
pub record EndsAfterIt (code : CodeProgram) (first : State) : Type 0 where
  pub before : is_still first ≡ false → IsBeforeEnd code first (before_end code first)
  pub one : (other : State) → IsBeforeEnd code first other → other ≡ before_end code first
  pub still : is_still first ≡ true → before_end code first ≡ first

abbrev pub RunsEndAfterIt : CodeProgram → Grants → Type 0
RunsEndAfterIt code grants = (first : State) → Valid code grants first → EndsAfterIt code first

-- ---- the sends that are told

-- Each send of a trace is that of a frame of that state.
abbrev pub TracesTellFrames : CodeProgram → Type 0
TracesTellFrames code =
    (end : End) (first : State) → All (Contains (sends_before code first)) (run_trace code end first).sites

-- The first of sends that are told behind a line is the innermost that isn't told by that line: all within it are.
pub record TellsFirst (line : List ℕ) (sites : List Site) (first : Site) : Type 0 where
  pub within : List Site
  pub around : List Site
  pub is : sites ≡ within ++ first ∷ around
  pub alike : All (λ (site : Site). site_line site ≡ line) within
  pub other : (site_line first ≡ line) → ⊥

abbrev pub FirstIsTheCaller : Type 0
FirstIsTheCaller =
    (line : List ℕ) (sites rest : List Site) (first : Site) → told_once line sites ≡ first ∷ rest → TellsFirst line sites first
