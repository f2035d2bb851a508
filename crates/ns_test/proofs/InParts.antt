-- The line of a test, made of its parts.
use Rattle.std.proofs.Common.{◌≡◌, ℕ, List, ◌∷◌, ◌++◌, codes, refl, ap}
use Rattle.ns_base.specs.declared.limits.Limits.{Limits}
use Rattle.ns_code.specs.Selector.{selector_text}
use Rattle.ns_code.specs.declared.program.CodeProgram.{CodeProgram}
use Rattle.ns_json.specs.declared.saying.End.{End}
use Rattle.ns_moves.specs.State.{ending_of, world_of}
use Rattle.ns_run_code.specs.Machine.{end_of, told_at}
use Rattle.ns_run_told.specs.Laws.{LinesTellEnds, line_of}
use Rattle.ns_run_told.specs.Told.{run_told}
use Rattle.ns_test.specs.declared.report.Verdict.{Verdict}
use Rattle.ns_test.specs.declared.report.Verdict.TheVariants.{Passed, Failed, Erred}
use Rattle.ns_test.specs.Alone.{outcome_of, run_alone, verdict_at, verdict_line}
use Rattle.ns_test.specs.Stated.{LinesTellParts, part_line}

-- the line of a verdict is that of the outcome, where the report line is that of the end
verdict_told : (verdict : Verdict) (name report : List ℕ) (end : End) → report ≡ line_of end
    → verdict_line verdict name report ≡ part_line name (outcome_of verdict end)
verdict_told Passed name report end is = refl
verdict_told Failed name report end is = refl
verdict_told Erred name report end is = ap (λ (line : List ℕ). codes "error " ++ name ++ 32 ∷ line) is

pub lines_tell_parts : LinesTellEnds → (code : CodeProgram) (limits : Limits) → LinesTellParts code limits
lines_tell_parts ends code limits sel =
    let state = run_alone code limits (selector_text code sel.0) in
    verdict_told (verdict_at state) (selector_text code sel.0) (told_at code state).line (run_told code state).end
    (ends (world_of state).cells code code.files (end_of (ending_of state)))
