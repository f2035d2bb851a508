-- The run of a program's code is the run that its source means.
use Rattle.std.proofs.Common.{◌≡◌, refl, ap, sym, subst, ◌∙◌}
use Rattle.ns_base.specs.Limits.{InRange}
use Rattle.ns_base.specs.declared.limits.Limits.{Limits}
use Rattle.ns_code.specs.Fits.{Fits}
use Rattle.ns_gen_code.specs.Code.{code_of}
use Rattle.ns_link.specs.Stated.{HasFirst, WholeHasFirst, EndsAs, begins, MayRun, RunsAsMeant, ReportedAsMeant}
use Rattle.ns_resolved.specs.Classes.{meant}
use Rattle.ns_resolved.specs.Program.{Meant}
use Rattle.ns_resolved.specs.Tables.{tables}
use Rattle.ns_model.specs.Whole.{ran}
use Rattle.ns_moves.specs.StatedMoves.{MovesAdd, StaysStill}
use Rattle.ns_moves.specs.State.{State, Ended}
use Rattle.ns_scope.specs.Whole.{IsWhole}
use Rattle.ns_scope.specs.declared.program.Program.{Program}
use Rattle.ns_verify.specs.Verify.{IsSound}
use Rattle.ns_run_code.specs.Laws.{CodeEnds, CodeRunsAsMeant}
use Rattle.ns_run_code.specs.Run.{granted, ran_of}
use Rattle.ns_run_code.proofs.Ends.{told_is}

-- a program that was loaded whole, whose code is sound and fits, may run
pub may_run : (program told : Program) (limits : Limits) → WholeHasFirst told → told ≡ program → IsWhole told
    → IsSound (code_of (meant program)) → Fits (code_of (meant program)) → InRange limits → MayRun (meant program) limits
may_run program told limits begins is whole sound fits range =
    record {
      first = subst (λ (each : Program). HasFirst (meant each)) is (begins whole);
      sound = sound;
      fits = fits;
      range = range;
    }

pub runs_as_meant : (meant : Meant) → ((s : State) → MovesAdd (code_of meant) s) → ((s : State) → StaysStill (code_of meant) s) →
    CodeEnds (code_of meant)
    → RunsAsMeant meant → ReportedAsMeant meant → CodeRunsAsMeant meant
runs_as_meant meant add stay ends runs reported limits arguments may =
    let code = code_of meant in
    let end = ran meant (tables meant) granted arguments limits in
    let to : EndsAs code (begins meant granted arguments limits) end = runs may.first granted arguments limits in
    let told = told_is code add stay (begins meant granted arguments limits) (Ended end.ending to.phase end.progress) to.count end.ending
    (ends limits arguments (record { sound = may.sound; fits = may.fits; range = may.range })) to.is refl in
    sym told ∙ ap ran_of (reported arguments granted limits)
