-- The code of a program and its tables are the same but for instructions, and so the end of a run over them is.
use Rattle.std.proofs.Common.{◌≡◌, List, [], ◌∷◌, refl, sym, subst, ap, ◌∙◌}
use Rattle.std.specs.Prelude.{map}
use Rattle.ns_code.specs.declared.program.CodeProgram.{CodeProgram}
use Rattle.ns_resolved.specs.Program as m
use Rattle.ns_resolved.specs.Tables.{body_head, tables}
use Rattle.ns_gen_code.specs.Code.{code_of}
use Rattle.ns_gen_code.specs.Stated.{OneProgram}
use Rattle.ns_model.specs.Whole.{ran}
use Rattle.ns_model.specs.Laws.{ReturnsGoHome, RunsEnd}
use Rattle.ns_model.specs.Tables.{SameTables, MeansTheSame}
use Rattle.ns_code.specs.Heads.{head_of}
use Rattle.ns_link.specs.Stated.{EndsAs, begins, RunsAsMeant, ReportedAsMeant}
use Rattle.ns_link.proofs.Started.{runs_over_code}

-- a head has no instructions
bare_heads : (bodies : List m.Body) → map head_of (map body_head bodies) ≡ map body_head bodies
bare_heads [] = refl
bare_heads (body ∷ bodies) = ap (body_head body ∷◌) (bare_heads bodies)

pub same_tables : (meant : m.Meant) → OneProgram meant → SameTables (code_of meant) (tables meant)
same_tables meant one = record {
  files = refl;
  names = refl;
  classes = refl;
  heads = bare_heads meant.bodies ∙ sym (ap (λ (code : CodeProgram). code.bodies) one);
}

pub over_tables : (meant : m.Meant) → ReturnsGoHome meant (code_of meant) → RunsEnd meant (code_of meant) →
    MeansTheSame meant (code_of meant) (tables meant) → RunsAsMeant meant
over_tables meant home end same first grants arguments limits =
    subst (EndsAs (code_of meant) (begins meant grants arguments limits)) (same.runs grants arguments limits)
    (runs_over_code meant home end first grants arguments limits)

pub reported : (meant : m.Meant) → MeansTheSame meant (code_of meant) (tables meant) → ReportedAsMeant meant
reported meant same arguments grants limits = same.reports (ran meant (tables meant) grants arguments limits)
