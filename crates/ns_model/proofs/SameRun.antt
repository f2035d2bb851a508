-- A run means the same over all codes with the same tables; and more fuel changes nothing.
use Rattle.std.proofs.Common.{◌≡◌, ℕ, ◌+◌, List, [], ◌∷◌, length, refl, sym, ap, ◌∙◌, arith}
use Rattle.ns_base.specs.declared.limits.Limits.{Limits}
use Rattle.ns_base.specs.declared.selector.Sel.{Sel}
use Rattle.ns_code.specs.declared.program.CodeProgram.{CodeProgram}
use Rattle.ns_code.specs.declared.own.Own.{Own}
use Rattle.ns_code.specs.declared.own.Own.TheVariants.{PackageUsing, MainArgs}
use Rattle.ns_code.specs.Own.{own_text, own_place}
use Rattle.ns_code.specs.Selector.{name_number}
use Rattle.ns_world.specs.declared.value.Value.{Value}
use Rattle.ns_world.specs.World.{counters_of}
use Rattle.ns_facets.specs.declared.row.Grants.{Grants}
use Rattle.ns_moves.specs.Control.{Progress, After, Gives, Halts, Control}
use Rattle.ns_moves.specs.Sends.{sent_plain, own_sel}
use Rattle.ns_moves.specs.Start.{start_made, manifest, platform, first_class}
use Rattle.ns_moves.specs.Report.{report_line}
use Rattle.ns_resolved.specs.Program.{Meant}
use Rattle.ns_model.specs.Outcome.{Completion, Yields, Returns, Ends, Spent, bind}
use Rattle.ns_model.specs.Run.{run, fuel_of}
use Rattle.ns_model.specs.Whole.{opening_place, opening, opened, opened_after, concluded, ran, RunEnd, RunReport, status_of, report_of}
use Rattle.ns_model.specs.Laws.{MoreFuel}
use Rattle.ns_model.specs.Tables.{SameTables, MeansTheSame}
use Rattle.ns_model.proofs.ActionsRead.{act_alike}
use Rattle.ns_model.proofs.Agreeing.{agreed, agreed_both, runs_agree}

itself : (code : CodeProgram) → SameTables code code
itself code = record { files = refl; names = refl; classes = refl; heads = refl }

turned : (code other : CodeProgram) → SameTables code other → SameTables other code
turned code other same = record { files = sym same.files; names = sym same.names; classes = sym same.classes; heads = sym same.heads }

-- more fuel changes nothing
pub more_fuel : (meant : Meant) (code : CodeProgram) → MoreFuel meant code
more_fuel meant code fuel more control live le enough =
    sym (agreed (run meant code fuel control live) (run meant code more control live) enough
    (runs_agree meant code code (act_alike code code (itself code)) refl fuel more le control live))

module _ (meant : Meant) (code other : CodeProgram) (same : SameTables code other) where
  same_run : (fuel : ℕ) (control : Control) (live : List ℕ) → run meant code fuel control live ≡ run meant other fuel control live
  same_run fuel control live =
      let back = turned code other same in
      agreed_both (run meant code fuel control live) (run meant other fuel control live)
      (runs_agree meant code other (act_alike code other same) same.names fuel fuel (omega arith) control live)
      (runs_agree meant other code (act_alike other code back) back.names fuel fuel (omega arith) control live)

  -- the number of an own selector, by the names
  abbrev own_among : Own → List (List ℕ) → Sel
  own_among own names = record { 0 = name_number names 0 (own_text own) (length names + own_place own) }

  same_own : (own : Own) → own_sel code own ≡ own_sel other own
  same_own own = ap (own_among own) (sym same.names)

  same_opening : (receiver : Value) (own : Own) (values : List Value) (progress : Progress)
      → opening meant code receiver own values progress ≡ opening meant other receiver own values progress
  same_opening receiver own values progress =
      let place = opening_place meant in
      same_run (fuel_of progress) (sent_plain code receiver (own_sel code own) values place progress) []
      ∙ ap (λ control. run meant other (fuel_of progress) control [])
      ((act_alike code other same).plain receiver (own_sel code own) values place progress
      ∙ ap (λ sel. sent_plain other receiver sel values place progress) (same_own own))

  bind_on : {A B : Type 0} (o : Completion A) (go go' : A → List Value → Progress → Completion B)
      → ((v : A) (ls : List Value) (p : Progress) → go v ls p ≡ go' v ls p) → bind o go ≡ bind o go'
  bind_on (Yields v ls p) go go' same = same v ls p
  bind_on (Returns h v p) go go' same = refl
  bind_on (Ends e p) go go' same = refl
  bind_on Spent go go' same = refl

  same_opened : (array : Value) (progress : Progress) → opened meant code array progress ≡ opened meant other array progress
  same_opened array progress =
      let first = first_class progress.world.cells in
      bind_on (opening meant code first PackageUsing (manifest ∷ []) progress) _ _
      (λ v ls p. same_opening v MainArgs (platform ∷ array ∷ []) p)
      ∙ ap (λ o. bind o (λ module_object locals progress. opening meant other module_object MainArgs (platform ∷ array ∷ []) progress))
      (same_opening first PackageUsing (manifest ∷ []) progress)

  same_after : (after : After) → opened_after meant code after ≡ opened_after meant other after
  same_after (Gives array progress) = ap (concluded progress) (same_opened array progress)
  same_after (Halts ending progress) = refl

  same_ran : (grants : Grants) (arguments : List (List ℕ)) (limits : Limits) → ran meant code grants arguments limits ≡ ran meant other grants arguments limits
  same_ran grants arguments limits =
      same_after (start_made code grants arguments limits)
      ∙ ap (opened_after meant other) ((act_alike code other same).starts grants arguments limits)

  -- a report with that line
  abbrev with_line : RunEnd → List ℕ → RunReport
  with_line ended line =
      record { output = ended.progress.world.output; line = line; status = status_of ended.ending; counters = counters_of ended.progress.world }

  same_report : (ended : RunEnd) → report_of code ended ≡ report_of other ended
  same_report ended =
      ap (with_line ended)
      ((act_alike code other same).reports ended.progress.world.cells code.files ended.ending
      ∙ ap (λ files. report_line ended.progress.world.cells other files ended.ending) (sym same.files))

  pub same_meaning : MeansTheSame meant code other
  same_meaning = record { calls = same_run; runs = same_ran; reports = same_report }
