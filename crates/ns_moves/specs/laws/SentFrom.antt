-- A plain send that waited with its site.
use Rattle.std.proofs.Common.{List, length, arith}
use Rattle.ns_base.specs.declared.selector.Sel.{Sel}
use Rattle.ns_code.specs.declared.program.CodeProgram.{CodeProgram}
use Rattle.ns_code.specs.Soundness.{initialiser_kind}
use Rattle.ns_world.specs.declared.value.Value.{Value}
use Rattle.ns_world.specs.declared.ending.LimitKind.TheVariants.{Steps}
use Rattle.ns_world.specs.World.{stepped}
use Rattle.ns_world.specs.Lawful.{IsLiveValue}
use Rattle.ns_world.specs.Later.{IsLater}
use Rattle.ns_world.specs.Starts.{start_of}
use Rattle.ns_find.specs.declared.found.Found.{Found}
use Rattle.ns_find.specs.declared.found.Sending.TheVariants.{Plain}
use Rattle.ns_find.specs.Find.{found_from}
use Rattle.ns_moves.specs.declared.site.Site.{Site}
use Rattle.ns_moves.specs.Control.{Progress, in_world, halts}
use Rattle.ns_moves.specs.Bodies.{no_home}
use Rattle.ns_moves.specs.Sends.{sent_from}
use Rattle.ns_moves.specs.Lawful.{LawfulRun, LawfulControl, FitsSelector}
use Rattle.ns_moves.specs.Onward.{reached}
use Rattle.ns_moves.specs.Spending.{ControlSpends}
use Rattle.ns_moves.specs.Fitting.{FitsNext, GoesOnAt}
use Rattle.ns_moves.specs.laws.Onward.{charged_all}
use Rattle.ns_moves.specs.laws.SendsOnward.{stepped_onward}
use Rattle.ns_moves.specs.laws.LawfulSends.{stepped_lawful}
use Rattle.ns_moves.specs.laws.Spending.{stepped_spends}
use Rattle.ns_moves.specs.lemmas.Suiting.{found_suits}
use Rattle.ns_moves.specs.lemmas.Running.{found_runs}
use Rattle.ns_moves.specs.lemmas.RowsSuit.{value_suits}
use Rattle.ns_moves.specs.lemmas.SitesStay.{FewOf, FewFound, answered_at}
use Rattle.ns_moves.specs.lemmas.RowsFew.{RowFew, FoundFew, from_few}
use Rattle.ns_world.specs.KernelTable.{row_at}
use Rattle.ns_world.specs.declared.kernel_row.Row.{Row}
use Rattle.ns_world.specs.declared.kernel_row.Row.TheVariants as row
use Rattle.ns_find.specs.declared.found.Found.TheVariants as found
use Rattle.ns_moves.specs.lemmas.Fitting.{stepped_fits}

module _ (code : CodeProgram) (receiver : Value) (sel : Sel) (values : List Value) (site : Site) (progress : Progress) where
  abbrev member : Found
  member = found_from progress.world.cells code (start_of progress.world.cells receiver) sel.0 Plain

  -- A plain send that waited with its site leaves a lawful world.
  pub from_lawful : LawfulRun code progress → IsLiveValue progress.world.cells code receiver → FitsSelector progress.world.cells code sel values
      → LawfulControl code (sent_from code receiver sel values site progress)
  from_lawful lawful live fits = stepped_lawful code member sel receiver values site progress lawful live fits (found_suits progress.world code receiver sel.0 Plain lawful)

  pub from_fits : LawfulRun code progress → IsLiveValue progress.world.cells code receiver → FitsSelector progress.world.cells code sel values
      → FitsNext initialiser_kind code (sent_from code receiver sel values site progress)
  from_fits lawful live fits =
      stepped_fits code member sel receiver values site progress lawful live fits (found_suits progress.world code receiver sel.0 Plain lawful)
      (found_runs progress.world code receiver sel.0 Plain lawful live) (value_suits progress.world.cells code receiver sel.0 Plain)

  -- a selector that finds the evaluation of a block takes few arguments
  few_row : (r : Row) → RowFew code sel.0 r → FewOf (FitsSelector progress.world.cells code sel values) (length values) r
  few_row (row.Data r) few = tt
  few_row (row.Integer r) few = tt
  few_row row.Top few = tt
  few_row (row.Facet r) few = tt
  few_row (row.Mirror r) few = tt
  few_row (row.Method method) few = tt
  few_row row.Apply few = tt
  few_row row.Value few = λ fits. let arity = fits.arity in omega (arith, arity, few)
  few_row row.ValueWithArguments few = tt
  few_row row.NumArgs few = tt

  few_found : (f : Found) → FoundFew code sel.0 f → FewFound (FitsSelector progress.world.cells code sel values) (length values) f
  few_found (found.Kernel number) few = few_row (row_at number) few
  few_found (found.Method body holder) few = tt
  few_found (found.Getter holder word) few = tt
  few_found (found.Setter holder word) few = tt
  few_found (found.Nested class holder) few = tt
  few_found (found.Factory class) few = tt
  few_found found.NotPublic few = tt
  few_found found.Absent few = tt

  pub from_at : GoesOnAt (FitsSelector progress.world.cells code sel values) site no_home (sent_from code receiver sel values site progress)
  from_at =
      charged_all (GoesOnAt (FitsSelector progress.world.cells code sel values) site no_home) halts Steps (stepped progress.world) progress _ tt
      (λ world e. answered_at (FitsSelector progress.world.cells code sel values) code member sel receiver values site (in_world progress world)
      (few_found member (from_few progress.world.cells code (start_of progress.world.cells receiver) sel.0 Plain)))

  pub from_later : IsLater progress.world (reached (sent_from code receiver sel values site progress)).world
  from_later = (stepped_onward code (λ cells. found_from cells code (start_of cells receiver) sel.0 Plain) sel (λ cells. receiver) values (λ cells. site) progress).world.later

  -- A plain send that waited with its site charges one step.
  pub from_spends : ControlSpends 1 progress (sent_from code receiver sel values site progress)
  from_spends = stepped_spends code member sel receiver values site progress
