-- The world that plain data stands for can be made.
use Rattle.std.proofs.Common.{◌≡◌, ℕ, ◌+◌, ◌≤◌, List, ◌++◌, length, ap, sym, ◌∙◌, subst, Some, None, Bool, cond}
use Rattle.std.proofs.lemmas.Bool.{le-leb}
use Rattle.std.proofs.lemmas.Option.{same_Some}
use Rattle.std.specs.Prelude.{Result, Ok, Err}
use Rattle.ns_base.specs.declared.limits.Limits.{Limits}
use Rattle.ns_code.specs.declared.program.CodeProgram.{CodeProgram}
use Rattle.ns_world.specs.declared.ending.LimitKind.{LimitKind}
use Rattle.ns_world.specs.declared.ending.LimitKind.TheVariants.{Out}
use Rattle.ns_world.specs.Lawful.{IsLawful}
use Rattle.ns_world.specs.World.{World, WorldView, SameRoom, printed, Charges}
use Rattle.ns_frozen.specs.declared.frozen.Frozen.{Frozen}
use Rattle.ns_frozen.specs.Thawing.{heap_thawed, world_thawed}
use Rattle.ns_machine_thaw.specs.Cells.{CellsFit}
use Rattle.ns_machine_thaw.proofs.Fitting.{lawful_fit}

module _ (code : CodeProgram) (frozen : Frozen) (limits : Limits) (same : frozen.limits ≡ limits) (lawful : IsLawful (world_thawed code frozen) code) where
  pub cells_fit : CellsFit code limits.cells (heap_thawed code frozen.cells)
  cells_fit = subst (λ (l : Limits). CellsFit code l.cells (heap_thawed code frozen.cells)) same (lawful_fit (world_thawed code frozen) code lawful)

  pub output_fits : length frozen.output ≤ limits.out
  output_fits = subst (λ (l : Limits). length frozen.output ≤ l.out) same lawful.within.out

  pub steps_fit : frozen.used.steps ≤ limits.steps
  steps_fit = subst (λ (l : Limits). frozen.used.steps ≤ l.steps) same lawful.within.steps

  pub depth_fits : frozen.used.depth ≤ limits.depth
  depth_fits = subst (λ (l : Limits). frozen.used.depth ≤ l.depth) same lawful.within.depth

-- What was printed.
pub record HasPrinted (old new : WorldView) (bytes : List ℕ) : Type 0 where
  pub world : new.world ≡ record old.world { output = old.world.output ++ bytes }
  pub room : SameRoom old new

-- output that fits is printed
pub printed_fits : (old new : WorldView) (bytes : List ℕ) (result : Result (Unit {0}) LimitKind) → length old.world.output + length bytes ≤ old.world.limits.out
    → Charges (printed old.world bytes) Out old result new → HasPrinted old new bytes
printed_fits old new bytes result fits charges = by_result result charges
  where
    more : World
    more = record old.world { output = old.world.output ++ bytes }

    test : printed old.world bytes ≡ Some more
    test = ap (λ (b : Bool). cond b (Some more) None) (le-leb (length old.world.output + length bytes) old.world.limits.out fits)

    by_result : (r : Result (Unit {0}) LimitKind) → Charges (printed old.world bytes) Out old r new → HasPrinted old new bytes
    by_result (Ok done) charges = record { world = sym (same_Some more new.world (sym test ∙ charges.0)); room = charges.1 }
    by_result (Err limit) charges = let e = charges.0 in absurd (cc (e, test))
