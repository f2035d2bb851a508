-- To which worlds outcomes lead, and which cells may be made on the way.
use Rattle.std.specs.Prelude.{Bool, true, false}
use Rattle.ns_world.specs.declared.cell.NewCell.{NewCell}
use Rattle.ns_world.specs.declared.cell.NewCell.TheVariants as new
use Rattle.ns_world.specs.World.{World}
use Rattle.ns_world.specs.Later.{IsLater}
use Rattle.ns_kdata.specs.Outcome.{RowOutcome, Answers, Fails}

-- Something holds of the world after an answer.
abbrev pub HoldsAfter : (World → Type 0) → RowOutcome → Type 0
HoldsAfter holds (Answers value world) = holds world
HoldsAfter holds (Fails fault) = Unit {0}

-- It is later in the run.
abbrev pub LeadsOn : World → RowOutcome → Type 0
LeadsOn world outcome = HoldsAfter (IsLater world) outcome

-- whether a cell is no facet, which the start of a run alone makes, and no block, which code alone makes
abbrev pub is_common : NewCell → Bool
is_common (new.Facet kind) = false
is_common (new.Block body env home receiver holder) = false
is_common (new.Object class words) = true
is_common (new.Class decl base encl holder over) = true
is_common (new.Environment parent locals) = true
is_common (new.Array size) = true
is_common (new.Text bytes) = true
is_common (new.Mirror mirrored) = true
is_common (new.Message sel args) = true
