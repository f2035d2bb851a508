-- What was read onto cells that were made was read.
use Rattle.std.proofs.Common.{◌≡◌, List, ℕ, refl}
use Rattle.ns_image.specs.declared.fault.Fault.{Fault}
use Rattle.ns_image.specs.declared.fault.Fault.TheVariants as fault
use Rattle.ns_image.specs.Read.{Outcome, got, truncated, bad, and_then, given}
use Rattle.ns_image.specs.Reads.{FailsReading}
use Rattle.ns_frozen.specs.declared.cell.CellData.{CellData}
use Rattle.ns_frozen.specs.Heads.{MadeCells, with_cell}

-- A cell was read, and put behind those that were made.
pub record ReadsOnto (before after : MadeCells) (outcome : Outcome CellData) (rest : List ℕ) : Type 0 where
  pub cell : CellData
  pub read : outcome ≡ got cell rest
  pub put : after ≡ with_cell cell before

pub reads_onto : (before after : MadeCells) (outcome : Outcome CellData) (rest : List ℕ)
    → and_then outcome (λ cell. given (with_cell cell before)) ≡ got after rest → ReadsOnto before after outcome rest
reads_onto before after (got cell left) rest e = record { cell = cell; read = cc; put = cc }
reads_onto before after truncated rest e = absurd (cc)
reads_onto before after (bad left) rest e = absurd (cc)

-- what can't be read onto cells can't be read
pub fails_onto : (before : MadeCells) (outcome : Outcome CellData) (fault : Fault)
    → FailsReading (and_then outcome (λ cell. given (with_cell cell before))) fault → FailsReading outcome fault
fails_onto before outcome fault.Memory h = tt
fails_onto before (got cell left) fault.Truncated h = absurd (cc)
fails_onto before truncated fault.Truncated h = refl
fails_onto before (bad left) fault.Truncated h = absurd (cc)
fails_onto before (got cell left) (fault.Bad at) h = absurd (cc)
fails_onto before truncated (fault.Bad at) h = absurd (cc)
fails_onto before (bad left) (fault.Bad at) h = cc
