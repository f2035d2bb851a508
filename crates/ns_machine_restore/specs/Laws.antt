-- What is said of what is read of snapshots by the laws about it.
use Rattle.std.specs.Prelude.{◌≡◌, ℕ, List, Ok}
use Rattle.ns_base.specs.Limits.{InRange}
use Rattle.ns_snapshot.specs.Snapshot.{read_data}
use Rattle.ns_snapshot.specs.declared.snapshot.Snapshot.{Snapshot}

-- The limits of a snapshot that is read are in their ranges.
abbrev pub LimitsAreRead : List ℕ → Type 0
LimitsAreRead bytes = (snapshot : Snapshot) → read_data bytes ≡ Ok snapshot → InRange snapshot.frozen.limits
