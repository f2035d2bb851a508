-- A call of which there is a status was well formed, so it ended as it says, and without a fault.
use Rattle.std.proofs.Common.{◌≡◌, ℕ, Bool, true, false, List, Some, None, is_some, ap}
use Rattle.std.proofs.lemmas.Bool.{true≢false}
use Rattle.std.specs.Bool.{OnFalse, OnTrue}
use Rattle.ns_base.specs.Status.{exit_code}
use Rattle.ns_base.specs.declared.status.Status.{Status}
use Rattle.ns_opened.specs.Host.{EndsWithoutFault, IsNoFault}
use Rattle.ns_reply.specs.declared.room.Told.{Told}

pub without_fault : (is_good : Bool) (How : Status → (old new : List ℕ) → Told → Type 0) → EndsWithoutFault How → (status : Status) (result : ℕ) (old new : List ℕ)
    (told : Told) (Nothing : Type 0) → result ≡ exit_code status → OnTrue is_good (How status old new told)
    → OnFalse is_good ((Some status ≡ None) × Nothing) → IsNoFault result
without_fault true How law status result old new told Nothing number ends never = law result old new told (status, number, ends)
without_fault false How law status result old new told Nothing number ends never = absurd (true≢false (ap is_some never.0))
