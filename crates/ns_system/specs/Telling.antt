-- What a process keeps of a fault, and what it tells of it.
use Rattle.std.specs.Prelude.{◌≡◌, ◌⊎◌, ℕ, ◌≤◌, List, Option, Some, None, Result, Ok, Err, IfSome}
use Rattle.ns_base.specs.Count.{Rose}
use Rattle.ns_base.specs.Sink.{WrotePrefix, with_bytes}
use Rattle.ns_base.specs.declared.shelf.ShelfFault.{ShelfFault}
use Rattle.ns_base.specs.declared.shelf.ShelfFault.TheVariants.{Missing, Failed, Memory}
use Rattle.ns_base.specs.declared.sink.SinkFailed.{SinkFailed}

-- The name that is kept is that of the file where this failed, unless no memory was found for it. Where it didn't fail, what was
-- kept before is kept.
abbrev pub KeepsName : {A : Type 0} → List ℕ → Result A ShelfFault → (old new : Option (List ℕ)) → Type 0
KeepsName name (Ok _) old new = new ≡ old
KeepsName name (Err Missing) old new = new ≡ old
KeepsName name (Err Failed) old new = IfSome new (λ kept. kept ≡ name)
KeepsName name (Err Memory) old new = new ≡ old

-- A sink, which shows its bytes and its count of faults so, took all of these bytes; or it took only the first, and counted a fault.
abbrev pub Took : {E : Type 0} → (E → Option (List ℕ)) → (E → ℕ) → List ℕ → (old new : E) → Type 0
Took written faults bytes old new =
    (written new ≡ with_bytes bytes (written old)) ⊎ (WrotePrefix bytes (written old) (written new) × Rose (faults old) (faults new))

-- The same, by what putting them answers.
abbrev pub Puts : {E : Type 0} → (E → Option (List ℕ)) → (E → ℕ) → List ℕ → Result (Unit {0}) SinkFailed → (old new : E) → Type 0
Puts written faults bytes (Ok _) old new = (written new ≡ with_bytes bytes (written old)) × (faults old ≤ faults new)
Puts written faults bytes (Err _) old new = WrotePrefix bytes (written old) (written new) × Rose (faults old) (faults new)

-- It was told this line, if there is one.
abbrev pub WasTold : {E : Type 0} → (E → Option (List ℕ)) → (E → ℕ) → Option (List ℕ) → (old new : E) → Type 0
WasTold written faults None old new = new ≡ old
WasTold written faults (Some line) old new = Took written faults line old new
