-- What a program is with the texts that a host hands over, by whether there are any.
use Rattle.std.proofs.Common.{◌≡◌, ℕ, Bool, List, Option, Some, true, false, ap, arith, sym}
use Rattle.std.proofs.lemmas.Bool.Decides.{nat_tests}
use Rattle.std.specs.Prelude.{◌==◌, if◌then◌else◌}
use Rattle.ns_handed.specs.declared.value.Hand.{Hand}
use Rattle.ns_machine.specs.Machine.{MachineView}
use Rattle.ns_opened.specs.Laid.{cells_behind, cells_used, frozen_with, program_at, with_texts}

abbrev by_test : List Hand → List ℕ → MachineView → Bool → Option MachineView
by_test hands texts machine none =
    if none then Some machine else program_at machine (frozen_with (cells_behind hands machine) hands texts machine)

pub nothing_laid : (hands : List Hand) (texts : List ℕ) (machine : MachineView) → (cells_behind hands machine == cells_used machine) ≡ true
    → Some machine ≡ with_texts hands texts machine
nothing_laid hands texts machine none = sym (ap (by_test hands texts machine) none)

pub texts_laid : (hands : List Hand) (texts : List ℕ) (machine : MachineView) → (cells_behind hands machine == cells_used machine) ≡ false
    → program_at machine (frozen_with (cells_behind hands machine) hands texts machine) ≡ with_texts hands texts machine
texts_laid hands texts machine some = sym (ap (by_test hands texts machine) some)

-- numbers that differ
pub differ : (n m : ℕ) → ¬ (n ≡ m) → (n == m) ≡ false
differ n m apart = grind (arith, nat_tests, apart)
