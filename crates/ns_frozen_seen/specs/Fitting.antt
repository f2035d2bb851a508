-- Which bodies environments fit.
use Rattle.std.specs.Prelude.{◌≡◌, ℕ, ◌<◌, List, length, get_or, slice_get, Some, true}
use Rattle.ns_code.specs.declared.program.CodeProgram.{CodeProgram}
use Rattle.ns_world.specs.declared.value.Value.TheVariants.{Ref}
use Rattle.ns_world.specs.Heap.{Heap}
use Rattle.ns_frozen.specs.Live.{fits_environment}

-- What stands at the place of an environment is the number of a body that it fits, where it is the number of any.
abbrev pub AreFitting : CodeProgram → Heap → List ℕ → List ℕ → Type 0
AreFitting code heap numbers kept =
    (place body : ℕ) → slice_get kept place ≡ Some body → body < length code.bodies
    → fits_environment (length code.bodies) code heap (Some body) (Ref (get_or numbers place 0)) ≡ true
