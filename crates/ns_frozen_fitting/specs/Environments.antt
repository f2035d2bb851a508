-- One step outwards, from a body and its environment to those around them.
use Rattle.std.specs.Prelude.{ℕ, List, length, slice_get, Option, Some, None, ◌==◌, option_and_then, if◌then◌else◌}
use Rattle.ns_code.specs.declared.program.CodeProgram.{CodeProgram}
use Rattle.ns_code.specs.declared.body.BodyCode.{BodyCode}
use Rattle.ns_world.specs.declared.value.Value.{Value}
use Rattle.ns_world.specs.declared.value.Value.TheVariants.{Ref}
use Rattle.ns_world.specs.Heap.{Heap, find_cell}
use Rattle.ns_world.specs.Lawful.{environment_in}

-- from a body and an environment with that parent and so many locals
abbrev pub around_with : CodeProgram → ℕ → Value → ℕ → Option (Option ℕ × Value)
around_with code body parent locals =
    option_and_then (λ (b : BodyCode). if locals == b.locals then Some (b.parent, parent) else None) (slice_get code.bodies body)

-- from an environment, where there is one
abbrev pub around_in : CodeProgram → ℕ → Option (Value × List Value) → Option (Option ℕ × Value)
around_in code body env = option_and_then (λ (e : Value × List Value). around_with code body e.0 (length e.1)) env

-- from a body and a value, where that is an environment which fits
abbrev pub around : CodeProgram → Heap → ℕ → Value → Option (Option ℕ × Value)
around code heap body (Ref at) = around_in code body (environment_in (find_cell heap at))
around code heap body value = None
