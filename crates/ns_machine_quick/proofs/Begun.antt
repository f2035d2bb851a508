-- Arguments with which a method of the kernel begins.
use Rattle.std.proofs.Common.{List, [], ◌∷◌, ℕ, zero, suc, arith, All}
use Rattle.ns_code.specs.declared.program.CodeProgram.{CodeProgram}
use Rattle.ns_world.specs.declared.value.Value.{Value}
use Rattle.ns_world.specs.Heap.{Heap}
use Rattle.ns_world.specs.Lawful.{IsLiveValue}
use Rattle.ns_kdata.specs.Arguments.{CellIsThere, argument}

-- each of live ones is there, and so is nil, where there is none
pub argument_there : (heap : Heap) (code : CodeProgram) → ((value : Value) → IsLiveValue heap code value → CellIsThere heap value) →
    (values : List Value) (place : ℕ)
    → All (IsLiveValue heap code) values → CellIsThere heap (argument values place)
argument_there heap code law [] place live = tt
argument_there heap code law (value ∷ values) zero live = law value (live 0 value (omega arith))
argument_there heap code law (value ∷ values) (suc place) live =
    argument_there heap code law values place (λ k d h. live (suc k) d (omega (arith, h)))
