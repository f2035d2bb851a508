-- Rows that change nothing, and values that are there.
use Rattle.std.proofs.Common.{List, [], ◌∷◌, ℕ, zero, suc, refl, arith, All}
use Rattle.std.specs.Prelude.{Result, Ok, Err}
use Rattle.ns_code.specs.declared.program.CodeProgram.{CodeProgram}
use Rattle.ns_world.specs.declared.value.Value.{Value}
use Rattle.ns_world.specs.declared.value.Value.TheVariants.{Nil, True, False, Int, Sym, Kernel, Ref}
use Rattle.ns_world.specs.declared.ending.Fault.{Fault}
use Rattle.ns_world.specs.Heap.{Heap}
use Rattle.ns_world.specs.World.{WorldView}
use Rattle.ns_world.specs.Lawful.{IsLive}
use Rattle.ns_kdata.specs.Outcome.{Gives, unchanged}
use Rattle.ns_kdata.specs.Arguments.{CellIsThere, argument}

-- what a row answers that changes nothing is its outcome
pub gives_unchanged : (view : WorldView) (r : Result Value Fault) → Gives (unchanged view.world r) view r view
gives_unchanged view (Ok value) = (refl, refl, (refl, refl))
gives_unchanged view (Err fault) = (refl, refl)

-- a live value is there
pub live_there : (heap : Heap) (code : CodeProgram) (value : Value) → IsLive heap code value → CellIsThere heap value
live_there heap code (Ref at) live = live
live_there heap code Nil live = tt
live_there heap code True live = tt
live_there heap code False live = tt
live_there heap code (Int number) live = tt
live_there heap code (Sym sel) live = tt
live_there heap code (Kernel class) live = tt

-- and so is each argument
pub argument_there : (heap : Heap) (code : CodeProgram) (args : List Value) (place : ℕ) → All (IsLive heap code) args →
    CellIsThere heap (argument args place)
argument_there heap code [] place live = tt
argument_there heap code (value ∷ args) zero live = live_there heap code value (live 0 value (omega arith))
argument_there heap code (value ∷ args) (suc place) live = argument_there heap code args place (λ k d h. live (suc k) d (omega (arith, h)))
