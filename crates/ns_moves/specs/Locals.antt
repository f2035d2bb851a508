-- When a local of running code can be read and stored.
use Rattle.std.specs.Prelude.{◌≡◌, ℕ, ◌-◌, ◌≤◌, ◌<◌, length, IsTrue, false, if◌then◌else◌}
use Rattle.ns_code.specs.declared.program.CodeProgram.{CodeProgram}
use Rattle.ns_world.specs.declared.value.Value.{Value}
use Rattle.ns_world.specs.Heap.{Heap, find_cell, words_at, cell_number}
use Rattle.ns_world.specs.Lawful.{is_environment}
use Rattle.ns_moves.specs.Control.{Activation}
use Rattle.ns_moves.specs.Bodies.{has_environment, is_beside, environment_out, environment_at}

-- The environments up to so many bodies out from one are there.
abbrev pub HasEnvironments : Heap → Value → ℕ → Type 0
HasEnvironments heap env hops = (k : ℕ) → k ≤ hops → IsTrue (is_environment (find_cell heap (cell_number (environment_out heap env k))))

-- how many environments out from that of running code the one of a local stands
abbrev pub environments_out : CodeProgram → ℕ → ℕ → ℕ
environments_out code body hops = if has_environment code body then hops else hops - 1

-- A local that doesn't stand beside running code is one of an environment, and that and those on the way are there.
pub record LocalIsReadable (heap : Heap) (code : CodeProgram) (activation : Activation) (hops place : ℕ) : Type 0 where
  pub way : is_beside code activation hops ≡ false → HasEnvironments heap activation.env (environments_out code activation.body hops)
  pub inside : is_beside code activation hops ≡ false → place < length (words_at heap (environment_at heap code activation hops))
