-- The greatest height of instructions, one by one.
use Rattle.std.proofs.Common.{◌≡◌, ◌<◌, ◌≤◌, ℕ, max, List, [], ◌∷◌, arith}
use Rattle.std.proofs.Math.Nat.{le-max_left}
use Rattle.ns_code.specs.declared.instruction.Instr.{Instr}
use Rattle.ns_gen_code.specs.Code.{height_before_next, greatest_height}

from_here : (instrs : List Instr) (height : ℕ) → height ≤ greatest_height height instrs
from_here [] height = omega arith
from_here (instr ∷ instrs) height = le-max_left height (greatest_height (height_before_next instr height) instrs)

-- a height above the limit, before instructions that are left
pub height_above : (instrs : List Instr) (greatest greatest' height limit whole : ℕ) →
    max greatest (greatest_height height instrs) ≡ whole →
    greatest' ≡ max greatest height → limit < greatest' → limit < whole
height_above instrs greatest greatest' height limit whole before one above = omega (before, one, above, from_here instrs height, arith)
