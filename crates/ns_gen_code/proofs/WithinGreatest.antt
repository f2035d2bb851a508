-- No height of a body's instructions is above the one that its head has.
use Rattle.std.proofs.Common.{◌≤◌, ℕ, List, [], ◌∷◌, arith}
use Rattle.std.proofs.Math.Nat.{le-max_left, le-max_right}
use Rattle.ns_code.specs.declared.instruction.Instr.{Instr}
use Rattle.ns_gen_code.specs.Code.{height_before_next, greatest_height}
use Rattle.ns_gen_code.specs.Stated.{Within}

at_most : (instrs : List Instr) (height greatest : ℕ) → greatest_height height instrs ≤ greatest → Within greatest height instrs
at_most [] height greatest h = h
at_most (instr ∷ instrs) height greatest h =
    let rest = greatest_height (height_before_next instr height) instrs in
    (omega (h, le-max_left height rest, arith), at_most instrs (height_before_next instr height) greatest (omega (h, le-max_right height rest, arith)))

pub within_greatest : (instrs : List Instr) (height : ℕ) → Within (greatest_height height instrs) height instrs
within_greatest instrs height = at_most instrs height (greatest_height height instrs) (omega arith)
