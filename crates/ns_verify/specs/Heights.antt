-- The heights of a body's instructions: how many operands there are before each. They are found in
-- one pass from the first instruction to the last.
use Rattle.std.specs.Prelude.{ℕ, ◌+◌, List, [], ◌∷◌, length, replicate, slice_set, Bool, false, Option, Some, None, unwrap_or, ◌==◌, ◌||◌, not, if◌then◌else◌}
use Rattle.std.specs.Option.{is_none, option_map_or}
use Rattle.std.specs.List.{slice_index_or}
use Rattle.ns_code.specs.declared.instruction.Instr.{Instr}
use Rattle.ns_code.specs.declared.body.BodyCode.{BodyCode}
use Rattle.ns_code.specs.Table.{height_after, target, goes_on, starts_super}

-- what the pass knows before an instruction: the heights that instructions have or were given by jumps,
-- by their numbers; the height with which the one before goes on; whether a superclass part has begun
pub record Pass : Type 0 where
  pub known : List (Option ℕ)
  pub falls : Option ℕ
  pub started : Bool

-- before the first of so many instructions
abbrev pub begin : ℕ → Pass
begin count = record { known = replicate count None; falls = None; started = false }

-- the height that is known of an instruction
abbrev pub known_at : List (Option ℕ) → ℕ → Option ℕ
known_at known number = slice_index_or known number None

-- An instruction has the height that an earlier jump gave it, else that with which the one before
-- goes on, else 0.
abbrev pub height_at : Pass → ℕ → ℕ
height_at pass number = unwrap_or (known_at pass.known number) (unwrap_or pass.falls 0)

-- the heights with that of this instruction
abbrev pub with_own : Pass → ℕ → List (Option ℕ)
with_own pass number = slice_set pass.known number (Some (height_at pass number))

-- A height is given to an instruction; the first one stays.
abbrev pub give : List (Option ℕ) → ℕ → ℕ → List (Option ℕ)
give known number height = if is_none (known_at known number) then slice_set known number (Some height) else known

-- It is given to a target, if there is one.
abbrev pub give_target : List (Option ℕ) → Option ℕ → ℕ → List (Option ℕ)
give_target known target height = option_map_or (λ at. give known at height) target known

-- after an instruction, which gives the height after it to its target, and to the next one if it goes on
abbrev pub next : Pass → ℕ → Instr → Pass
next pass number instr =
    record {
      known = give_target (with_own pass number) (target instr) (height_after instr (height_at pass number));
      falls = if goes_on instr then Some (height_after instr (height_at pass number)) else None;
      started = pass.started || starts_super instr;
    }

-- whether a height that is known is another one
abbrev pub differs : Option ℕ → ℕ → Bool
differs known height = option_map_or (λ have. not (have == height)) known false

-- whether an instruction falls into one that an earlier jump gave another height
abbrev pub falls_apart : Pass → ℕ → Bool
falls_apart pass number = option_map_or (differs (known_at pass.known number)) pass.falls false

-- the height that is known of an instruction once this one has its own
abbrev pub known_beside : Pass → ℕ → ℕ → Option ℕ
known_beside pass number at = if at == number then Some (height_at pass number) else known_at pass.known at

-- whether it jumps to one that has another height
abbrev pub jumps_apart : Pass → ℕ → Instr → Bool
jumps_apart pass number instr =
    option_map_or (λ at. differs (known_beside pass number at) (height_after instr (height_at pass number))) (target instr) false

abbrev pub heights_from : Pass → ℕ → List Instr → List ℕ
heights_from pass number [] = []
heights_from pass number (instr ∷ instrs) = height_at pass number ∷ heights_from (next pass number instr) (number + 1) instrs

-- the heights before the instructions of a body
abbrev pub heights : BodyCode → List ℕ
heights body = heights_from (begin (length body.instrs)) 0 body.instrs
