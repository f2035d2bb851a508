-- Soundness place by place: what holds at each class and at each instruction of sound code.
use Rattle.std.specs.Prelude.{◌≡◌, ℕ, zero, suc, ◌+◌, ◌≤◌, ◌<◌, List, [], ◌∷◌, length, Some, None, slice_get, true, false}
use Rattle.std.specs.List.{slice_index_or}
use Rattle.ns_code.specs.declared.program.CodeProgram.{CodeProgram}
use Rattle.ns_code.specs.declared.class.ClassCode.{ClassCode}
use Rattle.ns_code.specs.declared.body.BodyCode.{BodyCode}
use Rattle.ns_code.specs.declared.instruction.Instr.{Instr}
use Rattle.ns_code.specs.Table.{takes, height_after, target, goes_on, ends_wrongly}
use Rattle.ns_verify.specs.Heights.{Pass, begin, next, height_at}
use Rattle.ns_verify.specs.Chains.{home_kinds}
use Rattle.ns_verify.specs.Causes.{cause_at}
use Rattle.ns_verify.specs.Verify.{class_cause}

-- what the pass knows so many instructions on
abbrev pub pass_on : Pass → ℕ → List Instr → ℕ → Pass
pass_on pass number instrs zero = pass
pass_on pass number [] (suc on) = pass
pass_on pass number (instr ∷ instrs) (suc on) = pass_on (next pass number instr) (number + 1) instrs on

-- what the pass over a body knows before an instruction
abbrev pub pass_before : BodyCode → ℕ → Pass
pass_before body at = pass_on (begin (length body.instrs)) 0 body.instrs at

-- the height before an instruction of a body
abbrev pub height_before : BodyCode → ℕ → ℕ
height_before body at = height_at (pass_before body at) at

-- the kind of the outermost body around a body
abbrev pub home_of : CodeProgram → ℕ → BodyCode → ℕ
home_of code number body = slice_index_or (home_kinds code) number body.kind

-- There is a class, each body has an instruction, and no cause holds at any class or instruction.
pub record HasNoCause (code : CodeProgram) : Type 0 where
  pub some_class : 1 ≤ length code.classes
  pub classes : (number : ℕ) (class : ClassCode) → slice_get code.classes number ≡ Some class → class_cause code number class ≡ None
  pub some_instr : (number : ℕ) (body : BodyCode) → slice_get code.bodies number ≡ Some body → 1 ≤ length body.instrs
  pub instrs : (number at : ℕ) (body : BodyCode) (instr : Instr) →
      slice_get code.bodies number ≡ Some body → slice_get body.instrs at ≡ Some instr →
      cause_at code number body (home_of code number body) (pass_before body at) at instr ≡ None

-- An instruction has as many operands as it takes, and no more than the body's height. The next one,
-- if it goes on, is there, and it and the target have the height after it. Where it ends its frame, nothing
-- stands on the operands but what it gives.
pub record HeightsAgree (body : BodyCode) (at : ℕ) (instr : Instr) : Type 0 where
  pub enough : takes instr ≤ height_before body at
  pub within : height_before body at ≤ body.height
  pub next_there : goes_on instr ≡ true → at + 1 < length body.instrs
  pub next : goes_on instr ≡ true → height_before body (at + 1) ≡ height_after instr (height_before body at)
  pub target_there : (to : ℕ) → target instr ≡ Some to → to < length body.instrs
  pub target : (to : ℕ) → target instr ≡ Some to → height_before body to ≡ height_after instr (height_before body at)
  pub ends : ends_wrongly instr (height_before body at) ≡ false
