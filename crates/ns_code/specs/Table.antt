-- What each instruction does with operands, and where it goes on.
use Rattle.std.specs.Prelude.{ℕ, ◌+◌, ◌-◌, Bool, true, false, Option, Some, None, ◌==◌, not}
use Rattle.ns_code.specs.declared.instruction.Instr.{Instr}
use Rattle.ns_code.specs.declared.instruction.Instr.TheVariants.{StoreLocal, MakeArray, Pop, Pick, Send, SendInner, SendPrivate, SendSuper}
use Rattle.ns_code.specs.declared.instruction.Instr.TheVariants.{InitSuper, StoreSlot, Return, ReturnSelf, ReturnHome, Jump, JumpFalse, JumpTrue}

-- how many operands it takes or reads
abbrev pub takes : Instr → ℕ
takes (StoreLocal hops index) = 1
takes (MakeArray n) = n
takes Pop = 1
takes (Pick k) = k + 1
takes (Send sel argc) = argc + 1
takes (SendInner sel argc) = argc + 1
takes (SendPrivate level sel argc) = argc
takes (SendSuper sel argc) = argc
takes (InitSuper argc) = argc
takes (StoreSlot slot) = 1
takes Return = 1
takes ReturnHome = 1
takes (JumpFalse target) = 1
takes (JumpTrue target) = 1
takes _ = 0

-- how many it leaves in their stead; what is only read is left again
abbrev pub leaves : Instr → ℕ
leaves (Pick k) = k + 2
leaves Pop = 0
leaves (InitSuper argc) = 0
leaves (StoreSlot slot) = 0
leaves Return = 0
leaves ReturnSelf = 0
leaves ReturnHome = 0
leaves (Jump target) = 0
leaves (JumpFalse target) = 0
leaves (JumpTrue target) = 0
leaves _ = 1

-- the height after it, from the height before
abbrev pub height_after : Instr → ℕ → ℕ
height_after instr height = height - takes instr + leaves instr

-- where it may jump to
abbrev pub target : Instr → Option ℕ
target (Jump at) = Some at
target (JumpFalse at) = Some at
target (JumpTrue at) = Some at
target _ = None

-- whether it may go on to the next one
abbrev pub goes_on : Instr → Bool
goes_on Return = false
goes_on ReturnSelf = false
goes_on ReturnHome = false
goes_on (Jump at) = false
goes_on _ = true

-- whether it ends its frame at a height at which no frame may end
abbrev pub ends_wrongly : Instr → ℕ → Bool
ends_wrongly Return height = not (height == 1)
ends_wrongly ReturnHome height = not (height == 1)
ends_wrongly ReturnSelf height = not (height == 0)
ends_wrongly _ height = false

-- whether it begins a superclass part
abbrev pub starts_super : Instr → Bool
starts_super (InitSuper argc) = true
starts_super _ = false
