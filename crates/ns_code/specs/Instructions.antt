-- The instructions of a body as they are kept: the operation of each, and beside these the long operands in the order of the
-- instructions (this profile).
use Rattle.std.specs.Prelude.{ℕ, ◌+◌, ◌*◌, ◌/◌, ◌%◌, ℤ, pos, Bool, true, false, Option, Some, None, option_to_list, List, [], ◌∷◌, ◌++◌}
use Rattle.ns_code.specs.declared.instruction.Instr.{Instr}
use Rattle.ns_code.specs.declared.instruction.Instr.TheVariants as instr
use Rattle.ns_code.specs.declared.instructions.Operation.{Operation}
use Rattle.ns_code.specs.declared.instructions.Operation.TheVariants as op

-- an instruction but for its long operand
abbrev pub operation_of : Instr → Operation
operation_of instr.PushNil = op.PushNil
operation_of instr.PushTrue = op.PushTrue
operation_of instr.PushFalse = op.PushFalse
operation_of (instr.PushInt integer) = op.PushInt
operation_of (instr.PushSym sel) = op.PushSym
operation_of (instr.PushText text) = op.PushText
operation_of instr.PushSelf = op.PushSelf
operation_of (instr.PushOuter level) = op.PushOuter level
operation_of (instr.PushLocal hops index) = op.PushLocal hops index
operation_of (instr.StoreLocal hops index) = op.StoreLocal hops index
operation_of (instr.PushBlock body) = op.PushBlock
operation_of (instr.MakeArray count) = op.MakeArray count
operation_of instr.Pop = op.Pop
operation_of (instr.Pick number) = op.Pick number
operation_of (instr.Send sel argc) = op.Send argc
operation_of (instr.SendInner sel argc) = op.SendInner argc
operation_of (instr.SendPrivate level sel argc) = op.SendPrivate level argc
operation_of (instr.SendSuper sel argc) = op.SendSuper argc
operation_of (instr.InitSuper argc) = op.InitSuper argc
operation_of (instr.StoreSlot slot) = op.StoreSlot (slot / 256) (slot % 256)
operation_of instr.Return = op.Return
operation_of instr.ReturnSelf = op.ReturnSelf
operation_of instr.ReturnHome = op.ReturnHome
operation_of (instr.Jump target) = op.Jump
operation_of (instr.JumpFalse target) = op.JumpFalse
operation_of (instr.JumpTrue target) = op.JumpTrue

-- its long operand, where that is the number of a name, a text, a body or an instruction
abbrev pub word_of : Instr → Option ℕ
word_of (instr.PushSym sel) = Some sel.0
word_of (instr.PushText text) = Some text
word_of (instr.PushBlock body) = Some body
word_of (instr.Send sel argc) = Some sel.0
word_of (instr.SendInner sel argc) = Some sel.0
word_of (instr.SendPrivate level sel argc) = Some sel.0
word_of (instr.SendSuper sel argc) = Some sel.0
word_of (instr.Jump target) = Some target
word_of (instr.JumpFalse target) = Some target
word_of (instr.JumpTrue target) = Some target
word_of other = None

-- its long operand, where that is an integer
abbrev pub integer_of : Instr → Option ℤ
integer_of (instr.PushInt integer) = Some integer
integer_of other = None

-- those of instructions, in their order
abbrev pub words_of : List Instr → List ℕ
words_of [] = []
words_of (instr ∷ instrs) = option_to_list (word_of instr) ++ words_of instrs

abbrev pub integers_of : List Instr → List ℤ
integers_of [] = []
integers_of (instr ∷ instrs) = option_to_list (integer_of instr) ++ integers_of instrs

-- whether an operation has a long operand of the first kind
abbrev pub has_word : Operation → Bool
has_word op.PushSym = true
has_word op.PushText = true
has_word op.PushBlock = true
has_word (op.Send argc) = true
has_word (op.SendInner argc) = true
has_word (op.SendPrivate level argc) = true
has_word (op.SendSuper argc) = true
has_word op.Jump = true
has_word op.JumpFalse = true
has_word op.JumpTrue = true
has_word other = false

-- whether it has one of the second
abbrev pub has_integer : Operation → Bool
has_integer op.PushInt = true
has_integer other = false

-- the instruction of an operation, whose long operand is the word or the integer
abbrev pub instr_of : Operation → ℕ → ℤ → Instr
instr_of op.PushNil word integer = instr.PushNil
instr_of op.PushTrue word integer = instr.PushTrue
instr_of op.PushFalse word integer = instr.PushFalse
instr_of op.PushInt word integer = instr.PushInt integer
instr_of op.PushSym word integer = instr.PushSym (record { 0 = word })
instr_of op.PushText word integer = instr.PushText word
instr_of op.PushSelf word integer = instr.PushSelf
instr_of (op.PushOuter level) word integer = instr.PushOuter level
instr_of (op.PushLocal hops index) word integer = instr.PushLocal hops index
instr_of (op.StoreLocal hops index) word integer = instr.StoreLocal hops index
instr_of op.PushBlock word integer = instr.PushBlock word
instr_of (op.MakeArray count) word integer = instr.MakeArray count
instr_of op.Pop word integer = instr.Pop
instr_of (op.Pick number) word integer = instr.Pick number
instr_of (op.Send argc) word integer = instr.Send (record { 0 = word }) argc
instr_of (op.SendInner argc) word integer = instr.SendInner (record { 0 = word }) argc
instr_of (op.SendPrivate level argc) word integer = instr.SendPrivate level (record { 0 = word }) argc
instr_of (op.SendSuper argc) word integer = instr.SendSuper (record { 0 = word }) argc
instr_of (op.InitSuper argc) word integer = instr.InitSuper argc
instr_of (op.StoreSlot high low) word integer = instr.StoreSlot (high * 256 + low)
instr_of op.Return word integer = instr.Return
instr_of op.ReturnSelf word integer = instr.ReturnSelf
instr_of op.ReturnHome word integer = instr.ReturnHome
instr_of op.Jump word integer = instr.Jump word
instr_of op.JumpFalse word integer = instr.JumpFalse word
instr_of op.JumpTrue word integer = instr.JumpTrue word

-- whether an instruction carries a place: a send, or the start of a superclass part
abbrev pub carries_place : Instr → Bool
carries_place (instr.Send sel argc) = true
carries_place (instr.SendInner sel argc) = true
carries_place (instr.SendPrivate level sel argc) = true
carries_place (instr.SendSuper sel argc) = true
carries_place (instr.InitSuper argc) = true
carries_place _ = false

-- whether an operation does
abbrev pub is_carrier : Operation → Bool
is_carrier (op.Send argc) = true
is_carrier (op.SendInner argc) = true
is_carrier (op.SendPrivate level argc) = true
is_carrier (op.SendSuper argc) = true
is_carrier (op.InitSuper argc) = true
is_carrier _ = false

-- the first operand that is left, or another where none is
abbrev pub first : {A : Type 0} → A → List A → A
first other [] = other
first other (operand ∷ operands) = operand

-- the operands that are left behind an operation, which has one or none of them
abbrev pub behind : {A : Type 0} → Bool → List A → List A
behind false operands = operands
behind true [] = []
behind true (operand ∷ operands) = operands

-- the instructions of operations and their long operands
abbrev pub united : List Operation → List ℕ → List ℤ → List Instr
united [] words integers = []
united (operation ∷ operations) words integers =
    instr_of operation (first 0 words) (first (pos 0) integers)
    ∷ united operations (behind (has_word operation) words) (behind (has_integer operation) integers)
