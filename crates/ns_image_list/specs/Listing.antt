-- The listing of code, line by line.
use Rattle.std.specs.Prelude.{ℕ, zero, suc, ◌+◌, List, [], ◌∷◌, ◌++◌, codes, decimal, map, slice_get}
use Rattle.std.specs.Option.{option_map_or}
use Rattle.std.specs.Fmt.{signed_decimal}
use Rattle.std.specs.List.{concat}
use Rattle.ns_code.specs.declared.program.CodeProgram.{CodeProgram}
use Rattle.ns_code.specs.declared.class.ClassCode.{ClassCode}
use Rattle.ns_code.specs.declared.body.BodyCode.{BodyCode}
use Rattle.ns_code.specs.declared.instruction.Instr.{Instr}
use Rattle.ns_code.specs.declared.instruction.Instr.TheVariants as i
use Rattle.ns_base.specs.Quoted.{quoted}

-- ---- operands

-- the name of that number, or a question mark where there is none
abbrev pub name_shown : CodeProgram → ℕ → List ℕ
name_shown code number = option_map_or (λ name. name) (slice_get code.names number) (codes "?")

-- the text of that number in quotes, or a question mark where there is none
abbrev pub text_shown : CodeProgram → ℕ → List ℕ
text_shown code number = option_map_or quoted (slice_get code.texts number) (codes "?")

-- all texts in quotes
abbrev pub all_quoted : CodeProgram → List (List ℕ)
all_quoted code = map quoted code.texts

-- operands, each behind a blank
abbrev pub number : ℕ → List ℕ
number n = 32 ∷ decimal n

abbrev pub selector : CodeProgram → ℕ → List ℕ
selector code sel = 32 ∷ name_shown code sel

-- an instruction's name and operands
abbrev pub instr_shown : CodeProgram → Instr → List ℕ
instr_shown code i.PushNil = codes "PushNil"
instr_shown code i.PushTrue = codes "PushTrue"
instr_shown code i.PushFalse = codes "PushFalse"
instr_shown code (i.PushInt n) = codes "PushInt" ++ 32 ∷ signed_decimal n
instr_shown code (i.PushSym sel) = codes "PushSym" ++ selector code sel.0
instr_shown code (i.PushText text) = codes "PushText" ++ 32 ∷ text_shown code text
instr_shown code i.PushSelf = codes "PushSelf"
instr_shown code (i.PushOuter level) = codes "PushOuter" ++ number level
instr_shown code (i.PushLocal hops index) = codes "PushLocal" ++ (number hops ++ number index)
instr_shown code (i.StoreLocal hops index) = codes "StoreLocal" ++ (number hops ++ number index)
instr_shown code (i.PushBlock body) = codes "PushBlock" ++ number body
instr_shown code (i.MakeArray n) = codes "MakeArray" ++ number n
instr_shown code i.Pop = codes "Pop"
instr_shown code (i.Pick k) = codes "Pick" ++ number k
instr_shown code (i.Send sel argc) = codes "Send" ++ (selector code sel.0 ++ number argc)
instr_shown code (i.SendInner sel argc) = codes "SendInner" ++ (selector code sel.0 ++ number argc)
instr_shown code (i.SendPrivate level sel argc) = codes "SendPrivate" ++ (number level ++ (selector code sel.0 ++ number argc))
instr_shown code (i.SendSuper sel argc) = codes "SendSuper" ++ (selector code sel.0 ++ number argc)
instr_shown code (i.InitSuper argc) = codes "InitSuper" ++ number argc
instr_shown code (i.StoreSlot slot) = codes "StoreSlot" ++ number slot
instr_shown code i.Return = codes "Return"
instr_shown code i.ReturnSelf = codes "ReturnSelf"
instr_shown code i.ReturnHome = codes "ReturnHome"
instr_shown code (i.Jump target) = codes "Jump" ++ number target
instr_shown code (i.JumpFalse target) = codes "JumpFalse" ++ number target
instr_shown code (i.JumpTrue target) = codes "JumpTrue" ++ number target

-- ---- lines

-- the lines of a list, each with its place in it, counted from a number on
abbrev pub numbered : {A : Type 0} → (ℕ → A → List ℕ) → ℕ → List A → List ℕ
numbered line from [] = []
numbered line from (x ∷ xs) = line from x ++ numbered line (from + 1) xs

abbrev pub class_line : CodeProgram → ℕ → ClassCode → List ℕ
class_line code place class = concat (codes "class" ∷ number place ∷ selector code class.name.0 ∷ codes "\n" ∷ [])

abbrev pub local_line : ℕ → List ℕ → List ℕ
local_line place name = concat (codes "  local" ∷ number place ∷ codes " " ∷ name ∷ codes "\n" ∷ [])

abbrev pub instr_line : CodeProgram → ℕ → Instr → List ℕ
instr_line code place instr = concat (codes " " ∷ number place ∷ codes " " ∷ instr_shown code instr ∷ codes "\n" ∷ [])

-- 0 is a method, 1 a block, 2 an initialiser and 3 a clause
abbrev pub kind_shown : ℕ → List ℕ
kind_shown zero = codes "method"
kind_shown (suc zero) = codes "block"
kind_shown (suc (suc zero)) = codes "init"
kind_shown (suc (suc (suc kind))) = codes "clause"

abbrev pub body_numbers : BodyCode → List ℕ
body_numbers body = concat (codes " class" ∷ number body.class ∷ codes " params" ∷ number body.params ∷ codes " locals" ∷ number body.locals ∷ codes "\n" ∷ [])

abbrev pub body_line : ℕ → BodyCode → List ℕ
body_line place body = concat (codes "body" ∷ number place ∷ codes " " ∷ kind_shown body.kind ∷ body_numbers body ∷ [])

-- a body's line, a line for each local, and a line for each instruction
abbrev pub body_lines : CodeProgram → ℕ → BodyCode → List ℕ
body_lines code place body = body_line place body ++ (numbered local_line 0 body.local_names ++ numbered (instr_line code) 0 body.instrs)

-- a line for each class, and then the lines of the bodies
abbrev pub listing : CodeProgram → List ℕ
listing code = numbered (class_line code) 0 code.classes ++ numbered (body_lines code) 0 code.bodies
