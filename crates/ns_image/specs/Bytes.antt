-- The layout of an image, field by field. Numbers are big-endian; a list has its count before it.
use Rattle.std.specs.Prelude.{ℕ, ℤ, ◌+◌, ◌∷◌, ◌++◌, [], List, Option, Some, None, Bool, if◌then◌else◌, length, map, codes}
use Rattle.std.specs.Int.{w8, w16, w32, w64, to_be_bytes, cast_unsigned}
use Rattle.std.specs.List.{concat, flat_map}
use Rattle.ns_base.specs.declared.place.Place.{Place}
use Rattle.ns_code.specs.declared.program.CodeProgram.{CodeProgram}
use Rattle.ns_code.specs.declared.class.ClassCode.{ClassCode}
use Rattle.ns_code.specs.declared.class.SlotCode.{SlotCode}
use Rattle.ns_code.specs.declared.class.NestedCode.{NestedCode}
use Rattle.ns_code.specs.declared.class.MethodCode.{MethodCode}
use Rattle.ns_code.specs.declared.body.BodyCode.{BodyCode}
use Rattle.ns_code.specs.LocalNames.{numbered_names}
use Rattle.ns_code.specs.declared.instruction.Instr.{Instr}
use Rattle.ns_code.specs.declared.instruction.Instr.TheVariants as i

-- numbers of one, two and four bytes
abbrev pub byte : ℕ → List ℕ
byte = to_be_bytes w8

abbrev pub half : ℕ → List ℕ
half = to_be_bytes w16

abbrev pub word : ℕ → List ℕ
word = to_be_bytes w32

-- a signed number of eight bytes, in two's complement
abbrev pub long : ℤ → List ℕ
long n = to_be_bytes w64 (cast_unsigned w64 n)

-- 0 for none, or the number and 1
abbrev pub reference : Option ℕ → List ℕ
reference None = word 0
reference (Some n) = word (n + 1)

abbrev pub flag : Bool → List ℕ
flag is_set = byte (if is_set then 1 else 0)

-- a text behind its length
abbrev pub text : List ℕ → List ℕ
text bytes = word (length bytes) ++ bytes

-- items behind their count, of four or of two bytes
abbrev pub counted : {A : Type 0} → (A → List ℕ) → List A → List ℕ
counted item items = word (length items) ++ flat_map item items

abbrev pub counted_half : {A : Type 0} → (A → List ℕ) → List A → List ℕ
counted_half item items = half (length items) ++ flat_map item items

-- ---- class records

abbrev pub slot : SlotCode → List ℕ
slot s = concat (word s.name.0 ∷ byte s.access ∷ flag s.mutable ∷ [])

abbrev pub nested : NestedCode → List ℕ
nested n = concat (word n.class ∷ byte n.access ∷ [])

abbrev pub method : MethodCode → List ℕ
method m = concat (word m.sel.0 ∷ byte m.access ∷ word m.body ∷ [])

-- the single fields, and the members behind them
abbrev pub class_fields : ClassCode → List ℕ
class_fields c =
    concat
    (word c.name.0
    ∷ reference c.outer
    ∷ word c.factory.0
    ∷ byte c.params
    ∷ reference c.clause
    ∷ word c.init
    ∷ word c.super_sel.0
    ∷ [])

abbrev pub members : ClassCode → List ℕ
members c =
    concat
    (counted_half slot c.slots
    ∷ counted_half nested c.nested
    ∷ counted_half method c.methods
    ∷ counted_half method c.side_methods
    ∷ [])

abbrev pub class : ClassCode → List ℕ
class c = class_fields c ++ members c

-- ---- instructions: a code, and the operands

abbrev pub instr : Instr → List ℕ
instr i.PushNil = byte 1
instr i.PushTrue = byte 2
instr i.PushFalse = byte 3
instr (i.PushInt n) = byte 4 ++ long n
instr (i.PushSym sel) = byte 5 ++ word sel.0
instr (i.PushText number) = byte 6 ++ word number
instr i.PushSelf = byte 7
instr (i.PushOuter level) = byte 8 ++ byte level
instr (i.PushLocal hops index) = byte 9 ++ (byte hops ++ byte index)
instr (i.StoreLocal hops index) = byte 10 ++ (byte hops ++ byte index)
instr (i.PushBlock body) = byte 11 ++ word body
instr (i.MakeArray n) = byte 12 ++ byte n
instr i.Pop = byte 13
instr (i.Pick k) = byte 14 ++ byte k
instr (i.Send sel argc) = byte 15 ++ (word sel.0 ++ byte argc)
instr (i.SendInner sel argc) = byte 16 ++ (word sel.0 ++ byte argc)
instr (i.SendPrivate level sel argc) = byte 17 ++ (byte level ++ (word sel.0 ++ byte argc))
instr (i.SendSuper sel argc) = byte 18 ++ (word sel.0 ++ byte argc)
instr (i.InitSuper argc) = byte 19 ++ byte argc
instr (i.StoreSlot slot) = byte 20 ++ half slot
instr i.Return = byte 21
instr i.ReturnSelf = byte 22
instr i.ReturnHome = byte 23
instr (i.Jump target) = byte 24 ++ word target
instr (i.JumpFalse target) = byte 25 ++ word target
instr (i.JumpTrue target) = byte 26 ++ word target

-- ---- bodies

-- a place, behind the number of its instruction
abbrev pub place : ℕ × Place → List ℕ
place p = concat (word p.0 ∷ word p.1.file ∷ word p.1.line ∷ word p.1.col ∷ [])

abbrev pub body_fields : BodyCode → List ℕ
body_fields b =
    concat
    (byte b.kind
    ∷ byte b.side
    ∷ word b.class
    ∷ reference b.parent
    ∷ byte b.params
    ∷ byte b.locals
    ∷ flag b.environment
    ∷ half b.height
    ∷ [])

-- what version 1 has of a body
abbrev pub old_body : BodyCode → List ℕ
old_body b = body_fields b ++ counted instr b.instrs

-- The names of the locals have no count before them, since the body says it.
abbrev pub body : BodyCode → List ℕ
body b = old_body b ++ (flat_map text b.local_names ++ counted place b.places)

-- ---- whole images

abbrev pub mark : List ℕ
mark = codes "NSPK"

-- what follows the version, in version 2 and in version 1
abbrev pub program : CodeProgram → List ℕ
program code =
    concat
    (counted text code.files
    ∷ counted text code.names
    ∷ counted text code.texts
    ∷ counted class code.classes
    ∷ counted body code.bodies
    ∷ [])

abbrev pub old_program : CodeProgram → List ℕ
old_program code =
    concat
    (counted text code.names
    ∷ counted text code.texts
    ∷ counted class code.classes
    ∷ counted old_body code.bodies
    ∷ [])

-- the image of code in version 2, which is written
abbrev pub bytes_of : CodeProgram → List ℕ
bytes_of code = mark ++ (half 2 ++ program code)

-- the image of code in version 1, which leaves out files, local names and places
abbrev pub old_bytes_of : CodeProgram → List ℕ
old_bytes_of code = mark ++ (half 1 ++ old_program code)

-- a body without places, whose locals have numbers for names
abbrev pub bare_body : BodyCode → BodyCode
bare_body b = record b { places = []; local_names = numbered_names b.locals }

-- the code that version 1 can say
abbrev pub bare : CodeProgram → CodeProgram
bare code = record code { files = []; bodies = map bare_body code.bodies }
