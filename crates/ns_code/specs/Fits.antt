-- Which code has an image: each number fits its field, and each field is one that an image may hold.
use Rattle.std.specs.Prelude.{◌≡◌, ◌≢◌, ℕ, ◌-◌, ◌<◌, ◌≤◌, ◌^◌, List, length, All, IsTrue, not, ◌&&◌, FitsSigned}
use Rattle.std.specs.Option.{ForSome}
use Rattle.std.specs.List.{AllPairs, slice_index_or}
use Rattle.std.specs.Str.{IsUtf8}
use Rattle.std.specs.Int.{w64}
use Rattle.ns_base.specs.declared.place.Place.{Place}
use Rattle.ns_base.specs.Spelling.{is_identifier, is_selector, is_reserved}
use Rattle.ns_code.specs.declared.program.CodeProgram.{CodeProgram}
use Rattle.ns_code.specs.declared.class.ClassCode.{ClassCode}
use Rattle.ns_code.specs.declared.class.SlotCode.{SlotCode}
use Rattle.ns_code.specs.declared.class.NestedCode.{NestedCode}
use Rattle.ns_code.specs.declared.class.MethodCode.{MethodCode}
use Rattle.ns_code.specs.declared.body.BodyCode.{BodyCode}
use Rattle.ns_code.specs.declared.instruction.Instr.{Instr}
use Rattle.ns_code.specs.declared.instruction.Instr.TheVariants.{PushInt, PushSym, PushText, PushOuter, PushLocal, StoreLocal, PushBlock}
use Rattle.ns_code.specs.declared.instruction.Instr.TheVariants.{MakeArray, Pick, Send, SendInner, SendPrivate, SendSuper, InitSuper, StoreSlot}
use Rattle.ns_code.specs.declared.instruction.Instr.TheVariants.{Jump, JumpFalse, JumpTrue}
use Rattle.ns_code.specs.Instructions.{carries_place}

-- a number of one, two or four bytes
abbrev pub IsByte : ℕ → Type 0
IsByte n = n < 2 ^ 8

abbrev pub IsHalf : ℕ → Type 0
IsHalf n = n < 2 ^ 16

abbrev pub IsWord : ℕ → Type 0
IsWord n = n < 2 ^ 32

-- 0 for public, 1 for protected, 2 for private
abbrev pub IsAccess : ℕ → Type 0
IsAccess access = access ≤ 2

-- A text's length fits its field.
abbrev pub IsShort : List ℕ → Type 0
IsShort text = IsWord (length text)

-- a file's name: text, and not empty
pub record IsFileName (name : List ℕ) : Type 0 where
  pub short : IsShort name
  pub some : 1 ≤ length name
  pub utf8 : IsUtf8 name

-- a name: of a selector's form
pub record IsName (name : List ℕ) : Type 0 where
  pub short : IsShort name
  pub spelled : IsTrue (is_selector name)

-- a local's name: an identifier that isn't reserved
pub record IsLocalName (name : List ℕ) : Type 0 where
  pub short : IsShort name
  pub spelled : IsTrue (is_identifier name && not (is_reserved name))

pub record SlotFits (slot : SlotCode) : Type 0 where
  pub name : IsWord slot.name.0
  pub access : IsAccess slot.access

pub record NestedFits (nested : NestedCode) : Type 0 where
  pub class : IsWord nested.class
  pub access : IsAccess nested.access

pub record MethodFits (method : MethodCode) : Type 0 where
  pub sel : IsWord method.sel.0
  pub access : IsAccess method.access
  pub body : IsWord method.body

-- A class record's numbers fit their fields; an optional number has one value less.
pub record ClassFits (class : ClassCode) : Type 0 where
  pub name : IsWord class.name.0
  pub outer : ForSome class.outer (λ k. k < 2 ^ 32 - 1)
  pub factory : IsWord class.factory.0
  pub params : IsByte class.params
  pub clause : ForSome class.clause (λ k. k < 2 ^ 32 - 1)
  pub init : IsWord class.init
  pub super_sel : IsWord class.super_sel.0
  pub slot_count : IsHalf (length class.slots)
  pub slots : All SlotFits class.slots
  pub nested_count : IsHalf (length class.nested)
  pub nested : All NestedFits class.nested
  pub method_count : IsHalf (length class.methods)
  pub methods : All MethodFits class.methods
  pub side_method_count : IsHalf (length class.side_methods)
  pub side_methods : All MethodFits class.side_methods

-- The operands of an instruction fit their fields.
abbrev pub InstrFits : Instr → Type 0
InstrFits (PushInt n) = FitsSigned w64 n
InstrFits (PushSym sel) = IsWord sel.0
InstrFits (PushText text) = IsWord text
InstrFits (PushOuter level) = IsByte level
InstrFits (PushLocal hops index) = IsByte hops × IsByte index
InstrFits (StoreLocal hops index) = IsByte hops × IsByte index
InstrFits (PushBlock body) = IsWord body
InstrFits (MakeArray n) = IsByte n
InstrFits (Pick k) = IsByte k
InstrFits (Send sel argc) = IsWord sel.0 × IsByte argc
InstrFits (SendInner sel argc) = IsWord sel.0 × IsByte argc
InstrFits (SendPrivate level sel argc) = IsByte level × IsWord sel.0 × IsByte argc
InstrFits (SendSuper sel argc) = IsWord sel.0 × IsByte argc
InstrFits (InitSuper argc) = IsByte argc
InstrFits (StoreSlot slot) = IsHalf slot
InstrFits (Jump target) = IsWord target
InstrFits (JumpFalse target) = IsWord target
InstrFits (JumpTrue target) = IsWord target
InstrFits _ = Unit {0}

-- One place belongs to an instruction that carries one, in a file that is there.
pub record PlaceFits (code : CodeProgram) (body : BodyCode) (place : ℕ × Place) : Type 0 where
  pub instr : place.0 < length body.instrs
  pub carries : (d : Instr) → IsTrue (carries_place (slice_index_or body.instrs place.0 d))
  pub file : place.1.file < length code.files
  pub line : (1 ≤ place.1.line) × IsWord place.1.line
  pub col : (1 ≤ place.1.col) × IsWord place.1.col

-- A body's numbers fit their fields, and it has a name for each of its locals.
pub record BodyFits (code : CodeProgram) (body : BodyCode) : Type 0 where
  pub kind : body.kind ≤ 3
  pub side : body.side ≤ 1
  pub class : IsWord body.class
  pub parent : ForSome body.parent (λ k. k < 2 ^ 32 - 1)
  pub params : IsByte body.params
  pub locals : IsByte body.locals
  pub height : IsHalf body.height
  pub instr_count : length body.instrs ≤ 65536
  pub instrs : All InstrFits body.instrs
  pub name_count : length body.local_names ≡ body.locals
  pub local_names : All IsLocalName body.local_names
  pub place_count : IsWord (length body.places)
  pub places : All (PlaceFits code body) body.places
  pub places_in_order : AllPairs (λ a b. a.0 < b.0) body.places

-- Each number of the code fits its field, and each field is one that an image may hold.
pub record Fits (code : CodeProgram) : Type 0 where
  pub file_count : length code.files ≤ 17
  pub files : All IsFileName code.files
  pub name_count : length code.names ≤ 65536
  pub names : All IsName code.names
  pub names_differ : AllPairs (λ a b. a ≢ b) code.names
  pub text_count : IsWord (length code.texts)
  pub texts : All IsShort code.texts
  pub class_count : length code.classes ≤ 4096
  pub classes : All ClassFits code.classes
  pub body_count : length code.bodies ≤ 65536
  pub bodies : All (BodyFits code) code.bodies
