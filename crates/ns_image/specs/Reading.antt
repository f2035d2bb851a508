-- Readers of the parts of code, field by field.
use Rattle.std.specs.Prelude.{ℕ, zero, suc, ◌+◌, ◌-◌, nat_eq, ◌==◌, drop, Result, Ok, Err, List, [], ◌∷◌, ◌++◌, length, Bool, false, nat_lt}
use Rattle.std.specs.Prelude.{nat_le, not, ◌&&◌, if◌then◌else◌, Option, Some, None, slice_get}
use Rattle.std.specs.Option.{option_map_or}
use Rattle.std.specs.Str.{is_utf8}
use Rattle.std.specs.List.{starts_with}
use Rattle.ns_base.specs.Names.{has}
use Rattle.ns_base.specs.declared.place.Place.{Place}
use Rattle.ns_base.specs.declared.selector.Sel.{Sel}
use Rattle.ns_base.specs.Spelling.{is_identifier, is_selector, is_reserved}
use Rattle.ns_code.specs.declared.program.CodeProgram.{CodeProgram}
use Rattle.ns_code.specs.declared.class.ClassCode.{ClassCode}
use Rattle.ns_code.specs.declared.class.SlotCode.{SlotCode}
use Rattle.ns_code.specs.declared.class.NestedCode.{NestedCode}
use Rattle.ns_code.specs.declared.class.MethodCode.{MethodCode}
use Rattle.ns_code.specs.declared.body.BodyCode.{BodyCode}
use Rattle.ns_code.specs.declared.instruction.Instr.{Instr}
use Rattle.ns_code.specs.declared.instruction.Instr.TheVariants as i
use Rattle.ns_code.specs.Instructions.{carries_place}
use Rattle.ns_image.specs.declared.fault.ImageFault.{ImageFault}
use Rattle.ns_image.specs.declared.fault.ImageFault.TheVariants as f
use Rattle.ns_code.specs.LocalNames.{numbered_names}
use Rattle.ns_image.specs.Bytes.{mark}
use Rattle.ns_image.specs.Read.{Outcome, got, truncated, Reader, ◌>>=◌, given, pair, and_then, bad, checked, byte, half, word, byte_up_to, word_up_to, long, reference, flag, text, times, chained}

-- ---- texts

-- A file has a name, which is UTF-8.
abbrev pub is_file_name : List ℕ → Bool
is_file_name name = nat_lt 0 (length name) && is_utf8 name

abbrev pub file_name : Reader (List ℕ)
file_name = checked is_file_name text

-- A name has a selector's form, and no earlier name equals it.
abbrev pub is_new_name : List (List ℕ) → List ℕ → Bool
is_new_name earlier name = is_selector name && not (has earlier name)

abbrev pub name_after : List (List ℕ) → Reader (List ℕ)
name_after earlier = checked (is_new_name earlier) text

abbrev pub with_name : List (List ℕ) → List ℕ → List (List ℕ)
with_name earlier name = earlier ++ name ∷ []

abbrev pub is_local_name : List ℕ → Bool
is_local_name name = is_identifier name && not (is_reserved name)

abbrev pub local_name : Reader (List ℕ)
local_name = checked is_local_name text

-- ---- class records

abbrev pub selector : Reader Sel
selector = word >>= λ n. given (record { 0 = n })

-- 0 for public, 1 for protected, 2 for private
abbrev pub access : Reader ℕ
access = byte_up_to 2

unfoldable pub slot : Reader SlotCode
slot = do
  name ← selector
  access ← access
  mutable ← flag
  given (record { name = name; access = access; mutable = mutable })

unfoldable pub nested : Reader NestedCode
nested = do
  class ← word
  access ← access
  given (record { class = class; access = access })

unfoldable pub method : Reader MethodCode
method = do
  sel ← selector
  access ← access
  body ← word
  given (record { sel = sel; access = access; body = body })

-- items behind their count of two bytes, or of four bytes up to the greatest
abbrev pub counted_half : {A : Type 0} → Reader A → Reader (List A)
counted_half item = half >>= λ n. times n item

abbrev pub up_to : {A : Type 0} → ℕ → Reader A → Reader (List A)
up_to most item = word_up_to most >>= λ n. times n item

-- a class record with the methods of both sides, which follow it
unfoldable pub with_methods : ClassCode → Reader ClassCode
with_methods class = do
  methods ← counted_half method
  side_methods ← counted_half method
  given (record class { methods = methods; side_methods = side_methods })

-- a class record with the members that follow it
unfoldable pub with_members : ClassCode → Reader ClassCode
with_members class = do
  slots ← counted_half slot
  nested ← counted_half nested
  with_methods (record class { slots = slots; nested = nested })

-- what follows the parameters of a class record
unfoldable pub class_from_clause : Sel → Option ℕ → Sel → ℕ → Reader ClassCode
class_from_clause name outer factory params = do
  clause ← reference
  init ← word
  super_sel ← selector
  with_members (record {
    name = name;
    outer = outer;
    factory = factory;
    params = params;
    clause = clause;
    init = init;
    super_sel = super_sel;
    slots = [];
    nested = [];
    methods = [];
    side_methods = [];
  })

unfoldable pub class : Reader ClassCode
class = do
  name ← selector
  outer ← reference
  factory ← selector
  params ← byte
  class_from_clause name outer factory params

-- ---- instructions

-- what follows an instruction's code
pub data Operands : Type 0 where
  none : Instr → Operands
  one_byte : (ℕ → Instr) → Operands
  one_half : (ℕ → Instr) → Operands
  one_word : (ℕ → Instr) → Operands
  one_sel : (Sel → Instr) → Operands
  one_int : Operands
  two_bytes : (ℕ → ℕ → Instr) → Operands
  sending : (Sel → ℕ → Instr) → Operands
  sending_at : Operands

-- the instructions in the order of their codes, from 1 on
abbrev pub instructions : List Operands
instructions =
    none i.PushNil
    ∷ none i.PushTrue
    ∷ none i.PushFalse
    ∷ one_int
    ∷ one_sel i.PushSym
    ∷ one_word i.PushText
    ∷ none i.PushSelf
    ∷ one_byte i.PushOuter
    ∷ two_bytes i.PushLocal
    ∷ two_bytes i.StoreLocal
    ∷ one_word i.PushBlock
    ∷ one_byte i.MakeArray
    ∷ none i.Pop
    ∷ one_byte i.Pick
    ∷ sending i.Send
    ∷ sending i.SendInner
    ∷ sending_at
    ∷ sending i.SendSuper
    ∷ one_byte i.InitSuper
    ∷ one_half i.StoreSlot
    ∷ none i.Return
    ∷ none i.ReturnSelf
    ∷ none i.ReturnHome
    ∷ one_word i.Jump
    ∷ one_word i.JumpFalse
    ∷ one_word i.JumpTrue
    ∷ []

-- the operands of the instruction of that code
abbrev pub operands_of : ℕ → Option Operands
operands_of zero = None
operands_of (suc place) = slice_get instructions place

abbrev pub operands : Operands → Reader Instr
operands (none instr) = given instr
operands (one_byte instr) = byte >>= λ n. given (instr n)
operands (one_half instr) = half >>= λ n. given (instr n)
operands (one_word instr) = word >>= λ n. given (instr n)
operands (one_sel instr) = selector >>= λ s. given (instr s)
operands one_int = long >>= λ n. given (i.PushInt n)
operands (two_bytes instr) = pair byte byte >>= λ p. given (instr p.0 p.1)
operands (sending instr) = pair selector byte >>= λ p. given (instr p.0 p.1)
operands sending_at = pair byte (pair selector byte) >>= λ p. given (i.SendPrivate p.0 p.1.0 p.1.1)

-- what follows a code, which is bad where it is none; so many bytes were left where it stands
abbrev pub behind : ℕ → Option Operands → Reader Instr
behind left None rest = bad left
behind left (Some form) rest = operands form rest

unfoldable pub instr : Reader Instr
instr bytes = and_then (byte bytes) (λ code rest. behind (length bytes) (operands_of code) rest)

-- ---- bodies

-- what follows the parent in what both versions have of a body
unfoldable pub head_from_params : ℕ → ℕ → ℕ → Option ℕ → Reader BodyCode
head_from_params kind side class parent = do
  params ← byte
  locals ← byte
  environment ← flag
  height ← half
  instrs ← up_to 65536 instr
  given (record {
    kind = kind;
    side = side;
    class = class;
    parent = parent;
    params = params;
    locals = locals;
    environment = environment;
    height = height;
    instrs = instrs;
    places = [];
    local_names = [];
  })

-- what both versions have of a body
unfoldable pub head : Reader BodyCode
head = do
  kind ← byte_up_to 3
  side ← byte_up_to 1
  class ← word
  parent ← reference
  head_from_params kind side class parent

-- whether there is an instruction of that number, and it carries a place
abbrev pub is_carrier : List Instr → ℕ → Bool
is_carrier instrs number = option_map_or carries_place (slice_get instrs number) false

-- the number of an instruction that carries a place, and at least this one
abbrev pub carrier : List Instr → ℕ → Reader ℕ
carrier instrs least = checked (λ n. nat_le least n && is_carrier instrs n) word

abbrev pub file : ℕ → Reader ℕ
file files = checked (λ n. nat_lt n files) word

-- a line or a column, which are counted from 1
abbrev pub from_one : Reader ℕ
from_one = checked (λ n. nat_lt 0 n) word

unfoldable pub place : ℕ → List Instr → ℕ → Reader (ℕ × Place)
place files instrs least = do
  number ← carrier instrs least
  file ← file files
  line ← from_one
  col ← from_one
  given (number, record { file = file; line = line; col = col })

-- the least number of an instruction that the next place may have
abbrev pub behind_place : ℕ → ℕ × Place → ℕ
behind_place least place = place.0 + 1

-- Places stand in the order of their instructions.
abbrev pub places : ℕ → List Instr → Reader (List (ℕ × Place))
places files instrs = word >>= λ count. chained (place files instrs) behind_place count 0

-- a body with the places that follow it
unfoldable pub with_places : ℕ → BodyCode → Reader BodyCode
with_places files body = places files body.instrs >>= λ places. given (record body { places = places })

-- a body with the names of its locals and the places, which follow it
unfoldable pub with_local_names : ℕ → BodyCode → Reader BodyCode
with_local_names files body = times body.locals local_name >>= λ names. with_places files (record body { local_names = names })

unfoldable pub body : ℕ → Reader BodyCode
body files = head >>= with_local_names files

unfoldable pub old_body : Reader BodyCode
old_body = head >>= λ head. given (record head { local_names = numbered_names head.locals })

-- ---- programs

abbrev pub names : Reader (List (List ℕ))
names = word_up_to 65536 >>= λ count. chained name_after with_name count []

abbrev pub texts : Reader (List (List ℕ))
texts = word >>= λ count. times count text

-- a program with the classes and the bodies of a version, which follow it
unfoldable pub with_classes : Reader BodyCode → CodeProgram → Reader CodeProgram
with_classes body code = do
  classes ← up_to 4096 class
  bodies ← up_to 65536 body
  given (record code { classes = classes; bodies = bodies })

-- a program with these files and what follows them, with bodies of a version
unfoldable pub with_files : Reader BodyCode → List (List ℕ) → Reader CodeProgram
with_files body files = do
  names ← names
  texts ← texts
  with_classes body (record { files = files; names = names; texts = texts; classes = []; bodies = [] })

-- what follows a version
unfoldable pub program : Reader CodeProgram
program = up_to 17 file_name >>= λ files. with_files (body (length files)) files

unfoldable pub old_program : Reader CodeProgram
old_program = with_files old_body []

-- ---- images

-- the code, where no bytes follow
abbrev pub ended : CodeProgram → List ℕ → Result CodeProgram ImageFault
ended code [] = Ok code
ended code (b ∷ rest) = Err f.Trailing

-- the answer, of so many bytes
abbrev pub answer : ℕ → Outcome CodeProgram → Result CodeProgram ImageFault
answer size (got code rest) = ended code rest
answer size truncated = Err f.Truncated
answer size (bad left) = Err (f.BadField (size - left))

abbrev pub versioned : ℕ → Outcome ℕ → Result CodeProgram ImageFault
versioned size (got version rest) =
    if version == 1 then answer size (old_program rest) else if version == 2 then answer size (program rest) else Err f.BadVersion
versioned size truncated = Err f.Truncated
versioned size (bad left) = Err (f.BadField (size - left))

-- Reading goes from left to right, and the first fault that it meets is the answer.
unfoldable pub read_image : List ℕ → Result CodeProgram ImageFault
read_image bytes = if starts_with nat_eq bytes mark then versioned (length bytes) (half (drop 4 bytes)) else Err f.NotAnImage
