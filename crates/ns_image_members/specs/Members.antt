-- The listing of code with the members of its classes and the places of its sends, line by line.
use Rattle.std.specs.Prelude.{ℕ, zero, suc, Bool, true, false, List, [], ◌∷◌, ◌++◌, codes, decimal, flat_map, length, slice_get, nat_lt, Option, Some, None, if◌then◌else◌}
use Rattle.std.specs.Option.{option_map_or}
use Rattle.std.specs.List.{concat}
use Rattle.ns_base.specs.declared.place.Place.{Place}
use Rattle.ns_base.specs.declared.selector.Sel.{Sel}
use Rattle.ns_code.specs.declared.program.CodeProgram.{CodeProgram}
use Rattle.ns_code.specs.declared.class.ClassCode.{ClassCode}
use Rattle.ns_code.specs.declared.class.SlotCode.{SlotCode}
use Rattle.ns_code.specs.declared.class.NestedCode.{NestedCode}
use Rattle.ns_code.specs.declared.class.MethodCode.{MethodCode}
use Rattle.ns_code.specs.declared.body.BodyCode.{BodyCode}
use Rattle.ns_code.specs.declared.instruction.Instr.{Instr}
use Rattle.ns_image_list.specs.Listing.{selector, number, instr_shown, numbered, local_line, kind_shown}
use Rattle.ns_image_members.specs.Under.{first_under}
use Rattle.ns_image_members.specs.Named.{body_names}

-- ---- classes

-- a class by its number, or a question mark where there is none, behind a blank
abbrev pub class_number : CodeProgram → ℕ → List ℕ
class_number code class = if nat_lt class (length code.classes) then number class else codes " ?"

-- the name of the class of that number, or a question mark where there is none, behind a blank
abbrev pub class_name : CodeProgram → ℕ → List ℕ
class_name code class = option_map_or (λ (c : ClassCode). selector code c.name.0) (slice_get code.classes class) (codes " ?")

-- the class around, if there is one
abbrev pub outer_shown : CodeProgram → Option ℕ → List ℕ
outer_shown code None = codes " none"
outer_shown code (Some class) = class_number code class

-- the message to the superclass, and the factory
abbrev pub class_messages : CodeProgram → ClassCode → List ℕ
class_messages code class = concat
    (codes " super" ∷ selector code class.super_sel.0 ∷ codes " factory" ∷ selector code class.factory.0 ∷ codes "\n" ∷ [])

abbrev pub class_line : CodeProgram → ℕ → ClassCode → List ℕ
class_line code place class = concat
    (codes "class" ∷ number place ∷ selector code class.name.0 ∷ codes " outer" ∷ outer_shown code class.outer ∷ class_messages code class ∷ [])

-- a line that ends with a number
abbrev pub numbered_line : List ℕ → ℕ → List ℕ
numbered_line word n = concat (word ∷ number n ∷ codes "\n" ∷ [])

abbrev pub clause_lines : Option ℕ → List ℕ
clause_lines None = []
clause_lines (Some body) = numbered_line (codes "  clause body") body

abbrev pub init_line : ℕ → List ℕ
init_line body = numbered_line (codes "  init body") body

-- 0 is public, 1 protected and 2 private
abbrev pub access_shown : ℕ → List ℕ
access_shown zero = codes "  public"
access_shown (suc zero) = codes "  protected"
access_shown (suc (suc access)) = codes "  private"

abbrev pub setting_shown : Bool → List ℕ
setting_shown true = codes " mutable"
setting_shown false = codes " fixed"

abbrev pub slot_line : CodeProgram → SlotCode → List ℕ
slot_line code slot = concat (access_shown slot.access ∷ codes " slot" ∷ selector code slot.name.0 ∷ setting_shown slot.mutable ∷ codes "\n" ∷ [])

abbrev pub nested_line : CodeProgram → NestedCode → List ℕ
nested_line code nested = concat
    (access_shown nested.access ∷ codes " class" ∷ class_name code nested.class ∷ codes " class" ∷ class_number code nested.class ∷ codes "\n" ∷ [])

-- a method, behind a word that tells its side
abbrev pub method_line : CodeProgram → List ℕ → MethodCode → List ℕ
method_line code side method = concat
    (access_shown method.access ∷ side ∷ selector code method.sel.0 ∷ numbered_line (codes " body") method.body ∷ [])

-- the lines of a class's members
abbrev pub member_lines : CodeProgram → ClassCode → List ℕ
member_lines code class =
    flat_map (slot_line code) class.slots ++ (flat_map (nested_line code) class.nested
    ++ (flat_map (method_line code (codes " method")) class.methods ++ flat_map (method_line code (codes " side")) class.side_methods))

-- a class's line, those of its clause's head and its initialiser, and those of its members
abbrev pub class_lines : CodeProgram → ℕ → ClassCode → List ℕ
class_lines code place class = class_line code place class ++ (clause_lines class.clause ++ (init_line class.init ++ member_lines code class))

-- ---- places

-- the name of the file of that number, or a question mark where there is none
abbrev pub file_shown : CodeProgram → ℕ → List ℕ
file_shown code file = option_map_or (λ name. name) (slice_get code.files file) (codes "?")

abbrev pub place_there : CodeProgram → Place → List ℕ
place_there code place = concat (codes " at" ∷ (32 ∷ file_shown code place.file) ∷ (58 ∷ decimal place.line) ∷ (58 ∷ decimal place.col) ∷ [])

-- a place, where there is one
abbrev pub place_shown : CodeProgram → Option Place → List ℕ
place_shown code None = []
place_shown code (Some place) = place_there code place

-- ---- bodies

abbrev pub owner_shown : CodeProgram → Option Sel → List ℕ
owner_shown code None = []
owner_shown code (Some sel) = codes " of" ++ selector code sel.0

-- the first place of a body, if it has any
abbrev pub first_place : List (ℕ × Place) → Option Place
first_place [] = None
first_place (x ∷ places) = Some x.1

abbrev pub instr_line : CodeProgram → List (ℕ × Place) → ℕ → Instr → List ℕ
instr_line code places at instr = concat
    (codes " " ∷ number at ∷ codes " " ∷ instr_shown code instr ∷ place_shown code (first_under places at) ∷ codes "\n" ∷ [])

abbrev pub body_numbers : BodyCode → List ℕ
body_numbers body = concat (codes " class" ∷ number body.class ∷ codes " params" ∷ number body.params ∷ codes " locals" ∷ number body.locals ∷ [])

abbrev pub body_line : CodeProgram → Option Sel → ℕ → BodyCode → List ℕ
body_line code owner place body = concat
    (codes "body" ∷ number place ∷ codes " " ∷ kind_shown body.kind ∷ body_numbers body
    ∷ owner_shown code owner ∷ place_shown code (first_place body.places) ∷ codes "\n" ∷ [])

-- a body's line, a line for each local, and a line for each instruction
abbrev pub body_lines : CodeProgram → List (Option Sel) → ℕ → BodyCode → List ℕ
body_lines code names place body =
    body_line code (option_map_or (λ name. name) (slice_get names place) None) place body
    ++ (numbered local_line 0 body.local_names ++ numbered (instr_line code body.places) 0 body.instrs)

-- the lines of the classes, and then those of the bodies
abbrev pub members_listing : CodeProgram → List ℕ
members_listing code = numbered (class_lines code) 0 code.classes ++ numbered (body_lines code (body_names code)) 0 code.bodies
