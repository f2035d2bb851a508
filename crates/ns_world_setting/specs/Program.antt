-- A small program, on which lookups and the rows of the kernel are tried.
use Rattle.std.specs.Prelude.{ℕ, List, [], ◌∷◌, ◌++◌, Some, None, codes}
use Rattle.ns_code.specs.declared.program.CodeProgram.{CodeProgram}
use Rattle.ns_code.specs.declared.class.ClassCode.{ClassCode}
use Rattle.ns_code.specs.declared.body.BodyCode.{BodyCode}
use Rattle.ns_code.specs.Sample.{slot_of, mutable_slot_of, method_of, class_of}
use Rattle.ns_code.specs.Sample as sample

-- a body without parameters and instructions
abbrev pub body_of : ℕ → ℕ → ℕ → BodyCode
body_of kind side class = sample.body_of kind side class 0

-- Base has the slots `x =` and `y ::=`, the nested class Part, the public methods `bar` and `foo`, the
-- protected `hid` and the private `sec` between them, and on its class side the public `make` and the
-- protected `hid`.
abbrev pub class_base : ClassCode
class_base =
    class_of 0 None 0 (slot_of 3 0 ∷ mutable_slot_of 4 1 ∷ []) (record { class = 1; access = 0 } ∷ [])
    (method_of 9 0 1 ∷ method_of 7 1 2 ∷ method_of 8 2 3 ∷ method_of 6 0 4 ∷ []) (method_of 10 0 5 ∷ method_of 7 1 6 ∷ [])

abbrev pub class_part : ClassCode
class_part = class_of 11 (Some 0) 7 [] [] [] []

-- Sub has the slots `x ::=` and `z =`, the public method `baz`, and a `bar` of its own with the same body.
abbrev pub class_sub : ClassCode
class_sub = class_of 2 None 8 (mutable_slot_of 3 2 ∷ slot_of 5 0 ∷ []) [] (method_of 12 0 9 ∷ method_of 9 0 9 ∷ []) []

-- a second class named Base
abbrev pub class_other : ClassCode
class_other = class_of 0 None 10 [] [] [] []

-- the names of the classes and of what they declare
abbrev pub declared_names : List (List ℕ)
declared_names =
    codes "Base" ∷ codes "new" ∷ codes "Sub" ∷ codes "x" ∷ codes "y" ∷ codes "z" ∷ codes "foo" ∷ codes "hid" ∷ codes "sec" ∷ codes "bar"
    ∷ codes "make" ∷ codes "Part" ∷ codes "baz" ∷ codes "+" ∷ codes "at:put:" ∷ []

-- the names of setters, and of rows of the kernel
abbrev pub value_names : List (List ℕ)
value_names = codes "x:" ∷ codes "y:" ∷ codes "z:" ∷ codes "console" ∷ codes "<:" ∷ codes "new:" ∷ codes "printString" ∷ codes "not" ∷ []

abbrev pub block_names : List (List ℕ)
block_names =
    codes "ifFalse:ifTrue:" ∷ codes "//" ∷ codes "timesRepeat:" ∷ codes "size" ∷ codes "<" ∷ codes "do:" ∷ codes "value" ∷ codes "whileFalse:" ∷ []

abbrev pub facet_names : List (List ℕ)
facet_names =
    codes "Object" ∷ codes "Array" ∷ codes "print:" ∷ codes "printLine:" ∷ codes "at:" ∷ codes "on:" ∷ codes "className" ∷ codes "perform:with:"
    ∷ codes "selector" ∷ codes "arguments" ∷ codes "==" ∷ []

abbrev pub program_names : List (List ℕ)
program_names = ((declared_names ++ value_names) ++ block_names) ++ facet_names

abbrev pub program_classes : List ClassCode
program_classes = class_base ∷ class_part ∷ class_sub ∷ class_other ∷ []

-- methods are of kind 0, initialisers of kind 2, and the last body is a block of Base
abbrev pub program_bodies : List BodyCode
program_bodies =
    body_of 2 0 0 ∷ body_of 0 0 0 ∷ body_of 0 0 0 ∷ body_of 0 0 0 ∷ body_of 0 0 0 ∷ body_of 0 1 0 ∷ body_of 0 1 0
    ∷ body_of 2 0 1
    ∷ body_of 2 0 2 ∷ body_of 0 0 2
    ∷ body_of 2 0 3
    ∷ body_of 1 0 0 ∷ []

abbrev pub program_code : CodeProgram
program_code = record { files = []; names = program_names; texts = []; classes = program_classes; bodies = program_bodies }
