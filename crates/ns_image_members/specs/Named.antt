-- To which selector or name a body belongs.
use Rattle.std.specs.Prelude.{ℕ, zero, suc, List, [], ◌∷◌, ◌++◌, map, flat_map, length, slice_get, Option, Some, None}
use Rattle.std.specs.Option.{option_map_or}
use Rattle.ns_base.specs.declared.selector.Sel.{Sel}
use Rattle.ns_code.specs.declared.program.CodeProgram.{CodeProgram}
use Rattle.ns_code.specs.declared.class.ClassCode.{ClassCode}
use Rattle.ns_code.specs.declared.class.MethodCode.{MethodCode}
use Rattle.ns_code.specs.declared.body.BodyCode.{BodyCode}
use Rattle.ns_image_members.specs.declared.named.Records.{Records}
use Rattle.ns_image_members.specs.Under.{first_under}

abbrev pub method_record : MethodCode → ℕ × Sel
method_record method = (method.body, method.sel)

-- the methods of a class, those of its instances first: the body of each, and its selector
abbrev pub method_records : ClassCode → List (ℕ × Sel)
method_records class = map method_record class.methods ++ map method_record class.side_methods

-- the initialiser of a class: its body, and the factory's selector
abbrev pub init_records : ClassCode → List (ℕ × Sel)
init_records class = (class.init, class.factory) ∷ []

abbrev pub clause_record : Sel → Option ℕ → List (ℕ × Sel)
clause_record name None = []
clause_record name (Some body) = (body, name) ∷ []

-- the head of a class's clause, where there is one: its body, and the class's name
abbrev pub clause_records : ClassCode → List (ℕ × Sel)
clause_records class = clause_record class.name class.clause

-- all records of classes, class by class, by the kinds of their bodies
abbrev pub all_records : List ClassCode → Records
all_records classes =
    record { methods = flat_map method_records classes; inits = flat_map init_records classes; clauses = flat_map clause_records classes }

-- what the parent has, where it is one of the bodies before
abbrev pub parent_name : List (Option Sel) → Option ℕ → Option Sel
parent_name names None = None
parent_name names (Some parent) = option_map_or (λ name. name) (slice_get names parent) None

-- what the next body has, behind those that have these: by its kind the selector of the first record that names it; a
-- block what its parent has
abbrev pub next_name : Records → List (Option Sel) → ℕ → Option ℕ → Option Sel
next_name records names zero parent = first_under records.methods (length names)
next_name records names (suc zero) parent = parent_name names parent
next_name records names (suc (suc zero)) parent = first_under records.inits (length names)
next_name records names (suc (suc (suc kind))) parent = first_under records.clauses (length names)

abbrev pub names_behind : Records → List (Option Sel) → List BodyCode → List (Option Sel)
names_behind records names [] = names
names_behind records names (body ∷ bodies) = names_behind records (names ++ next_name records names body.kind body.parent ∷ []) bodies

-- the selector or name of each body, if it has one
abbrev pub body_names : CodeProgram → List (Option Sel)
body_names code = names_behind (all_records code.classes) [] code.bodies
