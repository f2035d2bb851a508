-- The code of a module: the bodies of a top-level class and of all classes declared inside it, with their blocks.
use Rattle.std.specs.Prelude.{◌≡◌, ℕ, List, [], ◌∷◌, ◌++◌, length, slice_get, None, IsSomeAnd, Bool, ◌==◌}
use Rattle.std.specs.Option.{option_map_or}
use Rattle.std.specs.List.{slice_index_or}
use Rattle.ns_code.specs.declared.program.CodeProgram.{CodeProgram}
use Rattle.ns_code.specs.declared.class.ClassCode.{ClassCode}
use Rattle.ns_code.specs.declared.body.BodyCode.{BodyCode}

-- The class of that number is there, and stands in no other.
abbrev pub IsTopLevel : CodeProgram → ℕ → Type 0
IsTopLevel code number = IsSomeAnd (slice_get code.classes number) (λ (class : ClassCode). class.outer ≡ None)

-- the top-level class around a class, from those of all classes before it: a top-level class is its own
abbrev pub top_of : List ℕ → ClassCode → ℕ
top_of before class = option_map_or (λ outer. slice_index_or before outer (length before)) class.outer (length before)

abbrev pub tops_from : List ℕ → List ClassCode → List ℕ
tops_from before [] = before
tops_from before (class ∷ classes) = tops_from (before ++ top_of before class ∷ []) classes

-- the top-level classes around all classes, by number
abbrev pub tops : CodeProgram → List ℕ
tops code = tops_from [] code.classes

-- whether a class is a module's: the module's own, or one that is declared inside it
abbrev pub is_inside : List ℕ → ℕ → ℕ → Bool
is_inside tops top class = slice_index_or tops class class == top

-- whether a body is of a module; a block has the class of the body in which it stands
abbrev pub is_of_module : List ℕ → ℕ → BodyCode → Bool
is_of_module tops top body = is_inside tops top body.class
