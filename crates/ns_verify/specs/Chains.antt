-- What stands around code: the declarations around a class, and the bodies around a block.
use Rattle.std.specs.Prelude.{ℕ, zero, suc, ◌+◌, List, [], ◌∷◌, ◌++◌, length, Option, Some, None, slice_get, ◌==◌, nat_lt, if◌then◌else◌}
use Rattle.std.specs.Option.{option_map_or, option_and_then}
use Rattle.std.specs.List.{slice_index_or}
use Rattle.ns_code.specs.declared.program.CodeProgram.{CodeProgram}
use Rattle.ns_code.specs.declared.class.ClassCode.{ClassCode}
use Rattle.ns_code.specs.declared.body.BodyCode.{BodyCode}
use Rattle.ns_code.specs.Soundness.{block_kind}

-- the declaration around a class
abbrev pub outer_of : CodeProgram → ℕ → Option ℕ
outer_of code number = option_and_then (λ (class : ClassCode). class.outer) (slice_get code.classes number)

-- the declaration so many levels out from a class, which is at level 0 itself
abbrev pub declaration_at : CodeProgram → ℕ → ℕ → Option ℕ
declaration_at code zero number = Some number
declaration_at code (suc level) number = option_and_then (outer_of code) (declaration_at code level number)

-- the body in which a block of that number stands: its parent, where that has a smaller number
abbrev pub around : ℕ → BodyCode → Option ℕ
around number body =
    if body.kind == block_kind then option_and_then (λ parent. if nat_lt parent number then Some parent else None) body.parent else None

-- the same, of a body by its number
abbrev pub body_around : CodeProgram → ℕ → Option ℕ
body_around code number = option_and_then (around number) (slice_get code.bodies number)

-- the same, of bodies that are numbered from that number on
abbrev pub arounds_from : ℕ → List BodyCode → List (Option ℕ)
arounds_from number [] = []
arounds_from number (body ∷ bodies) = around number body ∷ arounds_from (number + 1) bodies

-- the body so many bodies out from one, which is at 0 hops itself
abbrev pub body_at : CodeProgram → ℕ → ℕ → Option ℕ
body_at code zero number = Some number
body_at code (suc hops) number = option_and_then (body_around code) (body_at code hops number)

-- the kind of the outermost body around a body, from these kinds of all bodies before it
abbrev pub home_kind : List ℕ → BodyCode → ℕ
home_kind before body = option_map_or (λ parent. slice_index_or before parent body.kind) (around (length before) body) body.kind

abbrev pub home_kinds_from : List ℕ → List BodyCode → List ℕ
home_kinds_from before [] = before
home_kinds_from before (body ∷ bodies) = home_kinds_from (before ++ home_kind before body ∷ []) bodies

-- the kinds of the outermost bodies around all bodies, by number
abbrev pub home_kinds : CodeProgram → List ℕ
home_kinds code = home_kinds_from [] code.bodies
