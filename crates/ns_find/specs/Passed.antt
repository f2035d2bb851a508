-- Declarations that a lookup passes by.
use Rattle.std.specs.Prelude.{◌≡◌, ℕ, List, [], ◌∷◌, Bool, true, false, None, slice_set}
use Rattle.std.specs.List.{slice_index_or}
use Rattle.ns_code.specs.declared.listed.Listed.{Listed}
use Rattle.ns_code.specs.declared.program.CodeProgram.{CodeProgram}
use Rattle.ns_world.specs.Heap.{Heap}
use Rattle.ns_world.specs.Layout.{declaration_of}
use Rattle.ns_find.specs.declared.found.Sending.{Sending}
use Rattle.ns_find.specs.declared.members.Wanted.TheVariants.{Visible}
use Rattle.ns_find.specs.declared.members.Side.{Side}
use Rattle.ns_find.specs.Members.{search, holder_members}

-- Of the declarations that are passed by none has a member of that name that isn't private.
abbrev pub PassedHaveNone : Heap → CodeProgram → Side → ℕ → Sending → List Bool → Type 0
PassedHaveNone heap code side sel kind passed =
    (holder : ℕ) → slice_index_or passed (declaration_of heap holder) false ≡ true
    → search code sel kind (holder_members heap code Visible side holder) ≡ None

-- flags of declarations, when those listed aren't passed any more
abbrev pub without : List Bool → List Listed → List Bool
without passed [] = passed
without passed (one ∷ listed) = without (slice_set passed one.declaration false) listed
