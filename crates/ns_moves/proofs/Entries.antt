-- Slots are entries.
use Rattle.std.proofs.Common.{◌≡◌, ℕ, ◌+◌, ◌<◌, length, slice_get, refl, arith, Option, Some, None}
use Rattle.std.specs.Prelude.{IsSome}
use Rattle.std.specs.Option.{option_map_or, ForSome}
use Rattle.ns_code.specs.declared.program.CodeProgram.{CodeProgram}
use Rattle.ns_code.specs.declared.class.ClassCode.{ClassCode}
use Rattle.ns_world.specs.Layout.{entries_of}

-- a slot of a declaration is one of its entries
pub slot_entry : (code : CodeProgram) (decl slot : ℕ) → IsSome (slice_get code.classes decl) →
    ForSome (slice_get code.classes decl) (λ (class : ClassCode). slot < length class.slots) → slot < entries_of code decl
slot_entry code decl slot there within = told (slice_get code.classes decl) refl there
  where
    told : (o : Option ClassCode) → slice_get code.classes decl ≡ o → IsSome o → slot < option_map_or (λ (class : ClassCode). length class.slots + length class.nested) o 0
    told (Some class) e some = let inside = within class e in omega (arith, inside)
    told None e some = absurd (cc)
