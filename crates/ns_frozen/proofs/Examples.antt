-- A small run as plain data, and what of it can't be.
use Rattle.std.specs.Prelude.{◌≡◌, ℕ, List, [], ◌∷◌, map, Some, None, false, codes, pos}
use Rattle.std.proofs.Common.{refl, negsuc}
use Rattle.ns_base.specs.declared.limits.Limits.{Limits}
use Rattle.ns_code.specs.declared.program.CodeProgram.{CodeProgram}
use Rattle.ns_code.specs.declared.instruction.Instr.TheVariants as instr
use Rattle.ns_code.specs.Sample.{sel, method_of, class_of, body_of}
use Rattle.ns_world.specs.declared.value.Value.TheVariants.{Int, Ref}
use Rattle.ns_facets.specs.declared.row.Grants.{Grants}
use Rattle.ns_moves.specs.Move.{moves}
use Rattle.ns_moves.specs.Starts.{new_machine, started}
use Rattle.ns_moves.specs.State.{State}
use Rattle.ns_frozen.specs.declared.fault.RestoreFault.TheVariants.{BadLimits, BadCell, BadFrame, BadRest}
use Rattle.ns_frozen.specs.declared.frame.FrameKind.TheVariants as kinds
use Rattle.ns_frozen.specs.declared.frame.FrozenFrame.{FrozenFrame}
use Rattle.ns_frozen.specs.declared.frozen.Frozen.{Frozen}
use Rattle.ns_frozen.specs.declared.plain.Parts.TheVariants as parts
use Rattle.ns_frozen.specs.Plain.{value_of}
use Rattle.ns_frozen.specs.Freezing.{frozen_of}
use Rattle.ns_frozen.specs.Thawing.{thawed}
use Rattle.ns_frozen.specs.Fault.{fault_of, restore_fault}

-- ---- a program: class T packageUsing: m = () (public main: p args: a = (^7))

abbrev code : CodeProgram
code =
    record {
      files = codes "T.ns" ∷ [];
      names = codes "T" ∷ codes "new" ∷ codes "packageUsing:" ∷ codes "main:args:" ∷ [];
      texts = [];
      classes = record (class_of 0 None 0 [] [] (method_of 3 0 1 ∷ []) []) { factory = sel 2; params = 1 } ∷ [];
      bodies =
          record (body_of 2 0 0 1) { instrs = instr.InitSuper 0 ∷ instr.ReturnSelf ∷ [] }
          ∷ record (body_of 0 0 0 2) { height = 1; instrs = instr.PushInt (pos 7) ∷ instr.Return ∷ [] }
          ∷ [];
    }

abbrev limits : Limits
limits = record { steps = 10; cells = 100; depth = 10; out = 10 }

abbrev nothing_granted : Grants
nothing_granted = record { console = false; kernel = false; mirrors = false; board = false }

abbrev frozen : State → Frozen
frozen state = frozen_of code nothing_granted state

-- ---- before the run

abbrev fresh : State
fresh = new_machine code limits nothing_granted []

fresh_is_valid : fault_of code (frozen fresh) ≡ None
fresh_is_valid = refl

fresh_comes_back : thawed code (frozen fresh) ≡ fresh
fresh_comes_back = refl

-- ---- in the initialiser, behind its superclass part

abbrev begun : State
begun = moves code 2 (started code fresh)

abbrev numbers : List FrozenFrame → List ℕ
numbers frames = map (λ (frame : FrozenFrame). frame.instr) frames

begun_is_valid : fault_of code (frozen begun) ≡ None
begun_is_valid = refl

begun_comes_back : thawed code (frozen begun) ≡ begun
begun_comes_back = refl

next_is_told : numbers (frozen begun).frames ≡ 1 ∷ []
next_is_told = refl

-- ---- what can't be

other_limits : restore_fault code (record limits { steps = 11 }) (frozen begun) ≡ Some BadLimits
other_limits = refl

-- the manifest is missing, and so is all of the start
no_cells : fault_of code (record (frozen begun) { cells = [] }) ≡ Some (BadCell 0)
no_cells = refl

-- a method's frame names the body of an initialiser
other_body : fault_of code (record (frozen begun) { frames = map (λ (frame : FrozenFrame). record frame { kind = kinds.Method 0 }) (frozen begun).frames }) ≡ Some (BadFrame 0)
other_body = refl

-- an initialiser whose self is a facet
no_object : fault_of code (record (frozen begun) { frames = map (λ (frame : FrozenFrame). record frame { receiver = Ref 0 }) (frozen begun).frames }) ≡ Some (BadFrame 0)
no_object = refl

-- more methods than steps
many_homes : fault_of code (record (frozen begun) { homes = 100 }) ≡ Some BadRest
many_homes = refl

-- ---- values in little memory

a_number_begins_with_its_least : value_of (parts.Ref (1 ∷ 2 ∷ 0 ∷ 0 ∷ [])) ≡ Ref 513
a_number_begins_with_its_least = refl

ones_are_one_below_zero : value_of (parts.Int (255 ∷ 255 ∷ 255 ∷ 255 ∷ 255 ∷ 255 ∷ 255 ∷ 255 ∷ [])) ≡ Int (negsuc 0)
ones_are_one_below_zero = refl
