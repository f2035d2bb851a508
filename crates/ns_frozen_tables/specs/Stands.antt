-- Where a body can stand: what is kept of each of its instructions.
use Rattle.std.specs.Prelude.{ℕ, ◌-◌, List, [], ◌∷◌, slice_get, Bool, true, false, ◌==◌, ◌&&◌}
use Rattle.std.specs.Option.{option_map_or}
use Rattle.ns_code.specs.declared.body.BodyCode.{BodyCode}
use Rattle.ns_code.specs.declared.instruction.Instr.{Instr}
use Rattle.ns_code.specs.declared.instruction.Instr.TheVariants as instr
use Rattle.ns_code.specs.Table.{takes}
use Rattle.ns_verify.specs.Heights.{heights}
use Rattle.ns_frozen.specs.Frames.{Above, Free, Waiting, Under, is_under_initialiser}
use Rattle.ns_frozen_tables.specs.declared.stand.Waits.{Waits}
use Rattle.ns_frozen_tables.specs.declared.stand.Waits.TheVariants.{Never, ForValue, ForPart}
use Rattle.ns_frozen_tables.specs.declared.stand.Stand.{Stand}

-- for what an instruction waits
abbrev pub waits_of : Instr → Waits
waits_of (instr.Send sel argc) = ForValue
waits_of (instr.SendInner sel argc) = ForValue
waits_of (instr.SendPrivate level sel argc) = ForValue
waits_of (instr.SendSuper sel argc) = ForValue
waits_of (instr.InitSuper argc) = ForPart
waits_of other = Never

-- an instruction with so many operands before it
abbrev pub stand_at : ℕ → Instr → Stand
stand_at height instr = record { height = height; left = height - takes instr; waits = waits_of instr }

-- instructions with their heights
abbrev pub stands_from : List ℕ → List Instr → List Stand
stands_from (height ∷ heights) (instr ∷ instrs) = stand_at height instr ∷ stands_from heights instrs
stands_from heights instrs = []

-- those of a body
abbrev pub stands_of : BodyCode → List Stand
stands_of body = stands_from (heights body) body.instrs

-- whether what waits so waits for what stands above, where that is an initialiser or not
abbrev pub waits_for : Bool → Waits → Bool
waits_for part ForValue = true
waits_for part ForPart = part
waits_for part Never = false

-- whether a body stands at one instruction with so many operands
abbrev pub stands_so : Stand → Above → ℕ → Bool
stands_so stand Free count = count == stand.height
stands_so stand Waiting count = waits_for (is_under_initialiser Waiting) stand.waits && count == stand.left
stands_so stand (Under kind) count = waits_for (is_under_initialiser (Under kind)) stand.waits && count == stand.left

-- at one of its instructions, where that is there
abbrev pub stands_in : List Stand → Above → ℕ → ℕ → Bool
stands_in stands above number count = option_map_or (λ (stand : Stand). stands_so stand above count) (slice_get stands number) false
