-- What stands beside the cells and the frames, and all parts together.
use Rattle.std.proofs.Common.{◌≡◌, ℕ, zero, suc, List, [], ◌∷◌, length, get_or, ap, sym, ◌∙◌, arith, Option, Some, None, Bool, true, cond, ◌&&◌, option_map}
use Rattle.std.specs.Option.{option_or}
use Rattle.ns_code.specs.declared.program.CodeProgram.{CodeProgram}
use Rattle.ns_world.specs.Heap.{Heap}
use Rattle.ns_world.specs.declared.ending.Ending.{Ending}
use Rattle.ns_frozen.specs.declared.fault.RestoreFault.{RestoreFault}
use Rattle.ns_frozen.specs.declared.fault.RestoreFault.TheVariants.{BadCell, BadFrame, BadRest}
use Rattle.ns_frozen.specs.declared.frame.FrozenFrame.{FrozenFrame}
use Rattle.ns_frozen.specs.declared.frozen.Frozen.{Frozen}
use Rattle.ns_frozen.specs.Cells.{bad_cell}
use Rattle.ns_frozen.specs.Frames.{bad_frame}
use Rattle.ns_frozen.specs.Rest.{is_kernel, is_on_kernel, ends_in, is_good_ending, is_good_end, is_good_rest}
use Rattle.ns_frozen.specs.Fault.{fault_in}

-- ---- the rest

-- the last frame is the one at the last place
pub last_kernel : (frames : List FrozenFrame) (at : ℕ) (last : FrozenFrame) → length frames ≡ suc at → last ≡ get_or frames at last
    → is_kernel last.kind ≡ is_on_kernel frames
last_kernel [] at last n is = absurd (omega (arith, n))
last_kernel (one ∷ []) zero last n is = ap (λ (frame : FrozenFrame). is_kernel frame.kind) is
last_kernel (one ∷ []) (suc at) last n is = absurd (omega (arith, n))
last_kernel (one ∷ next ∷ frames) zero last n is = absurd (omega (arith, n))
last_kernel (one ∷ next ∷ frames) (suc at) last n is = last_kernel (next ∷ frames) at last (omega (arith, n)) is

-- an ending that a phase can have is good where it is
pub ends_so : (code : CodeProgram) (heap : Heap) (phase : ℕ) (ending : Ending) (some : Option Ending) → some ≡ Some ending → ends_in phase ending ≡ true
    → is_good_ending code heap phase ending ≡ is_good_end code heap phase some
ends_so code heap phase ending some is ends =
    sym (ap (is_good_end code heap phase) is ∙ ap (λ (t : Bool). t && is_good_ending code heap phase ending) ends)

-- ---- all parts

-- the fault of cells, frames and the rest
abbrev fault_by : Option ℕ → Option ℕ → Bool → Option RestoreFault
fault_by cell frame rest = option_or (option_map BadCell cell) (option_or (option_map BadFrame frame) (cond rest None (Some BadRest)))

pub cell_first : (code : CodeProgram) (heap : Heap) (frozen : Frozen) (place : ℕ) → Some place ≡ bad_cell code heap frozen
    → Some (BadCell place) ≡ fault_in code heap frozen
cell_first code heap frozen place e = ap (λ (o : Option ℕ). fault_by o (bad_frame code heap frozen) (is_good_rest code heap frozen)) e

pub frame_next : (code : CodeProgram) (heap : Heap) (frozen : Frozen) (place : ℕ) → None ≡ bad_cell code heap frozen → Some place ≡ bad_frame code heap frozen
    → Some (BadFrame place) ≡ fault_in code heap frozen
frame_next code heap frozen place none e =
    ap (λ (o : Option ℕ). fault_by None o (is_good_rest code heap frozen)) e ∙ ap (λ (o : Option ℕ). fault_by o (bad_frame code heap frozen) (is_good_rest code heap frozen)) none
