-- What else must hold of a frozen state: its numbers, what is pending and its ending.
use Rattle.std.specs.Prelude.{ℕ, nat_lt, nat_le, not, List, [], ◌∷◌, length, Option, Some, None, Bool, true, false, ◌==◌, ◌&&◌, ◌||◌, if◌then◌else◌}
use Rattle.std.specs.Option.{is_some}
use Rattle.ns_base.specs.declared.selector.Sel.{Sel}
use Rattle.ns_code.specs.declared.program.CodeProgram.{CodeProgram}
use Rattle.ns_code.specs.Selector.{is_selector_number, selector_arity}
use Rattle.ns_world.specs.declared.value.Value.TheVariants.{Ref}
use Rattle.ns_world.specs.declared.ending.Ending.{Ending}
use Rattle.ns_world.specs.declared.ending.Ending.TheVariants.{Done, Error, Limit}
use Rattle.ns_world.specs.Heap.{Heap, heap_size}
use Rattle.ns_moves.specs.Blocks.{is_block}
use Rattle.ns_frozen.specs.declared.frame.FrameKind.{FrameKind}
use Rattle.ns_frozen.specs.declared.frame.FrameKind.TheVariants as kinds
use Rattle.ns_frozen.specs.declared.frame.FrozenFrame.{FrozenFrame}
use Rattle.ns_frozen.specs.declared.pending.Pending.{Pending}
use Rattle.ns_frozen.specs.declared.pending.Pending.TheVariants as waiting
use Rattle.ns_frozen.specs.declared.frozen.Frozen.{Frozen}
use Rattle.ns_frozen.specs.Live.{is_live, are_live}
use Rattle.ns_frozen.specs.Cells.{ends_start, has_elements_for}
use Rattle.ns_frozen.specs.Frames.{is_site}
use Rattle.ns_frozen.specs.Thawing.{is_below}

-- ---- numbers

-- whether no counter passes its limit, and the counters are those of the cells, the output and the homes
abbrev pub are_counted : Heap → Frozen → Bool
are_counted heap frozen =
    (nat_le frozen.used.steps frozen.limits.steps && nat_le frozen.used.cells frozen.limits.cells)
    && ((nat_le frozen.used.depth frozen.limits.depth && nat_le frozen.used.out frozen.limits.out)
    && (nat_le frozen.homes frozen.used.steps
    && (frozen.used.cells == heap_size heap && frozen.used.out == length frozen.output)))

-- whether the depth is that of the frames; after an error or a limit it can be any
abbrev pub is_deep : Option Ending → ℕ → ℕ → Bool
is_deep None depth frames = depth == frames
is_deep (Some (Done value)) depth frames = depth == frames
is_deep (Some other) depth frames = true

-- ---- phases

-- whether a run can end so in a phase
abbrev pub ends_in : ℕ → Ending → Bool
ends_in phase (Done value) = nat_lt 1 phase
ends_in phase (Error error) = nat_lt 0 phase
ends_in phase (Limit limit) = nat_lt 0 phase || ends_start phase (Some (Limit limit))

-- whether there is a frame, or something pending
abbrev pub goes_on : Frozen → Bool
goes_on frozen = is_below frozen.frames || is_some frozen.pending

-- whether one is there exactly where a run was begun and hasn't ended
abbrev pub is_phased : Frozen → Bool
is_phased frozen =
    nat_le frozen.phase 3
    && (if is_some frozen.ending then not (goes_on frozen)
    else (if nat_lt 0 frozen.phase then goes_on frozen else not (goes_on frozen)))

-- ---- what is pending

-- whether the last frame is a method of the kernel
abbrev pub is_kernel : FrameKind → Bool
is_kernel (kinds.Kernel method state) = true
is_kernel other = false

-- the same of the last of some frames
abbrev pub is_on_kernel : List FrozenFrame → Bool
is_on_kernel [] = false
is_on_kernel (frame ∷ []) = is_kernel frame.kind
is_on_kernel (frame ∷ next ∷ frames) = is_on_kernel (next ∷ frames)

-- whether so many arguments are those of a selector
abbrev pub takes_arguments : CodeProgram → Sel → ℕ → Bool
takes_arguments code sel count = is_selector_number code sel.0 && count == selector_arity code sel.0

-- whether what is pending can be done above these frames
abbrev pub is_good_pending : CodeProgram → Heap → List FrozenFrame → Pending → Bool
is_good_pending code heap frames (waiting.Send receiver sel arguments site) =
    (not (is_below frames) && is_live code heap receiver)
    && ((takes_arguments code sel (length arguments) && nat_le (length arguments) 255)
    && (are_live code heap arguments && is_site code site))
is_good_pending code heap frames (waiting.Perform receiver sel array site) =
    (not (is_on_kernel frames) && is_live code heap receiver) && (has_elements_for code heap sel (Ref array) && is_site code site)
is_good_pending code heap frames (waiting.Evaluate block arguments site) =
    (is_block heap block && nat_le (length arguments) 255) && (are_live code heap arguments && is_site code site)

-- the same where something is pending
abbrev pub is_good_waiting : CodeProgram → Heap → List FrozenFrame → Option Pending → Bool
is_good_waiting code heap frames None = true
is_good_waiting code heap frames (Some waits) = is_good_pending code heap frames waits

-- ---- endings

-- whether a run can have ended so in a phase
abbrev pub is_good_ending : CodeProgram → Heap → ℕ → Ending → Bool
is_good_ending code heap phase (Done value) = is_live code heap value
is_good_ending code heap phase (Error error) = is_site code (record { place = error.place; class = error.class; sel = error.sel })
is_good_ending code heap phase (Limit limit) = true

-- the same where the run has ended
abbrev pub is_good_end : CodeProgram → Heap → ℕ → Option Ending → Bool
is_good_end code heap phase None = true
is_good_end code heap phase (Some ending) = ends_in phase ending && is_good_ending code heap phase ending

-- whether all this holds
abbrev pub is_good_rest : CodeProgram → Heap → Frozen → Bool
is_good_rest code heap frozen =
    (are_counted heap frozen && is_deep frozen.ending frozen.used.depth (length frozen.frames))
    && (is_phased frozen
    && (is_good_waiting code heap frozen.frames frozen.pending && is_good_end code heap frozen.phase frozen.ending))
