-- What the frames of a frozen state must be, and which is the first that isn't.
use Rattle.std.specs.Prelude.{ℕ, ◌+◌, ◌-◌, nat_lt, nat_le, List, [], ◌∷◌, length, slice_get, Option, Some, None, Bool, true, false, ◌==◌, ◌&&◌, ◌||◌, if◌then◌else◌}
use Rattle.std.specs.Option.{option_map_or}
use Rattle.std.specs.List.{list_any}
use Rattle.ns_base.specs.declared.place.Place.{Place}
use Rattle.ns_code.specs.declared.program.CodeProgram.{CodeProgram}
use Rattle.ns_code.specs.declared.class.ClassCode.{ClassCode}
use Rattle.ns_code.specs.declared.class.NestedCode.{NestedCode}
use Rattle.ns_code.specs.declared.body.BodyCode.{BodyCode}
use Rattle.ns_code.specs.declared.instruction.Instr.{Instr}
use Rattle.ns_code.specs.Selector.{is_selector_number}
use Rattle.ns_code.specs.Soundness.{method_kind, block_kind, initialiser_kind, clause_kind}
use Rattle.ns_code.specs.Table.{takes}
use Rattle.ns_world.specs.Heap.{Heap, no_class}
use Rattle.ns_world.specs.Layout.{declaration_of}
use Rattle.ns_world.specs.Seek.{is_nil}
use Rattle.ns_world.specs.declared.kernel_parts.KMethod.{KMethod}
use Rattle.ns_kcode.specs.declared.state.KState.{KState}
use Rattle.ns_kdata.specs.Rows.{same_value}
use Rattle.ns_moves.specs.declared.site.Site.{Site}
use Rattle.ns_moves.specs.Bodies.{clause_of, no_home}
use Rattle.ns_moves.specs.Blocks.{has_arguments}
use Rattle.ns_moves.specs.Fitting.{belongs_to, counts_fit, environment_body, locals_beside, names_class}
use Rattle.ns_moves.specs.ValidFrames.{height_of, is_send, is_super_part, has_block_home}
use Rattle.ns_frozen.specs.declared.frame.FrameKind.{FrameKind}
use Rattle.ns_frozen.specs.declared.frame.FrameKind.TheVariants as kinds
use Rattle.ns_frozen.specs.declared.frame.FrozenFrame.{FrozenFrame}
use Rattle.ns_frozen.specs.declared.frozen.Frozen.{Frozen}
use Rattle.ns_frozen.specs.Cells.{is_empty}
use Rattle.ns_frozen.specs.Live.{is_live, are_live, is_ref, fits_body, has_holder, fits_environment}

-- ---- sites

-- whether a site names a file of the code, where it has a place, a class and a selector
abbrev pub is_site : CodeProgram → Site → Bool
is_site code site =
    option_map_or (λ (place : Place). nat_lt place.file (length code.files)) site.place true
    && (names_class code site.class && is_selector_number code site.sel.0)

-- ---- what stands above a frame

-- nothing at all; nothing but what is pending; or a frame of that kind
pub data Above : Type 0 where
  Free : Above
  Waiting : Above
  Under : (kind : FrameKind) → Above

-- whether an initialiser stands there
abbrev pub is_under_initialiser : Above → Bool
is_under_initialiser (Under (kinds.Initialiser body)) = true
is_under_initialiser above = false

-- whether no frame stands there, or a block's
abbrev pub is_under_block : Above → Bool
is_under_block (Under (kinds.Block body)) = true
is_under_block (Under other) = false
is_under_block above = true

-- ---- where a body stands

-- whether an instruction waits for what stands above
abbrev pub waits_under : Above → Instr → Bool
waits_under above instr = is_send instr || (is_super_part instr && is_under_initialiser above)

-- whether the instruction of that number waits, with as many operands as it left
abbrev pub waits_at : BodyCode → Above → ℕ → ℕ → Bool
waits_at body above number count =
    option_map_or (λ (instr : Instr). waits_under above instr && count == height_of body number - takes instr) (slice_get body.instrs number) false

-- whether a body stands at an instruction with so many operands
abbrev pub stands_at : BodyCode → Above → ℕ → ℕ → Bool
stands_at body Free number count = nat_lt number (length body.instrs) && count == height_of body number
stands_at body Waiting number count = waits_at body Waiting number count
stands_at body (Under kind) number count = waits_at body (Under kind) number count

-- ---- bodies

-- whether a clause makes a nested class of a holder's declaration
abbrev pub has_nested : CodeProgram → ℕ → ℕ → Bool
has_nested code decl class =
    option_map_or (λ (declared : ClassCode). list_any (λ (nested : NestedCode). nested.class == class) declared.nested) (slice_get code.classes decl) false

-- whether a number is that one, where it is there
abbrev pub is_number : ℕ → Option ℕ → Bool
is_number number (Some other) = number == other
is_number number None = false

-- whether a frame can end as its kind says, where its homes of methods begin with that number
abbrev pub ends_well : CodeProgram → Heap → ℕ → ℕ → FrozenFrame → FrameKind → Bool
ends_well code heap homes least frame (kinds.Method body) = nat_lt frame.home homes && nat_le least frame.home
ends_well code heap homes least frame (kinds.Block body) = has_block_home code homes body frame.home
ends_well code heap homes least frame (kinds.Initialiser body) = has_holder code heap frame.holder frame.receiver && frame.home == no_home
ends_well code heap homes least frame (kinds.Clause body object holder class) =
    (is_ref object frame.receiver && frame.holder == holder)
    && (is_number body (clause_of code class) && (has_nested code (declaration_of heap holder) class && frame.home == no_home))
ends_well code heap homes least frame (kinds.Kernel method state) = false

-- whether a frame of that body is as it must be
abbrev pub is_running : CodeProgram → Heap → Above → FrozenFrame → ℕ → BodyCode → Bool
is_running code heap above frame number body =
    fits_body code heap body frame.receiver frame.holder
    && (stands_at body above frame.instr (length frame.operands)
    && (fits_environment (number + 1) code heap (environment_body code number) frame.env
    && (length frame.locals == locals_beside code number
    && (are_live code heap frame.locals && (are_live code heap frame.operands && is_site code frame.site)))))

-- the same, where it is a body of that kind
abbrev pub is_running_kind : CodeProgram → Heap → ℕ → ℕ → Above → FrozenFrame → ℕ → ℕ → Bool
is_running_kind code heap homes least above frame sort number =
    option_map_or (λ (body : BodyCode). body.kind == sort && is_running code heap above frame number body) (slice_get code.bodies number) false
    && ends_well code heap homes least frame frame.kind

-- ---- methods of the kernel

-- whether the state of a method of the kernel is one that it can have
abbrev pub is_state : CodeProgram → Heap → KMethod → KState → Bool
is_state code heap method state =
    is_live code heap state.receiver
    && (is_live code heap state.first
    && (is_live code heap state.second
    && (option_map_or (is_live code heap) state.last true
    && (belongs_to heap state.receiver method && (has_arguments heap method state.first state.second && counts_fit heap state method)))))

-- whether a frame of such a method has nothing but its state
abbrev pub is_looping : FrozenFrame → KState → Bool
is_looping frame state =
    same_value frame.receiver state.receiver
    && (frame.instr == 0
    && (frame.holder == no_class
    && (frame.home == no_home && (is_nil frame.env && (is_empty frame.locals && is_empty frame.operands)))))

-- ---- all frames

-- whether a frame is as it must be, by its kind
abbrev pub is_good_frame : CodeProgram → Heap → ℕ → ℕ → Above → FrozenFrame → FrameKind → Bool
is_good_frame code heap homes least above frame (kinds.Method body) = is_running_kind code heap homes least above frame method_kind body
is_good_frame code heap homes least above frame (kinds.Block body) = is_running_kind code heap homes least above frame block_kind body
is_good_frame code heap homes least above frame (kinds.Initialiser body) = is_running_kind code heap homes least above frame initialiser_kind body
is_good_frame code heap homes least above frame (kinds.Clause body object holder class) = is_running_kind code heap homes least above frame clause_kind body
is_good_frame code heap homes least above frame (kinds.Kernel method state) =
    (is_state code heap method state && is_looping frame state) && (is_under_block above && is_site code frame.site)

-- the least home that a method above a frame can have
abbrev pub least_above : ℕ → FrozenFrame → FrameKind → ℕ
least_above least frame (kinds.Method body) = frame.home + 1
least_above least frame other = least

-- what stands above the first of some frames that stand above another one
abbrev pub above_of : Above → List FrozenFrame → Above
above_of top [] = top
above_of top (frame ∷ frames) = Under frame.kind

-- the first bad frame of those that are left, of which the first has that place
abbrev pub bad_frame_from : CodeProgram → Heap → ℕ → Above → ℕ → ℕ → List FrozenFrame → Option ℕ
bad_frame_from code heap homes top least place [] = None
bad_frame_from code heap homes top least place (frame ∷ frames) =
    if is_good_frame code heap homes least (above_of top frames) frame frame.kind
    then bad_frame_from code heap homes top (least_above least frame frame.kind) (place + 1) frames
    else Some place

-- what stands above the topmost frame
abbrev pub above_all : {A : Type 0} → Option A → Above
above_all (Some pending) = Waiting
above_all None = Free

-- the place of the first bad frame
abbrev pub bad_frame : CodeProgram → Heap → Frozen → Option ℕ
bad_frame code heap frozen = bad_frame_from code heap frozen.homes (above_all frozen.pending) 0 0 frozen.frames
