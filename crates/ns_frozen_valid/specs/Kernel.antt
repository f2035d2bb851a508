-- What is asked of a frame of the kernel, part by part.
use Rattle.std.specs.Prelude.{ℕ, pos, int_le, Bool, true, ◌==◌, ◌&&◌}
use Rattle.std.specs.Option.{option_map_or}
use Rattle.std.specs.Ordering.{int_eq}
use Rattle.ns_code.specs.declared.program.CodeProgram.{CodeProgram}
use Rattle.ns_world.specs.Heap.{Heap, no_class}
use Rattle.ns_world.specs.Seek.{is_nil}
use Rattle.ns_world.specs.declared.kernel_parts.KMethod.{KMethod}
use Rattle.ns_kcode.specs.declared.state.KState.{KState}
use Rattle.ns_moves.specs.Bodies.{no_home}
use Rattle.ns_moves.specs.Blocks.{has_arguments}
use Rattle.ns_moves.specs.Fitting.{belongs_to, counts_fit}
use Rattle.ns_frozen.specs.declared.frame.FrozenFrame.{FrozenFrame}
use Rattle.ns_frozen.specs.Cells.{is_empty}
use Rattle.ns_frozen.specs.Live.{is_live}

-- whether all values of a state are live
abbrev pub has_live_values : CodeProgram → Heap → KState → Bool
has_live_values code heap state =
    is_live code heap state.receiver && (is_live code heap state.first && (is_live code heap state.second && option_map_or (is_live code heap) state.last true))

-- whether a state has what its method asks for
abbrev pub has_method : Heap → KMethod → KState → Bool
has_method heap method state =
    belongs_to heap state.receiver method && (has_arguments heap method state.first state.second && counts_fit heap state method)

-- whether the counts of a state are within so many elements
abbrev pub counts_within : KState → ℕ → Bool
counts_within state count = int_eq state.size (pos count) && int_le (pos 0) state.count && int_le state.count state.size

-- whether a frame has no instruction, holder and home
abbrev pub has_no_place : FrozenFrame → Bool
has_no_place frame = frame.instr == 0 && (frame.holder == no_class && frame.home == no_home)

-- whether a frame has no environment, locals and operands
abbrev pub has_no_values : FrozenFrame → Bool
has_no_values frame = is_nil frame.env && (is_empty frame.locals && is_empty frame.operands)
