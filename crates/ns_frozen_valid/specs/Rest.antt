-- What is asked of the rest, part by part.
use Rattle.std.specs.Prelude.{nat_lt, nat_le, not, List, length, Bool, ◌&&◌, if◌then◌else◌}
use Rattle.std.specs.Option.{is_some}
use Rattle.ns_base.specs.declared.selector.Sel.{Sel}
use Rattle.ns_code.specs.declared.program.CodeProgram.{CodeProgram}
use Rattle.ns_world.specs.declared.value.Value.{Value}
use Rattle.ns_world.specs.Heap.{Heap}
use Rattle.ns_moves.specs.Blocks.{is_block}
use Rattle.ns_moves.specs.declared.site.Site.{Site}
use Rattle.ns_frozen.specs.declared.frozen.Frozen.{Frozen}
use Rattle.ns_frozen.specs.Live.{is_live, are_live}
use Rattle.ns_frozen.specs.Frames.{is_site}
use Rattle.ns_frozen.specs.Rest.{goes_on, takes_arguments, is_good_waiting, is_good_end}

-- whether no counter passes its limit
abbrev pub are_within : Frozen → Bool
are_within frozen =
    (nat_le frozen.used.steps frozen.limits.steps && nat_le frozen.used.cells frozen.limits.cells)
    && (nat_le frozen.used.depth frozen.limits.depth && nat_le frozen.used.out frozen.limits.out)

-- whether something goes on exactly where a run was begun and hasn't ended
abbrev pub goes_on_where : Frozen → Bool
goes_on_where frozen =
    if is_some frozen.ending then not (goes_on frozen)
    else (if nat_lt 0 frozen.phase then goes_on frozen else not (goes_on frozen))

-- whether what is pending and the ending are as they must be
abbrev pub is_good_end_of : CodeProgram → Heap → Frozen → Bool
is_good_end_of code heap frozen = is_good_waiting code heap frozen.frames frozen.pending && is_good_end code heap frozen.phase frozen.ending

-- whether a send can be made
abbrev pub can_send : CodeProgram → Heap → Value → Sel → List Value → Site → Bool
can_send code heap receiver sel arguments site =
    is_live code heap receiver
    && ((takes_arguments code sel (length arguments) && nat_le (length arguments) 255) && (are_live code heap arguments && is_site code site))

-- whether a block can be evaluated
abbrev pub can_evaluate : CodeProgram → Heap → Value → List Value → Site → Bool
can_evaluate code heap block arguments site =
    (is_block heap block && nat_le (length arguments) 255) && (are_live code heap arguments && is_site code site)
