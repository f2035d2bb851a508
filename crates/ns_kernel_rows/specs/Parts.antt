-- The parts of the kernel's rows that have no name of their own there.
use Rattle.std.specs.Prelude.{List}
use Rattle.ns_code.specs.declared.program.CodeProgram.{CodeProgram}
use Rattle.ns_world.specs.declared.value.Value.{Value}
use Rattle.ns_world.specs.Heap.{cell_number}
use Rattle.ns_kdata.specs.Outcome.{Fails}
use Rattle.ns_kdata.specs.Arguments.{shape_of_value}
use Rattle.ns_kdata.specs.Rows.{not_understood, message_selector}
use Rattle.ns_world.specs.declared.kernel_parts.MirrorRow.{MirrorRow}
use Rattle.ns_mirror.specs.Mirror.{mirror}
use Rattle.ns_moves.specs.declared.site.Site.{Site}
use Rattle.ns_moves.specs.Control.{Progress, Control, Now}
use Rattle.ns_moves.specs.Classes.{mixed}
use Rattle.ns_moves.specs.Kernel.{message_refused, reflected_reached}

-- the kernel's `doesNotUnderstand:` of a message
abbrev pub refused : Value → Site → Progress → Control
refused message site progress =
    message_refused (Fails (not_understood progress.world.cells message)) (message_selector progress.world.cells message) site progress

-- a row of a mirror
abbrev pub mirror_reached : CodeProgram → MirrorRow → Value → List Value → Site → Progress → Control
mirror_reached code row receiver arguments site progress =
    reflected_reached (mirror progress.world code row (cell_number receiver) arguments) site progress

-- mixin application
abbrev pub applied : CodeProgram → Value → Value → Site → Progress → Control
applied code mixin over site progress = Now (mixed code (shape_of_value progress.world.cells mixin) over site progress)
