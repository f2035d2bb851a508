-- The kernel's rows as actions of a run.
use Rattle.std.specs.Prelude.{pos, List, Result, Ok, Err}
use Rattle.ns_base.specs.declared.selector.Sel.{Sel}
use Rattle.ns_code.specs.declared.program.CodeProgram.{CodeProgram}
use Rattle.ns_world.specs.declared.value.Value.{Value}
use Rattle.ns_world.specs.declared.value.Value.TheVariants.{Int, Sym}
use Rattle.ns_world.specs.declared.ending.Fault.{Fault}
use Rattle.ns_world.specs.declared.ending.Fault.TheVariants as fault
use Rattle.ns_world.specs.declared.ending.Kind.TheVariants.{NotUnderstood}
use Rattle.ns_world.specs.Heap.{cell_number}
use Rattle.ns_kint.specs.Integer.{integer}
use Rattle.ns_world.specs.declared.kernel_parts.DataRow.{DataRow}
use Rattle.ns_world.specs.declared.kernel_parts.DataRow.TheVariants.{DoesNotUnderstand}
use Rattle.ns_kdata.specs.Outcome.{RowOutcome, Answers, Fails}
use Rattle.ns_kdata.specs.Arguments.{argument, number_of, shape_of_value}
use Rattle.ns_kdata.specs.Rows.{message_selector}
use Rattle.ns_kdata.specs.Datum.{datum}
use Rattle.ns_world.specs.declared.kernel_parts.FacetRow.{FacetRow}
use Rattle.ns_world.specs.declared.kernel_parts.FacetRow.TheVariants as facet
use Rattle.ns_facets.specs.Facet.{facet as facet_outcome, board_after}
use Rattle.ns_mirror.specs.declared.row.Mirrored.{Mirrored}
use Rattle.ns_mirror.specs.declared.row.Mirrored.TheVariants.{Answer, Perform as MirrorPerform}
use Rattle.ns_mirror.specs.Mirror.{Reflected, Reflects, Refuses, mirror}
use Rattle.ns_world.specs.declared.kernel_row.Row.{Row}
use Rattle.ns_world.specs.declared.kernel_row.Row.TheVariants as row
use Rattle.ns_moves.specs.declared.site.Site.{Site}
use Rattle.ns_moves.specs.Site.{fault_ending, site_of_message}
use Rattle.ns_moves.specs.Control.{Progress, in_world, Control, Now, Evaluate, Perform, gives, halts}
use Rattle.ns_moves.specs.Classes.{mixed}
use Rattle.ns_moves.specs.Blocks.{block_arity, value_with_arguments, method_begun}

-- what a row of data comes to
abbrev pub outcome_reached : RowOutcome → Site → Progress → Control
outcome_reached (Answers value world) site progress = gives value (in_world progress world)
outcome_reached (Fails fault) site progress = halts (fault_ending fault site) progress

-- what a row comes to that changes nothing
abbrev pub answer_reached : Result Value Fault → Site → Progress → Control
answer_reached (Ok value) site progress = gives value progress
answer_reached (Err fault) site progress = halts (fault_ending fault site) progress

-- what a mirror's row comes to
abbrev pub mirrored_reached : Mirrored → Site → Progress → Control
mirrored_reached (Answer value) site progress = gives value progress
mirrored_reached (MirrorPerform receiver sel array) site progress = Perform receiver sel array site progress

abbrev pub reflected_reached : Reflected → Site → Progress → Control
reflected_reached (Reflects answer world) site progress = mirrored_reached answer site (in_world progress world)
reflected_reached (Refuses fault) site progress = halts (fault_ending fault site) progress

-- a row that may change the board
abbrev pub facet_reached : CodeProgram → FacetRow → List Value → Site → Progress → Control
facet_reached code row arguments site progress =
    outcome_reached (facet_outcome progress.world code row arguments progress.board) site (record progress { board = board_after row arguments progress.board })

-- the site that names a fault of `doesNotUnderstand:`: with the Message's selector, where it is NotUnderstood
abbrev pub message_site : Fault → Value → Site → Site
message_site (fault.Kind NotUnderstood) (Sym sel) site = site_of_message site sel
message_site fault selector site = site

-- the kernel's `doesNotUnderstand:`
abbrev pub message_refused : RowOutcome → Value → Site → Progress → Control
message_refused (Answers value world) selector site progress = gives value (in_world progress world)
message_refused (Fails fault) selector site progress = halts (fault_ending fault (message_site fault selector site)) progress

-- a row of the data of values
abbrev pub data_reached : CodeProgram → DataRow → Value → List Value → Site → Progress → Control
data_reached code DoesNotUnderstand receiver arguments site progress =
    message_refused (datum progress.world code DoesNotUnderstand receiver arguments)
    (message_selector progress.world.cells (argument arguments 0)) site progress
data_reached code row receiver arguments site progress = outcome_reached (datum progress.world code row receiver arguments) site progress

-- a row with its receiver and its arguments, sent as that selector
abbrev pub row_reached : CodeProgram → Row → Sel → Value → List Value → Site → Progress → Control
row_reached code (row.Data about) sel receiver arguments site progress = data_reached code about receiver arguments site progress
row_reached code (row.Integer int) sel receiver arguments site progress =
    answer_reached (integer int (number_of receiver) (argument arguments 0)) site progress
row_reached code row.Top sel receiver arguments site progress = facet_reached code (facet.Top sel) arguments site progress
row_reached code (row.Facet facet) sel receiver arguments site progress = facet_reached code facet arguments site progress
row_reached code (row.Mirror mirrors) sel receiver arguments site progress =
    reflected_reached (mirror progress.world code mirrors (cell_number receiver) arguments) site progress
row_reached code (row.Method method) sel receiver arguments site progress =
    method_begun method receiver (argument arguments 0) (argument arguments 1) site progress
row_reached code row.Apply sel receiver arguments site progress =
    Now (mixed code (shape_of_value progress.world.cells receiver) (argument arguments 0) site progress)
row_reached code row.Value sel receiver arguments site progress = Evaluate receiver arguments site progress
row_reached code row.ValueWithArguments sel receiver arguments site progress =
    value_with_arguments receiver (argument arguments 0) site progress
row_reached code row.NumArgs sel receiver arguments site progress =
    gives (Int (pos (block_arity code progress.world.cells receiver))) progress
