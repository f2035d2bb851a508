use Rattle.std.proofs.Common.{◌∷◌}
use Rattle.ns_world.specs.Heap.{write_word, write_byte}
use Rattle.ns_world.specs.Cell.{with_word, with_byte}
use Rattle.ns_world.specs.laws.Changing.{word_plainly, byte_plainly}
use Rattle.ns_world.specs.laws.Classes.{lawful_order}
use Rattle.ns_world.specs.laws.Twins.{making_keeps_cells, changing_keeps_cells, word_twins, byte_twins}
use Rattle.ns_world.specs.laws.Staying.{value_stays}
use Rattle.ns_world.proofs.lawful.live_values_stay_live.Goals as goal

pub returns-clause-made : goal.returns-clause-made
returns-clause-made c = λ cell world code value lawful live.
    value_stays world.cells (cell ∷ world.cells) code value (making_keeps_cells world.cells cell (lawful_order world code lawful)) live

pub returns-clause-written : goal.returns-clause-written
returns-clause-written c = λ at word new world code value lawful live.
    value_stays world.cells (write_word world.cells at word new) code value
    (changing_keeps_cells world.cells at (λ cell. with_word cell word new) (word_plainly word new) (word_twins word new) (lawful_order world code lawful)) live

pub returns-clause-byte_written : goal.returns-clause-byte_written
returns-clause-byte_written c = λ at place byte world code value lawful live.
    value_stays world.cells (write_byte world.cells at place byte) code value
    (changing_keeps_cells world.cells at (λ cell. with_byte cell place byte) (byte_plainly place byte) (byte_twins place byte) (lawful_order world code lawful)) live
