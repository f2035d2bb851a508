-- The test whether a value is live.
use Rattle.std.specs.Prelude.{Bool}
use Rattle.ns_code.specs.declared.program.CodeProgram.{CodeProgram}
use Rattle.ns_code.specs.Selector.{is_selector_number}
use Rattle.ns_world.specs.declared.value.Value.{Value}
use Rattle.ns_world.specs.declared.value.Value.TheVariants.{Sym}
use Rattle.ns_world.specs.Heap.{Heap}
use Rattle.ns_world.specs.Starts.{is_receiver}

-- a symbol is that of a selector, and what refers to a cell can be a receiver
abbrev pub is_live_value : Heap → CodeProgram → Value → Bool
is_live_value heap code (Sym sel) = is_selector_number code sel.0
is_live_value heap code value = is_receiver heap value
