-- When what a body uses is there, apart from its blocks.
use Rattle.std.specs.Prelude.{ℕ}
use Rattle.ns_resolved.specs.Program as m
use Rattle.ns_resolved.specs.Uses.{Use, a_local, a_level, a_private, a_block, a_message, a_start, a_slot, a_return_home, an_integer, an_array}
use Rattle.ns_resolved.specs.There.{IsThere}

-- What a body of this number uses is there; a block is told of elsewhere.
abbrev pub IsThereButBlocks : m.Meant → ℕ → m.Body → Use → Type 0
IsThereButBlocks meant number body (a_local hops index) = IsThere meant number body (a_local hops index)
IsThereButBlocks meant number body (a_level level) = IsThere meant number body (a_level level)
IsThereButBlocks meant number body (a_private level selector) = IsThere meant number body (a_private level selector)
IsThereButBlocks meant number body (a_block block) = Unit {0}
IsThereButBlocks meant number body (a_message selector count) = IsThere meant number body (a_message selector count)
IsThereButBlocks meant number body (a_start count) = IsThere meant number body (a_start count)
IsThereButBlocks meant number body (a_slot slot) = IsThere meant number body (a_slot slot)
IsThereButBlocks meant number body a_return_home = IsThere meant number body a_return_home
IsThereButBlocks meant number body (an_integer n) = IsThere meant number body (an_integer n)
IsThereButBlocks meant number body (an_array count) = IsThere meant number body (an_array count)
