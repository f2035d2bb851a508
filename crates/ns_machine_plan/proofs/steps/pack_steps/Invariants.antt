use Rattle.std.proofs.Common.{◌≡◌, ◌-◌, ◌≤◌, ◌++◌, drop, length, map, All}
use Rattle.ns_machine_plan.specs.Steps.{prepared}
use Rattle.ns_machine_plan.specs.Making.{AreFrom}
use Rattle.ns_machine_plan.specs.Packed.{EntryIsThere, StandsForSame, unpacked}
use Rattle.ns_machine_plan.proofs.steps.pack_steps.Given as goal

abbrev pub invariant-instrs : goal.invariant-instrs
invariant-instrs l =
    (l.at ≡ l.instr-index) × (length l.left ≤ l.end) × AreFrom l.at l.left × StandsForSame l.initial.tables l.tables
    × All (EntryIsThere l.tables) l.packed.items
    × (map (unpacked l.tables) l.packed.items ++ prepared l.code l.body (l.end - length l.left) l.left l.at (drop l.instr-index l.body.instrs)
    ≡ prepared l.code l.body l.first l.body.places 0 l.body.instrs)
