use Rattle.std.proofs.Common.{◌≡◌, ◌≤◌, ℕ, length, IsTrue}
use Rattle.ns_code.specs.declared.program.CodeProgram.{CodeProgram}
use Rattle.ns_world.specs.Heap.{chain_of, is_chain_start}
use Rattle.ns_find.specs.declared.found.Sending.{Sending}
use Rattle.ns_find.specs.declared.members.Side.{Side}
use Rattle.ns_find.specs.Members.{search, members_along}
use Rattle.ns_find.specs.Passed.{PassedHaveNone}
use Rattle.ns_find.proofs.passing.next_stop.Given as goal

abbrev pub invariant-up : goal.invariant-up
invariant-up l =
    IsTrue (is_chain_start l.world.world.cells l.at)
    × (length (chain_of l.world.world.cells l.at) ≤ length (chain_of l.world.world.cells l.class))
    × ((code : CodeProgram) (side : Side) (sel : ℕ) (kind : Sending) → PassedHaveNone l.world.world.cells code side sel kind l.passed
    → search code sel kind (members_along l.world.world.cells code side (chain_of l.world.world.cells l.at))
    ≡ search code sel kind (members_along l.world.world.cells code side (chain_of l.world.world.cells l.class)))

abbrev pub decreases-up : goal.decreases-up
decreases-up l = length (chain_of l.world.world.cells l.at)
