-- The bodies of the blocks in a block.
use Rattle.std.specs.Prelude.{ℕ, ◌+◌, List, ◌++◌, length}
use Rattle.ns_tree.specs.Plain as p
use Rattle.ns_scope.specs.Bodies as b
use Rattle.ns_resolved.specs.Program as m
use Rattle.ns_resolved.specs.Expressions.{Standing}
use Rattle.ns_resolved.specs.Statements.{bars_bodies, statements_bodies}

-- the bodies of the blocks in a block whose expressions stand so
abbrev pub inside_bodies : Standing → ℕ → p.Block → List m.Body
inside_bodies here next (p.block_with params bars body) =
    bars_bodies here next bars ++ statements_bodies here (next + length (b.bars_blocks here.scope bars)) body
