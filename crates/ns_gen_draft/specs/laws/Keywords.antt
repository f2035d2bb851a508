-- How many nodes the arguments of keywords are.
use Rattle.std.proofs.Common.{◌≡◌, ℕ, ◌+◌, length, refl, ap}
use Rattle.ns_tree.specs.Plain as p
use Rattle.ns_scope.specs.Bodies as b
use Rattle.ns_resolved.specs.Expressions as e
use Rattle.ns_gen_code.specs.Code.{how_many}
use Rattle.ns_gen_draft.specs.Keys.{keys_count}

-- The arguments of keywords are as many nodes as keywords.
pub keys_many : (here : e.Standing) (next : ℕ) (keys : p.Keys) → how_many (e.keys_nodes here next keys) ≡ keys_count keys
keys_many here next p.no_keys = refl
keys_many here next (p.more_keys name argument rest) =
    ap (λ n. n + 1) (keys_many here (next + length (b.bin_blocks here.scope argument)) rest)
