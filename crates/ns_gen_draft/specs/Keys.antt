-- The keys of a message, as they are counted.
use Rattle.std.specs.Prelude.{ℕ, ◌+◌}
use Rattle.ns_tree.specs.Plain as p

-- how many keys there are
abbrev pub keys_count : p.Keys → ℕ
keys_count p.no_keys = 0
keys_count (p.more_keys name argument rest) = keys_count rest + 1
