-- Parts of a plain tree.
use Rattle.std.specs.Prelude.{ℕ}
use Rattle.ns_tree.specs.Plain as p

-- the token of the first key of a message, 0 where it has no keys
abbrev pub first_key : p.Keys → ℕ
first_key p.no_keys = 0
first_key (p.more_keys name argument rest) = name.at

-- the class of a file
abbrev pub unit_class : p.SourceUnit → p.Class
unit_class (p.unit_with marker category class) = class
