-- Lists that share their tails.
use Rattle.std.specs.Prelude.{List, [], ◌∷◌, Option, Some, None}
use Rattle.std.specs.declared.rc.Rc.{Rc}
use Rattle.std.specs.Global.{Global}

-- the innermost item, and then those further out
abbrev pub items : {T : Type 0} → Option (T × Rc (List T) Global) → List T
items None = []
items (Some inside) = inside.0 ∷ inside.1.value
