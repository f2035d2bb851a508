-- Faults that are listed.
use Rattle.std.specs.Prelude.{ℕ, List}
use Rattle.ns_static_rules.specs.declared.fault.Placed.{Placed}

-- the faults, and for how many more there is room
pub record Listed : Type 0 where
  pub faults : List Placed
  pub left : ℕ
