-- What the rules on names give of a class's record.
use Rattle.std.specs.Prelude.{◌≡◌, ◌≤◌, ◌<◌, true, ℕ, map, length}
use Rattle.ns_code.specs.Soundness.{are_different}
use Rattle.ns_resolved.specs.Program as m
use Rattle.ns_resolved.specs.Right.{members_of}

-- Its slots, nested classes and methods are few.
pub record HasFewMembers (class : m.Declaration) : Type 0 where
  pub few_slots : length class.slots ≤ 1023
  pub few_nested : length class.nested ≤ 1023
  pub few_methods : length class.methods ≤ 1023
  pub few_side_methods : length class.side_methods ≤ 1023

-- Its parameters are few, and so are its members, of which no two of a side have one selector.
pub record MembersDiffer (meant : m.Meant) (number : ℕ) (class : m.Declaration) : Type 0 where
  pub few_params : class.params < 64
  pub members_differ : are_different (members_of meant class) ≡ true
  pub side_members_differ : are_different (map (λ (method : m.Method). method.selector) class.side_methods) ≡ true
  pub few : HasFewMembers class
