-- What a name means in a body.
use Rattle.std.specs.Prelude.{ℕ, ◌+◌, Bool, true, false, List, [], ◌∷◌, map, Option, Some, None}
use Rattle.ns_tree.specs.declared.tree.Access.{Access}
use Rattle.ns_tree.specs.declared.tree.Access.TheVariants as a
use Rattle.ns_scope.specs.declared.scope.ClassScope.{ClassScope}
use Rattle.ns_scope.specs.declared.scope.Scope.{Scope}
use Rattle.ns_scope.specs.declared.scope.CodeSide.{CodeSide}
use Rattle.ns_scope.specs.declared.scope.CodeSide.TheVariants as side
use Rattle.ns_scope.specs.declared.resolve.Target.{Target}
use Rattle.ns_scope.specs.declared.resolve.Target.TheVariants as t
use Rattle.ns_scope.specs.declared.names.Local.{Local}
use Rattle.ns_scope.specs.Table.{TableOf, look_up}

-- what was found here, or else further out
abbrev pub here_or : {V : Type 0} → Option V → Option (ℕ × V) → Option (ℕ × V)
here_or (Some value) further = Some (0, value)
here_or None None = None
here_or None (Some found) = Some (found.0 + 1, found.1)

-- the first table that has the text, by how many stand before it, and what the text stands for there
abbrev pub innermost : {V : Type 0} → List (TableOf V) → List ℕ → Option (ℕ × V)
innermost [] text = None
innermost (table ∷ rest) text = here_or (look_up table text) (innermost rest text)

-- the members that count for code on a side: at its own declaration those of its side, further out those of the instance side
abbrev pub own_members : CodeSide → ClassScope → TableOf Access
own_members side.Instance class = class.instance
own_members side.Class class = class.class_side

abbrev pub levels : CodeSide → List ClassScope → List (TableOf Access)
levels side [] = []
levels side (class ∷ outer) = own_members side class ∷ map (λ c. c.instance) outer

abbrev pub is_private : Access → Bool
is_private a.Private = true
is_private a.Protected = false
is_private a.Public = false

-- the member at the least level, or else a send to self
abbrev pub member_or_self : Option (ℕ × Access) → Target
member_or_self None = t.SelfSend
member_or_self (Some found) = t.Member found.0 (is_private found.1)

-- the local of the innermost body that declares the name, or else what it means outside all bodies
abbrev pub local_or : Option (ℕ × Local) → Target → Target
local_or None other = other
local_or (Some found) other = t.Local found.0 found.1.index

abbrev pub resolve : Scope → List ℕ → Target
resolve scope name = local_or (innermost scope.bodies name) (member_or_self (innermost (levels scope.side scope.classes) name))
