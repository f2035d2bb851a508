-- What stands around an expression, for a property of the uses in it.
use Rattle.std.specs.Prelude.{◌≡◌, ◌<◌, ◌^◌, ℕ, ℤ, List, [], FitsSigned}
use Rattle.std.specs.Int.{w64}
use Rattle.ns_tree.specs.declared.tree.Named.{Named}
use Rattle.ns_scope.specs.declared.resolve.Target.{Target}
use Rattle.ns_scope.specs.declared.resolve.Target.TheVariants as t
use Rattle.ns_scope.specs.declared.scope.Scope.{Scope}
use Rattle.ns_scope.specs.Resolve.{resolve}
use Rattle.ns_code.specs.Selector.{text_arity}
use Rattle.ns_static_rules.specs.Rules.{outer_found}
use Rattle.ns_resolved.specs.Expressions.{reach_of, reach_self, reach_outer}
use Rattle.ns_resolved.specs.Uses.{Use, a_local, a_message, a_block, an_integer, an_array, ReachHas}

-- A local has the property.
abbrev pub LocalHas : (Use → Type 0) → Target → Type 0
LocalHas Has (t.Local hops index) = Has (a_local hops index)
LocalHas Has (t.Member level private) = Unit {0}
LocalHas Has t.SelfSend = Unit {0}

-- What names mean in a scope has the property, and so have messages, integers and arrays that are right by themselves.
pub record NamesHave (Has : Use → Type 0) (scope : Scope) : Type 0 where
  pub local : (name : List ℕ) → LocalHas Has (resolve scope name)
  pub send : (name : List ℕ) → ReachHas Has (reach_of (resolve scope name)) name
  pub own : (name : List ℕ) → ReachHas Has (reach_self scope name) name
  pub outer : (class : Named) → outer_found scope.classes class ≡ [] → (name : List ℕ) → ReachHas Has (reach_outer scope class.text name) name
  pub message : (selector : List ℕ) (count : ℕ) → count ≡ text_arity selector → count < 2 ^ 8 → Has (a_message selector count)
  pub integer : (n : ℤ) → FitsSigned w64 n → Has (an_integer n)
  pub array : (count : ℕ) → count < 2 ^ 8 → Has (an_array count)
  pub block : (number : ℕ) → Has (a_block number)
