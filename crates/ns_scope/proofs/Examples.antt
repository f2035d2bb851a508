-- Worked examples of what names mean.
use Rattle.std.specs.Prelude.{◌≡◌, ℕ, List, [], ◌∷◌, Option, Some, None, codes, length, false, true, ◌+◌}
use Rattle.std.proofs.Common.{refl}
use Rattle.ns_tree.specs.declared.tree.Named.{Named}
use Rattle.ns_tree.specs.declared.tree.Access.{Access}
use Rattle.ns_tree.specs.declared.tree.Access.TheVariants as a
use Rattle.ns_tree.specs.declared.tree.Origin.TheVariants as o
use Rattle.ns_tree.specs.Plain as p
use Rattle.ns_scope.specs.declared.scope.Scope.{Scope}
use Rattle.ns_scope.specs.declared.scope.CodeSide.TheVariants as side
use Rattle.ns_scope.specs.declared.resolve.Target.TheVariants as t
use Rattle.ns_scope.specs.Scopes.{class_scope, method_scope, block_scope}
use Rattle.ns_scope.specs.Bodies.{bodies_of}
use Rattle.ns_scope.specs.Resolve.{resolve}

abbrev named : List ℕ → ℕ → Named
named text at = record { text = text; at = at }

-- an expression of one primary
abbrev alone : ℕ → p.Primary → p.Expr
alone at primary = p.expr_with [] (p.sent (p.bin_with (p.un_with at primary []) p.no_opers) p.no_keys) p.no_messages

abbrev returning : ℕ → p.Expr → p.Statements
returning at expr = p.statements_with (p.more_statements (p.statement_with (Some at) expr) p.no_statements) false

abbrev method : Option Access → List ℕ → ℕ → p.Expr → p.Member
method access name at expr = p.member_with [] access (p.method_member (p.method_with (p.pattern_with (named name at ∷ []) []) p.no_bars (returning (at + 3) expr)))

abbrev nested : List ℕ → ℕ → Option p.SuperClause → p.Members → p.Member
nested name at clause members = p.member_with [] None (p.class_member (p.class_with (named name at) None clause p.no_bars (p.statements_with p.no_statements false) (p.side_with members []) p.no_class_side))

-- class W packageUsing: m = () (
--   who = (^'outer')
--   class Base = () (public who = (^'inherited'))
--   class In = Base () (public ask = (^who) private own = (^ask))
-- )
abbrev inherits : Option p.SuperClause
inherits = Some (p.clause_with (record { origin = o.Here; name = named (codes "Base") 35 }) None None)

abbrev inner : p.Members
inner = p.more_members (method (Some a.Public) (codes "ask") 40 (alone 44 (p.name (codes "who")))) (p.more_members (method (Some a.Private) (codes "own") 47 (alone 51 (p.name (codes "ask")))) p.no_members)

abbrev outer : p.Class
outer = p.class_with (named (codes "W") 1) (Some (p.pattern_with (named (codes "packageUsing:") 2 ∷ []) (named (codes "m") 3 ∷ []))) None p.no_bars (p.statements_with p.no_statements false)
    (p.side_with (p.more_members (method None (codes "who") 8 (alone 12 (p.string (codes "outer"))))
    (p.more_members (nested (codes "Base") 15 None (p.more_members (method (Some a.Public) (codes "who") 21 (alone 25 (p.string (codes "inherited")))) p.no_members))
    (p.more_members (nested (codes "In") 30 inherits inner) p.no_members))) [])
    p.no_class_side

abbrev inner_class : p.Class
inner_class = p.class_with (named (codes "In") 30) None inherits p.no_bars (p.statements_with p.no_statements false) (p.side_with inner []) p.no_class_side

abbrev in_ask : Scope
in_ask = method_scope (class_scope inner_class ∷ class_scope outer ∷ []) side.Instance [] p.no_bars

-- what an enclosing declaration itself declares is seen, and what the class inherits isn't
who_is_outer : resolve in_ask (codes "who") ≡ t.Member 1 false
who_is_outer = refl

private_is_told : resolve in_ask (codes "own") ≡ t.Member 0 true
private_is_told = refl

unknown_is_sent_to_self : resolve in_ask (codes "foo") ≡ t.SelfSend
unknown_is_sent_to_self = refl

-- a block's parameter hides the member of that name, and a local of the body around it is one hop out
abbrev in_block : Scope
in_block = block_scope (method_scope (class_scope outer ∷ []) side.Instance (named (codes "x") 0 ∷ named (codes "y") 0 ∷ []) p.no_bars) (named (codes "who") 0 ∷ []) p.no_bars

parameter_hides_member : resolve in_block (codes "who") ≡ t.Local 0 0
parameter_hides_member = refl

local_is_one_hop_out : resolve in_block (codes "y") ≡ t.Local 1 1
local_is_one_hop_out = refl

-- initialiser and `who` of W; initialiser and `who` of Base; clause, initialiser, `ask` and `own` of In
eight_bodies : length (bodies_of (p.unit_with false None outer ∷ [])) ≡ 8
eight_bodies = refl
