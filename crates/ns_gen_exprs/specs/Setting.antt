-- What is written of names that are set, behind the value that they are set to.
use Rattle.std.specs.Prelude.{ℕ, List, [], ◌∷◌, ◌++◌, codes}
use Rattle.ns_tree.specs.declared.tree.Named.{Named}
use Rattle.ns_scope.specs.declared.resolve.Target.{Target}
use Rattle.ns_scope.specs.declared.resolve.Target.TheVariants as t
use Rattle.ns_scope.specs.Resolve.{resolve}
use Rattle.ns_code.specs.declared.instruction.Instr.TheVariants as i
use Rattle.ns_resolved.specs.Program as m
use Rattle.ns_resolved.specs.Expressions as e
use Rattle.ns_gen_code.specs.Code.{does, set_lines}
use Rattle.ns_gen_draft.specs.Drafts.{Written, with_name}
use Rattle.ns_gen_exprs.specs.Sending.{with_lines}
use Rattle.ns_gen_exprs.specs.declared.reach.Reach.{Reach}
use Rattle.ns_gen_exprs.specs.declared.reach.Reach.TheVariants as r

-- with a setter that is sent to an object
abbrev pub with_setter : m.Reach → m.Sent → Written → Written
with_setter reach sent before = with_lines (set_lines reach sent []) (with_name before sent.selector)

-- how far below the top the value lies that a setter is sent
abbrev pub below : Reach → ℕ
below r.Own = 1
below (r.Enclosing level) = 1
below (r.PrivateOf level) = 0

-- the send of a name's setter
abbrev pub setter_sent : e.Standing → Named → m.Sent
setter_sent here name = e.sent_at here (name.text ++ codes ":") name.at

-- what the setter of a name reaches
abbrev pub setter_reach : e.Standing → Named → m.Reach
setter_reach here name = e.reach_of (resolve here.scope (name.text ++ codes ":"))

-- with a name set that means this
abbrev pub with_set : e.Standing → Named → Target → Written → Written
with_set here name (t.Local hops index) before = with_lines (does (i.StoreLocal hops index) ∷ []) before
with_set here name (t.Member level private) before = with_setter (setter_reach here name) (setter_sent here name) before
with_set here name t.SelfSend before = with_setter (setter_reach here name) (setter_sent here name) before

-- with names set, the last first
abbrev pub with_sets : e.Standing → List Named → Written → Written
with_sets here [] before = before
with_sets here (name ∷ names) before = with_set here name (resolve here.scope name.text) (with_sets here names before)
