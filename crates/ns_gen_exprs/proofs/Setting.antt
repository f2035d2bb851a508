-- Names that are set behind a value are the expression that sets them.
use Rattle.std.proofs.Common.{◌≡◌, ℕ, ◌+◌, ◌-◌, ◌<◌, ◌≤◌, List, [], ◌∷◌, ◌++◌, length, drop, get_or, refl, ap, sym, ◌∙◌, append_assoc, arith}
use Rattle.std.proofs.lemmas.List.{drop_more}
use Rattle.ns_tree.specs.declared.tree.Named.{Named}
use Rattle.ns_scope.specs.declared.resolve.Target.{Target}
use Rattle.ns_scope.specs.declared.resolve.Target.TheVariants as t
use Rattle.ns_scope.specs.Resolve.{resolve}
use Rattle.ns_code.specs.declared.instruction.Instr.TheVariants as i
use Rattle.ns_resolved.specs.Program as m
use Rattle.ns_resolved.specs.Expressions as e
use Rattle.ns_resolved.specs.Tables.{node_names}
use Rattle.ns_gen_code.specs.Code.{CodeLine, Way, does, sends, object_lines, way_of, set_lines}
use Rattle.ns_gen_draft.specs.Drafts.{Written, filled, with_line, with_name}
use Rattle.ns_gen_draft.specs.laws.Filling.{filled_more}
use Rattle.ns_gen_draft.specs.laws.Writing.{written_is, put_more}
use Rattle.ns_gen_exprs.specs.Sending.{meant_reach, with_lines, with_node}
use Rattle.ns_gen_exprs.specs.Setting.{with_setter, with_set, with_sets, setter_reach, setter_sent, below}
use Rattle.ns_gen_exprs.specs.declared.reach.Reach.{Reach}
use Rattle.ns_gen_exprs.specs.declared.reach.Reach.TheVariants as r
use Rattle.ns_gen_exprs.specs.laws.Composing.{behind_node}

-- ---- one name

in_line : (before under : List CodeLine) (pick send pop : CodeLine) →
    filled (filled (filled (filled before under) (pick ∷ [])) (send ∷ [])) (pop ∷ []) ≡ filled before (under ++ pick ∷ send ∷ pop ∷ [])
in_line before under pick send pop = simp (filled_more, append_assoc)

pub setter_put : (reach : Reach) (sent : m.Sent) (way : Way) (depth : ℕ) (before : Written) → way ≡ way_of (meant_reach reach) →
    depth ≡ below reach →
    with_line (with_line (with_name (with_line (with_lines (object_lines (meant_reach reach) []) before) (does (i.Pick depth))) sent.selector) (sends way sent 1)) (does i.Pop)
    ≡ with_setter (meant_reach reach) sent before
setter_put r.Own sent way depth before p q =
    written_is _ _ _ _ _ _ refl refl
    (in_line before.lines (does i.PushSelf ∷ []) (does (i.Pick depth)) (sends way sent 1) (does i.Pop)
    ∙ ap (λ w. filled before.lines (does i.PushSelf ∷ does (i.Pick depth) ∷ sends w sent 1 ∷ does i.Pop ∷ [])) p
    ∙ ap (λ n. filled before.lines (does i.PushSelf ∷ does (i.Pick n) ∷ sends (way_of m.own) sent 1 ∷ does i.Pop ∷ [])) q)
setter_put (r.Enclosing level) sent way depth before p q =
    written_is _ _ _ _ _ _ refl refl
    (in_line before.lines (does (i.PushOuter level) ∷ []) (does (i.Pick depth)) (sends way sent 1) (does i.Pop)
    ∙ ap (λ w. filled before.lines (does (i.PushOuter level) ∷ does (i.Pick depth) ∷ sends w sent 1 ∷ does i.Pop ∷ [])) p
    ∙ ap (λ n. filled before.lines (does (i.PushOuter level) ∷ does (i.Pick n) ∷ sends (way_of m.own) sent 1 ∷ does i.Pop ∷ [])) q)
setter_put (r.PrivateOf level) sent way depth before p q =
    written_is _ _ _ _ _ _ refl refl
    (in_line before.lines [] (does (i.Pick depth)) (sends way sent 1) (does i.Pop)
    ∙ ap (λ w. filled before.lines (does (i.Pick depth) ∷ sends w sent 1 ∷ does i.Pop ∷ [])) p
    ∙ ap (λ n. filled before.lines (does (i.Pick n) ∷ sends (way_of (m.private_of level)) sent 1 ∷ does i.Pop ∷ [])) q)

setter_is : (reach : m.Reach) (sent : m.Sent) (value : m.Node) (before : Written) →
    with_setter reach sent (with_node value before) ≡ with_node (m.set_by_send reach sent value) before
setter_is reach sent value before =
    written_is _ _ _ _ _ _ (sym (put_more (node_names value) (sent.selector ∷ []) before.names)) refl
    (behind_node value (length before.texts) before.lines (set_lines reach sent []))

set_is : (here : e.Standing) (name : Named) (to : Target) (value : m.Node) (before : Written) →
    with_set here name to (with_node value before) ≡ with_node (e.set here name to value) before
set_is here name (t.Local hops index) value before =
    written_is _ _ _ _ _ _ refl refl (behind_node value (length before.texts) before.lines (does (i.StoreLocal hops index) ∷ []))
set_is here name (t.Member level private) value before = setter_is (setter_reach here name) (setter_sent here name) value before
set_is here name t.SelfSend value before = setter_is (setter_reach here name) (setter_sent here name) value before

-- ---- names in turn

pub sets_are : (here : e.Standing) (names : List Named) (value : m.Node) (before : Written) →
    with_sets here names (with_node value before) ≡ with_node (e.sets_of here names value) before
sets_are here [] value before = refl
sets_are here (name ∷ names) value before =
    ap (with_set here name (resolve here.scope name.text)) (sets_are here names value before)
    ∙ set_is here name (resolve here.scope name.text) (e.sets_of here names value) before

-- one name more, from the last to the first
pub one_more : (here : e.Standing) (names : List Named) (left : ℕ) (name : Named) (before : Written) → 0 < left → left ≤ length names →
    name ≡ get_or names (left - 1) name →
    with_set here name (resolve here.scope name.text) (with_sets here (drop left names) before) ≡ with_sets here (drop (left - 1) names) before
one_more here names left name before some within is =
    let at : left - 1 + 1 ≡ left = omega (arith, some) in
    let first : drop (left - 1) names ≡ get_or names (left - 1) name ∷ drop (left - 1 + 1) names =
    drop_more names (left - 1) name (omega (arith, some, within)) in
    let parts : drop (left - 1) names ≡ name ∷ drop left names =
    first ∙ (ap (λ n. get_or names (left - 1) name ∷ drop n names) at ∙ ap (λ n. n ∷ drop left names) (sym is)) in
    ap (λ left. with_sets here left before) (sym parts)
