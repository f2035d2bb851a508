-- Methods, classes and files stop behind fronts.
use Rattle.std.proofs.Common.{◌≡◌, ℕ, zero, suc, ◌+◌, inr, inl, List, [], ◌∷◌, ◌++◌, length, Some, None, refl, sym, ap, subst, ◌∙◌, append_assoc, length-append, arith}
use Rattle.ns_tree.specs.declared.token.Kind.{Kind}
use Rattle.ns_tree.specs.declared.token.Kind.TheVariants as k
use Rattle.ns_tree.specs.declared.token.Reserved.TheVariants as words
use Rattle.ns_tree.specs.Flat.{equals, over_sign}
use Rattle.ns_tree.specs.Forms as f
use Rattle.ns_tree.specs.Grammar as g
use Rattle.ns_tree.specs.Lists.{key_list, member_list}
use Rattle.ns_tree.specs.Plain as p
use Rattle.ns_tree.specs.Rule.{Rule, token, ◌&◌, many, flat_all, GoodAll, maybe, flat_option, either, mapped, ◌▸◌, ◌◂◌}
use Rattle.ns_tree.specs.Made.{made_clause, made_unit, made_method}
use Rattle.ns_parse.specs.declared.classes.SideOf.{SideOf}
use Rattle.ns_parse.specs.declared.classes.SideOf.TheVariants as sides
use Rattle.ns_parse_exprs.specs.declared.expressions.Holder.{Holder}
use Rattle.ns_parse_exprs.specs.declared.expressions.Holder.TheVariants as h
use Rattle.ns_parse_tokens.specs.declared.mark.Mark.TheVariants as m
use Rattle.ns_parse_tokens.specs.declared.name.Sort.TheVariants as s
use Rattle.ns_parse_tokens.specs.declared.name.Operators.TheVariants as o
use Rattle.ns_parse_tokens.specs.Read.{Reader, Labelled, tail, item}
use Rattle.ns_parse_tokens.specs.Mark as marks
use Rattle.ns_parse_tokens.specs.Name as names
use Rattle.ns_parse_tokens.specs.Leaf as leaves
use Rattle.ns_parse_tokens.specs.Pattern.{starts_base}
use Rattle.ns_parse.specs.Classes as x
use Rattle.ns_parse_exprs.specs.Expressions as exprs
use Rattle.ns_parse_tokens.specs.laws.Sound.{Becomes, sound_mapped}
use Rattle.ns_parse_tokens.specs.laws.SoundLists.{labelled, sound_labelled}
use Rattle.ns_parse.proofs.Halts.{Halts, Leads, stopped_value, stopped_leads, halts_none, halts_mapped, halts_if_mapped, halts_same, halts_both, halts_after, halts_until, halts_or, halts_or_if, halts_maybe, both_lead, regroup_leads, form_leads}
use Rattle.ns_parse.proofs.HaltsLabels.{labelled_stops}
use Rattle.ns_parse.proofs.HaltsTokens.{halts_skip, halts_flag, halts_ident, halts_oper, halts_string, halts_strings, halts_access, halts_pattern, halts_factory, halts_base}
use Rattle.ns_parse.proofs.HaltsPhrases.{by_arm, some_keys, halts_some_keys, slot_rule, halts_bars, halts_statements, halts_primary}

halts_over : Halts x.over (maybe (over_sign ▸ g.base))
halts_over = halts_maybe (marks.is_mark m.Over) (halts_after (halts_skip m.Over) halts_base)

halts_category : Halts x.category (maybe g.string)
halts_category = halts_maybe leaves.is_string halts_string

-- a token behind two parts stands behind the second
ended : {A B : Type 0} (r : Rule A) (s : Rule B) (kind : Kind) → Becomes ((r & s) ◂ kind) (r & s ◂ kind) (λ a. a)
ended r s kind n (a, b) good = ((good.0.0, (good.0.1, tt)), sym (append_assoc (r.flat a) (s.flat b) (kind ∷ [])))

module _ (primary : Reader p.Primary) (rule : Rule p.Primary) (P : Halts primary rule) where
  keys_become : Becomes (some_keys primary rule P o.All g.oper halts_oper) (maybe (g.super_message rule)) (λ keys. Some (p.keywords keys))
  keys_become n a good =
      by_arm inr (g.keys rule g.oper) (either g.ident (g.keys rule g.oper)) (λ n a good. good) (λ a. refl)
      (λ keys. f.once_or_more_of (key_list keys)) f.super_message_form n (f.once_or_more_of (key_list a)) good

  halts_super_message : Halts (x.super_message primary) (maybe (g.super_message rule))
  unfolding x.super_message
  halts_super_message =
      halts_or (names.is_name s.Ident) (halts_mapped (λ n. Some (p.unary n)) (maybe (g.super_message rule)) halts_ident (λ n a good. (good, refl)) (λ n f h. inr (inl h)))
      (halts_or_if (halts_if_mapped (λ keys. Some (p.keywords keys)) (maybe (g.super_message rule)) (halts_some_keys primary rule P o.All g.oper halts_oper) keys_become (λ n f h. inr (inr h)))
      (halts_none (maybe (g.super_message rule)) None (λ n. tt) refl))

  halts_clause : Halts (x.clause primary) (g.clause rule)
  unfolding x.clause
  halts_clause = halts_mapped made_clause (g.clause rule) (halts_both halts_base (halts_both halts_over halts_super_message)) (λ n a good. (good, refl)) (λ n f h. h)

  -- slots and statements between parentheses
  abbrev body_rule : Holder → Rule (p.Bars × p.Statements)
  body_rule holder = k.Open ▸ (g.bars rule (slot_rule primary rule P holder) & g.stmts rule ◂ k.Close)

  halts_body : (holder : Holder) → Halts (x.body primary holder) (body_rule holder)
  unfolding x.body
  halts_body holder = halts_after (halts_skip m.Open)
      (halts_same (g.bars rule (slot_rule primary rule P holder) & g.stmts rule ◂ k.Close) (halts_until (halts_both (halts_bars primary rule P holder) (halts_statements primary rule P)) (halts_skip m.Close))
      (ended (g.bars rule (slot_rule primary rule P holder)) (g.stmts rule) k.Close) (regroup_leads (g.bars rule (slot_rule primary rule P holder)) (g.stmts rule) (token k.Close)))

  halts_method : Halts (x.method primary) (g.method rule)
  unfolding x.method
  halts_method = halts_mapped made_method (g.method rule) (halts_both halts_pattern (halts_after (halts_skip m.Equals) (halts_body h.Code))) (λ n a good. (good, refl)) (λ n f h. h)

  halts_method_member : Halts (x.method_member primary) (g.method_member rule)
  halts_method_member = halts_mapped p.method_member (g.method_member rule) halts_method (λ n a good. (good, refl)) (λ n f h. h)

  -- what stands before the initialiser of a class
  abbrev head_rule : Rule x.ClassHead
  head_rule = k.Word words.Class ▸ (g.ident & (maybe g.factory & (equals ▸ maybe (g.clause rule))))

  halts_head : Halts (x.head primary) head_rule
  unfolding x.head
  halts_head = halts_after (halts_skip m.ClassWord) (halts_both halts_ident (halts_both halts_factory (halts_after (halts_skip m.Equals) (halts_maybe starts_base halts_clause))))

  -- ---- sides

  module _ (what : Rule p.What) where
    -- members with their categories, and the categories behind the last
    abbrev members_rule : Rule (Labelled (List (List ℕ)) x.MemberForm)
    members_rule = labelled (many g.string) (maybe g.access & what)

    abbrev side_inside : Rule (List p.Member × List (List ℕ))
    side_inside = many (g.member rule what) & many g.string

    abbrev side_of : Labelled (List (List ℕ)) x.MemberForm → List p.Member × List (List ℕ)
    side_of l = (member_list (x.members_from l), x.tail_from l)

    -- a member, and what stands behind it, in the order in which the grammar tells them
    item_good : (n : ℕ) (l : List (List ℕ)) (a : x.MemberForm) (ms : List p.Member) (t : List (List ℕ)) → (many g.string).Good n l → (maybe g.access & what).Good (n + length (flat_all g.string l)) a
        → side_inside.Good (n + length (flat_all g.string l) + length ((maybe g.access & what).flat a)) (ms, t) → side_inside.Good n (p.member_with l a.0 a.1 ∷ ms, t)
    item_good n l a ms t gl ga rest =
        let w : List Kind = (g.member rule what).flat (p.member_with l a.0 a.1) in
        let size : length w ≡ length (flat_all g.string l) + length ((maybe g.access & what).flat a) = length-append (flat_all g.string l) ((maybe g.access & what).flat a) in
        let more : length (w ++ flat_all (g.member rule what) ms) ≡ length w + length (flat_all (g.member rule what) ms) = length-append w (flat_all (g.member rule what) ms) in
        (((gl, ga), subst (λ i. GoodAll (g.member rule what) i ms) (omega (arith, size)) rest.0), subst (λ i. GoodAll g.string i t) (omega (arith, size, more)) rest.1)

    members_become : (n : ℕ) (l : Labelled (List (List ℕ)) x.MemberForm) → members_rule.Good n l → side_inside.Good n (side_of l) × (side_inside.flat (side_of l) ≡ members_rule.flat l)
    members_become n (tail l) good = ((tt, subst (λ i. GoodAll g.string i l) (omega arith) good), refl)
    members_become n (item l a rest) good =
        let ms : List p.Member = member_list (x.members_from rest) in
        let t : List (List ℕ) = x.tail_from rest in
        let h : side_inside.Good (n + length (flat_all g.string l) + length ((maybe g.access & what).flat a)) (ms, t) × (side_inside.flat (ms, t) ≡ members_rule.flat rest) =
        members_become (n + length (flat_all g.string l) + length ((maybe g.access & what).flat a)) rest good.1.1 in
        let w : List Kind = (g.member rule what).flat (p.member_with l a.0 a.1) in (
          item_good n l a ms t good.0 good.1.0 h.0,
          append_assoc w (flat_all (g.member rule what) ms) (flat_all g.string t) ∙ ap (λ v. w ++ v) h.1 ∙ append_assoc (flat_all g.string l) ((maybe g.access & what).flat a) (members_rule.flat rest),
        )

    side_becomes : Becomes (k.Open ▸ mapped f.side_form side_inside ◂ k.Close) (g.side rule what) (λ a. a)
    side_becomes n (p.side_with members rest) good =
        ((tt, (good.1.0.0, (good.1.0.1, tt))), ap (λ w. k.Open ∷ w) (sym (append_assoc (flat_all (g.member rule what) (member_list members)) (flat_all g.string rest) (k.Close ∷ []))))

    side_leads : Leads (k.Open ▸ mapped f.side_form side_inside ◂ k.Close) (g.side rule what)
    side_leads n w h = both_lead (token k.Open) (mapped f.side_form side_inside ◂ k.Close) (many (g.member rule what) & many g.string ◂ k.Close)
        (λ n w h. regroup_leads (many (g.member rule what)) (many g.string) (token k.Close) n w (form_leads f.side_form side_inside (token k.Close) n w h)) n w h

    -- a class side, or nothing
    abbrev class_side_rule : Rule p.ClassSide
    class_side_rule = mapped (λ side. Some (f.class_side_form side)) (maybe (k.Colon ▸ g.side rule what))

  -- what a member of a side is
  abbrev what_rule : Rule p.What → SideOf → Rule p.What
  what_rule what sides.Instance = what
  what_rule what sides.ClassObject = g.method_member rule

  module _ (what : Reader p.What) (rule_what : Rule p.What) (W : Halts what rule_what) where
    halts_what_of : (side : SideOf) → Halts (x.what_of primary what side) (what_rule rule_what side)
    halts_what_of sides.Instance = W
    halts_what_of sides.ClassObject = halts_method_member

    halts_members : (side : SideOf) → Halts (x.members primary what side) (mapped f.side_form (side_inside (what_rule rule_what side)))
    halts_members side = record {
      sound = sound_mapped x.side_from (mapped f.side_form (side_inside (what_rule rule_what side))) (sound_labelled (x.starts_member side) halts_strings.sound (halts_both halts_access (halts_what_of side)).sound) (members_become (what_rule rule_what side));
      stops = λ n ts told. stopped_value (mapped f.side_form (side_inside (what_rule rule_what side))) n ts _ x.side_from (stopped_leads (side_inside (what_rule rule_what side)) (mapped f.side_form (side_inside (what_rule rule_what side))) (λ n f h. h) n ts _
          (labelled_stops (x.starts_member side) leaves.strings (x.member primary what side) (many g.string) (maybe g.access & what_rule rule_what side) (g.member rule (what_rule rule_what side)) (λ y. p.member_with y.0 y.1.0 y.1.1)
          halts_strings (halts_both halts_access (halts_what_of side)) (λ n a good. (good, refl)) (λ n f h. h) n ts told));
    }

    halts_side : (side : SideOf) → Halts (x.side primary what side) (g.side rule (what_rule rule_what side))
    unfolding x.side
    halts_side side = halts_same (g.side rule (what_rule rule_what side)) (halts_after (halts_skip m.Open) (halts_until (halts_members side) (halts_skip m.Close))) (side_becomes (what_rule rule_what side)) (side_leads (what_rule rule_what side))

    halts_class_side : Halts (x.class_side primary what) (class_side_rule (g.method_member rule))
    unfolding x.class_side
    halts_class_side =
        halts_or (marks.is_mark m.Colon) (halts_mapped p.class_side_with (class_side_rule (g.method_member rule)) (halts_after (halts_skip m.Colon) (halts_side sides.ClassObject)) (λ n a good. (good, refl)) (λ n f h. inr h))
        (halts_none (class_side_rule (g.method_member rule)) p.no_class_side (λ n. tt) refl)

    -- ---- classes

    abbrev class_parts : Rule ((x.ClassHead × (p.Bars × p.Statements)) × (p.Side × p.ClassSide))
    class_parts = (head_rule & body_rule h.Object) & (g.side rule rule_what & class_side_rule (g.method_member rule))

    class_good : (n : ℕ) (a : (x.ClassHead × (p.Bars × p.Statements)) × (p.Side × p.ClassSide)) → class_parts.Good n a → (g.class rule rule_what).Good n (x.class_from a)
    class_good n ((hd, bd), (sd, cs)) good =
        let F : List Kind = flat_option g.factory hd.1.0 in
        let C : List Kind = flat_option (g.clause rule) hd.1.1 in
        let B : List Kind = (body_rule h.Object).flat bd in
        let size : length (F ++ equals ∷ C) ≡ length F + length (equals ∷ C) = length-append F (equals ∷ C) in
        let more : length (head_rule.flat hd ++ B) ≡ length (head_rule.flat hd) + length B = length-append (head_rule.flat hd) B in
        let there : n + length (head_rule.flat hd) ≡ n + 1 + 1 + length F + 1 + length C = omega (arith, size) in
        let behind : n + length (head_rule.flat hd ++ B) ≡ n + 1 + 1 + length F + 1 + length C + length B = omega (arith, size, more) in (
          tt,
          (
            good.0.0.1.0,
            (
              good.0.0.1.1.0,
              (
                tt,
                (
                  good.0.0.1.1.1.1,
                  (
                    subst (λ i. (body_rule h.Object).Good i bd) there good.0.1,
                    (
                      subst (λ i. (g.side rule rule_what).Good i sd) behind good.1.0,
                      subst (λ i. (class_side_rule (g.method_member rule)).Good (i + length ((g.side rule rule_what).flat sd)) cs) behind good.1.1,
                    ),
                  ),
                ),
              ),
            ),
          ),
        )

    class_flat : (a : (x.ClassHead × (p.Bars × p.Statements)) × (p.Side × p.ClassSide)) → (g.class rule rule_what).flat (x.class_from a) ≡ class_parts.flat a
    class_flat ((hd, bd), (sd, cs)) =
        let F : List Kind = flat_option g.factory hd.1.0 in
        let C : List Kind = flat_option (g.clause rule) hd.1.1 in
        let B : List Kind = (body_rule h.Object).flat bd in
        let S : List Kind = (g.side rule rule_what).flat sd ++ (class_side_rule (g.method_member rule)).flat cs in
        ap (λ w. k.Word words.Class ∷ k.Ident hd.0.text ∷ w) (sym (append_assoc (F ++ equals ∷ C) B S ∙ append_assoc F (equals ∷ C) (B ++ S)))

    -- the parts behind the head stand one behind the other
    abbrev behind : Rule ((p.Bars × p.Statements) × (p.Side × p.ClassSide))
    behind = body_rule h.Object & (g.side rule rule_what & class_side_rule (g.method_member rule))

    head_leads : Leads (head_rule & behind) (k.Word words.Class ▸ (g.ident & (maybe g.factory & (equals ▸ (maybe (g.clause rule) & behind)))))
    head_leads n w h =
        both_lead (token (k.Word words.Class)) ((g.ident & (maybe g.factory & (equals ▸ maybe (g.clause rule)))) & behind) (g.ident & (maybe g.factory & (equals ▸ (maybe (g.clause rule) & behind)))) name_leads n w
        (regroup_leads (token (k.Word words.Class)) (g.ident & (maybe g.factory & (equals ▸ maybe (g.clause rule)))) behind n w
        (form_leads (λ a. Some (tt, a)) (token (k.Word words.Class) & (g.ident & (maybe g.factory & (equals ▸ maybe (g.clause rule))))) behind n w h))
      where
        clause_leads : Leads ((equals ▸ maybe (g.clause rule)) & behind) (equals ▸ (maybe (g.clause rule) & behind))
        clause_leads n w h = regroup_leads (token equals) (maybe (g.clause rule)) behind n w (form_leads (λ a. Some (tt, a)) (token equals & maybe (g.clause rule)) behind n w h)

        factory_leads : Leads ((maybe g.factory & (equals ▸ maybe (g.clause rule))) & behind) (maybe g.factory & (equals ▸ (maybe (g.clause rule) & behind)))
        factory_leads n w h = both_lead (maybe g.factory) ((equals ▸ maybe (g.clause rule)) & behind) (equals ▸ (maybe (g.clause rule) & behind)) clause_leads n w (regroup_leads (maybe g.factory) (equals ▸ maybe (g.clause rule)) behind n w h)

        name_leads : Leads ((g.ident & (maybe g.factory & (equals ▸ maybe (g.clause rule)))) & behind) (g.ident & (maybe g.factory & (equals ▸ (maybe (g.clause rule) & behind))))
        name_leads n w h = both_lead g.ident ((maybe g.factory & (equals ▸ maybe (g.clause rule))) & behind) (maybe g.factory & (equals ▸ (maybe (g.clause rule) & behind))) factory_leads n w
            (regroup_leads g.ident (maybe g.factory & (equals ▸ maybe (g.clause rule))) behind n w h)

    class_leads : Leads class_parts (g.class rule rule_what)
    class_leads n w front = head_leads n w (regroup_leads head_rule (body_rule h.Object) (g.side rule rule_what & class_side_rule (g.method_member rule)) n w front)

    halts_class : Halts (x.class primary what) (g.class rule rule_what)
    unfolding x.class
    halts_class = halts_mapped x.class_from (g.class rule rule_what) (halts_both (halts_both halts_head (halts_body h.Object)) (halts_both (halts_side sides.Instance) halts_class_side)) (λ n a good. (class_good n a good, class_flat a)) class_leads

    halts_class_or_method : Halts (x.class_or_method primary what) (mapped f.class_member_form (either (g.class rule rule_what) (g.method rule)))
    unfolding x.class_or_method
    halts_class_or_method =
        halts_or (marks.is_mark m.ClassWord) (halts_mapped p.class_member (mapped f.class_member_form (either (g.class rule rule_what) (g.method rule))) halts_class (λ n a good. (good, refl)) (λ n f h. inl h))
        (halts_mapped p.method_member (mapped f.class_member_form (either (g.class rule rule_what) (g.method rule))) halts_method (λ n a good. (good, refl)) (λ n f h. inr h))

  halts_what : (depth : ℕ) → Halts (x.what primary depth) (g.what rule depth)
  unfolding x.what
  halts_what zero = halts_method_member
  halts_what (suc depth) = halts_class_or_method (x.what primary depth) (g.what rule depth) (halts_what depth)

-- a file in which so many brackets, and so many classes, nest
pub halts_file : (depth : ℕ) → Halts (x.file depth) (g.file depth)
unfolding x.file
halts_file depth = halts_mapped made_unit (g.file depth)
    (halts_both (halts_flag m.Newspeak3) (halts_both halts_category (halts_class (exprs.primary depth) (g.primary depth) (halts_primary depth) (x.what (exprs.primary depth) depth) (g.what (g.primary depth) depth) (halts_what (exprs.primary depth) (g.primary depth) (halts_primary depth) depth))))
    (λ n a good. (good, refl)) (λ n f h. h)
