-- Methods, classes and files are spelled by their tokens.
use Rattle.std.proofs.Common.{◌≡◌, ℕ, zero, suc, ◌+◌, inr, List, [], ◌∷◌, ◌++◌, length, Some, None, refl, sym, ap, subst, ◌∙◌, append_assoc, length-append, arith}
use Rattle.ns_tree.specs.declared.token.Kind.{Kind}
use Rattle.ns_tree.specs.declared.token.Kind.TheVariants as k
use Rattle.ns_tree.specs.declared.token.Reserved.TheVariants as words
use Rattle.ns_tree.specs.Flat.{equals, over_sign}
use Rattle.ns_tree.specs.Forms as f
use Rattle.ns_tree.specs.Grammar as g
use Rattle.ns_tree.specs.Lists.{key_list, member_list}
use Rattle.ns_tree.specs.Plain as p
use Rattle.ns_tree.specs.Rule.{Rule, ◌&◌, many, flat_all, GoodAll, maybe, flat_option, either, mapped, ◌▸◌, ◌◂◌}
use Rattle.ns_tree.specs.Made.{made_clause, made_unit, made_method}
use Rattle.ns_parse.specs.declared.classes.SideOf.{SideOf}
use Rattle.ns_parse.specs.declared.classes.SideOf.TheVariants as sides
use Rattle.ns_parse_exprs.specs.declared.expressions.Holder.{Holder}
use Rattle.ns_parse_exprs.specs.declared.expressions.Holder.TheVariants as h
use Rattle.ns_parse_tokens.specs.declared.mark.Mark.TheVariants as m
use Rattle.ns_parse_tokens.specs.declared.name.Sort.TheVariants as s
use Rattle.ns_parse_tokens.specs.declared.name.Operators.TheVariants as o
use Rattle.ns_parse_tokens.specs.Read.{Reader, Labelled, tail, item}
use Rattle.ns_parse_tokens.specs.Mark as marks
use Rattle.ns_parse_tokens.specs.Name as names
use Rattle.ns_parse_tokens.specs.Leaf as leaves
use Rattle.ns_parse_tokens.specs.Pattern.{starts_base}
use Rattle.ns_parse.specs.Classes as x
use Rattle.ns_parse_exprs.specs.Expressions as exprs
use Rattle.ns_parse_tokens.specs.laws.Sound.{Sound, Becomes, sound_none, sound_mapped, if_mapped, sound_same, sound_both, sound_after, sound_until, sound_or, sound_or_if, sound_maybe}
use Rattle.ns_parse_tokens.specs.laws.SoundLists.{labelled, sound_labelled}
use Rattle.ns_parse_tokens.specs.laws.SoundMarks.{sound_skip, sound_flag}
use Rattle.ns_parse_tokens.specs.laws.SoundTokens.{sound_ident, sound_oper, sound_string, sound_strings, sound_access}
use Rattle.ns_parse_tokens.specs.laws.SoundPatterns.{sound_pattern, sound_factory, sound_base}
use Rattle.ns_parse_exprs.specs.laws.SoundPhrases.{by_arm, some_keys, sound_some_keys, slot_rule, sound_bars, sound_statements, sound_primary}

sound_over : Sound x.over (maybe (over_sign ▸ g.base))
sound_over = sound_maybe (marks.is_mark m.Over) (sound_after (sound_skip m.Over) sound_base)

sound_category : Sound x.category (maybe g.string)
sound_category = sound_maybe leaves.is_string sound_string

-- a token behind two parts stands behind the second
ended : {A B : Type 0} (r : Rule A) (s : Rule B) (kind : Kind) → Becomes ((r & s) ◂ kind) (r & s ◂ kind) (λ a. a)
ended r s kind n (a, b) good = ((good.0.0, (good.0.1, tt)), sym (append_assoc (r.flat a) (s.flat b) (kind ∷ [])))

module _ (primary : Reader p.Primary) (rule : Rule p.Primary) (P : Sound primary rule) where
  keys_become : Becomes (some_keys primary rule P o.All g.oper sound_oper) (maybe (g.super_message rule)) (λ keys. Some (p.keywords keys))
  keys_become n a good =
      by_arm inr (g.keys rule g.oper) (either g.ident (g.keys rule g.oper)) (λ n a good. good) (λ a. refl)
      (λ keys. f.once_or_more_of (key_list keys)) f.super_message_form n (f.once_or_more_of (key_list a)) good

  sound_super_message : Sound (x.super_message primary) (maybe (g.super_message rule))
  unfolding x.super_message
  sound_super_message =
      sound_or (names.is_name s.Ident) (sound_mapped (λ n. Some (p.unary n)) (maybe (g.super_message rule)) sound_ident (λ n a good. (good, refl)))
      (sound_or_if (if_mapped (λ keys. Some (p.keywords keys)) (maybe (g.super_message rule)) (sound_some_keys primary rule P o.All g.oper sound_oper) keys_become)
      (sound_none (maybe (g.super_message rule)) None (λ n. tt) refl))

  sound_clause : Sound (x.clause primary) (g.clause rule)
  unfolding x.clause
  sound_clause = sound_mapped made_clause (g.clause rule) (sound_both sound_base (sound_both sound_over sound_super_message)) (λ n a good. (good, refl))

  -- slots and statements between parentheses
  abbrev body_rule : Holder → Rule (p.Bars × p.Statements)
  body_rule holder = k.Open ▸ (g.bars rule (slot_rule primary rule P holder) & g.stmts rule ◂ k.Close)

  sound_body : (holder : Holder) → Sound (x.body primary holder) (body_rule holder)
  unfolding x.body
  sound_body holder = sound_after (sound_skip m.Open)
      (sound_same (g.bars rule (slot_rule primary rule P holder) & g.stmts rule ◂ k.Close) (sound_until (sound_both (sound_bars primary rule P holder) (sound_statements primary rule P)) (sound_skip m.Close))
      (ended (g.bars rule (slot_rule primary rule P holder)) (g.stmts rule) k.Close))

  sound_method : Sound (x.method primary) (g.method rule)
  unfolding x.method
  sound_method = sound_mapped made_method (g.method rule) (sound_both sound_pattern (sound_after (sound_skip m.Equals) (sound_body h.Code))) (λ n a good. (good, refl))

  sound_method_member : Sound (x.method_member primary) (g.method_member rule)
  sound_method_member = sound_mapped p.method_member (g.method_member rule) sound_method (λ n a good. (good, refl))

  -- what stands before the initialiser of a class
  abbrev head_rule : Rule x.ClassHead
  head_rule = k.Word words.Class ▸ (g.ident & (maybe g.factory & (equals ▸ maybe (g.clause rule))))

  sound_head : Sound (x.head primary) head_rule
  unfolding x.head
  sound_head = sound_after (sound_skip m.ClassWord) (sound_both sound_ident (sound_both sound_factory (sound_after (sound_skip m.Equals) (sound_maybe starts_base sound_clause))))

  -- ---- sides

  module _ (what : Rule p.What) where
    -- members with their categories, and the categories behind the last
    abbrev members_rule : Rule (Labelled (List (List ℕ)) x.MemberForm)
    members_rule = labelled (many g.string) (maybe g.access & what)

    abbrev side_inside : Rule (List p.Member × List (List ℕ))
    side_inside = many (g.member rule what) & many g.string

    abbrev side_of : Labelled (List (List ℕ)) x.MemberForm → List p.Member × List (List ℕ)
    side_of l = (member_list (x.members_from l), x.tail_from l)

    -- a member, and what stands behind it, in the order in which the grammar tells them
    item_good : (n : ℕ) (l : List (List ℕ)) (a : x.MemberForm) (ms : List p.Member) (t : List (List ℕ)) → (many g.string).Good n l → (maybe g.access & what).Good (n + length (flat_all g.string l)) a
        → side_inside.Good (n + length (flat_all g.string l) + length ((maybe g.access & what).flat a)) (ms, t) → side_inside.Good n (p.member_with l a.0 a.1 ∷ ms, t)
    item_good n l a ms t gl ga rest =
        let w : List Kind = (g.member rule what).flat (p.member_with l a.0 a.1) in
        let size : length w ≡ length (flat_all g.string l) + length ((maybe g.access & what).flat a) = length-append (flat_all g.string l) ((maybe g.access & what).flat a) in
        let more : length (w ++ flat_all (g.member rule what) ms) ≡ length w + length (flat_all (g.member rule what) ms) = length-append w (flat_all (g.member rule what) ms) in
        (((gl, ga), subst (λ i. GoodAll (g.member rule what) i ms) (omega (arith, size)) rest.0), subst (λ i. GoodAll g.string i t) (omega (arith, size, more)) rest.1)

    members_become : (n : ℕ) (l : Labelled (List (List ℕ)) x.MemberForm) → members_rule.Good n l → side_inside.Good n (side_of l) × (side_inside.flat (side_of l) ≡ members_rule.flat l)
    members_become n (tail l) good = ((tt, subst (λ i. GoodAll g.string i l) (omega arith) good), refl)
    members_become n (item l a rest) good =
        let ms : List p.Member = member_list (x.members_from rest) in
        let t : List (List ℕ) = x.tail_from rest in
        let h : side_inside.Good (n + length (flat_all g.string l) + length ((maybe g.access & what).flat a)) (ms, t) × (side_inside.flat (ms, t) ≡ members_rule.flat rest) =
        members_become (n + length (flat_all g.string l) + length ((maybe g.access & what).flat a)) rest good.1.1 in
        let w : List Kind = (g.member rule what).flat (p.member_with l a.0 a.1) in (
          item_good n l a ms t good.0 good.1.0 h.0,
          append_assoc w (flat_all (g.member rule what) ms) (flat_all g.string t) ∙ ap (λ v. w ++ v) h.1 ∙ append_assoc (flat_all g.string l) ((maybe g.access & what).flat a) (members_rule.flat rest),
        )

    side_becomes : Becomes (k.Open ▸ mapped f.side_form side_inside ◂ k.Close) (g.side rule what) (λ a. a)
    side_becomes n (p.side_with members rest) good =
        ((tt, (good.1.0.0, (good.1.0.1, tt))), ap (λ w. k.Open ∷ w) (sym (append_assoc (flat_all (g.member rule what) (member_list members)) (flat_all g.string rest) (k.Close ∷ []))))

    -- a class side, or nothing
    abbrev class_side_rule : Rule p.ClassSide
    class_side_rule = mapped (λ side. Some (f.class_side_form side)) (maybe (k.Colon ▸ g.side rule what))

  -- what a member of a side is
  abbrev what_rule : Rule p.What → SideOf → Rule p.What
  what_rule what sides.Instance = what
  what_rule what sides.ClassObject = g.method_member rule

  module _ (what : Reader p.What) (rule_what : Rule p.What) (W : Sound what rule_what) where
    sound_what_of : (side : SideOf) → Sound (x.what_of primary what side) (what_rule rule_what side)
    sound_what_of sides.Instance = W
    sound_what_of sides.ClassObject = sound_method_member

    sound_members : (side : SideOf) → Sound (x.members primary what side) (mapped f.side_form (side_inside (what_rule rule_what side)))
    sound_members side = sound_mapped x.side_from (mapped f.side_form (side_inside (what_rule rule_what side))) (sound_labelled (x.starts_member side) sound_strings (sound_both sound_access (sound_what_of side)))
        (members_become (what_rule rule_what side))

    sound_side : (side : SideOf) → Sound (x.side primary what side) (g.side rule (what_rule rule_what side))
    unfolding x.side
    sound_side side = sound_same (g.side rule (what_rule rule_what side)) (sound_after (sound_skip m.Open) (sound_until (sound_members side) (sound_skip m.Close))) (side_becomes (what_rule rule_what side))

    sound_class_side : Sound (x.class_side primary what) (class_side_rule (g.method_member rule))
    unfolding x.class_side
    sound_class_side =
        sound_or (marks.is_mark m.Colon) (sound_mapped p.class_side_with (class_side_rule (g.method_member rule)) (sound_after (sound_skip m.Colon) (sound_side sides.ClassObject)) (λ n a good. (good, refl)))
        (sound_none (class_side_rule (g.method_member rule)) p.no_class_side (λ n. tt) refl)

    -- ---- classes

    abbrev class_parts : Rule ((x.ClassHead × (p.Bars × p.Statements)) × (p.Side × p.ClassSide))
    class_parts = (head_rule & body_rule h.Object) & (g.side rule rule_what & class_side_rule (g.method_member rule))

    class_good : (n : ℕ) (a : (x.ClassHead × (p.Bars × p.Statements)) × (p.Side × p.ClassSide)) → class_parts.Good n a → (g.class rule rule_what).Good n (x.class_from a)
    class_good n ((hd, bd), (sd, cs)) good =
        let F : List Kind = flat_option g.factory hd.1.0 in
        let C : List Kind = flat_option (g.clause rule) hd.1.1 in
        let B : List Kind = (body_rule h.Object).flat bd in
        let size : length (F ++ equals ∷ C) ≡ length F + length (equals ∷ C) = length-append F (equals ∷ C) in
        let more : length (head_rule.flat hd ++ B) ≡ length (head_rule.flat hd) + length B = length-append (head_rule.flat hd) B in
        let there : n + length (head_rule.flat hd) ≡ n + 1 + 1 + length F + 1 + length C = omega (arith, size) in
        let behind : n + length (head_rule.flat hd ++ B) ≡ n + 1 + 1 + length F + 1 + length C + length B = omega (arith, size, more) in (
          tt,
          (
            good.0.0.1.0,
            (
              good.0.0.1.1.0,
              (
                tt,
                (
                  good.0.0.1.1.1.1,
                  (
                    subst (λ i. (body_rule h.Object).Good i bd) there good.0.1,
                    (
                      subst (λ i. (g.side rule rule_what).Good i sd) behind good.1.0,
                      subst (λ i. (class_side_rule (g.method_member rule)).Good (i + length ((g.side rule rule_what).flat sd)) cs) behind good.1.1,
                    ),
                  ),
                ),
              ),
            ),
          ),
        )

    class_flat : (a : (x.ClassHead × (p.Bars × p.Statements)) × (p.Side × p.ClassSide)) → (g.class rule rule_what).flat (x.class_from a) ≡ class_parts.flat a
    class_flat ((hd, bd), (sd, cs)) =
        let F : List Kind = flat_option g.factory hd.1.0 in
        let C : List Kind = flat_option (g.clause rule) hd.1.1 in
        let B : List Kind = (body_rule h.Object).flat bd in
        let S : List Kind = (g.side rule rule_what).flat sd ++ (class_side_rule (g.method_member rule)).flat cs in
        ap (λ w. k.Word words.Class ∷ k.Ident hd.0.text ∷ w) (sym (append_assoc (F ++ equals ∷ C) B S ∙ append_assoc F (equals ∷ C) (B ++ S)))

    sound_class : Sound (x.class primary what) (g.class rule rule_what)
    unfolding x.class
    sound_class = sound_mapped x.class_from (g.class rule rule_what) (sound_both (sound_both sound_head (sound_body h.Object)) (sound_both (sound_side sides.Instance) sound_class_side)) (λ n a good. (class_good n a good, class_flat a))

    sound_class_or_method : Sound (x.class_or_method primary what) (mapped f.class_member_form (either (g.class rule rule_what) (g.method rule)))
    unfolding x.class_or_method
    sound_class_or_method =
        sound_or (marks.is_mark m.ClassWord) (sound_mapped p.class_member (mapped f.class_member_form (either (g.class rule rule_what) (g.method rule))) sound_class (λ n a good. (good, refl)))
        (sound_mapped p.method_member (mapped f.class_member_form (either (g.class rule rule_what) (g.method rule))) sound_method (λ n a good. (good, refl)))

  sound_what : (depth : ℕ) → Sound (x.what primary depth) (g.what rule depth)
  unfolding x.what
  sound_what zero = sound_method_member
  sound_what (suc depth) = sound_class_or_method (x.what primary depth) (g.what rule depth) (sound_what depth)

-- a file in which so many brackets, and so many classes, nest
pub sound_file : (depth : ℕ) → Sound (x.file depth) (g.file depth)
unfolding x.file
sound_file depth = sound_mapped made_unit (g.file depth)
    (sound_both (sound_flag m.Newspeak3) (sound_both sound_category (sound_class (exprs.primary depth) (g.primary depth) (sound_primary depth) (x.what (exprs.primary depth) depth) (g.what (g.primary depth) depth) (sound_what (exprs.primary depth) (g.primary depth) (sound_primary depth) depth))))
    (λ n a good. (good, refl))
