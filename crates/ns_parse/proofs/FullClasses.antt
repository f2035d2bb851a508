-- Methods, classes and files are read whole.
use Rattle.std.proofs.Common.{◌≡◌, ℕ, zero, suc, ◌+◌, ◌≤◌, List, [], ◌∷◌, ◌++◌, length, Option, Some, true, false, refl, sym, ap, subst, ◌∙◌, append_assoc, length-append, arith}
use Rattle.ns_tree.specs.declared.token.Kind.{Kind}
use Rattle.ns_tree.specs.declared.token.Kind.TheVariants as k
use Rattle.ns_tree.specs.declared.token.Reserved.TheVariants as words
use Rattle.ns_tree.specs.Flat.{equals, over_sign}
use Rattle.ns_tree.specs.Forms as f
use Rattle.ns_tree.specs.Grammar as g
use Rattle.ns_tree.specs.Lists.{list_members}
use Rattle.ns_tree.specs.Made
use Rattle.ns_tree.specs.Plain as p
use Rattle.ns_tree.specs.Rule.{Rule, ◌&◌, many, flat_all, GoodAll, maybe, flat_option, either, mapped, ◌▸◌, ◌◂◌}
use Rattle.ns_parse.specs.declared.classes.SideOf.{SideOf}
use Rattle.ns_parse.specs.declared.classes.SideOf.TheVariants as sides
use Rattle.ns_parse_exprs.specs.declared.expressions.Holder.{Holder}
use Rattle.ns_parse_exprs.specs.declared.expressions.Holder.TheVariants as h
use Rattle.ns_parse_tokens.specs.declared.mark.Mark.TheVariants as m
use Rattle.ns_parse_tokens.specs.declared.name.Sort.TheVariants as s
use Rattle.ns_parse_tokens.specs.declared.name.Operators.TheVariants as o
use Rattle.ns_parse_tokens.specs.Read.{Reader, Labelled, tail, item}
use Rattle.ns_parse_tokens.specs.Mark as marks
use Rattle.ns_parse_tokens.specs.Name as names
use Rattle.ns_parse_tokens.specs.Leaf as leaves
use Rattle.ns_parse_tokens.specs.Pattern.{starts_base}
use Rattle.ns_parse_tokens.specs.laws.SoundLists.{labelled, GoodLabelled}
use Rattle.ns_parse.specs.Classes as x
use Rattle.ns_parse_exprs.specs.Expressions as exprs
use Rattle.ns_parse.proofs.Seen.{Seen, Sees, sees_or}
use Rattle.ns_parse.proofs.Seen as v
use Rattle.ns_parse.proofs.SeenMarks.{sees_mark}
use Rattle.ns_parse.proofs.SeenTests.{idents, operators, sees_idents, sees_keys, sees_operators, sees_strings, sees_access}
use Rattle.ns_parse.proofs.Full.{Full, Comes, full_from, full_form, full_within, full_less, full_mapped, full_both, full_inside, full_after, full_until}
use Rattle.ns_parse.proofs.FullChoice.{full_either, full_option, full_maybe, full_other}
use Rattle.ns_parse.proofs.FullLabels.{full_labelled}
use Rattle.ns_parse.proofs.FullTokens.{full_skip, full_flag, full_ident, full_oper, full_string, full_strings, full_access, patterns, full_pattern, factories, full_factory, bases, full_base, full_either_or_none}
use Rattle.ns_parse.proofs.FullPhrases.{un_begin, keys_go, full_keys, slot_rule, full_bars, full_statements, full_ended, full_primary, no_token}
use Rattle.ns_parse.proofs.Forth as forth

abbrev message_goes : List Seen
message_goes = keys_go ++ idents

abbrev clause_goes : List Seen
clause_goes = v.over ∷ message_goes

abbrev head_goes : List Seen
head_goes = clause_goes ++ bases

abbrev method_begin : List Seen
method_begin = patterns

abbrev what_begin : List Seen
what_begin = v.class_word ∷ patterns

sees_base : Sees starts_base (idents ++ (v.super_word ∷ v.outer_word ∷ []))
sees_base = sees_or idents (v.super_word ∷ v.outer_word ∷ []) sees_idents (sees_or (v.super_word ∷ []) (v.outer_word ∷ []) (sees_mark m.SuperWord) (sees_mark m.OuterWord))

sees_pattern : Sees x.starts_pattern (idents ++ (v.key ∷ operators))
sees_pattern = sees_or idents (v.key ∷ operators) sees_idents (sees_or (v.key ∷ []) operators sees_keys sees_operators)

-- what begins a member of a side
abbrev members_begin : SideOf → List Seen
members_begin sides.Instance = v.access_word ∷ v.class_word ∷ (idents ++ (v.key ∷ operators))
members_begin sides.ClassObject = v.access_word ∷ (idents ++ (v.key ∷ operators))

sees_member : (side : SideOf) → Sees (x.starts_member side) (members_begin side)
sees_member sides.Instance = sees_or (v.access_word ∷ []) (v.class_word ∷ (idents ++ (v.key ∷ operators))) sees_access (sees_or (v.class_word ∷ []) (idents ++ (v.key ∷ operators)) (sees_mark m.ClassWord) sees_pattern)
sees_member sides.ClassObject = sees_or (v.access_word ∷ []) (idents ++ (v.key ∷ operators)) sees_access sees_pattern

full_over : (most : ℕ) → Full most (v.over ∷ []) (v.over ∷ []) true x.over (maybe (over_sign ▸ g.base)) (λ b. b)
full_over most = full_maybe (marks.is_mark m.Over) (v.over ∷ []) (sees_mark m.Over) (full_after (full_skip (suc most) m.Over) (full_base most)) refl

full_category : (most : ℕ) → Full most (v.string ∷ []) (v.string ∷ []) true x.category (maybe g.string) (λ t. t)
full_category most = full_maybe leaves.is_string (v.string ∷ []) sees_strings (full_string most) refl

-- ---- members of a side, from the labels before each

module _ (rule : Rule p.Primary) (what : Rule p.What) where
  abbrev members_rule : Rule (Labelled (List (List ℕ)) x.MemberForm)
  members_rule = labelled (many g.string) (maybe g.access & what)

  abbrev side_inside : Rule (List p.Member × List (List ℕ))
  side_inside = many (g.member rule what) & many g.string

  abbrev labels_of : List p.Member → List (List ℕ) → Labelled (List (List ℕ)) x.MemberForm
  labels_of [] t = tail t
  labels_of (p.member_with categories access w ∷ ms) t = item categories (access, w) (labels_of ms t)

  labels_good : (n i : ℕ) (ms : List p.Member) (t : List (List ℕ)) → GoodAll (g.member rule what) n ms → i ≡ n + length (flat_all (g.member rule what) ms) → GoodAll g.string i t → GoodLabelled (many g.string) (maybe g.access & what) n (labels_of ms t)
  labels_good n i [] t good e rest = subst (λ j. GoodAll g.string j t) (omega (arith, e)) rest
  labels_good n i (p.member_with categories access w ∷ ms) t good e rest =
      let a : List Kind = flat_all g.string categories in
      let b : List Kind = (maybe g.access & what).flat (access, w) in
      let size : length (a ++ b) ≡ length a + length b = length-append a b in
      let more : length ((a ++ b) ++ flat_all (g.member rule what) ms) ≡ length (a ++ b) + length (flat_all (g.member rule what) ms) = length-append (a ++ b) (flat_all (g.member rule what) ms) in
      let next : GoodAll (g.member rule what) (n + length a + length b) ms = subst (λ j. GoodAll (g.member rule what) j ms) (omega (arith, size)) good.1 in
      (good.0.0, (good.0.1, labels_good (n + length a + length b) i ms t next (omega (arith, e, size, more)) rest))

  labels_flat : (ms : List p.Member) (t : List (List ℕ)) → members_rule.flat (labels_of ms t) ≡ flat_all (g.member rule what) ms ++ flat_all g.string t
  labels_flat [] t = refl
  labels_flat (p.member_with categories access w ∷ ms) t =
      let a : List Kind = flat_all g.string categories in
      let b : List Kind = (maybe g.access & what).flat (access, w) in
      ap (λ v. a ++ (b ++ v)) (labels_flat ms t) ∙ sym (append_assoc a b (flat_all (g.member rule what) ms ++ flat_all g.string t)) ∙ sym (append_assoc (a ++ b) (flat_all (g.member rule what) ms) (flat_all g.string t))

  members_same : (ms : List p.Member) (t : List (List ℕ)) → x.members_from (labels_of ms t) ≡ list_members ms
  members_same [] t = refl
  members_same (p.member_with categories access w ∷ ms) t = ap (p.more_members (p.member_with categories access w)) (members_same ms t)

  tail_same : (ms : List p.Member) (t : List (List ℕ)) → x.tail_from (labels_of ms t) ≡ t
  tail_same [] t = refl
  tail_same (p.member_with categories access w ∷ ms) t = tail_same ms t

  side_same : (ms : List p.Member) (t : List (List ℕ)) → x.side_from (labels_of ms t) ≡ Made.made_side (ms, t)
  side_same ms t = ap (λ y. p.side_with y (x.tail_from (labels_of ms t))) (members_same ms t) ∙ ap (p.side_with (list_members ms)) (tail_same ms t)

  side_comes : (n : ℕ) (c : List p.Member × List (List ℕ)) → side_inside.Good n c → Comes members_rule x.side_from side_inside Made.made_side n c
  side_comes n c good = record { value = labels_of c.0 c.1; good = labels_good n (n + length (flat_all (g.member rule what) c.0)) c.0 c.1 good.0 refl good.1; same = labels_flat c.0 c.1; is = side_same c.0 c.1 }

-- ---- over the primaries

module _ (most : ℕ) (primary : Reader p.Primary) (rule : Rule p.Primary) (P : Full most un_begin [] false primary rule (λ a. a)) where
  full_super_message : Full most factories message_goes true (x.super_message primary) (maybe (g.super_message rule)) (λ o. o)
  unfolding x.super_message
  full_super_message = full_within factories message_goes refl refl (full_either_or_none f.super_message_form Made.made_super_message forth.super_message_forth g.ident (g.keys rule g.oper)
      (names.is_name s.Ident) idents sees_idents (names.is_name s.Key) (v.key ∷ []) sees_keys (full_mapped (λ n. Some (p.unary n)) (full_ident most))
      (full_mapped (λ ks. Some (p.keywords ks)) (full_keys most primary rule P o.All g.oper (full_oper most))) refl refl refl)

  full_clause : Full most bases clause_goes false (x.clause primary) (g.clause rule) (λ a. a)
  unfolding x.clause
  full_clause = full_form f.clause_form (λ a. a) forth.clause_forth (full_within bases clause_goes refl refl (full_mapped Made.made_clause (full_both (full_base most) (full_both (full_over most) full_super_message refl) refl)))

  -- slots and statements between parentheses
  abbrev body_rule : Holder → Rule (p.Bars × p.Statements)
  body_rule holder = k.Open ▸ (g.bars rule (slot_rule most primary rule P holder) & g.stmts rule ◂ k.Close)

  full_body : (holder : Holder) → Full most (v.open_paren ∷ []) [] false (x.body primary holder) (body_rule holder) (λ a. a)
  unfolding x.body
  full_body holder = full_after (full_skip (suc most) m.Open) (full_ended (g.bars rule (slot_rule most primary rule P holder)) (g.stmts rule) k.Close
      (full_until (full_both (full_bars most primary rule P holder) (full_statements most primary rule P) refl) (full_skip most m.Close) refl))

  full_method : Full most patterns [] false (x.method primary) (g.method rule) (λ a. a)
  unfolding x.method
  full_method = full_form f.method_form (λ a. a) forth.method_forth (full_within patterns [] refl refl (full_mapped Made.made_method (full_both (full_pattern most) (full_after (full_skip (suc most) m.Equals) (full_body h.Code)) refl)))

  full_method_member : Full most patterns [] false (x.method_member primary) (g.method_member rule) (λ a. a)
  full_method_member = full_form f.method_member_form (λ a. a) forth.method_member_forth (full_mapped p.method_member full_method)

  -- what stands before the initialiser of a class
  abbrev head_rule : Rule x.ClassHead
  head_rule = k.Word words.Class ▸ (g.ident & (maybe g.factory & (equals ▸ maybe (g.clause rule))))

  full_head : Full most (v.class_word ∷ []) head_goes false (x.head primary) head_rule (λ a. a)
  unfolding x.head
  full_head = full_within (v.class_word ∷ []) head_goes refl refl (full_after (full_skip (suc most) m.ClassWord) (full_both (full_ident most)
      (full_both (full_factory most) (full_after (full_skip (suc most) m.Equals) (full_maybe starts_base (idents ++ (v.super_word ∷ v.outer_word ∷ [])) sees_base full_clause refl)) refl) refl))

  -- ---- sides and classes; their members have fewer tokens, or the bound for them is the same

  module _ (inner : ℕ) (smaller : inner ≤ most) (close : most ≤ suc inner) (what : Reader p.What) (rule_what : Rule p.What) (W : Full inner what_begin (v.colon ∷ []) false what rule_what (λ a. a)) where
    abbrev what_rule : SideOf → Rule p.What
    what_rule sides.Instance = rule_what
    what_rule sides.ClassObject = g.method_member rule

    abbrev whats_begin : SideOf → List Seen
    whats_begin sides.Instance = v.access_word ∷ what_begin
    whats_begin sides.ClassObject = v.access_word ∷ patterns

    full_member : (side : SideOf) → Full inner (whats_begin side) (v.colon ∷ []) false (x.member primary what side) (maybe g.access & what_rule side) (λ a. a)
    full_member sides.Instance = full_within (whats_begin sides.Instance) (v.colon ∷ []) refl refl (full_both (full_access inner) W refl)
    full_member sides.ClassObject = full_within (whats_begin sides.ClassObject) (v.colon ∷ []) refl refl (full_both (full_access inner) (full_less inner smaller full_method_member) refl)

    abbrev members_go : List Seen
    members_go = v.access_word ∷ v.class_word ∷ v.string ∷ v.colon ∷ patterns

    full_members : (side : SideOf) → Full inner (v.string ∷ v.access_word ∷ what_begin) members_go true (x.members primary what side) (side_inside rule (what_rule side)) Made.made_side
    full_members sides.Instance = full_within (v.string ∷ v.access_word ∷ what_begin) members_go refl refl (full_from (side_inside rule rule_what) Made.made_side
        (full_mapped x.side_from (full_labelled (x.starts_member sides.Instance) (members_begin sides.Instance) (sees_member sides.Instance) (full_strings inner) (full_member sides.Instance) refl refl refl refl)) (side_comes rule rule_what))
    full_members sides.ClassObject = full_within (v.string ∷ v.access_word ∷ what_begin) members_go refl refl (full_from (side_inside rule (g.method_member rule)) Made.made_side
        (full_mapped x.side_from (full_labelled (x.starts_member sides.ClassObject) (members_begin sides.ClassObject) (sees_member sides.ClassObject) (full_strings inner) (full_member sides.ClassObject) refl refl refl refl)) (side_comes rule (g.method_member rule)))

    full_side : (side : SideOf) → Full most (v.open_paren ∷ []) [] false (x.side primary what side) (g.side rule (what_rule side)) (λ a. a)
    unfolding x.side
    full_side side = full_less most close (full_form f.side_form (λ a. a) forth.side_forth (full_inside (full_skip (suc inner) m.Open)
        (full_ended (many (g.member rule (what_rule side))) (many g.string) k.Close (full_until (full_members side) (full_skip inner m.Close) refl))))

    full_class_side : Full most (v.colon ∷ []) (v.colon ∷ []) true (x.class_side primary what) (maybe (k.Colon ▸ g.side rule (g.method_member rule))) Made.made_class_side
    unfolding x.class_side
    full_class_side = full_option (marks.is_mark m.Colon) (v.colon ∷ []) (sees_mark m.Colon) Made.made_class_side (full_mapped p.class_side_with (full_after (full_skip (suc most) m.Colon) (full_side sides.ClassObject))) refl

    -- ---- classes

    abbrev class_parts : Rule ((x.ClassHead × (p.Bars × p.Statements)) × (p.Side × Option p.Side))
    class_parts = (head_rule & body_rule h.Object) & (g.side rule rule_what & maybe (k.Colon ▸ g.side rule (g.method_member rule)))

    abbrev class_inside : Rule f.ClassForm
    class_inside = k.Word words.Class ▸ (g.ident & (maybe g.factory & (equals ▸ (maybe (g.clause rule) & (body_rule h.Object & (g.side rule rule_what & maybe (k.Colon ▸ g.side rule (g.method_member rule))))))))

    abbrev parts_of : f.ClassForm → (x.ClassHead × (p.Bars × p.Statements)) × (p.Side × Option p.Side)
    parts_of c = (((c.0, (c.1.0, c.1.1.0)), c.1.1.1.0), c.1.1.1.1)

    abbrev class_of : (x.ClassHead × (p.Bars × p.Statements)) × (p.Side × Option p.Side) → p.Class
    class_of y = x.class_from (y.0, (y.1.0, Made.made_class_side y.1.1))

    parts_good : (n : ℕ) (c : f.ClassForm) → class_inside.Good n c → class_parts.Good n (parts_of c)
    parts_good n (name, (factory, (clause, (body, (side, other))))) good =
        let F : List Kind = flat_option g.factory factory in
        let C : List Kind = flat_option (g.clause rule) clause in
        let B : List Kind = (body_rule h.Object).flat body in
        let H : List Kind = head_rule.flat (name, (factory, clause)) in
        let size : length (F ++ equals ∷ C) ≡ length F + length (equals ∷ C) = length-append F (equals ∷ C) in
        let more : length (H ++ B) ≡ length H + length B = length-append H B in
        let there : n + 1 + 1 + length F + 1 + length C ≡ n + length H = omega (arith, size) in
        let behind : n + 1 + 1 + length F + 1 + length C + length B ≡ n + length (H ++ B) = omega (arith, size, more) in (
          (
            (tt, (good.1.0, (good.1.1.0, (tt, good.1.1.1.1.0)))),
            subst (λ i. (body_rule h.Object).Good i body) there good.1.1.1.1.1.0,
          ),
          (
            subst (λ i. (g.side rule rule_what).Good i side) behind good.1.1.1.1.1.1.0,
            subst (λ i. (maybe (k.Colon ▸ g.side rule (g.method_member rule))).Good (i + length ((g.side rule rule_what).flat side)) other) behind good.1.1.1.1.1.1.1,
          ),
        )

    parts_flat : (c : f.ClassForm) → class_parts.flat (parts_of c) ≡ class_inside.flat c
    parts_flat (name, (factory, (clause, (body, (side, other))))) =
        let F : List Kind = flat_option g.factory factory in
        let C : List Kind = flat_option (g.clause rule) clause in
        let B : List Kind = (body_rule h.Object).flat body in
        let S : List Kind = (g.side rule rule_what).flat side ++ (maybe (k.Colon ▸ g.side rule (g.method_member rule))).flat other in
        ap (λ w. k.Word words.Class ∷ k.Ident name.text ∷ w) (append_assoc (F ++ equals ∷ C) B S ∙ append_assoc F (equals ∷ C) (B ++ S))

    full_class : Full most (v.class_word ∷ []) (v.colon ∷ []) false (x.class primary what) (g.class rule rule_what) (λ a. a)
    unfolding x.class
    full_class = full_form f.class_form (λ a. a) forth.class_forth (full_from class_inside Made.made_class
        (full_mapped x.class_from (full_both (full_both full_head (full_body h.Object) refl) (full_both (full_side sides.Instance) full_class_side refl) refl))
        (λ n c good. record { value = parts_of c; good = parts_good n c good; same = parts_flat c; is = refl }))

    full_class_or_method : Full most what_begin (v.colon ∷ []) false (x.class_or_method primary what) (mapped f.class_member_form (either (g.class rule rule_what) (g.method rule))) (λ a. a)
    unfolding x.class_or_method
    full_class_or_method = full_form f.class_member_form (λ a. a) forth.what_forth (full_within what_begin (v.colon ∷ []) refl refl
        (full_either (marks.is_mark m.ClassWord) (v.class_word ∷ []) (sees_mark m.ClassWord) Made.made_what (full_mapped p.class_member full_class) (full_mapped p.method_member full_method) refl refl))

-- With classes as deep as one likes, a member is read by a reader that knows as many levels as it has tokens.
module _ (most : ℕ) (primary : Reader p.Primary) (rule : Rule p.Primary) (P : Full most un_begin [] false primary rule (λ a. a)) where
  method_at : (size : ℕ) → size ≤ most → Full size patterns [] false (x.method_member primary) (g.method_member rule) (λ a. a)
  method_at size h = full_less size h (full_method_member most primary rule P)

  full_what : (depth size : ℕ) → size ≤ most → Full size what_begin (v.colon ∷ []) false (x.what primary size) (g.what rule depth) (λ a. a)
  unfolding x.what x.class_or_method
  full_what zero zero h = full_within what_begin (v.colon ∷ []) refl refl (method_at zero h)
  full_what zero (suc size) h = full_within what_begin (v.colon ∷ []) refl refl (full_other (marks.is_mark m.ClassWord) (v.class_word ∷ []) (sees_mark m.ClassWord) _ (method_at (suc size) h) refl)
  full_what (suc depth) zero h =
      no_token (x.method_member primary) (full_class_or_method zero primary rule (full_less zero h P) zero (omega arith) (omega arith) (x.what primary zero) (g.what rule depth) (full_what depth zero h))
  full_what (suc depth) (suc size) h =
      full_class_or_method (suc size) primary rule (full_less (suc size) h P) size (omega arith) (omega arith) (x.what primary size) (g.what rule depth) (full_what depth size (omega (arith, h)))

-- a file of at most so many tokens
pub full_file : (depth most : ℕ) → Full most (v.marker ∷ v.string ∷ v.class_word ∷ []) (v.colon ∷ []) false (x.file most) (g.file depth) (λ a. a)
unfolding x.file
full_file depth most =
    let P : Full most un_begin [] false (exprs.primary most) (g.primary depth) (λ a. a) = full_primary depth most in
    full_form f.unit_form (λ a. a) forth.unit_forth (full_within (v.marker ∷ v.string ∷ v.class_word ∷ []) (v.colon ∷ []) refl refl (full_mapped Made.made_unit (full_both (full_flag most m.Newspeak3) (full_both (full_category most)
    (full_class most (exprs.primary most) (g.primary depth) P most (omega arith) (omega arith) (x.what (exprs.primary most) most) (g.what (g.primary depth) depth) (full_what most (exprs.primary most) (g.primary depth) P depth most (omega arith))) refl) refl)))
