-- Expressions, slots, statements and blocks stop behind fronts.
use Rattle.std.proofs.Common.{◌≡◌, ℕ, zero, suc, ◌+◌, inl, inr, List, [], ◌∷◌, ◌++◌, Option, Some, None, option_map, true, false, refl, sym, ap, subst, ◌∙◌, append_assoc}
use Rattle.ns_tree.specs.declared.token.Kind.TheVariants as k
use Rattle.ns_tree.specs.declared.tree.Named.{Named}
use Rattle.ns_tree.specs.declared.tree.Access.{Access}
use Rattle.ns_tree.specs.Flat.{bar}
use Rattle.ns_tree.specs.Forms as f
use Rattle.ns_tree.specs.Grammar as g
use Rattle.ns_tree.specs.Lists.{key_list, oper_list, message_list, expr_list, slot_list, list_keys, list_opers, list_messages, list_slots}
use Rattle.ns_tree.specs.Plain as p
use Rattle.ns_tree.specs.Rule.{Rule, token, ◌&◌, many, maybe, either, mapped, flat_from, GoodFrom, Listed, listed, ◌▸◌, ◌◂◌, once_or_more}
use Rattle.ns_tree.specs.laws.Made.{keys_back, opers_back, messages_back, exprs_back, slots_back, statements_back}
use Rattle.ns_tree.specs.Made.{made_un, made_slot, made_statement, listed_items}
use Rattle.ns_parse_exprs.specs.declared.expressions.Holder.{Holder}
use Rattle.ns_parse_exprs.specs.declared.expressions.Holder.TheVariants as h
use Rattle.ns_parse_tokens.specs.declared.mark.Mark.TheVariants as m
use Rattle.ns_parse_tokens.specs.declared.name.Sort.TheVariants as s
use Rattle.ns_parse_tokens.specs.declared.name.Operators.{Operators}
use Rattle.ns_parse_tokens.specs.declared.name.Operators.TheVariants as o
use Rattle.ns_parse_tokens.specs.Read.{Reader, ends_separated}
use Rattle.ns_parse_tokens.specs.Mark as marks
use Rattle.ns_parse_tokens.specs.Name as names
use Rattle.ns_parse_tokens.specs.Leaf as leaves
use Rattle.ns_parse_exprs.specs.Expressions as x
use Rattle.ns_parse_tokens.specs.laws.Sound.{Becomes}
use Rattle.ns_parse_tokens.specs.laws.SoundLists.{some, listed_read}
use Rattle.ns_parse_tokens.specs.laws.SoundMarks.{mark_is}
use Rattle.ns_parse_tokens.specs.laws.SoundTokens.{leaf}
use Rattle.ns_parse_tokens.specs.laws.SoundPatterns.{by_form, params}
use Rattle.ns_parse.proofs.Halts.{Halts, HaltsIf, Leads, halts_none, halts_never, halts_mapped, halts_if_mapped, halts_same, halts_both, halts_after, halts_until, halts_placed, halts_or, halts_or_if, both_lead, regroup_leads, form_leads}
use Rattle.ns_parse.proofs.HaltsLists.{halts_many, halts_some, halts_listed}
use Rattle.ns_parse.proofs.HaltsTokens.{halts_skip, halts_semi, halts_caret, halts_flag, halts_ident, halts_key, halts_set_key, halts_oper, halts_slot_oper, halts_names, halts_access, halts_leaf, halts_params}

-- ---- by the forms of a node

-- what a rule gives, as one of the forms of another
module _ {A B C D : Type 0} (to : A → B) (r : Rule A) (s : Rule B) (good : (n : ℕ) (a : A) → r.Good n a → s.Good n (to a)) (flat : (a : A) → s.flat (to a) ≡ r.flat a) (form : C → Option A) (form' : D → Option B) where
  pub by_arm : (n : ℕ) (o : Option A) → GoodFrom form r n o → GoodFrom form' s n (option_map to o) × (flat_from form' s (option_map to o) ≡ flat_from form r o)
  by_arm n None h = absurd h
  by_arm n (Some a) h = (good n a h, flat a)

module _ (primary : Reader p.Primary) (rule : Rule p.Primary) (P : Halts primary rule) where
  halts_un : Halts (x.un primary) (g.un rule)
  unfolding x.un
  halts_un = halts_mapped made_un (g.un rule) (halts_both (halts_placed P) (halts_names s.Ident halts_ident)) (λ n a good. (good, refl)) (λ n f h. h)

  module _ (operators : Operators) (operator : Rule Named) (O : Halts (names.name (s.Operator operators)) operator) where
    halts_opers : Halts (x.opers primary operators) (mapped (λ more. Some (oper_list more)) (many (operator & g.un rule)))
    halts_opers = halts_mapped list_opers (mapped (λ more. Some (oper_list more)) (many (operator & g.un rule))) (halts_many (names.is_name (s.Operator operators)) (halts_both O halts_un))
        (by_form (many (operator & g.un rule)) p.Opers (λ more. Some (oper_list more)) list_opers (λ n a good. ap Some (opers_back a))) (λ n f h. h)

    halts_bin : Halts (x.bin primary operators) (g.bin rule operator)
    unfolding x.bin
    halts_bin = halts_mapped x.bin_from (g.bin rule operator) (halts_both halts_un halts_opers) (λ n a good. (good, refl)) (λ n f h. h)

    -- keys, any number of them
    abbrev keys_rule : Rule p.Keys
    keys_rule = mapped (λ keys. Some (key_list keys)) (many (g.key & g.bin rule operator))

    halts_keys : Halts (x.keys primary operators) keys_rule
    halts_keys = halts_mapped list_keys keys_rule (halts_many (names.is_name s.Key) (halts_both halts_key halts_bin))
        (by_form (many (g.key & g.bin rule operator)) p.Keys (λ keys. Some (key_list keys)) list_keys (λ n a good. ap Some (keys_back a))) (λ n f h. h)

    -- keys, one or more
    abbrev pub some_keys : Rule p.Keys
    some_keys = mapped (λ keys. f.once_or_more_of (key_list keys)) (g.keys rule operator)

    some_become : Becomes (some (g.key & g.bin rule operator)) some_keys list_keys
    some_become n a good = let e : key_list (list_keys a) ≡ a = keys_back a in
        (subst (λ b. GoodFrom (λ keys. f.once_or_more_of (key_list keys)) (g.keys rule operator) n (f.once_or_more_of b)) (sym e) good, ap (λ b. flat_from (λ keys. f.once_or_more_of (key_list keys)) (g.keys rule operator) (f.once_or_more_of b)) e)

    pub halts_some_keys : HaltsIf (names.is_name s.Key) (x.keys primary operators) some_keys
    halts_some_keys = halts_if_mapped list_keys some_keys (halts_some (names.is_name s.Key) (λ n. inl (inl refl)) (halts_both halts_key halts_bin)) some_become (λ n f h. h)

    implicit_becomes : Becomes some_keys (g.key_expr rule operator) p.implicit
    implicit_becomes n a good =
        by_arm inr (g.keys rule operator) (either (g.bin rule operator & many (g.key & g.bin rule operator)) (g.keys rule operator)) (λ n a good. good) (λ a. refl)
        (λ keys. f.once_or_more_of (key_list keys)) f.key_expr_form n (f.once_or_more_of (key_list a)) good

    halts_key_expr : Halts (x.key_expr primary operators) (g.key_expr rule operator)
    unfolding x.key_expr
    halts_key_expr =
        halts_or x.starts_un (halts_mapped x.sent_from (g.key_expr rule operator) (halts_both halts_bin halts_keys) (λ n a good. (good, refl)) (λ n f h. inl h))
        (halts_or_if (halts_if_mapped p.implicit (g.key_expr rule operator) halts_some_keys implicit_becomes (λ n f h. inr h)) (halts_never (g.key_expr rule operator) (λ n. inr (inl (inl (inl refl))))))

    keywords_become : Becomes some_keys (g.message rule operator) p.keywords
    keywords_become n a good =
        by_arm (λ keys. inr (inr keys)) (g.keys rule operator) (either g.ident (either (operator & g.un rule) (g.keys rule operator))) (λ n a good. good) (λ a. refl)
        (λ keys. f.once_or_more_of (key_list keys)) f.message_form n (f.once_or_more_of (key_list a)) good

    halts_message : Halts (x.message primary operators) (g.message rule operator)
    unfolding x.message
    halts_message =
        halts_or (names.is_name s.Ident) (halts_mapped p.unary (g.message rule operator) halts_ident (λ n a good. (good, refl)) (λ n f h. inl h))
        (halts_or (names.is_name (s.Operator operators)) (halts_mapped x.binary_from (g.message rule operator) (halts_both O halts_un) (λ n a good. (good, refl)) (λ n f h. inr (inl h)))
        (halts_or_if (halts_if_mapped p.keywords (g.message rule operator) halts_some_keys keywords_become (λ n f h. inr (inr h))) (halts_never (g.message rule operator) (λ n. inl (inl refl)))))

    abbrev cascade_rule : Rule p.Cascade
    cascade_rule = mapped (λ more. Some (message_list more)) (many (g.semi & g.message rule operator))

    halts_cascade : Halts (x.cascade primary operators) cascade_rule
    halts_cascade = halts_mapped list_messages cascade_rule (halts_many (marks.is_mark m.Semi) (halts_both halts_semi halts_message))
        (by_form (many (g.semi & g.message rule operator)) p.Cascade (λ more. Some (message_list more)) list_messages (λ n a good. ap Some (messages_back a))) (λ n f h. h)

    halts_expr : Halts (x.expr primary operators) (g.expr rule operator)
    unfolding x.expr
    halts_expr = halts_mapped x.expr_from (g.expr rule operator) (halts_both (halts_names s.SetKey halts_set_key) (halts_both halts_key_expr halts_cascade)) (λ n a good. (good, refl)) (λ n f h. h)

  pub any_expr : Halts (x.expr primary o.All) (g.expr rule g.oper)
  any_expr = halts_expr o.All g.oper halts_oper

  slot_expr : Halts (x.expr primary o.ButBar) (g.expr rule g.slot_oper)
  slot_expr = halts_expr o.ButBar g.slot_oper halts_slot_oper

  -- ---- slots and statements

  halts_init : Halts (x.init primary) (g.init rule)
  unfolding x.init
  halts_init =
      halts_or (marks.is_mark m.Equals) (halts_mapped p.fixed (g.init rule) (halts_after (halts_skip m.Equals) (halts_until slot_expr (halts_skip m.Stop))) (λ n a good. (good, refl)) (λ n f h. inl h))
      (halts_or (marks.is_mark m.SlotSet) (halts_mapped p.mutable (g.init rule) (halts_after (halts_skip m.SlotSet) (halts_until slot_expr (halts_skip m.Stop))) (λ n a good. (good, refl)) (λ n f h. inr (inl h)))
      (halts_mapped p.bare (g.init rule) (halts_flag m.Stop) (λ n a good. (good, refl)) (λ n f h. inr (inr h))))

  -- the slots of an object, or those of code
  abbrev pub slot_rule : Holder → Rule p.Slot
  slot_rule h.Object = g.slot rule
  slot_rule h.Code = g.local rule

  -- without an access word
  abbrev no_access : Option Access × (Named × p.SlotInit) → Option (Named × p.SlotInit)
  no_access (None, init) = Some init
  no_access (Some access, init) = None

  local_becomes : Becomes (mapped no_access (g.ident & g.init rule)) (g.local rule) made_slot
  local_becomes n (None, init) good = (good, refl)
  local_becomes n (Some access, init) good = absurd good

  halts_slot : (holder : Holder) → Halts (x.slot primary holder) (slot_rule holder)
  unfolding x.slot
  halts_slot h.Object = halts_mapped made_slot (g.slot rule) (halts_both halts_access (halts_both halts_ident halts_init)) (λ n a good. (good, refl)) (λ n f h. h)
  halts_slot h.Code = halts_mapped made_slot (g.local rule) (halts_mapped (λ init. (None, init)) (mapped no_access (g.ident & g.init rule)) (halts_both halts_ident halts_init) (λ n a good. (good, refl)) (λ n f h. h)) local_becomes (λ n f h. h)

  halts_slots : (holder : Holder) → Halts (x.slots primary holder) (mapped (λ slots. Some (slot_list slots)) (many (slot_rule holder)))
  halts_slots holder = halts_mapped list_slots (mapped (λ slots. Some (slot_list slots)) (many (slot_rule holder))) (halts_many (x.starts_slot holder) (halts_slot holder))
      (by_form (many (slot_rule holder)) p.Slots (λ slots. Some (slot_list slots)) list_slots (λ n a good. ap Some (slots_back a))) (λ n f h. h)

  bars_lead : (holder : Holder) → Leads (bar ▸ mapped (λ slots. Some (slot_list slots)) (many (slot_rule holder)) ◂ bar) (g.bars rule (slot_rule holder))
  bars_lead holder n w front = inr (both_lead (token bar) (mapped (λ slots. Some (slot_list slots)) (many (slot_rule holder)) ◂ bar) (many (slot_rule holder) ◂ bar) (form_leads (λ slots. Some (slot_list slots)) (many (slot_rule holder)) (token bar)) n w front)

  pub halts_bars : (holder : Holder) → Halts (x.bars primary holder) (g.bars rule (slot_rule holder))
  unfolding x.bars
  halts_bars holder =
      halts_or (marks.is_mark m.Bar) (halts_mapped p.bars_around (g.bars rule (slot_rule holder)) (halts_after (halts_skip m.Bar) (halts_until (halts_slots holder) (halts_skip m.Bar))) (λ n a good. (good, refl)) (bars_lead holder))
      (halts_none (g.bars rule (slot_rule holder)) p.no_bars (λ n. tt) refl)

  halts_statement : Halts (x.statement primary) (g.stmt rule)
  unfolding x.statement
  halts_statement = halts_mapped made_statement (g.stmt rule) (halts_both halts_caret any_expr) (λ n a good. (good, refl)) (λ n f h. h)

  pub halts_statements : Halts (x.statements primary) (g.stmts rule)
  halts_statements = halts_mapped x.statements_from (g.stmts rule) (halts_listed x.starts_statement (marks.is_mark m.Stop) k.Stop (mark_is m.Stop) halts_statement)
      (by_form (listed (g.stmt rule) k.Stop) p.Statements f.statements_form x.statements_from (λ n l good. ap (λ list. f.listed_of list (ends_separated l)) (statements_back (listed_items l)) ∙ listed_read l)) (λ n f h. h)

  -- ---- brackets

  -- what stands between the braces of a tuple
  abbrev tuple_form : p.Primary → Option (Listed p.Expr)
  tuple_form (p.tuple list stop) = f.listed_of (expr_list list) stop
  tuple_form _ = None

  halts_tuple : Halts (x.tuple_items primary) (mapped tuple_form (listed (g.expr rule g.oper) k.Stop))
  halts_tuple = halts_mapped x.tuple_from (mapped tuple_form (listed (g.expr rule g.oper) k.Stop)) (halts_listed x.starts_expr (marks.is_mark m.Stop) k.Stop (mark_is m.Stop) any_expr)
      (by_form (listed (g.expr rule g.oper) k.Stop) p.Primary tuple_form x.tuple_from (λ n l good. ap (λ list. f.listed_of list (ends_separated l)) (exprs_back (listed_items l)) ∙ listed_read l)) (λ n f h. h)

  abbrev block_parts : p.Block → List Named × (p.Bars × p.Statements)
  block_parts (p.block_with names bars body) = (names, (bars, body))

  -- what stands between the brackets of a block
  abbrev block_inside : Rule p.Block
  block_inside = mapped (λ block. Some (block_parts block)) (params & (g.bars rule (g.local rule) & g.stmts rule))

  halts_block : Halts (x.block primary) block_inside
  unfolding x.block
  halts_block = halts_mapped x.block_from block_inside (halts_both halts_params (halts_both (halts_bars h.Code) halts_statements)) (λ n a good. (good, refl)) (λ n f h. h)

  -- a primary in brackets
  abbrev primary_rule : Rule p.Primary
  primary_rule = mapped f.primary_form (either g.leaf (g.bracketed rule))

  block_becomes : Becomes (k.OpenBlock ▸ block_inside ◂ k.CloseBlock) primary_rule p.block_literal
  block_becomes n (p.block_with names bars body) good = (
    (good.0, (good.1.0.0, (good.1.0.1.0, (good.1.0.1.1, tt)))),
    ap (λ w. k.OpenBlock ∷ w)
        (ap (λ w. params.flat names ++ w) (sym (append_assoc ((g.bars rule (g.local rule)).flat bars) ((g.stmts rule).flat body) (k.CloseBlock ∷ [])))
        ∙ sym (append_assoc (params.flat names) ((g.bars rule (g.local rule)).flat bars ++ (g.stmts rule).flat body) (k.CloseBlock ∷ []))),
  )

  tuple_arm : (n : ℕ) (l : Option (Listed p.Expr)) → GoodFrom tuple_form (listed (g.expr rule g.oper) k.Stop) (n + 1) l
      → GoodFrom f.primary_form (either g.leaf (g.bracketed rule)) n (option_map (λ y. inr (inr (inr y))) l)
      × (flat_from f.primary_form (either g.leaf (g.bracketed rule)) (option_map (λ y. inr (inr (inr y))) l) ≡ k.OpenTuple ∷ (flat_from tuple_form (listed (g.expr rule g.oper) k.Stop) l ++ k.CloseTuple ∷ []))
  tuple_arm n None good = absurd good
  tuple_arm n (Some l) good = ((tt, (good, tt)), refl)

  tuple_becomes : Becomes (k.OpenTuple ▸ mapped tuple_form (listed (g.expr rule g.oper) k.Stop) ◂ k.CloseTuple) primary_rule (λ a. a)
  tuple_becomes n (p.tuple list stop) good = tuple_arm n (f.listed_of (expr_list list) stop) good.1.0
  tuple_becomes n _ good = absurd good.1.0

  leaf_becomes : Becomes leaf primary_rule (λ a. a)
  leaf_becomes n (p.paren inner) good = absurd good
  leaf_becomes n (p.block_literal block) good = absurd good
  leaf_becomes n (p.tuple list stop) good = absurd good
  leaf_becomes n (p.number true size) good = (good, refl)
  leaf_becomes n (p.number false size) good = (good, refl)
  leaf_becomes n _ good = (good, refl)

  block_leads : Leads (k.OpenBlock ▸ block_inside ◂ k.CloseBlock) primary_rule
  block_leads n v front = inr (inr (inl (
      both_lead (token k.OpenBlock) (block_inside ◂ k.CloseBlock) (maybe (once_or_more (k.Colon ▸ g.ident) ◂ bar) & (g.bars rule (g.local rule) & g.stmts rule ◂ k.CloseBlock)) inside_leads n v front)))
    where
      inside_leads : Leads (block_inside ◂ k.CloseBlock) (maybe (once_or_more (k.Colon ▸ g.ident) ◂ bar) & (g.bars rule (g.local rule) & g.stmts rule ◂ k.CloseBlock))
      inside_leads n w h = form_leads (λ ns. Some (f.once_or_more_of ns)) (maybe (once_or_more (k.Colon ▸ g.ident) ◂ bar)) (g.bars rule (g.local rule) & g.stmts rule ◂ k.CloseBlock) n w
          (both_lead params ((g.bars rule (g.local rule) & g.stmts rule) & token k.CloseBlock) (g.bars rule (g.local rule) & g.stmts rule ◂ k.CloseBlock) (regroup_leads (g.bars rule (g.local rule)) (g.stmts rule) (token k.CloseBlock)) n w
          (regroup_leads params (g.bars rule (g.local rule) & g.stmts rule) (token k.CloseBlock) n w
          (form_leads (λ block. Some (block_parts block)) (params & (g.bars rule (g.local rule) & g.stmts rule)) (token k.CloseBlock) n w h)))

  tuple_leads : Leads (k.OpenTuple ▸ mapped tuple_form (listed (g.expr rule g.oper) k.Stop) ◂ k.CloseTuple) primary_rule
  tuple_leads n f h = inr (inr (inr (both_lead (token k.OpenTuple) (mapped tuple_form (listed (g.expr rule g.oper) k.Stop) ◂ k.CloseTuple) (listed (g.expr rule g.oper) k.Stop ◂ k.CloseTuple)
      (form_leads tuple_form (listed (g.expr rule g.oper) k.Stop) (token k.CloseTuple)) n f h)))

  halts_bracketed : Halts (x.bracketed primary) primary_rule
  unfolding x.bracketed
  halts_bracketed =
      halts_or (marks.is_mark m.Open) (halts_mapped p.paren primary_rule (halts_after (halts_skip m.Open) (halts_until any_expr (halts_skip m.Close))) (λ n a good. (good, refl)) (λ n f h. inr (inl h)))
      (halts_or (marks.is_mark m.OpenBlock) (halts_mapped p.block_literal primary_rule (halts_after (halts_skip m.OpenBlock) (halts_until halts_block (halts_skip m.CloseBlock))) block_becomes block_leads)
      (halts_same primary_rule (halts_after (halts_skip m.OpenTuple) (halts_until halts_tuple (halts_skip m.CloseTuple))) tuple_becomes tuple_leads))

  any_halts : Halts (x.any_primary primary) primary_rule
  unfolding x.any_primary
  any_halts = halts_or leaves.starts_leaf (halts_same primary_rule halts_leaf leaf_becomes (λ n f h. inl h)) halts_bracketed

-- primaries in which so many brackets nest
pub halts_primary : (depth : ℕ) → Halts (x.primary depth) (g.primary depth)
unfolding x.primary
halts_primary zero = halts_leaf
halts_primary (suc depth) = any_halts (x.primary depth) (g.primary depth) (halts_primary depth)
