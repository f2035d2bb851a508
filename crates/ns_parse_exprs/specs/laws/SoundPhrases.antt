-- Expressions, slots, statements and blocks are spelled by their tokens.
use Rattle.std.proofs.Common.{◌≡◌, ℕ, zero, suc, ◌+◌, inr, List, [], ◌∷◌, ◌++◌, Option, Some, None, option_map, true, false, refl, sym, ap, subst, ◌∙◌, append_assoc}
use Rattle.ns_tree.specs.declared.token.Kind.TheVariants as k
use Rattle.ns_tree.specs.declared.tree.Named.{Named}
use Rattle.ns_tree.specs.declared.tree.Access.{Access}
use Rattle.ns_tree.specs.Forms as f
use Rattle.ns_tree.specs.Grammar as g
use Rattle.ns_tree.specs.Lists.{key_list, oper_list, message_list, expr_list, slot_list, list_keys, list_opers, list_messages, list_slots}
use Rattle.ns_tree.specs.Plain as p
use Rattle.ns_tree.specs.Rule.{Rule, ◌&◌, many, either, mapped, flat_from, GoodFrom, Listed, listed, ◌▸◌, ◌◂◌}
use Rattle.ns_tree.specs.laws.Made.{keys_back, opers_back, messages_back, exprs_back, slots_back, statements_back}
use Rattle.ns_tree.specs.Made.{made_un, made_slot, made_statement, listed_items}
use Rattle.ns_parse_exprs.specs.declared.expressions.Holder.{Holder}
use Rattle.ns_parse_exprs.specs.declared.expressions.Holder.TheVariants as h
use Rattle.ns_parse_tokens.specs.declared.mark.Mark.TheVariants as m
use Rattle.ns_parse_tokens.specs.declared.name.Sort.TheVariants as s
use Rattle.ns_parse_tokens.specs.declared.name.Operators.{Operators}
use Rattle.ns_parse_tokens.specs.declared.name.Operators.TheVariants as o
use Rattle.ns_parse_tokens.specs.Read.{Reader, ends_separated}
use Rattle.ns_parse_tokens.specs.Mark as marks
use Rattle.ns_parse_tokens.specs.Name as names
use Rattle.ns_parse_tokens.specs.Leaf as leaves
use Rattle.ns_parse_exprs.specs.Expressions as x
use Rattle.ns_parse_tokens.specs.laws.Sound.{Sound, SoundIf, Becomes, sound_none, sound_never, sound_mapped, if_mapped, sound_same, sound_both, sound_after, sound_until, sound_placed, sound_or, sound_or_if}
use Rattle.ns_parse_tokens.specs.laws.SoundLists.{some, sound_many, sound_some, sound_listed, listed_read}
use Rattle.ns_parse_tokens.specs.laws.SoundMarks.{sound_skip, sound_semi, sound_caret, sound_flag, mark_is}
use Rattle.ns_parse_tokens.specs.laws.SoundTokens.{sound_ident, sound_key, sound_set_key, sound_oper, sound_slot_oper, sound_names, sound_access, leaf, sound_leaf}
use Rattle.ns_parse_tokens.specs.laws.SoundPatterns.{by_form, params, sound_params}

-- ---- by the forms of a node

-- what a rule gives, as one of the forms of another
module _ {A B C D : Type 0} (to : A → B) (r : Rule A) (s : Rule B) (good : (n : ℕ) (a : A) → r.Good n a → s.Good n (to a))
    (flat : (a : A) → s.flat (to a) ≡ r.flat a) (form : C → Option A) (form' : D → Option B) where
  pub by_arm : (n : ℕ) (o : Option A) → GoodFrom form r n o → GoodFrom form' s n (option_map to o) × (flat_from form' s (option_map to o) ≡ flat_from form r o)
  by_arm n None h = absurd h
  by_arm n (Some a) h = (good n a h, flat a)

module _ (primary : Reader p.Primary) (rule : Rule p.Primary) (P : Sound primary rule) where
  sound_un : Sound (x.un primary) (g.un rule)
  unfolding x.un
  sound_un = sound_mapped made_un (g.un rule) (sound_both (sound_placed P) (sound_names s.Ident sound_ident)) (λ n a good. (good, refl))

  module _ (operators : Operators) (operator : Rule Named) (O : Sound (names.name (s.Operator operators)) operator) where
    sound_opers : Sound (x.opers primary operators) (mapped (λ more. Some (oper_list more)) (many (operator & g.un rule)))
    sound_opers = sound_mapped list_opers (mapped (λ more. Some (oper_list more)) (many (operator & g.un rule)))
        (sound_many (names.is_name (s.Operator operators)) (sound_both O sound_un))
        (by_form (many (operator & g.un rule)) p.Opers (λ more. Some (oper_list more)) list_opers (λ n a good. ap Some (opers_back a)))

    sound_bin : Sound (x.bin primary operators) (g.bin rule operator)
    unfolding x.bin
    sound_bin = sound_mapped x.bin_from (g.bin rule operator) (sound_both sound_un sound_opers) (λ n a good. (good, refl))

    -- keys, any number of them
    abbrev keys_rule : Rule p.Keys
    keys_rule = mapped (λ keys. Some (key_list keys)) (many (g.key & g.bin rule operator))

    sound_keys : Sound (x.keys primary operators) keys_rule
    sound_keys = sound_mapped list_keys keys_rule (sound_many (names.is_name s.Key) (sound_both sound_key sound_bin))
        (by_form (many (g.key & g.bin rule operator)) p.Keys (λ keys. Some (key_list keys)) list_keys (λ n a good. ap Some (keys_back a)))

    -- keys, one or more
    abbrev pub some_keys : Rule p.Keys
    some_keys = mapped (λ keys. f.once_or_more_of (key_list keys)) (g.keys rule operator)

    some_become : Becomes (some (g.key & g.bin rule operator)) some_keys list_keys
    some_become n a good = let e : key_list (list_keys a) ≡ a = keys_back a in (
      subst (λ b. GoodFrom (λ keys. f.once_or_more_of (key_list keys)) (g.keys rule operator) n (f.once_or_more_of b)) (sym e) good,
      ap (λ b. flat_from (λ keys. f.once_or_more_of (key_list keys)) (g.keys rule operator) (f.once_or_more_of b)) e,
    )

    pub sound_some_keys : SoundIf (names.is_name s.Key) (x.keys primary operators) some_keys
    sound_some_keys = if_mapped list_keys some_keys (sound_some (names.is_name s.Key) (sound_both sound_key sound_bin)) some_become

    implicit_becomes : Becomes some_keys (g.key_expr rule operator) p.implicit
    implicit_becomes n a good =
        by_arm inr (g.keys rule operator) (either (g.bin rule operator & many (g.key & g.bin rule operator)) (g.keys rule operator))
        (λ n a good. good) (λ a. refl)
        (λ keys. f.once_or_more_of (key_list keys)) f.key_expr_form n (f.once_or_more_of (key_list a)) good

    sound_key_expr : Sound (x.key_expr primary operators) (g.key_expr rule operator)
    unfolding x.key_expr
    sound_key_expr =
        sound_or x.starts_un (sound_mapped x.sent_from (g.key_expr rule operator) (sound_both sound_bin sound_keys) (λ n a good. (good, refl)))
        (sound_or_if (if_mapped p.implicit (g.key_expr rule operator) sound_some_keys implicit_becomes) (sound_never (g.key_expr rule operator)))

    keywords_become : Becomes some_keys (g.message rule operator) p.keywords
    keywords_become n a good =
        by_arm (λ keys. inr (inr keys)) (g.keys rule operator) (either g.ident (either (operator & g.un rule) (g.keys rule operator)))
        (λ n a good. good) (λ a. refl)
        (λ keys. f.once_or_more_of (key_list keys)) f.message_form n (f.once_or_more_of (key_list a)) good

    sound_message : Sound (x.message primary operators) (g.message rule operator)
    unfolding x.message
    sound_message =
        sound_or (names.is_name s.Ident) (sound_mapped p.unary (g.message rule operator) sound_ident (λ n a good. (good, refl)))
        (sound_or (names.is_name (s.Operator operators))
        (sound_mapped x.binary_from (g.message rule operator) (sound_both O sound_un) (λ n a good. (good, refl)))
        (sound_or_if (if_mapped p.keywords (g.message rule operator) sound_some_keys keywords_become) (sound_never (g.message rule operator))))

    abbrev cascade_rule : Rule p.Cascade
    cascade_rule = mapped (λ more. Some (message_list more)) (many (g.semi & g.message rule operator))

    sound_cascade : Sound (x.cascade primary operators) cascade_rule
    sound_cascade = sound_mapped list_messages cascade_rule (sound_many (marks.is_mark m.Semi) (sound_both sound_semi sound_message))
        (by_form (many (g.semi & g.message rule operator)) p.Cascade (λ more. Some (message_list more)) list_messages (λ n a good. ap Some (messages_back a)))

    sound_expr : Sound (x.expr primary operators) (g.expr rule operator)
    unfolding x.expr
    sound_expr = sound_mapped x.expr_from (g.expr rule operator)
        (sound_both (sound_names s.SetKey sound_set_key) (sound_both sound_key_expr sound_cascade)) (λ n a good. (good, refl))

  pub any_expr : Sound (x.expr primary o.All) (g.expr rule g.oper)
  any_expr = sound_expr o.All g.oper sound_oper

  slot_expr : Sound (x.expr primary o.ButBar) (g.expr rule g.slot_oper)
  slot_expr = sound_expr o.ButBar g.slot_oper sound_slot_oper

  -- ---- slots and statements

  sound_init : Sound (x.init primary) (g.init rule)
  unfolding x.init
  sound_init =
      sound_or (marks.is_mark m.Equals)
      (sound_mapped p.fixed (g.init rule) (sound_after (sound_skip m.Equals) (sound_until slot_expr (sound_skip m.Stop))) (λ n a good. (good, refl)))
      (sound_or (marks.is_mark m.SlotSet)
      (sound_mapped p.mutable (g.init rule) (sound_after (sound_skip m.SlotSet) (sound_until slot_expr (sound_skip m.Stop))) (λ n a good. (good, refl)))
      (sound_mapped p.bare (g.init rule) (sound_flag m.Stop) (λ n a good. (good, refl))))

  -- the slots of an object, or those of code
  abbrev pub slot_rule : Holder → Rule p.Slot
  slot_rule h.Object = g.slot rule
  slot_rule h.Code = g.local rule

  -- without an access word
  abbrev no_access : Option Access × (Named × p.SlotInit) → Option (Named × p.SlotInit)
  no_access (None, init) = Some init
  no_access (Some access, init) = None

  local_becomes : Becomes (mapped no_access (g.ident & g.init rule)) (g.local rule) made_slot
  local_becomes n (None, init) good = (good, refl)
  local_becomes n (Some access, init) good = absurd good

  sound_slot : (holder : Holder) → Sound (x.slot primary holder) (slot_rule holder)
  unfolding x.slot
  sound_slot h.Object = sound_mapped made_slot (g.slot rule) (sound_both sound_access (sound_both sound_ident sound_init)) (λ n a good. (good, refl))
  sound_slot h.Code = sound_mapped made_slot (g.local rule) (sound_mapped (λ init. (None, init)) (mapped no_access (g.ident & g.init rule))
      (sound_both sound_ident sound_init) (λ n a good. (good, refl))) local_becomes

  sound_slots : (holder : Holder) → Sound (x.slots primary holder) (mapped (λ slots. Some (slot_list slots)) (many (slot_rule holder)))
  sound_slots holder = sound_mapped list_slots (mapped (λ slots. Some (slot_list slots)) (many (slot_rule holder)))
      (sound_many (x.starts_slot holder) (sound_slot holder))
      (by_form (many (slot_rule holder)) p.Slots (λ slots. Some (slot_list slots)) list_slots (λ n a good. ap Some (slots_back a)))

  pub sound_bars : (holder : Holder) → Sound (x.bars primary holder) (g.bars rule (slot_rule holder))
  unfolding x.bars
  sound_bars holder =
      sound_or (marks.is_mark m.Bar) (sound_mapped p.bars_around (g.bars rule (slot_rule holder))
      (sound_after (sound_skip m.Bar) (sound_until (sound_slots holder) (sound_skip m.Bar))) (λ n a good. (good, refl)))
      (sound_none (g.bars rule (slot_rule holder)) p.no_bars (λ n. tt) refl)

  sound_statement : Sound (x.statement primary) (g.stmt rule)
  unfolding x.statement
  sound_statement = sound_mapped made_statement (g.stmt rule) (sound_both sound_caret any_expr) (λ n a good. (good, refl))

  pub sound_statements : Sound (x.statements primary) (g.stmts rule)
  sound_statements = sound_mapped x.statements_from (g.stmts rule)
      (sound_listed x.starts_statement (marks.is_mark m.Stop) k.Stop (mark_is m.Stop) sound_statement)
      (by_form (listed (g.stmt rule) k.Stop) p.Statements f.statements_form x.statements_from
      (λ n l good. ap (λ list. f.listed_of list (ends_separated l)) (statements_back (listed_items l)) ∙ listed_read l))

  -- ---- brackets

  -- what stands between the braces of a tuple
  abbrev tuple_form : p.Primary → Option (Listed p.Expr)
  tuple_form (p.tuple list stop) = f.listed_of (expr_list list) stop
  tuple_form _ = None

  sound_tuple : Sound (x.tuple_items primary) (mapped tuple_form (listed (g.expr rule g.oper) k.Stop))
  sound_tuple = sound_mapped x.tuple_from (mapped tuple_form (listed (g.expr rule g.oper) k.Stop))
      (sound_listed x.starts_expr (marks.is_mark m.Stop) k.Stop (mark_is m.Stop) any_expr)
      (by_form (listed (g.expr rule g.oper) k.Stop) p.Primary tuple_form x.tuple_from
      (λ n l good. ap (λ list. f.listed_of list (ends_separated l)) (exprs_back (listed_items l)) ∙ listed_read l))

  abbrev block_parts : p.Block → List Named × (p.Bars × p.Statements)
  block_parts (p.block_with names bars body) = (names, (bars, body))

  -- what stands between the brackets of a block
  abbrev block_inside : Rule p.Block
  block_inside = mapped (λ block. Some (block_parts block)) (params & (g.bars rule (g.local rule) & g.stmts rule))

  sound_block : Sound (x.block primary) block_inside
  unfolding x.block
  sound_block = sound_mapped x.block_from block_inside (sound_both sound_params (sound_both (sound_bars h.Code) sound_statements)) (λ n a good. (good, refl))

  -- a primary in brackets
  abbrev primary_rule : Rule p.Primary
  primary_rule = mapped f.primary_form (either g.leaf (g.bracketed rule))

  block_becomes : Becomes (k.OpenBlock ▸ block_inside ◂ k.CloseBlock) primary_rule p.block_literal
  block_becomes n (p.block_with names bars body) good = (
    (good.0, (good.1.0.0, (good.1.0.1.0, (good.1.0.1.1, tt)))),
    ap (λ w. k.OpenBlock ∷ w)
        (ap (λ w. params.flat names ++ w) (sym (append_assoc ((g.bars rule (g.local rule)).flat bars) ((g.stmts rule).flat body) (k.CloseBlock ∷ [])))
        ∙ sym (append_assoc (params.flat names) ((g.bars rule (g.local rule)).flat bars ++ (g.stmts rule).flat body) (k.CloseBlock ∷ []))),
  )

  tuple_arm : (n : ℕ) (l : Option (Listed p.Expr)) → GoodFrom tuple_form (listed (g.expr rule g.oper) k.Stop) (n + 1) l
      → GoodFrom f.primary_form (either g.leaf (g.bracketed rule)) n (option_map (λ y. inr (inr (inr y))) l)
      × (flat_from f.primary_form (either g.leaf (g.bracketed rule)) (option_map (λ y. inr (inr (inr y))) l) ≡ k.OpenTuple
      ∷ (flat_from tuple_form (listed (g.expr rule g.oper) k.Stop) l ++ k.CloseTuple ∷ []))
  tuple_arm n None good = absurd good
  tuple_arm n (Some l) good = ((tt, (good, tt)), refl)

  tuple_becomes : Becomes (k.OpenTuple ▸ mapped tuple_form (listed (g.expr rule g.oper) k.Stop) ◂ k.CloseTuple) primary_rule (λ a. a)
  tuple_becomes n (p.tuple list stop) good = tuple_arm n (f.listed_of (expr_list list) stop) good.1.0
  tuple_becomes n _ good = absurd good.1.0

  leaf_becomes : Becomes leaf primary_rule (λ a. a)
  leaf_becomes n (p.paren inner) good = absurd good
  leaf_becomes n (p.block_literal block) good = absurd good
  leaf_becomes n (p.tuple list stop) good = absurd good
  leaf_becomes n (p.number true size) good = (good, refl)
  leaf_becomes n (p.number false size) good = (good, refl)
  leaf_becomes n _ good = (good, refl)

  sound_bracketed : Sound (x.bracketed primary) primary_rule
  unfolding x.bracketed
  sound_bracketed =
      sound_or (marks.is_mark m.Open)
      (sound_mapped p.paren primary_rule (sound_after (sound_skip m.Open) (sound_until any_expr (sound_skip m.Close))) (λ n a good. (good, refl)))
      (sound_or (marks.is_mark m.OpenBlock)
      (sound_mapped p.block_literal primary_rule (sound_after (sound_skip m.OpenBlock) (sound_until sound_block (sound_skip m.CloseBlock))) block_becomes)
      (sound_same primary_rule (sound_after (sound_skip m.OpenTuple) (sound_until sound_tuple (sound_skip m.CloseTuple))) tuple_becomes))

  any_sound : Sound (x.any_primary primary) primary_rule
  unfolding x.any_primary
  any_sound = sound_or leaves.starts_leaf (sound_same primary_rule sound_leaf leaf_becomes) sound_bracketed

-- primaries in which so many brackets nest
pub sound_primary : (depth : ℕ) → Sound (x.primary depth) (g.primary depth)
unfolding x.primary
sound_primary zero = sound_leaf
sound_primary (suc depth) = any_sound (x.primary depth) (g.primary depth) (sound_primary depth)
