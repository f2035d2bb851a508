-- Expressions, slots, statements and blocks are read whole.
use Rattle.std.proofs.Common.{◌≡◌, ℕ, zero, suc, ◌≤◌, inr, List, [], ◌∷◌, ◌++◌, length, Option, None, Bool, true, false, refl, ap, subst, ◌∙◌, append_assoc, arith}
use Rattle.ns_tree.specs.declared.token.Kind.{Kind}
use Rattle.ns_tree.specs.declared.token.Kind.TheVariants as k
use Rattle.ns_tree.specs.declared.tree.Named.{Named}
use Rattle.ns_tree.specs.declared.tree.Access.{Access}
use Rattle.ns_tree.specs.Flat.{bar}
use Rattle.ns_tree.specs.Forms as f
use Rattle.ns_tree.specs.Grammar as g
use Rattle.ns_tree.specs.Lists.{list_exprs, list_slots, list_statements}
use Rattle.ns_tree.specs.Made
use Rattle.ns_tree.specs.Plain as p
use Rattle.ns_tree.specs.Rule.{Rule, ◌&◌, many, maybe, either, mapped, Listed, none, last, next, listed, ◌▸◌, ◌◂◌, once_or_more}
use Rattle.ns_parse_exprs.specs.declared.expressions.Holder.{Holder}
use Rattle.ns_parse_exprs.specs.declared.expressions.Holder.TheVariants as h
use Rattle.ns_parse_tokens.specs.declared.mark.Mark.TheVariants as m
use Rattle.ns_parse_tokens.specs.declared.name.Sort.TheVariants as s
use Rattle.ns_parse_tokens.specs.declared.name.Operators.{Operators}
use Rattle.ns_parse_tokens.specs.declared.name.Operators.TheVariants as o
use Rattle.ns_parse_tokens.specs.Read.{Reader, read_none, read_never, read_both, ends_separated}
use Rattle.ns_parse_tokens.specs.Mark as marks
use Rattle.ns_parse_tokens.specs.Name as names
use Rattle.ns_parse_tokens.specs.Leaf as leaves
use Rattle.ns_parse_exprs.specs.Expressions as x
use Rattle.ns_parse.proofs.Seen.{Seen, Sees, within, apart, sees_or}
use Rattle.ns_parse.proofs.Seen as v
use Rattle.ns_parse.proofs.SeenMarks.{sees_mark}
use Rattle.ns_parse.proofs.SeenTests.{idents, operators, but_bar, leaves_begin, brackets_begin, sees_idents, sees_keys, sees_set_keys, sees_operators, sees_but_bar, sees_access, sees_leaf, sees_bracketed}
use Rattle.ns_parse.proofs.Full.{Full, full_from, full_form, full_as, full_within, full_mapped, full_placed, full_both, full_inside, full_after, full_until}
use Rattle.ns_parse.proofs.FullChoice.{full_either, full_option, full_only, full_none}
use Rattle.ns_parse.proofs.FullLists.{full_many, full_some, full_listed}
use Rattle.ns_parse.proofs.FullTokens.{full_skip, full_semi, full_caret, full_flag, full_ident, full_key, full_oper, full_slot_oper, full_idents, full_set_keys, full_access, full_leaf_form, full_leaf, full_params}
use Rattle.ns_parse.proofs.Forth as forth

-- ---- what begins a part, and what goes on within it

abbrev pub un_begin : List Seen
un_begin = leaves_begin ++ brackets_begin

abbrev pub expr_begin : List Seen
expr_begin = v.set_key ∷ v.key ∷ un_begin

abbrev pub statement_begin : List Seen
statement_begin = v.caret ∷ expr_begin

abbrev pub bin_goes : List Seen
bin_goes = operators ++ idents

abbrev pub keys_go : List Seen
keys_go = v.key ∷ bin_goes

abbrev pub expr_goes : List Seen
expr_goes = v.semi ∷ keys_go

abbrev pub message_begin : List Seen
message_begin = v.key ∷ bin_goes

abbrev init_begin : List Seen
init_begin = v.equals ∷ v.slot_set ∷ v.stop ∷ []

abbrev slot_begin : List Seen
slot_begin = v.access_word ∷ idents

pub sees_un : Sees x.starts_un un_begin
sees_un = sees_or leaves_begin brackets_begin sees_leaf sees_bracketed

pub sees_expr : Sees x.starts_expr expr_begin
sees_expr = sees_or (v.set_key ∷ []) (v.key ∷ un_begin) sees_set_keys (sees_or (v.key ∷ []) un_begin sees_keys sees_un)

pub sees_statement : Sees x.starts_statement statement_begin
sees_statement = sees_or (v.caret ∷ []) expr_begin (sees_mark m.Caret) sees_expr

-- ---- the operators that are messages

abbrev messages : Operators → List Seen
messages o.All = operators
messages o.ButBar = but_bar

sees_messages : (which : Operators) → Sees (names.is_name (s.Operator which)) (messages which)
sees_messages o.All = sees_operators
sees_messages o.ButBar = sees_but_bar

-- what holds of both sets
for_both : (P : List Seen → Bool) → P operators ≡ true → P but_bar ≡ true → (which : Operators) → P (messages which) ≡ true
for_both P all but o.All = all
for_both P all but o.ButBar = but

-- ---- a token behind the last of some parts

module _ {A B C : Type 0} {most : ℕ} {first more : List Seen} {null : Bool} {p : Reader C} (r : Rule A) (s : Rule B) (kind : Kind) {to : A × B → C} where
  pub full_ended : Full most first more null p ((r & s) ◂ kind) to → Full most first more null p (r & s ◂ kind) to
  full_ended P = full_from (r & s ◂ kind) to P (λ n c good. record { value = c; good = ((good.0, good.1.0), tt); same = append_assoc (r.flat c.0) (s.flat c.1) (kind ∷ []); is = refl })

module _ {A B C D : Type 0} {most : ℕ} {first more : List Seen} {null : Bool} {p : Reader D} (r : Rule A) (s : Rule B) (t : Rule C) (kind : Kind) {to : A × (B × C) → D} where
  pub full_ended_twice : Full most first more null p ((r & (s & t)) ◂ kind) to → Full most first more null p (r & (s & t ◂ kind)) to
  full_ended_twice P = full_from (r & (s & t ◂ kind)) to P (λ n c good. record {
    value = c;
    good = ((good.0, (good.1.0, good.1.1.0)), tt);
    same = append_assoc (r.flat c.0) (s.flat c.1.0 ++ t.flat c.1.1) (kind ∷ []) ∙ ap (λ w. r.flat c.0 ++ w) (append_assoc (s.flat c.1.0) (t.flat c.1.1) (kind ∷ []));
    is = refl;
  })

-- ---- lists with separators

ends_same : {A : Type 0} (l : Listed A) → ends_separated l ≡ Made.listed_stop l
ends_same none = refl
ends_same (last a) = refl
ends_same (next a none) = refl
ends_same (next a (last b)) = refl
ends_same (next a (next b l)) = ends_same (next b l)

-- ---- expressions, over their primaries

module _ (most : ℕ) (primary : Reader p.Primary) (rule : Rule p.Primary) (P : Full most un_begin [] false primary rule (λ a. a)) where
  full_un : Full most un_begin idents false (x.un primary) (g.un rule) (λ a. a)
  unfolding x.un
  full_un = full_form f.un_form (λ a. a) forth.un_forth (full_within un_begin idents refl refl (full_mapped Made.made_un (full_both (full_placed P) (full_idents most) refl)))

  module _ (which : Operators) (operator : Rule Named) (O : Full most (messages which) [] false (names.name (s.Operator which)) operator (λ a. a)) where
    oper_un : Full most (messages which) idents false (x.oper primary which) (operator & g.un rule) (λ a. a)
    oper_un = full_within (messages which) idents (for_both (λ ms. within (ms ++ []) ms) refl refl which) refl (full_both O full_un refl)

    full_bin : Full most un_begin bin_goes false (x.bin primary which) (g.bin rule operator) (λ a. a)
    unfolding x.bin
    full_bin = full_form f.bin_form (λ a. a) forth.bin_forth (full_within un_begin bin_goes refl (for_both (λ ms. within ((ms ++ idents) ++ idents) bin_goes) refl refl which)
        (full_mapped x.bin_from (full_both full_un (full_mapped _ (full_many (names.is_name (s.Operator which)) (messages which) (sees_messages which) oper_un (for_both (λ ms. within ms ms) refl refl which) (for_both (λ ms. apart ms idents) refl refl which)))
        (for_both (λ ms. apart ms idents) refl refl which))))

    key_bin : Full most (v.key ∷ []) bin_goes false (x.key primary which) (g.key & g.bin rule operator) (λ a. a)
    key_bin = full_within (v.key ∷ []) bin_goes refl refl (full_both (full_key most) full_bin refl)

    -- keys, one or more
    pub full_keys : Full most (v.key ∷ []) keys_go false (x.keys primary which) (g.keys rule operator) Made.made_keys
    full_keys = full_mapped _ (full_some (names.is_name s.Key) (v.key ∷ []) sees_keys key_bin refl refl)

    full_key_expr : Full most (v.key ∷ un_begin) keys_go false (x.key_expr primary which) (g.key_expr rule operator) (λ a. a)
    unfolding x.key_expr
    full_key_expr = full_form f.key_expr_form (λ a. a) forth.key_expr_forth (full_within (v.key ∷ un_begin) keys_go refl refl
        (full_either x.starts_un un_begin sees_un Made.made_key_expr (full_mapped x.sent_from (full_both full_bin (full_mapped _ (full_many (names.is_name s.Key) (v.key ∷ []) sees_keys key_bin refl refl)) refl))
        (full_only (names.is_name s.Key) (v.key ∷ []) sees_keys read_never (full_mapped p.implicit full_keys) refl) refl refl))

    full_message : Full most message_begin keys_go false (x.message primary which) (g.message rule operator) (λ a. a)
    unfolding x.message
    full_message = full_form f.message_form (λ a. a) forth.message_forth
        (full_within message_begin keys_go (for_both (λ ms. within (idents ++ (ms ++ (v.key ∷ []))) message_begin) refl refl which) refl
        (full_either (names.is_name s.Ident) idents sees_idents Made.made_message (full_mapped p.unary (full_ident most))
        (full_either (names.is_name (s.Operator which)) (messages which) (sees_messages which) (λ y. Made.made_message (inr y)) (full_mapped x.binary_from oper_un)
        (full_only (names.is_name s.Key) (v.key ∷ []) sees_keys read_never (full_mapped p.keywords full_keys) refl) (for_both (λ ms. within ms ms) refl refl which) (for_both (λ ms. apart (v.key ∷ []) ms) refl refl which))
        refl (for_both (λ ms. apart (ms ++ (v.key ∷ [])) idents) refl refl which)))

    full_expr : Full most expr_begin expr_goes false (x.expr primary which) (g.expr rule operator) (λ a. a)
    unfolding x.expr
    full_expr = full_form f.expr_form (λ a. a) forth.expr_forth (full_within expr_begin expr_goes refl refl (full_mapped x.expr_from (full_both (full_set_keys most)
        (full_both full_key_expr (full_mapped _ (full_many (marks.is_mark m.Semi) (v.semi ∷ []) (sees_mark m.Semi) (full_both (full_semi most) full_message refl) refl refl)) refl) refl)))

  pub any_expr : Full most expr_begin expr_goes false (x.expr primary o.All) (g.expr rule g.oper) (λ a. a)
  any_expr = full_expr o.All g.oper (full_oper most)

  slot_expr : Full most expr_begin expr_goes false (x.expr primary o.ButBar) (g.expr rule g.slot_oper) (λ a. a)
  slot_expr = full_expr o.ButBar g.slot_oper (full_slot_oper most)

  -- ---- slots and statements

  full_init : Full most init_begin init_begin true (x.init primary) (g.init rule) (λ a. a)
  unfolding x.init
  full_init = full_form f.init_form (λ a. a) forth.init_forth (full_within init_begin init_begin refl refl
      (full_either (marks.is_mark m.Equals) (v.equals ∷ []) (sees_mark m.Equals) Made.made_init (full_mapped p.fixed (full_after (full_skip (suc most) m.Equals) (full_until slot_expr (full_skip most m.Stop) refl)))
      (full_either (marks.is_mark m.SlotSet) (v.slot_set ∷ []) (sees_mark m.SlotSet) (λ y. Made.made_init (inr y)) (full_mapped p.mutable (full_after (full_skip (suc most) m.SlotSet) (full_until slot_expr (full_skip most m.Stop) refl)))
      (full_mapped p.bare (full_flag most m.Stop)) refl refl) refl refl))

  -- the slots of an object, or those of code
  abbrev pub slot_rule : Holder → Rule p.Slot
  slot_rule h.Object = g.slot rule
  slot_rule h.Code = g.local rule

  abbrev pub slots_begin : Holder → List Seen
  slots_begin h.Object = slot_begin
  slots_begin h.Code = idents

  sees_slot : (holder : Holder) → Sees (x.starts_slot holder) (slots_begin holder)
  sees_slot h.Object = sees_or (v.access_word ∷ []) idents sees_access sees_idents
  sees_slot h.Code = sees_idents

  -- a local has no access word
  no_access : Full {B = Option Access × (Named × p.SlotInit)} most idents init_begin false (read_both {A = Option Access} (read_none None) (read_both (names.name s.Ident) (x.init primary))) (g.ident & g.init rule) (λ y. (None, y))
  no_access = full_from (g.ident & g.init rule) (λ y. (None, y)) (full_within idents init_begin refl refl (full_both (full_none most None) (full_both (full_ident most) full_init refl) refl))
      (λ n c good. record { value = (tt, c); good = (tt, subst (λ i. (g.ident & g.init rule).Good i c) (omega arith) good); same = refl; is = refl })

  full_slot : (holder : Holder) → Full most (slots_begin holder) init_begin false (x.slot primary holder) (slot_rule holder) (λ a. a)
  unfolding x.slot
  full_slot h.Object = full_form f.slot_form (λ a. a) forth.slot_forth (full_within slot_begin init_begin refl refl (full_mapped Made.made_slot (full_both (full_access most) (full_both (full_ident most) full_init refl) refl)))
  full_slot h.Code = full_form f.local_form (λ a. a) forth.local_forth (full_mapped Made.made_slot no_access)

  for_holders : (P : List Seen → Bool) → P slot_begin ≡ true → P idents ≡ true → (holder : Holder) → P (slots_begin holder) ≡ true
  for_holders P object code h.Object = object
  for_holders P object code h.Code = code

  full_slots : (holder : Holder) → Full most slot_begin (slot_begin ++ init_begin) true (x.slots primary holder) (many (slot_rule holder)) list_slots
  full_slots holder = full_within slot_begin (slot_begin ++ init_begin) (for_holders (λ cs. within cs slot_begin) refl refl holder) (for_holders (λ cs. within (cs ++ init_begin) (slot_begin ++ init_begin)) refl refl holder)
      (full_mapped _ (full_many (x.starts_slot holder) (slots_begin holder) (sees_slot holder) (full_slot holder) (for_holders (λ cs. within cs cs) refl refl holder) (for_holders (λ cs. apart cs init_begin) refl refl holder)))

  pub full_bars : (holder : Holder) → Full most (v.bar ∷ []) (v.bar ∷ []) true (x.bars primary holder) (g.bars rule (slot_rule holder)) (λ a. a)
  unfolding x.bars
  full_bars holder = full_form f.bars_form (λ a. a) forth.bars_forth
      (full_option (marks.is_mark m.Bar) (v.bar ∷ []) (sees_mark m.Bar) Made.made_bars (full_mapped p.bars_around (full_after (full_skip (suc most) m.Bar) (full_until (full_slots holder) (full_skip most m.Bar) refl))) refl)

  full_statement : Full most statement_begin expr_goes false (x.statement primary) (g.stmt rule) (λ a. a)
  unfolding x.statement
  full_statement = full_form f.statement_form (λ a. a) forth.statement_forth (full_within statement_begin expr_goes refl refl (full_mapped Made.made_statement (full_both (full_caret most) any_expr refl)))

  abbrev pub statements_go : List Seen
  statements_go = statement_begin ++ (v.stop ∷ expr_goes)

  made_same : (l : Listed p.Statement) → x.statements_from l ≡ Made.made_statements l
  made_same l = ap (p.statements_with (list_statements (Made.listed_items l))) (ends_same l)

  pub full_statements : Full most statement_begin statements_go true (x.statements primary) (g.stmts rule) (λ a. a)
  full_statements = full_form f.statements_form (λ a. a) forth.stmts_forth (full_as Made.made_statements made_same
      (full_mapped x.statements_from (full_listed x.starts_statement statement_begin sees_statement (marks.is_mark m.Stop) (v.stop ∷ []) (sees_mark m.Stop) k.Stop full_statement refl refl refl)))

  -- ---- brackets

  tuple_same : (l : Listed p.Expr) → x.tuple_from l ≡ Made.made_primary (inr (inr (inr l)))
  tuple_same l = ap (p.tuple (list_exprs (Made.listed_items l))) (ends_same l)

  full_paren : Full (suc most) (v.open_paren ∷ []) [] false (x.paren primary) (k.Open ▸ g.expr rule g.oper ◂ k.Close) p.paren
  full_paren = full_mapped p.paren (full_inside (full_skip (suc most) m.Open) (full_until any_expr (full_skip most m.Close) refl))

  full_block : Full (suc most) (v.open_block ∷ []) [] false (x.block_literal primary) (g.block rule) p.block_literal
  unfolding x.block
  full_block = full_mapped p.block_literal (full_form f.block_form (λ a. a) forth.block_forth (full_inside (full_skip (suc most) m.OpenBlock)
      (full_ended_twice (maybe (once_or_more (k.Colon ▸ g.ident) ◂ bar)) (g.bars rule (g.local rule)) (g.stmts rule) k.CloseBlock
      (full_until (full_mapped x.block_from (full_both (full_params most) (full_both (full_bars h.Code) full_statements refl) refl)) (full_skip most m.CloseBlock) refl))))

  full_tuple : Full (suc most) (v.open_tuple ∷ []) [] false (x.tuple primary) (k.OpenTuple ▸ listed (g.expr rule g.oper) k.Stop ◂ k.CloseTuple) (λ l. Made.made_primary (inr (inr (inr l))))
  full_tuple = full_inside (full_skip (suc most) m.OpenTuple)
      (full_until (full_as (λ l. Made.made_primary (inr (inr (inr l)))) tuple_same (full_mapped x.tuple_from (full_listed x.starts_expr expr_begin sees_expr (marks.is_mark m.Stop) (v.stop ∷ []) (sees_mark m.Stop) k.Stop any_expr refl refl refl)))
      (full_skip most m.CloseTuple) refl)

  -- within brackets there is a token less
  full_any : Full (suc most) un_begin [] false (x.any_primary primary) (mapped f.primary_form (either g.leaf (g.bracketed rule))) (λ a. a)
  unfolding x.any_primary x.bracketed
  full_any = full_form f.primary_form (λ a. a) forth.primary_forth (full_either leaves.starts_leaf leaves_begin sees_leaf Made.made_primary (full_leaf_form (suc most))
      (full_either (marks.is_mark m.Open) (v.open_paren ∷ []) (sees_mark m.Open) (λ y. Made.made_primary (inr y)) full_paren
      (full_either (marks.is_mark m.OpenBlock) (v.open_block ∷ []) (sees_mark m.OpenBlock) (λ y. Made.made_primary (inr (inr y))) full_block full_tuple refl refl) refl refl) refl refl)

-- what isn't empty isn't spelled by no token
pub no_token : {A : Type 0} {most : ℕ} {first more : List Seen} {p : Reader A} {r : Rule A} (q : Reader A) → Full most first more false p r (λ a. a) → Full 0 first more false q r (λ a. a)
no_token {r = r} q P = record {
  reads = λ n a us good room ends. absurd (P.filled refl n a good (is_empty (r.flat a) room));
  starts = P.starts;
  filled = P.filled;
}
  where
    is_empty : (w : List Kind) → length w ≤ 0 → w ≡ []
    is_empty [] h = refl
    is_empty (k ∷ w) h = absurd (omega (arith, h))

-- With brackets as deep as one likes, a primary is read by a reader that knows as many levels as it has tokens.
pub full_primary : (depth most : ℕ) → Full most un_begin [] false (x.primary most) (g.primary depth) (λ a. a)
unfolding x.primary x.any_primary
full_primary zero zero = full_within un_begin [] refl refl (full_leaf zero)
full_primary zero (suc most) = full_within un_begin [] refl refl (full_only leaves.starts_leaf leaves_begin sees_leaf (x.bracketed (x.primary most)) (full_leaf (suc most)) refl)
full_primary (suc depth) zero = no_token leaves.leaf (full_any zero (x.primary zero) (g.primary depth) (full_primary depth zero))
full_primary (suc depth) (suc most) = full_any most (x.primary most) (g.primary depth) (full_primary depth most)
