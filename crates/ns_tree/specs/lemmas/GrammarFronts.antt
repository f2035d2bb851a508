-- The fronts of each rule of the grammar are what begins a spelling of it.
use Rattle.std.proofs.Common.{refl, arith, ℕ, zero, suc, []}
use Rattle.std.specs.Prelude.{codes}
use Rattle.ns_tree.specs.declared.token.Kind.TheVariants as k
use Rattle.ns_tree.specs.declared.token.Reserved.TheVariants as r
use Rattle.ns_tree.specs.declared.tree.Named.{Named}
use Rattle.ns_tree.specs.declared.tree.Access.TheVariants as a
use Rattle.ns_tree.specs.Flat.{bar, equals, access_word}
use Rattle.ns_tree.specs.declared.token.Kind.{Kind}
use Rattle.ns_tree.specs.Tree.{HasText}
use Rattle.ns_tree.specs.Forms as f
use Rattle.ns_tree.specs.Grammar as g
use Rattle.ns_tree.specs.Made
use Rattle.ns_tree.specs.Plain as p
use Rattle.ns_tree.specs.Rule.{Rule, ◌&◌, many, maybe, either, placed, listed, ◌▸◌, ◌◂◌, once_or_more, flag}
use Rattle.ns_tree.specs.laws.Fronts.{Fronts, one_fronts, both_fronts, many_fronts, maybe_fronts, either_fronts, mapped_fronts, placed_fronts, before_fronts, behind_fronts, once_fronts, flag_fronts}
use Rattle.ns_tree.specs.lemmas.ListedFronts.{listed_fronts}
use Rattle.ns_tree.specs.laws.Made as back

-- ---- tokens that are kept

pub ident_fronts : Fronts g.ident
ident_fronts = one_fronts g.make_ident (λ name. k.Ident name.text) (λ n. record { value = g.named n (codes "a"); made = refl; told = (refl, refl) })

pub key_fronts : Fronts g.key
key_fronts = one_fronts g.make_key (λ name. k.Key name.text) (λ n. record { value = g.named n (codes "a:"); made = refl; told = (codes "a", refl, refl) })

pub part_key_fronts : Fronts g.part_key
part_key_fronts = one_fronts g.make_part_key (λ name. k.Key name.text) (λ n. record { value = g.named n (codes "a:"); made = refl; told = (codes "a", refl, refl) })

pub set_key_fronts : Fronts g.set_key
set_key_fronts = one_fronts g.make_set_key (λ name. k.SetKey name.text) (λ n. record { value = g.named n (codes "a"); made = refl; told = refl })

pub oper_fronts : Fronts g.oper
oper_fronts = one_fronts g.make_oper (λ name. k.Oper name.text) (λ n. record { value = g.named n (codes "+"); made = refl; told = refl })

pub slot_oper_fronts : Fronts g.slot_oper
slot_oper_fronts = one_fronts g.make_slot_oper (λ name. k.Oper name.text) (λ n. record { value = g.named n (codes "+"); made = refl; told = refl })

pub part_oper_fronts : Fronts g.part_oper
part_oper_fronts = one_fronts g.make_part_oper (λ name. k.Oper name.text) (λ n. record { value = g.named n (codes "+"); made = refl; told = refl })

pub string_fronts : Fronts g.string
string_fronts = one_fronts g.make_string k.Str (λ n. record { value = []; made = refl; told = tt })

pub number_fronts : Fronts g.number
number_fronts = one_fronts g.make_number k.Number (λ n. record { value = 0; made = refl; told = omega arith })

pub semi_fronts : Fronts g.semi
semi_fronts = one_fronts g.make_semi (λ at. k.Semi) (λ n. record { value = n; made = refl; told = tt })

pub caret_fronts : Fronts g.caret
caret_fronts = one_fronts g.make_caret (λ at. k.Caret) (λ n. record { value = n; made = refl; told = tt })

pub access_fronts : Fronts g.access
access_fronts = one_fronts g.make_access access_word (λ n. record { value = a.Public; made = refl; told = tt })

pub simple_fronts : Fronts g.simple
simple_fronts = one_fronts g.make_simple g.simple_kind (λ n. record { value = p.nil_word; made = refl; told = tt })

-- ---- expressions

pub leaf_fronts : Fronts g.leaf
leaf_fronts = either_fronts g.simple _ simple_fronts (either_fronts _ _ (before_fronts (k.Oper (codes "-")) g.number refl number_fronts) (before_fronts (k.Word r.Outer) g.ident tt ident_fronts))

module _ (primary : Rule p.Primary) (P : Fronts primary) where
  un_fronts : Fronts (g.un primary)
  un_fronts = mapped_fronts Made.made_un f.un_form (placed primary & many g.ident) (λ n x good. refl) (both_fronts (placed primary) (many g.ident) (placed_fronts primary P) (many_fronts g.ident ident_fronts))

  module _ (operator : Rule Named) (O : Fronts operator) where
    oper_un_fronts : Fronts (operator & g.un primary)
    oper_un_fronts = both_fronts operator (g.un primary) O un_fronts

    bin_fronts : Fronts (g.bin primary operator)
    bin_fronts = mapped_fronts Made.made_bin f.bin_form (g.un primary & many (operator & g.un primary)) (λ n x good. back.bin_back x) (both_fronts (g.un primary) (many (operator & g.un primary)) un_fronts (many_fronts (operator & g.un primary) oper_un_fronts))

    key_bin_fronts : Fronts (g.key & g.bin primary operator)
    key_bin_fronts = both_fronts g.key (g.bin primary operator) key_fronts bin_fronts

    pub keys_fronts : Fronts (g.keys primary operator)
    keys_fronts = once_fronts (g.key & g.bin primary operator) key_bin_fronts

    key_expr_fronts : Fronts (g.key_expr primary operator)
    key_expr_fronts = mapped_fronts Made.made_key_expr f.key_expr_form _ (λ n x good. back.key_expr_back x)
        (either_fronts (g.bin primary operator & many (g.key & g.bin primary operator)) (g.keys primary operator)
        (both_fronts (g.bin primary operator) (many (g.key & g.bin primary operator)) bin_fronts (many_fronts (g.key & g.bin primary operator) key_bin_fronts)) keys_fronts)

    message_fronts : Fronts (g.message primary operator)
    message_fronts = mapped_fronts Made.made_message f.message_form _ (λ n x good. back.message_back x)
        (either_fronts g.ident _ ident_fronts (either_fronts (operator & g.un primary) (g.keys primary operator) oper_un_fronts keys_fronts))

    expr_fronts : Fronts (g.expr primary operator)
    expr_fronts = mapped_fronts Made.made_expr f.expr_form _ (λ n x good. back.expr_back x)
        (both_fronts (many g.set_key) _ (many_fronts g.set_key set_key_fronts)
        (both_fronts (g.key_expr primary operator) (many (g.semi & g.message primary operator)) key_expr_fronts
        (many_fronts (g.semi & g.message primary operator) (both_fronts g.semi (g.message primary operator) semi_fronts message_fronts))))

  -- ---- slots and statements

  slot_expr_fronts : Fronts (g.expr primary g.slot_oper)
  slot_expr_fronts = expr_fronts g.slot_oper slot_oper_fronts

  any_expr_fronts : Fronts (g.expr primary g.oper)
  any_expr_fronts = expr_fronts g.oper oper_fronts

  ended_fronts : Fronts (g.expr primary g.slot_oper ◂ k.Stop)
  ended_fronts = behind_fronts (g.expr primary g.slot_oper) k.Stop slot_expr_fronts tt

  init_fronts : Fronts (g.init primary)
  init_fronts = mapped_fronts Made.made_init f.init_form _ (λ n x good. back.init_back x)
      (either_fronts (equals ▸ g.expr primary g.slot_oper ◂ k.Stop) _ (before_fronts equals (g.expr primary g.slot_oper ◂ k.Stop) refl ended_fronts)
      (either_fronts (k.SlotSet ▸ g.expr primary g.slot_oper ◂ k.Stop) (flag k.Stop) (before_fronts k.SlotSet (g.expr primary g.slot_oper ◂ k.Stop) tt ended_fronts) (flag_fronts k.Stop tt)))

  named_init_fronts : Fronts (g.ident & g.init primary)
  named_init_fronts = both_fronts g.ident (g.init primary) ident_fronts init_fronts

  pub slot_fronts : Fronts (g.slot primary)
  slot_fronts = mapped_fronts Made.made_slot f.slot_form _ (λ n x good. refl) (both_fronts (maybe g.access) (g.ident & g.init primary) (maybe_fronts g.access access_fronts) named_init_fronts)

  pub local_fronts : Fronts (g.local primary)
  local_fronts = mapped_fronts Made.made_local f.local_form _ (λ n x good. refl) named_init_fronts

  bars_fronts : (slot : Rule p.Slot) → Fronts slot → Fronts (g.bars primary slot)
  bars_fronts slot S = mapped_fronts Made.made_bars f.bars_form _ (λ n x good. back.bars_back x)
      (maybe_fronts (bar ▸ many slot ◂ bar) (before_fronts bar (many slot ◂ bar) refl (behind_fronts (many slot) bar (many_fronts slot S) refl)))

  stmt_fronts : Fronts (g.stmt primary)
  stmt_fronts = mapped_fronts Made.made_statement f.statement_form _ (λ n x good. refl) (both_fronts (maybe g.caret) (g.expr primary g.oper) (maybe_fronts g.caret caret_fronts) any_expr_fronts)

  stmts_fronts : Fronts (g.stmts primary)
  stmts_fronts = mapped_fronts Made.made_statements f.statements_form _ (λ n x good. back.stmts_back x) (listed_fronts (g.stmt primary) k.Stop stmt_fronts)

  -- ---- brackets

  -- slots, statements and a bracket behind them
  pub closed_fronts : (slot : Rule p.Slot) → Fronts slot → (close : Kind) → HasText close → Fronts (g.bars primary slot & g.stmts primary ◂ close)
  closed_fronts slot S close text = both_fronts (g.bars primary slot) (g.stmts primary ◂ close) (bars_fronts slot S) (behind_fronts (g.stmts primary) close stmts_fronts text)

  block_fronts : Fronts (g.block primary)
  block_fronts = mapped_fronts Made.made_block f.block_form _ (λ n x good. back.block_back x)
      (before_fronts k.OpenBlock _ tt (both_fronts (maybe (once_or_more (k.Colon ▸ g.ident) ◂ bar)) (g.bars primary (g.local primary) & g.stmts primary ◂ k.CloseBlock)
      (maybe_fronts (once_or_more (k.Colon ▸ g.ident) ◂ bar) (behind_fronts (once_or_more (k.Colon ▸ g.ident)) bar (once_fronts (k.Colon ▸ g.ident) (before_fronts k.Colon g.ident tt ident_fronts)) refl))
      (closed_fronts (g.local primary) local_fronts k.CloseBlock tt)))

  bracketed_fronts : Fronts (g.bracketed primary)
  bracketed_fronts = either_fronts (k.Open ▸ g.expr primary g.oper ◂ k.Close) _ (before_fronts k.Open (g.expr primary g.oper ◂ k.Close) tt (behind_fronts (g.expr primary g.oper) k.Close any_expr_fronts tt))
      (either_fronts (g.block primary) (k.OpenTuple ▸ listed (g.expr primary g.oper) k.Stop ◂ k.CloseTuple) block_fronts
      (before_fronts k.OpenTuple (listed (g.expr primary g.oper) k.Stop ◂ k.CloseTuple) tt (behind_fronts (listed (g.expr primary g.oper) k.Stop) k.CloseTuple (listed_fronts (g.expr primary g.oper) k.Stop any_expr_fronts) tt)))

pub primary_fronts : (depth : ℕ) → Fronts (g.primary depth)
primary_fronts zero = mapped_fronts Made.made_leaf f.leaf_of g.leaf back.leaf_back leaf_fronts
primary_fronts (suc depth) = mapped_fronts Made.made_primary f.primary_form (either g.leaf (g.bracketed (g.primary depth))) (back.primary_back (g.bracketed (g.primary depth)))
    (either_fronts g.leaf (g.bracketed (g.primary depth)) leaf_fronts (bracketed_fronts (g.primary depth) (primary_fronts depth)))
