-- The grammar of the profile, rule by rule. Each rule stands under the name that it has there; what a rule is
-- within brackets is handed in, so that brackets, and classes within classes, nest by a depth.
use Rattle.std.specs.Prelude.{ℕ, zero, suc, List, Option, Some, None, false, if◌then◌else◌, codes}
use Rattle.std.specs.Str.{bytes_eq}
use Rattle.ns_base.specs.Spelling.{starts_name}
use Rattle.ns_tree.specs.declared.token.Kind.{Kind}
use Rattle.ns_tree.specs.declared.token.Kind.TheVariants as k
use Rattle.ns_tree.specs.declared.token.Reserved.{Reserved}
use Rattle.ns_tree.specs.declared.token.Reserved.TheVariants as r
use Rattle.ns_tree.specs.declared.tree.Named.{Named}
use Rattle.ns_tree.specs.declared.tree.Access.{Access}
use Rattle.ns_tree.specs.declared.tree.Access.TheVariants as a
use Rattle.ns_tree.specs.declared.tree.Base.{Base}
use Rattle.ns_tree.specs.Flat.{bar, equals, over_sign, access_word}
use Rattle.ns_tree.specs.Forms.{Leaf, leaf_of, Bracketed, KeysForm}
use Rattle.ns_tree.specs.Forms.{primary_form, block_form, un_form, bin_form, key_expr_form, message_form, expr_form}
use Rattle.ns_tree.specs.Forms.{init_form, slot_form, local_form, bars_form, statement_form, statements_form}
use Rattle.ns_tree.specs.Forms.{pattern_form, factory_form, base_form, super_message_form, clause_form, method_form}
use Rattle.ns_tree.specs.Forms.{class_member_form, method_member_form, member_form, side_form, class_form, unit_form}
use Rattle.ns_tree.specs.Plain as p
use Rattle.ns_tree.specs.Rule.{Rule, one, ◌&◌, many, maybe, either, mapped, placed, listed, ◌▸◌, ◌◂◌, once_or_more, flag}

-- ---- tokens that are kept

abbrev pub named : ℕ → List ℕ → Named
named n text = record { text = text; at = n }

abbrev pub make_ident : ℕ → Kind → Option Named
make_ident n (k.Ident text) = Some (named n text)
make_ident n _ = None

abbrev pub ident : Rule Named
ident = one make_ident (λ name. k.Ident name.text)

abbrev pub make_key : ℕ → Kind → Option Named
make_key n (k.Key text) = Some (named n text)
make_key n _ = None

abbrev pub key : Rule Named
key = one make_key (λ name. k.Key name.text)

abbrev pub make_set_key : ℕ → Kind → Option Named
make_set_key n (k.SetKey text) = Some (named n text)
make_set_key n _ = None

abbrev pub set_key : Rule Named
set_key = one make_set_key (λ name. k.SetKey name.text)

abbrev pub make_oper : ℕ → Kind → Option Named
make_oper n (k.Oper text) = Some (named n text)
make_oper n _ = None

abbrev pub oper : Rule Named
oper = one make_oper (λ name. k.Oper name.text)

-- in a slot's expression, outside brackets within it, a `|` is no message
abbrev pub make_slot_oper : ℕ → Kind → Option Named
make_slot_oper n (k.Oper text) = if bytes_eq text (codes "|") then None else Some (named n text)
make_slot_oper n _ = None

abbrev pub slot_oper : Rule Named
slot_oper = one make_slot_oper (λ name. k.Oper name.text)

-- in a pattern a key begins as a name does, and an operator doesn't: so its text says which of the two a part is
abbrev pub make_part_key : ℕ → Kind → Option Named
make_part_key n (k.Key text) = if starts_name text then Some (named n text) else None
make_part_key n _ = None

abbrev pub part_key : Rule Named
part_key = one make_part_key (λ name. k.Key name.text)

abbrev pub make_part_oper : ℕ → Kind → Option Named
make_part_oper n (k.Oper text) = if starts_name text then None else Some (named n text)
make_part_oper n _ = None

abbrev pub part_oper : Rule Named
part_oper = one make_part_oper (λ name. k.Oper name.text)

abbrev pub make_string : ℕ → Kind → Option (List ℕ)
make_string n (k.Str text) = Some text
make_string n _ = None

abbrev pub string : Rule (List ℕ)
string = one make_string k.Str

abbrev pub make_number : ℕ → Kind → Option ℕ
make_number n (k.Number size) = Some size
make_number n _ = None

abbrev pub number : Rule ℕ
number = one make_number k.Number

-- `;` and `^`, of which the place is kept
abbrev pub make_semi : ℕ → Kind → Option ℕ
make_semi n k.Semi = Some n
make_semi n _ = None

abbrev pub semi : Rule ℕ
semi = one make_semi (λ at. k.Semi)

abbrev pub make_caret : ℕ → Kind → Option ℕ
make_caret n k.Caret = Some n
make_caret n _ = None

abbrev pub caret : Rule ℕ
caret = one make_caret (λ at. k.Caret)

abbrev pub word_access : Reserved → Option Access
word_access r.Public = Some a.Public
word_access r.Protected = Some a.Protected
word_access r.Private = Some a.Private
word_access _ = None

abbrev pub make_access : ℕ → Kind → Option Access
make_access n (k.Word word) = word_access word
make_access n _ = None

abbrev pub access : Rule Access
access = one make_access access_word

-- the primaries of one token
abbrev pub word_primary : Reserved → Option p.Primary
word_primary r.Nil = Some p.nil_word
word_primary r.True = Some p.true_word
word_primary r.False = Some p.false_word
word_primary r.SelfWord = Some p.self_word
word_primary r.Super = Some p.super_word
word_primary _ = None

abbrev pub make_simple : ℕ → Kind → Option p.Primary
make_simple n (k.Ident text) = Some (p.name text)
make_simple n (k.Number size) = Some (p.number false size)
make_simple n (k.Str text) = Some (p.string text)
make_simple n (k.Symbol text) = Some (p.symbol text)
make_simple n (k.Word word) = word_primary word
make_simple n _ = None

abbrev pub simple_kind : p.Primary → Kind
simple_kind (p.name text) = k.Ident text
simple_kind (p.number minus size) = k.Number size
simple_kind (p.string text) = k.Str text
simple_kind (p.symbol text) = k.Symbol text
simple_kind p.nil_word = k.Word r.Nil
simple_kind p.true_word = k.Word r.True
simple_kind p.false_word = k.Word r.False
simple_kind p.self_word = k.Word r.SelfWord
simple_kind p.super_word = k.Word r.Super
simple_kind _ = k.Stop

abbrev pub simple : Rule p.Primary
simple = one make_simple simple_kind

-- ---- expressions, over their primaries

-- a primary without brackets
abbrev pub leaf : Rule Leaf
leaf = either simple (either (k.Oper (codes "-") ▸ number) (k.Word r.Outer ▸ ident))

module _ (primary : Rule p.Primary) where
  abbrev pub un : Rule p.UnExpr
  un = mapped un_form (placed primary & many ident)

  -- over the operators that are messages there
  module _ (operator : Rule Named) where
    abbrev pub bin : Rule p.BinExpr
    bin = mapped bin_form (un & many (operator & un))

    abbrev pub keys : Rule KeysForm
    keys = once_or_more (key & bin)

    abbrev pub key_expr : Rule p.KeyExpr
    key_expr = mapped key_expr_form (either (bin & many (key & bin)) keys)

    abbrev pub message : Rule p.Message
    message = mapped message_form (either ident (either (operator & un) keys))

    abbrev pub expr : Rule p.Expr
    expr = mapped expr_form (many set_key & (key_expr & many (semi & message)))

  -- ---- slots and statements

  abbrev pub init : Rule p.SlotInit
  init = mapped init_form (either (equals ▸ expr slot_oper ◂ k.Stop) (either (k.SlotSet ▸ expr slot_oper ◂ k.Stop) (flag k.Stop)))

  -- with an access word, in a class
  abbrev pub slot : Rule p.Slot
  slot = mapped slot_form (maybe access & (ident & init))

  -- in a method or block
  abbrev pub local : Rule p.Slot
  local = mapped local_form (ident & init)

  abbrev pub bars : Rule p.Slot → Rule p.Bars
  bars slot = mapped bars_form (maybe (bar ▸ many slot ◂ bar))

  abbrev pub stmt : Rule p.Statement
  stmt = mapped statement_form (maybe caret & expr oper)

  abbrev pub stmts : Rule p.Statements
  stmts = mapped statements_form (listed stmt k.Stop)

  -- ---- brackets

  abbrev pub block : Rule p.Block
  block = mapped block_form (k.OpenBlock ▸ (maybe (once_or_more (k.Colon ▸ ident) ◂ bar) & (bars local & stmts ◂ k.CloseBlock)))

  abbrev pub bracketed : Rule Bracketed
  bracketed = either (k.Open ▸ expr oper ◂ k.Close) (either block (k.OpenTuple ▸ listed (expr oper) k.Stop ◂ k.CloseTuple))

-- primaries in which so many brackets nest
abbrev pub primary : ℕ → Rule p.Primary
primary zero = mapped leaf_of leaf
primary (suc depth) = mapped primary_form (either leaf (bracketed (primary depth)))

-- ---- declarations, over the primaries of their expressions

abbrev pub pattern : Rule p.Pattern
pattern = mapped pattern_form (either ident (either (part_oper & ident) (once_or_more (part_key & ident))))

abbrev pub factory : Rule p.Pattern
factory = mapped factory_form (either ident (once_or_more (part_key & ident)))

abbrev pub base : Rule Base
base = mapped base_form (either ident (either (k.Word r.Super ▸ ident) (k.Word r.Outer ▸ (ident & ident))))

module _ (primary : Rule p.Primary) where
  abbrev pub super_message : Rule p.Message
  super_message = mapped super_message_form (either ident (keys primary oper))

  abbrev pub clause : Rule p.SuperClause
  clause = mapped clause_form (base & (maybe (over_sign ▸ base) & maybe super_message))

  abbrev pub method : Rule p.Method
  method = mapped method_form (pattern & (equals ▸ (k.Open ▸ (bars primary (local primary) & stmts primary ◂ k.Close))))

  -- of a class side
  abbrev pub method_member : Rule p.What
  method_member = mapped method_member_form method

  -- over what a member may be
  module _ (what : Rule p.What) where
    abbrev pub member : Rule p.Member
    member = mapped member_form (many string & (maybe access & what))

    abbrev pub side : Rule p.Side
    side = mapped side_form (k.Open ▸ (many member & many string ◂ k.Close))

  -- over the members of its instance side
  abbrev pub class : Rule p.What → Rule p.Class
  class what = mapped class_form
      (k.Word r.Class ▸ (ident & (maybe factory & (equals ▸ (maybe clause
      & ((k.Open ▸ (bars primary (slot primary) & stmts primary ◂ k.Close)) & (side what & maybe (k.Colon ▸ side method_member))))))))

  -- members in which so many classes nest
  abbrev pub what : ℕ → Rule p.What
  what zero = method_member
  what (suc depth) = mapped class_member_form (either (class (what depth)) method)

  abbrev pub file_over : ℕ → Rule p.SourceUnit
  file_over depth = mapped unit_form (flag (k.Ident (codes "Newspeak3")) & (maybe string & class (what depth)))

-- files in which so many brackets, and so many classes, nest
abbrev pub file : ℕ → Rule p.SourceUnit
file depth = file_over (primary depth) depth
