-- Which tokens the readers' tests tell apart.
use Rattle.std.proofs.Common.{List, [], ◌∷◌, ◌++◌, true, false, refl}
use Rattle.ns_tree.specs.declared.token.Kind.TheVariants as k
use Rattle.ns_tree.specs.declared.token.Reserved.TheVariants as r
use Rattle.ns_parse_tokens.specs.declared.mark.Mark.TheVariants as m
use Rattle.ns_parse_tokens.specs.declared.name.Sort.TheVariants as s
use Rattle.ns_parse_tokens.specs.declared.name.Operators.TheVariants as o
use Rattle.ns_parse_tokens.specs.Leaf as leaves
use Rattle.ns_parse_tokens.specs.Name.{is_name}
use Rattle.ns_parse.proofs.Seen as v
use Rattle.ns_parse.proofs.Seen.{Seen, Sees, sees_or}
use Rattle.ns_parse.proofs.SeenMarks.{is_bar, is_equals, is_over, is_minus, each_sign, each_ident, but_bar_seen, sees_mark}

-- ---- names and values

abbrev pub idents : List Seen
idents = v.name ∷ v.marker ∷ []

-- all operators but the bar
abbrev pub but_bar : List Seen
but_bar = v.equals ∷ v.over ∷ v.minus ∷ v.oper ∷ []

abbrev pub operators : List Seen
operators = v.bar ∷ but_bar

-- what begins a primary of one token
abbrev pub simples : List Seen
simples = v.name ∷ v.marker ∷ v.number ∷ v.string ∷ v.symbol ∷ v.simple_word ∷ v.super_word ∷ []

pub sees_idents : Sees (is_name s.Ident) idents
sees_idents (k.Ident text) = each_ident text idents true refl refl
sees_idents (k.Oper text) = each_sign text idents false refl refl refl refl refl
sees_idents (k.Word r.Class) = refl
sees_idents (k.Word _) = refl
sees_idents _ = refl

pub sees_keys : Sees (is_name s.Key) (v.key ∷ [])
sees_keys (k.Ident text) = each_ident text (v.key ∷ []) false refl refl
sees_keys (k.Oper text) = each_sign text (v.key ∷ []) false refl refl refl refl refl
sees_keys (k.Word r.Class) = refl
sees_keys (k.Word _) = refl
sees_keys _ = refl

pub sees_set_keys : Sees (is_name s.SetKey) (v.set_key ∷ [])
sees_set_keys (k.Ident text) = each_ident text (v.set_key ∷ []) false refl refl
sees_set_keys (k.Oper text) = each_sign text (v.set_key ∷ []) false refl refl refl refl refl
sees_set_keys (k.Word r.Class) = refl
sees_set_keys (k.Word _) = refl
sees_set_keys _ = refl

pub sees_operators : Sees (is_name (s.Operator o.All)) operators
sees_operators (k.Ident text) = each_ident text operators false refl refl
sees_operators (k.Oper text) = each_sign text operators true refl refl refl refl refl
sees_operators (k.Word r.Class) = refl
sees_operators (k.Word _) = refl
sees_operators _ = refl

pub sees_but_bar : Sees (is_name (s.Operator o.ButBar)) but_bar
sees_but_bar (k.Ident text) = each_ident text but_bar false refl refl
sees_but_bar (k.Oper text) = but_bar_seen (is_bar text) (is_equals text) (is_over text) (is_minus text)
sees_but_bar (k.Word r.Class) = refl
sees_but_bar (k.Word _) = refl
sees_but_bar _ = refl

pub sees_strings : Sees leaves.is_string (v.string ∷ [])
sees_strings (k.Ident text) = each_ident text (v.string ∷ []) false refl refl
sees_strings (k.Oper text) = each_sign text (v.string ∷ []) false refl refl refl refl refl
sees_strings (k.Word r.Class) = refl
sees_strings (k.Word _) = refl
sees_strings _ = refl

pub sees_access : Sees leaves.is_access (v.access_word ∷ [])
sees_access (k.Ident text) = each_ident text (v.access_word ∷ []) false refl refl
sees_access (k.Oper text) = each_sign text (v.access_word ∷ []) false refl refl refl refl refl
sees_access (k.Word r.Class) = refl
sees_access (k.Word _) = refl
sees_access _ = refl

pub sees_simples : Sees leaves.is_simple simples
sees_simples (k.Ident text) = each_ident text simples true refl refl
sees_simples (k.Oper text) = each_sign text simples false refl refl refl refl refl
sees_simples (k.Word r.Class) = refl
sees_simples (k.Word _) = refl
sees_simples _ = refl

-- ---- put together

abbrev pub leaves_begin : List Seen
leaves_begin = simples ++ (v.minus ∷ v.outer_word ∷ [])

abbrev pub brackets_begin : List Seen
brackets_begin = v.open_paren ∷ v.open_block ∷ v.open_tuple ∷ []

pub sees_leaf : Sees leaves.starts_leaf leaves_begin
sees_leaf = sees_or simples (v.minus ∷ v.outer_word ∷ []) sees_simples (sees_or (v.minus ∷ []) (v.outer_word ∷ []) (sees_mark m.Minus) (sees_mark m.OuterWord))

pub sees_bracketed : Sees leaves.starts_bracketed brackets_begin
sees_bracketed = sees_or (v.open_paren ∷ []) (v.open_block ∷ v.open_tuple ∷ []) (sees_mark m.Open) (sees_or (v.open_block ∷ []) (v.open_tuple ∷ []) (sees_mark m.OpenBlock) (sees_mark m.OpenTuple))
