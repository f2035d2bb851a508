-- The leads of lines: how many blanks stand before the first piece of each.
use Rattle.std.specs.Prelude.{ℕ, ◌+◌, ◌-◌, Bool, true, false, nat_lt, if◌then◌else◌, List, [], ◌∷◌, ◌++◌, length, take, slice_index, codes}
use Rattle.std.specs.Str.{bytes_eq}
use Rattle.ns_tree.specs.declared.token.Kind.{Kind}
use Rattle.ns_tree.specs.declared.token.Kind.TheVariants as k
use Rattle.ns_format.specs.declared.piece.Gap.{Gap}
use Rattle.ns_format.specs.declared.piece.Gap.TheVariants as gap
use Rattle.ns_format.specs.declared.piece.Mark.{Mark}
use Rattle.ns_format.specs.declared.piece.Mark.TheVariants as mark
use Rattle.ns_format.specs.declared.piece.Piece.{Piece}
use Rattle.ns_format.specs.declared.piece.Role.{Role}
use Rattle.ns_format.specs.declared.piece.Role.TheVariants as role

-- what an operator is to the leads
abbrev pub role_of_operator : List ℕ → Role
role_of_operator text = if bytes_eq text (codes "|") then role.Bar else role.Other

-- what a token is to the leads
abbrev pub role_of : Kind → Role
role_of k.Open = role.Open
role_of k.OpenBlock = role.OtherOpen
role_of k.OpenTuple = role.OtherOpen
role_of k.Close = role.Close
role_of k.CloseBlock = role.OtherClose
role_of k.CloseTuple = role.OtherClose
role_of k.Colon = role.Colon
role_of (k.Oper text) = role_of_operator text
role_of _ = role.Other

-- what a piece is to the leads
abbrev pub role_in : Mark → Role
role_in (mark.Token kind) = role_of kind
role_in mark.Comment = role.Comment

-- ---- what is open: the lead outside all brackets, and then that within each open one, outermost first

-- the lead within a bracket that counts, by the one around it
abbrev pub deeper : ℕ → ℕ
deeper lead = if nat_lt lead 64 then lead + 4 else lead

-- the lead where so many of the innermost brackets have closed
abbrev pub lead_behind : ℕ → List ℕ → ℕ
lead_behind closed leads = slice_index leads (length leads - 1 - closed)

-- the lead of a line that begins with no closing bracket
abbrev pub inner_lead : List ℕ → ℕ
inner_lead = lead_behind 0

-- what is open behind a piece; a `(` that is a side of a class doesn't count
abbrev pub open_behind : Role → Bool → List ℕ → List ℕ
open_behind role.Open side leads = leads ++ (if side then inner_lead leads else deeper (inner_lead leads)) ∷ []
open_behind role.OtherOpen side leads = leads ++ deeper (inner_lead leads) ∷ []
open_behind role.Close side leads = take (length leads - 1) leads
open_behind role.OtherClose side leads = take (length leads - 1) leads
open_behind _ side leads = leads

-- A `(` is a side of a class where the token before it is `)` or `:`.
abbrev pub side_behind : Role → Bool → Bool
side_behind role.Comment side = side
side_behind role.Close side = true
side_behind role.Colon side = true
side_behind _ side = false

-- ---- what closes at the front of a line

abbrev pub is_closing : Role → Bool
is_closing role.Close = true
is_closing role.OtherClose = true
is_closing _ = false

-- no line feed stands in the gap
abbrev pub on_line : Gap → Bool
on_line gap.Nothing = true
on_line gap.Blanks = true
on_line _ = false

-- the piece is `)`, and nothing stands before it
abbrev pub closes_at_once : Role → Gap → Bool
closes_at_once role.Close gap.Nothing = true
closes_at_once _ _ = false

-- how many closing brackets go on a line, with nothing but blanks before each
abbrev pub closing : List Piece → ℕ
closing [] = 0
closing (p ∷ ps) = if on_line p.gap then (if is_closing (role_in p.mark) then 1 + closing ps else 0) else 0

-- how many brackets close at the front of a line that goes on so behind a `|`
abbrev pub closed_behind_bar : List Piece → ℕ
closed_behind_bar [] = 0
closed_behind_bar (p ∷ ps) = if closes_at_once (role_in p.mark) p.gap then 1 + closing ps else 0

-- how many brackets close at the front of a line that begins with a piece of that role and goes on so
abbrev pub closed_at : Role → List Piece → ℕ
closed_at role.Close ps = 1 + closing ps
closed_at role.OtherClose ps = 1 + closing ps
closed_at role.Bar ps = closed_behind_bar ps
closed_at _ ps = 0
