-- What is seen of lines that were written: each with the text of its selector; and what a writer holds.
use Rattle.std.specs.Prelude.{◌≡◌, ◌<◌, ℕ, ◌+◌, ◌-◌, List, [], ◌∷◌, ◌++◌, length, map, take, nat_lt, Option, Some, None, if◌then◌else◌}
use Rattle.std.specs.List.{slice_index_or}
use Rattle.ns_base.specs.declared.place.Place.{Place}
use Rattle.ns_base.specs.declared.selector.Sel.{Sel}
use Rattle.ns_base.specs.Names.{put_in}
use Rattle.ns_code.specs.declared.instruction.Instr.{Instr}
use Rattle.ns_code.specs.declared.instruction.Instr.TheVariants as i
use Rattle.ns_gen_code.specs.Code.{CodeLine, Way, plain, inner, private_at, super, does, symbol, sends, starts}
use Rattle.ns_gen_code.specs.Sizes.{most}
use Rattle.ns_gen_draft.specs.declared.draft.Draft.{Draft}
use Rattle.ns_gen_draft.specs.declared.draft.Draft.TheVariants as d
use Rattle.ns_gen_draft.specs.declared.draft.SendWay.{SendWay}
use Rattle.ns_gen_draft.specs.declared.draft.SendWay.TheVariants as w

-- how a send finds its method
abbrev pub way_of : SendWay → Way
way_of w.Plain = plain
way_of w.Inner = inner
way_of (w.PrivateAt level) = private_at level
way_of w.Super = super

-- a line with the text of its selector
abbrev pub line_of : List (List ℕ) → Draft → CodeLine
line_of names (d.Does instr) = does instr
line_of names (d.Symbol sel) = symbol (slice_index_or names sel.0 [])
line_of names (d.Sends way sel place argc) = sends (way_of way) (record { selector = slice_index_or names sel.0 []; place = place }) argc
line_of names (d.Starts place argc) = starts place argc

-- what was written: the names and the literal texts so far, and the lines of a body
pub record Written : Type 0 where
  pub names : List (List ℕ)
  pub texts : List (List ℕ)
  pub lines : List CodeLine

abbrev pub written : List (List ℕ) → List (List ℕ) → List Draft → Written
written names texts drafts = record { names = names; texts = texts; lines = map (line_of names) drafts }

-- Its selector has a number below this one.
abbrev pub IsBelow : ℕ → Draft → Type 0
IsBelow count (d.Does instr) = Unit {0}
IsBelow count (d.Symbol sel) = sel.0 < count
IsBelow count (d.Sends way sel place argc) = sel.0 < count
IsBelow count (d.Starts place argc) = Unit {0}

abbrev pub AreBelow : ℕ → List Draft → Type 0
AreBelow count [] = Unit {0}
AreBelow count (draft ∷ drafts) = IsBelow count draft × AreBelow count drafts

-- Lines with more behind them. No more are kept than tell that a body has too many.
unfoldable pub filled : List CodeLine → List CodeLine → List CodeLine
filled lines more = lines ++ take (most + 1 - length lines) more

-- with a further line
abbrev pub with_line : Written → CodeLine → Written
with_line before line = record before { lines = filled before.lines (line ∷ []) }

-- with a name in the table
abbrev pub with_name : Written → List ℕ → Written
with_name before name = record before { names = put_in before.names name }

-- with a further literal text, which is pushed
abbrev pub with_text : Written → List ℕ → Written
with_text before bytes =
    record before { texts = before.texts ++ bytes ∷ []; lines = filled before.lines (does (i.PushText (length before.texts)) ∷ []) }

-- drafts with one more, unless they tell that a body has too many lines
abbrev pub with_draft : List Draft → Draft → List Draft
with_draft drafts draft = if nat_lt most (length drafts) then drafts else drafts ++ draft ∷ []

-- with a body begun, which has no line yet
abbrev pub without_lines : Written → Written
without_lines before = record before { lines = [] }

-- A number is that of a text.
abbrev pub IsNumberOf : List (List ℕ) → Sel → List ℕ → Type 0
IsNumberOf names sel text = (sel.0 < length names) × (slice_index_or names sel.0 [] ≡ text)

-- ---- instructions and places

-- a send in a way
abbrev pub send : SendWay → Sel → ℕ → Instr
send w.Plain sel count = i.Send sel count
send w.Inner sel count = i.SendInner sel count
send (w.PrivateAt level) sel count = i.SendPrivate level sel count
send w.Super sel count = i.SendSuper sel count

-- a draft's instruction, which has the number of the selector
abbrev pub instruction : Draft → Instr
instruction (d.Does instr) = instr
instruction (d.Symbol sel) = i.PushSym sel
instruction (d.Sends way sel place argc) = send way sel argc
instruction (d.Starts place argc) = i.InitSuper argc

-- a draft's place
abbrev pub draft_place : Draft → Option Place
draft_place (d.Does instr) = None
draft_place (d.Symbol sel) = None
draft_place (d.Sends way sel place argc) = Some place
draft_place (d.Starts place argc) = Some place

-- a place, if there is one, with the number of its instruction, before others
abbrev pub placed_before : ℕ → Option Place → List (ℕ × Place) → List (ℕ × Place)
placed_before number None rest = rest
placed_before number (Some place) rest = (number, place) ∷ rest

-- the places of drafts, by the numbers of their instructions, which are counted from this one on
abbrev pub draft_places : ℕ → List Draft → List (ℕ × Place)
draft_places number [] = []
draft_places number (draft ∷ drafts) = placed_before number (draft_place draft) (draft_places (number + 1) drafts)
