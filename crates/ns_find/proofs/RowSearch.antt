-- Searching rows by their text.
use Rattle.std.proofs.Common.{◌≡◌, ℕ, zero, suc, ◌+◌, ◌<◌, List, [], ◌∷◌, ◌++◌, length, map, drop, get_or, refl, ap, sym, ◌∙◌, arith, Option, Some, None, Bool, true, false, cond, ◌&&◌, is_some, is_none}
use Rattle.std.specs.Prelude.{◌==◌}
use Rattle.std.proofs.lemmas.Bool.{eqb-true}
use Rattle.std.proofs.lemmas.List.{drop_more}
use Rattle.std.proofs.lemmas.Option.{none-some, same_Some}
use Rattle.std.specs.Str.{bytes_eq}
use Rattle.ns_code.specs.declared.program.CodeProgram.{CodeProgram}
use Rattle.ns_code.specs.Selector.{selector_text}
use Rattle.ns_world.specs.declared.kernel_table.Line.{Line}
use Rattle.ns_world.specs.KernelShown.{shown}
use Rattle.ns_world.specs.KernelTable.{Numbered, numbered, row_of, first_called, calls}
use Rattle.ns_world.specs.declared.cell.FacetKind.{FacetKind}
use Rattle.ns_world.specs.Heap.{Heap}
use Rattle.ns_world.specs.laws.Chains.{both_of}
use Rattle.ns_find.specs.declared.found.Found.{Found}
use Rattle.ns_find.specs.declared.found.Found.TheVariants.{Kernel}
use Rattle.ns_find.specs.declared.found.Sending.{Sending}
use Rattle.ns_find.specs.declared.found.Sending.TheVariants.{Plain, Inner}
use Rattle.ns_find.specs.Members.{search, allowed}
use Rattle.ns_find.specs.Rows.{rows_members, row_members, called_by, is_granted, facet_asked}
use Rattle.ns_find.proofs.Parts.{search_here, search_past}

-- a public member is found by every send
pub open_allowed : (kind : Sending) (found : Found) → allowed kind 0 found ≡ found
open_allowed Plain found = refl
open_allowed Inner found = refl

-- one step along rows
pub rows_here :
    (heap : Heap) (code : CodeProgram) (sel : ℕ) (kind : Sending) (number i : ℕ) (lines : List Line) (d : Line) (whole : Option Found) (found : Found) →
    i < length lines → search code sel kind (rows_members heap code (numbered number (map shown (drop i lines)))) ≡ whole →
    Some found ≡ search code sel kind (row_members heap code (row_of number (shown (get_or lines i d)))) → Some found ≡ whole
rows_here heap code sel kind number i lines d whole found inside is here =
    search_here code sel kind (row_members heap code (row_of number (shown (get_or lines i d)))) (rows_members heap code (numbered (number + 1) (map shown (drop (i + 1) lines)))) found here
    ∙ (ap (λ rest. search code sel kind (rows_members heap code (numbered number (map shown rest)))) (sym (drop_more lines i d inside)) ∙ is)

pub rows_past :
    (heap : Heap) (code : CodeProgram) (sel : ℕ) (kind : Sending) (number i : ℕ) (lines : List Line) (d : Line) (whole : Option Found) →
    i < length lines → search code sel kind (rows_members heap code (numbered number (map shown (drop i lines)))) ≡ whole →
    None ≡ search code sel kind (row_members heap code (row_of number (shown (get_or lines i d)))) →
    search code sel kind (rows_members heap code (numbered (number + 1) (map shown (drop (i + 1) lines)))) ≡ whole
rows_past heap code sel kind number i lines d whole inside is past =
    sym (search_past code sel kind (row_members heap code (row_of number (shown (get_or lines i d)))) (rows_members heap code (numbered (number + 1) (map shown (drop (i + 1) lines)))) past)
    ∙ (ap (λ rest. search code sel kind (rows_members heap code (numbered number (map shown rest)))) (sym (drop_more lines i d inside)) ∙ is)

-- whether a row has a text, is public, and is there whatever was granted
abbrev pub is_plain : Numbered → Bool
is_plain row = is_some row.line.text && (row.line.access == 0 && is_none (facet_asked row.line.answer))

-- whether each of some rows is so
abbrev pub all_plain : List Numbered → Bool
all_plain [] = true
all_plain (row ∷ rows) = is_plain row && all_plain rows

asked_none : (heap : Heap) (asked : Option FacetKind) → is_none asked ≡ true → is_granted heap asked ≡ true
asked_none heap None e = refl
asked_none heap (Some kind) e = absurd (cc)

-- a plain row is found where its text is the selector's
tested : (kind : Sending) (b there : Bool) (access row number : ℕ) (later : Option ℕ) (found : Option Found) → there ≡ true → access ≡ 0
    → (later ≡ Some number → Some (Kernel number) ≡ found) → cond b (Some row) later ≡ Some number
    → Some (Kernel number) ≡ cond (b && there) (Some (allowed kind access (Kernel row))) found
tested kind true true zero row number later found t p behind e =
    ap (λ n. Some (Kernel n)) (sym (same_Some row number e)) ∙ ap Some (sym (open_allowed kind (Kernel row)))
tested kind false there access row number later found t p behind e = behind e
tested kind true false access row number later found t p behind e = absurd (cc)
tested kind true true (suc access) row number later found t p behind e = absurd (omega (arith, p))

named :
    (heap : Heap) (code : CodeProgram) (sel : ℕ) (kind : Sending) (row : Numbered) (rows : List Numbered) (number : ℕ) (text : Option (List ℕ)) →
    is_some text ≡ true
    → is_granted heap (facet_asked row.line.answer) ≡ true → row.line.access ≡ 0
    → (first_called (selector_text code sel) rows ≡ Some number → Some (Kernel number) ≡ search code sel kind (rows_members heap code rows))
    → cond (calls (selector_text code sel) text) (Some row.number) (first_called (selector_text code sel) rows) ≡ Some number
    → Some (Kernel number) ≡ search code sel kind (called_by heap code row text ++ rows_members heap code rows)
named heap code sel kind row rows number None t granted access behind e = absurd (cc)
named heap code sel kind row rows number (Some text) t granted access behind e =
    tested kind (bytes_eq (selector_text code sel) text) (is_granted heap (facet_asked row.line.answer)) row.line.access row.number number
    (first_called (selector_text code sel) rows) (search code sel kind (rows_members heap code rows)) granted access behind e

-- such rows are searched by their text alone
pub search_called : (heap : Heap) (code : CodeProgram) (sel : ℕ) (kind : Sending) (rows : List Numbered) (number : ℕ) →
    all_plain rows ≡ true → first_called (selector_text code sel) rows ≡ Some number →
    Some (Kernel number) ≡ search code sel kind (rows_members heap code rows)
search_called heap code sel kind [] number plain is = absurd (none-some number is)
search_called heap code sel kind (row ∷ rows) number plain is =
    let each = both_of (is_plain row) (all_plain rows) plain in
    let here = both_of (is_some row.line.text) (row.line.access == 0 && is_none (facet_asked row.line.answer)) each.0 in
    let free = both_of (row.line.access == 0) (is_none (facet_asked row.line.answer)) here.1 in
    named heap code sel kind row rows number row.line.text here.0 (asked_none heap (facet_asked row.line.answer) free.1) (eqb-true row.line.access 0 free.0)
    (search_called heap code sel kind rows number each.1) is
