-- Lines read the same in a table to which a name was put.
use Rattle.std.proofs.Common.{◌≡◌, ◌<◌, ◌≤◌, ℕ, List, [], ◌∷◌, ◌++◌, length, refl, sym, ap, ◌∙◌, subst, arith, length-append}
use Rattle.std.specs.Prelude.{◌+◌, map, nat_lt, Bool, true, false, not, cond, if◌then◌else◌}
use Rattle.std.specs.List.{slice_index_or, position_or_len, IsDistinct}
use Rattle.std.specs.Str.{bytes_eq}
use Rattle.std.proofs.lemmas.List.{get_or_append_left, length-map}
use Rattle.std.proofs.lemmas.Bool.{ltb-true, ltb-false}
use Rattle.std.proofs.lemmas.Option.{get_or_from_slice_get}
use Rattle.std.proofs.lemmas.Slice.Eq.{bytes_eq-Decides}
use Rattle.ns_base.specs.declared.selector.Sel.{Sel}
use Rattle.ns_base.specs.Names.{has, put_in, place_of, NoRepeats}
use Rattle.ns_code.specs.declared.instruction.Instr.TheVariants as i
use Rattle.ns_resolved.specs.laws.Places.{has_put, name_at_place, place_below}
use Rattle.ns_gen_code.specs.Code.{does, symbol, sends}
use Rattle.ns_gen_draft.specs.declared.draft.Draft.{Draft}
use Rattle.ns_gen_draft.specs.declared.draft.Draft.TheVariants as d
use Rattle.ns_gen_code.specs.Sizes.{most}
use Rattle.ns_gen_draft.specs.Drafts.{line_of, way_of, IsBelow, AreBelow, written, filled, with_line, with_name, with_text, with_draft, IsNumberOf}
use Rattle.ns_gen_draft.specs.laws.Filling.{filled_one, filled_full}

-- a name below the count is the same in the table with another put in
text_stands : (names : List (List ℕ)) (name : List ℕ) (number : ℕ) → number < length names →
    slice_index_or (put_in names name) number [] ≡ slice_index_or names number []
text_stands names name number h = tested (has names name) where
  tested : (b : Bool) → slice_index_or (if b then names else names ++ name ∷ []) number [] ≡ slice_index_or names number []
  tested true = refl
  tested false = get_or_append_left names (name ∷ []) [] number h

line_stands : (names : List (List ℕ)) (name : List ℕ) (draft : Draft) → IsBelow (length names) draft →
    line_of (put_in names name) draft ≡ line_of names draft
line_stands names name (d.Does instr) h = refl
line_stands names name (d.Symbol sel) h = ap symbol (text_stands names name sel.0 h)
line_stands names name (d.Sends way sel place argc) h =
    ap (λ text. sends (way_of way) (record { selector = text; place = place }) argc) (text_stands names name sel.0 h)
line_stands names name (d.Starts place argc) h = refl

pub lines_stand : (names : List (List ℕ)) (name : List ℕ) (drafts : List Draft) → AreBelow (length names) drafts →
    map (line_of (put_in names name)) drafts ≡ map (line_of names) drafts
lines_stand names name [] h = refl
lines_stand names name (draft ∷ drafts) h =
    ap (λ line. line ∷ map (line_of (put_in names name)) drafts) (line_stands names name draft h.0) ∙ ap (line_of names draft ∷◌)
    (lines_stand names name drafts h.1)

-- ---- a name that is put in

pub named : (names texts : List (List ℕ)) (drafts : List Draft) (text : List ℕ) → AreBelow (length names) drafts →
    written (put_in names text) texts drafts ≡ with_name (written names texts drafts) text
named names texts drafts text h =
    ap (λ lines. record { names = put_in names text; texts = texts; lines = lines }) (lines_stand names text drafts h)

one_below : (n k : ℕ) (draft : Draft) → n ≤ k → IsBelow n draft → IsBelow k draft
one_below n k (d.Does instr) le h = tt
one_below n k (d.Symbol sel) le h = omega (le, h, arith)
one_below n k (d.Sends way sel place argc) le h = omega (le, h, arith)
one_below n k (d.Starts place argc) le h = tt

below : (n k : ℕ) (drafts : List Draft) → n ≤ k → AreBelow n drafts → AreBelow k drafts
below n k [] le h = tt
below n k (draft ∷ drafts) le h = (one_below n k draft le h.0, below n k drafts le h.1)

longer : (names : List (List ℕ)) (text : List ℕ) → length names ≤ length (put_in names text)
longer names text = tested (has names text) where
  tested : (b : Bool) → length names ≤ length (if b then names else names ++ text ∷ [])
  tested true = omega arith
  tested false = omega (length-append names (text ∷ []), arith)

pub below_named : (names : List (List ℕ)) (drafts : List Draft) (text : List ℕ) → AreBelow (length names) drafts →
    AreBelow (length (put_in names text)) drafts
below_named names drafts text h = below (length names) (length (put_in names text)) drafts (longer names text) h

-- the place that it has is the one that it was to get
same_place : (p : List ℕ → Bool) (names : List (List ℕ)) (text : List ℕ) → p text ≡ true →
    position_or_len p (names ++ text ∷ []) ≡ position_or_len p names
same_place p [] text h = ap (λ b. cond (not b) (1 + 0) 0) h
same_place p (name ∷ names) text h = ap (λ n. cond (not (p name)) (1 + n) 0) (same_place p names text h)

put_place : (names : List (List ℕ)) (text : List ℕ) → place_of (put_in names text) text ≡ place_of names text
put_place names text = tested (has names text) where
  tested : (b : Bool) → place_of (if b then names else names ++ text ∷ []) text ≡ place_of names text
  tested true = refl
  tested false = same_place (bytes_eq text) names text ((bytes_eq-Decides text text).1 refl)

pub text_at_number : (names : List (List ℕ)) (text : List ℕ) (sel : Sel) → sel.0 ≡ place_of names text →
    IsNumberOf (put_in names text) sel text
text_at_number names text sel e =
    let at : sel.0 ≡ place_of (put_in names text) text = e ∙ sym (put_place names text) in (
      subst (λ n. n < length (put_in names text)) (sym at) (place_below (put_in names text) text (has_put names text)),
      subst (λ n. slice_index_or (put_in names text) n [] ≡ text) (sym at)
          (get_or_from_slice_get (put_in names text) (place_of (put_in names text) text) text [] (name_at_place (put_in names text) text (has_put names text))),
    )

-- ---- a line that is put

below_last : (n : ℕ) (drafts : List Draft) (draft : Draft) → AreBelow n drafts → IsBelow n draft → AreBelow n (drafts ++ draft ∷ [])
below_last n [] draft h one = (one, tt)
below_last n (first ∷ drafts) draft h one = (h.0, below_last n drafts draft h.1 one)

pub below_put : (n : ℕ) (drafts : List Draft) (draft : Draft) → AreBelow n drafts → IsBelow n draft → AreBelow n (with_draft drafts draft)
below_put n drafts draft h one = tested (nat_lt most (length drafts)) where
  tested : (many : Bool) → AreBelow n (if many then drafts else drafts ++ draft ∷ [])
  tested true = h
  tested false = below_last n drafts draft h one

map_last : (names : List (List ℕ)) (drafts : List Draft) (draft : Draft) →
    map (line_of names) (drafts ++ draft ∷ []) ≡ map (line_of names) drafts ++ line_of names draft ∷ []
map_last names [] draft = refl
map_last names (first ∷ drafts) draft = ap (line_of names first ∷◌) (map_last names drafts draft)

-- the lines of drafts with one more
lines_put : (names : List (List ℕ)) (drafts : List Draft) (draft : Draft) →
    map (line_of names) (with_draft drafts draft) ≡ filled (map (line_of names) drafts) (line_of names draft ∷ [])
lines_put names drafts draft = tested (nat_lt most (length drafts)) refl where
  many : length (map (line_of names) drafts) ≡ length drafts
  many = length-map drafts (line_of names)

  tested : (full : Bool) → nat_lt most (length drafts) ≡ full →
      map (line_of names) (if full then drafts else drafts ++ draft ∷ []) ≡ filled (map (line_of names) drafts) (line_of names draft ∷ [])
  tested true e =
      sym (filled_full (map (line_of names) drafts) (line_of names draft ∷ []) (omega (ltb-true most (length drafts) e, many, arith)))
  tested false e =
      map_last names drafts draft
      ∙ sym (filled_one (map (line_of names) drafts) (line_of names draft) (omega (ltb-false most (length drafts) e, many, arith)))

pub line_put : (names texts : List (List ℕ)) (drafts : List Draft) (draft : Draft) →
    written names texts (with_draft drafts draft) ≡ with_line (written names texts drafts) (line_of names draft)
line_put names texts drafts draft = ap (λ lines. record { names = names; texts = texts; lines = lines }) (lines_put names drafts draft)

-- a literal text and the line that pushes it
pub text_put : (names texts : List (List ℕ)) (drafts : List Draft) (bytes : List ℕ) (number : ℕ) → number ≡ length texts →
    written names (texts ++ bytes ∷ []) (with_draft drafts (d.Does (i.PushText number))) ≡ with_text (written names texts drafts) bytes
text_put names texts drafts bytes number e =
    ap (λ lines. record { names = names; texts = texts ++ bytes ∷ []; lines = lines }) (lines_put names drafts (d.Does (i.PushText number)))
    ∙ ap (λ n. record { names = names; texts = texts ++ bytes ∷ []; lines = filled (map (line_of names) drafts) (does (i.PushText n) ∷ []) }) e

-- the empty table
pub table_distinct : NoRepeats []
unfolding IsDistinct
table_distinct = tt
