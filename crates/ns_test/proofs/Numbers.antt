-- Each name of the code has one number, so a test is sent by its own selector.
use Rattle.std.proofs.Common.{◌≡◌, ◌≢◌, ℕ, zero, suc, ◌+◌, ◌<◌, List, [], ◌∷◌, length, refl, ap, sym, ◌∙◌, arith}
use Rattle.std.proofs.Common.{Bool, true, false, cond}
use Rattle.std.proofs.lemmas.Slice.Eq.{bytes_eq-Decides}
use Rattle.std.specs.List.{AllPairs, slice_index_or}
use Rattle.std.specs.Str.{bytes_eq}
use Rattle.ns_base.specs.declared.selector.Sel.{Sel}
use Rattle.ns_code.specs.declared.program.CodeProgram.{CodeProgram}
use Rattle.ns_code.specs.Selector.{name_number, selector_text}
use Rattle.ns_test.specs.Stated.{SentByItsSelector}
use Rattle.ns_test.proofs.Names.{test_below_names, text_of_number}

-- names that differ have the numbers of their places
number_is : (names : List (List ℕ)) (from place other : ℕ) (text : List ℕ) → AllPairs (λ a b. a ≢ b) names → place < length names
    → slice_index_or names place [] ≡ text → name_number names from text other ≡ from + place
number_is [] from place other text differ inside is = absurd (omega (arith, inside))
number_is (name ∷ names) from zero other text differ inside is =
    let here : from ≡ from + 0 = omega arith in
    ap (λ b. cond b from (name_number names (from + 1) text other)) ((bytes_eq-Decides name text).1 is) ∙ here
number_is (name ∷ names) from (suc place) other text differ inside is =
    tested (bytes_eq name text) refl (number_is names (from + 1) place other text rest (omega (arith, inside)) is)
  where
    rest : AllPairs (λ a b. a ≢ b) names
    rest i j d before within = differ (suc i) (suc j) d (omega (arith, before)) (omega (arith, within))

    tested : (b : Bool) → bytes_eq name text ≡ b → name_number names (from + 1) text other ≡ from + 1 + place
        → cond b from (name_number names (from + 1) text other) ≡ from + suc place
    tested true t e = absurd (differ 0 (suc place) [] (omega arith) inside ((bytes_eq-Decides name text).0 t ∙ sym is))
    tested false t e = omega (arith, e)

abbrev numbered : ℕ → Sel
numbered number = record { 0 = number }

pub sent_by_its_selector : (code : CodeProgram) → SentByItsSelector code
sent_by_its_selector code sel fits test =
    let inside = test_below_names code sel test in
    let text = text_of_number code sel.0 inside in
    let is = number_is code.names 0 sel.0 (length code.names) (selector_text code sel.0) fits.names_differ inside (sym text) in
    let plain : 0 + sel.0 ≡ sel.0 = omega arith in
    ap numbered (is ∙ plain)
