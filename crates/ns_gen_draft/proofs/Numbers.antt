-- The number of a selector is the place of its text, so a line's instruction is that of its draft.
use Rattle.std.proofs.Common.{◌≡◌, ◌<◌, ℕ, suc, ◌+◌, zero, List, [], ◌∷◌, length, refl, sym, ap, ◌∙◌, arith}
use Rattle.std.specs.Prelude.{map, false, not, cond}
use Rattle.std.specs.List.{slice_index_or, position_or_len, AllByRecursion}
use Rattle.std.specs.Str.{bytes_eq}
use Rattle.std.proofs.lemmas.Cmp.{nat_list_eq_equiv}
use Rattle.std.proofs.lemmas.Map.Keys.{IsDistinct-head, IsDistinct-tail}
use Rattle.std.proofs.lemmas.Slice.Eq.{bytes_eq-Decides}
use Rattle.ns_base.specs.declared.selector.Sel.{Sel}
use Rattle.ns_base.specs.Names.{NoRepeats, place_of}
use Rattle.ns_code.specs.declared.instruction.Instr.TheVariants as i
use Rattle.ns_gen_code.specs.Code.{instr_of, places_from}
use Rattle.ns_gen_draft.specs.declared.draft.Draft.{Draft}
use Rattle.ns_gen_draft.specs.declared.draft.Draft.TheVariants as d
use Rattle.ns_gen_draft.specs.declared.draft.SendWay.TheVariants as w
use Rattle.ns_gen_draft.specs.Drafts.{line_of, IsBelow, AreBelow, instruction, draft_places}

-- a name behind another is another name
behind : (name : List ℕ) (names : List (List ℕ)) (n : ℕ) → AllByRecursion (λ other. bytes_eq name other ≡ false) names → n < length names →
    bytes_eq (slice_index_or names n []) name ≡ false
behind name [] n all h = absurd (omega (h, arith))
behind name (other ∷ names) zero all h = nat_list_eq_equiv.symm other name ∙ all.0
behind name (other ∷ names) (suc n) all h = behind name names n all.1 (omega (h, arith))

pub place_of_at : (names : List (List ℕ)) (n : ℕ) → NoRepeats names → n < length names → place_of names (slice_index_or names n []) ≡ n
place_of_at [] n distinct h = absurd (omega (h, arith))
place_of_at (name ∷ names) zero distinct h =
    ap (λ b. cond (not b) (1 + position_or_len (bytes_eq name) names) 0) ((bytes_eq-Decides name name).1 refl)
place_of_at (name ∷ names) (suc n) distinct h =
    ap (λ b. cond (not b) (1 + place_of names (slice_index_or names n [])) 0)
    (behind name names n (IsDistinct-head bytes_eq name names distinct) (omega (h, arith)))
    ∙ ap (1 +◌) (place_of_at names n (IsDistinct-tail bytes_eq name names distinct) (omega (h, arith))) ∙ omega arith

sel_is : (names : List (List ℕ)) (sel : Sel) → NoRepeats names → sel.0 < length names →
    record { 0 = place_of names (slice_index_or names sel.0 []) } ≡ sel
sel_is names sel distinct h = ap (λ n. record { 0 = n }) (place_of_at names sel.0 distinct h)

one_is : (names : List (List ℕ)) (draft : Draft) → NoRepeats names → IsBelow (length names) draft →
    instruction draft ≡ instr_of names (line_of names draft)
one_is names (d.Does instr) distinct h = refl
one_is names (d.Symbol sel) distinct h = ap i.PushSym (sym (sel_is names sel distinct h))
one_is names (d.Sends w.Plain sel place argc) distinct h = ap (λ s. i.Send s argc) (sym (sel_is names sel distinct h))
one_is names (d.Sends w.Inner sel place argc) distinct h = ap (λ s. i.SendInner s argc) (sym (sel_is names sel distinct h))
one_is names (d.Sends (w.PrivateAt level) sel place argc) distinct h =
    ap (λ s. i.SendPrivate level s argc) (sym (sel_is names sel distinct h))
one_is names (d.Sends w.Super sel place argc) distinct h = ap (λ s. i.SendSuper s argc) (sym (sel_is names sel distinct h))
one_is names (d.Starts place argc) distinct h = refl

pub instructions_are : (names : List (List ℕ)) (drafts : List Draft) → NoRepeats names → AreBelow (length names) drafts →
    map instruction drafts ≡ map (instr_of names) (map (line_of names) drafts)
instructions_are names [] distinct h = refl
instructions_are names (draft ∷ drafts) distinct h =
    ap (λ instr. instr ∷ map instruction drafts) (one_is names draft distinct h.0) ∙ ap (instr_of names (line_of names draft) ∷◌)
    (instructions_are names drafts distinct h.1)

-- places don't hang on names
pub places_are : (names : List (List ℕ)) (number : ℕ) (drafts : List Draft) →
    places_from number (map (line_of names) drafts) ≡ draft_places number drafts
places_are names number [] = refl
places_are names number (d.Does instr ∷ drafts) = places_are names (number + 1) drafts
places_are names number (d.Symbol sel ∷ drafts) = places_are names (number + 1) drafts
places_are names number (d.Sends way sel place argc ∷ drafts) = ap ((number, place) ∷◌) (places_are names (number + 1) drafts)
places_are names number (d.Starts place argc ∷ drafts) = ap ((number, place) ∷◌) (places_are names (number + 1) drafts)
