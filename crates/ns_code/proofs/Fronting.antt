-- What is kept for the number of a selector is found for its text.
use Rattle.std.proofs.Common.{◌≡◌, ◌⊎◌, inl, inr, ℕ, ◌-◌, ◌<◌, ◌≤◌, List, [], ◌∷◌, ◌++◌, length, append_assoc, get_or, ap, sym, ◌∙◌, arith, Option, None, map, cond}
use Rattle.std.proofs.lemmas.Bool.{cases_lt, lt-ltb, le-ltb}
use Rattle.std.proofs.lemmas.List.{get_or_past, get_or-map, length-map, map-append}
use Rattle.std.proofs.lemmas.Option.{slice_get_past, slice_get-get_or}
use Rattle.std.proofs.Math.ListN.{get_or-append}
use Rattle.std.proofs.Math.Seq.{get_or-append_right}
use Rattle.ns_code.specs.declared.program.CodeProgram.{CodeProgram}
use Rattle.ns_code.specs.Own.{own_text, own_texts}
use Rattle.ns_code.specs.declared.own.Own.TheVariants.{PackageUsing, MainArgs, DoesNotUnderstand}
use Rattle.ns_code.specs.Selector.{selector_text, own_text_at}
use Rattle.std.specs.Option.{option_map_or}
use Rattle.ns_code.specs.Fronts.{front_in, kept_at}

-- the texts of selectors are those of the names, and the machine's own behind them
text_is : (code : CodeProgram) (number : ℕ) → selector_text code number ≡ get_or (code.names ++ own_texts) number []
text_is code number = by (cases_lt number (length code.names))
  where
    by : (number < length code.names) ⊎ (length code.names ≤ number) → selector_text code number ≡ get_or (code.names ++ own_texts) number []
    by (inl lt) =
        ap (λ b. cond b (get_or code.names number []) (own_text_at (number - length code.names))) (lt-ltb number (length code.names) lt)
        ∙ sym (get_or-append code.names own_texts [] number lt)
    by (inr le) =
        ap (λ b. cond b (get_or code.names number []) (own_text_at (number - length code.names))) (le-ltb number (length code.names) le)
        ∙ sym (get_or-append_right code.names own_texts number [] le)

-- what is kept for each selector in turn
pub front_kept : (code : CodeProgram) (names : List (List ℕ)) (fronts : List (Option ℕ)) (number : ℕ) → fronts ≡ map (front_in names) (names ++ own_texts) → names ≡ code.names →
    kept_at fronts number ≡ front_in code.names (selector_text code number)
front_kept code names fronts number all same =
    ap (λ z. kept_at z number) (all ∙ ap (λ z. map (front_in z) (z ++ own_texts)) same)
    ∙ (by (cases_lt number (length texts)) ∙ ap (front_in code.names) (sym (text_is code number)))
  where
    texts : List (List ℕ)
    texts = code.names ++ own_texts

    by : (number < length texts) ⊎ (length texts ≤ number) → kept_at (map (front_in code.names) texts) number ≡ front_in code.names (get_or texts number [])
    by (inl lt) =
        ap (λ o. option_map_or (λ front. front) o None)
        (slice_get-get_or (map (front_in code.names) texts) number None (omega (arith, lt, length-map texts (front_in code.names))))
        ∙ get_or-map (front_in code.names) texts number [] None lt
    by (inr le) =
        ap (λ o. option_map_or (λ front. front) o None)
        (slice_get_past (map (front_in code.names) texts) number (omega (arith, le, length-map texts (front_in code.names))))
        ∙ sym (ap (front_in code.names) (get_or_past texts number [] le))

pub fronts_both : (table names : List (List ℕ)) → map (front_in table) names ++ map (front_in table) own_texts ≡ map (front_in table) (names ++ own_texts)
fronts_both table names = sym (map-append (front_in table) names own_texts)

pub own_put : (table : List (List ℕ)) (none one two three : List (Option ℕ)) → one ≡ none ++ front_in table (own_text PackageUsing) ∷ [] →
    two ≡ one ++ front_in table (own_text MainArgs) ∷ [] → three ≡ two ++ front_in table (own_text DoesNotUnderstand) ∷ [] →
    three ≡ none ++ map (front_in table) own_texts
own_put table none one two three first second third =
    let using : Option ℕ = front_in table (own_text PackageUsing) in
    let main : Option ℕ = front_in table (own_text MainArgs) in
    let absent : Option ℕ = front_in table (own_text DoesNotUnderstand) in
    third
    ∙ (ap (λ z. z ++ absent ∷ []) (second ∙ ap (λ z. z ++ main ∷ []) first)
    ∙ (ap (λ z. z ++ absent ∷ []) (append_assoc none (using ∷ []) (main ∷ []))
    ∙ append_assoc none (using ∷ main ∷ []) (absent ∷ [])))
