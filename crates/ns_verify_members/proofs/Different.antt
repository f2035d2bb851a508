-- Texts that are put into a set one after another.
use Rattle.std.proofs.Common.{◌≡◌, ℕ, List, [], ◌∷◌, ◌++◌, Bool, true, false, not, ◌&&◌, ◌||◌, refl, ◌∙◌}
use Rattle.std.specs.List.{list_any, list_all}
use Rattle.std.specs.Str.{bytes_eq}
use Rattle.std.specs.Cmp.Lexicographic.{nat_list_eq_equiv}
use Rattle.std.proofs.lemmas.List.Folds.{list_any-append}
use Rattle.ns_base.specs.Names.{has, put_in}
use Rattle.ns_code.specs.Soundness.{are_different}

-- whether texts are new, and each comes once
abbrev pub are_new : List (List ℕ) → List (List ℕ) → Bool
are_new seen [] = true
are_new seen (text ∷ texts) = not (has seen text) && are_new (put_in seen text) texts

-- whether none of some texts is seen
abbrev none_seen : List (List ℕ) → List (List ℕ) → Bool
none_seen seen texts = list_all (λ text. not (has seen text)) texts

one_apart : (seen alike rest after : Bool) →
    (not (seen || (alike || false)) && (rest && not after)) ≡ ((not seen && rest) && not (alike || after))
one_apart true alike rest after = refl
one_apart false true true after = refl
one_apart false true false after = refl
one_apart false false rest after = refl

-- none of some texts is among the seen ones or is one more text
one_more_seen : (seen : List (List ℕ)) (text : List ℕ) (texts : List (List ℕ)) →
    none_seen (seen ++ text ∷ []) texts ≡ (none_seen seen texts && not (list_any (bytes_eq text) texts))
one_more_seen seen text [] = refl
one_more_seen seen text (other ∷ texts) =
    rw (list_any-append (bytes_eq other) seen (text ∷ []), one_more_seen seen text texts, nat_list_eq_equiv.symm other text)
    (one_apart (has seen other) (bytes_eq text other) (none_seen seen texts) (list_any (bytes_eq text) texts))

swapped : (different none among : Bool) → (different && (none && not among)) ≡ ((not among && different) && none)
swapped true true true = refl
swapped true true false = refl
swapped true false true = refl
swapped true false false = refl
swapped false none true = refl
swapped false none false = refl

last_false : (b : Bool) → false ≡ (b && false)
last_false true = refl
last_false false = refl

one_new : (seen : List (List ℕ)) (text : List ℕ) (texts : List (List ℕ)) (b : Bool) → has seen text ≡ b →
    are_new (seen ++ text ∷ []) texts ≡ (are_different texts && none_seen (seen ++ text ∷ []) texts) →
    are_new seen (text ∷ texts) ≡ (are_different (text ∷ texts) && none_seen seen (text ∷ texts))
one_new seen text texts true h rest = rw h (last_false (not (list_any (bytes_eq text) texts) && are_different texts))
one_new seen text texts false h rest =
    rw h (rest ∙ rw (one_more_seen seen text texts) (swapped (are_different texts) (none_seen seen texts) (list_any (bytes_eq text) texts)))

-- Texts are new, and each comes once, where they differ from one another and from those that are seen.
new_apart : (seen texts : List (List ℕ)) → are_new seen texts ≡ (are_different texts && none_seen seen texts)
new_apart seen [] = refl
new_apart seen (text ∷ texts) = one_new seen text texts (has seen text) refl (new_apart (seen ++ text ∷ []) texts)

none_in_none : (texts : List (List ℕ)) → none_seen [] texts ≡ true
none_in_none [] = refl
none_in_none (text ∷ texts) = none_in_none texts

and_true : (b : Bool) → (b && true) ≡ b
and_true true = refl
and_true false = refl

-- Before any is seen they only have to differ.
pub new_at_first : (texts : List (List ℕ)) → are_new [] texts ≡ are_different texts
new_at_first texts = new_apart [] texts ∙ rw (none_in_none texts) (and_true (are_different texts))
