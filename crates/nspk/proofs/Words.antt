-- What the words that were read say of those that are told.
use Rattle.std.proofs.Common.{◌≡◌, ℕ, Bool, List, [], ◌∷◌, refl, sym, ap, ◌∙◌}
use Rattle.ns_system.specs.Line.{AreWords}

-- what is read of a line is decided by its words
pub same_words : (words texts others : List (List ℕ)) (cut other : Bool) → AreWords words texts cut → AreWords words others other → (cut ≡ other) × (texts ≡ others)
same_words [] [] [] cut other a b = (a ∙ sym b, refl)
same_words [] [] (o ∷ others) cut other a b = absurd b
same_words [] (text ∷ texts) others cut other a b = absurd a
same_words (word ∷ words) [] [] cut other a b = (a.1 ∙ sym b.1, refl)
same_words (word ∷ words) [] (o ∷ others) cut other a b = absurd (a.0 b.0)
same_words (word ∷ words) (text ∷ texts) [] cut other a b = absurd (b.0 a.0)
same_words (word ∷ words) (text ∷ texts) (o ∷ others) cut other a b =
    let r = same_words words texts others cut other a.2 b.2 in (r.0, ap (λ w. w ∷ texts) (a.1 ∙ sym b.1) ∙ ap (λ ws. o ∷ ws) r.1)
