-- Strings are told apart: from the text of a string, and whatever stands behind it, both are known.
use Rattle.std.proofs.Common.{◌≡◌, ℕ, ◌+◌, ◌*◌, ◌/◌, ◌%◌, List, [], ◌∷◌, ◌++◌, Bool, true, false, cond, refl, ap, sym, ◌∙◌, arith}
use Rattle.std.proofs.Math.Nat.{div-add-mod}
use Rattle.std.proofs.lemmas.Bool.{ltb-true}
use Rattle.std.proofs.lemmas.List.{append_assoc}
use Rattle.std.specs.Prelude.{nat_lt}
use Rattle.ns_json.specs.Json.{character, characters, escape, hex_digit, is_plain, string_text}
use Rattle.ns_json.proofs.Told.{clash, regroup, same_head, same_tail, starts}

hex_apart : (m n : ℕ) → hex_digit m ≡ hex_digit n → m ≡ n
hex_apart m n e = tested (nat_lt m 10) (nat_lt n 10) refl refl e
  where
    tested : (p q : Bool) → nat_lt m 10 ≡ p → nat_lt n 10 ≡ q → cond p (48 + m) (87 + m) ≡ cond q (48 + n) (87 + n) → m ≡ n
    tested true true x y e = omega (arith, e)
    tested true false x y e = absurd (omega (arith, e, ltb-true m 10 x))
    tested false true x y e = absurd (omega (arith, e, ltb-true n 10 y))
    tested false false x y e = omega (arith, e)

halves_apart : (a b : ℕ) → a / 16 ≡ b / 16 → a % 16 ≡ b % 16 → a ≡ b
halves_apart a b high low =
    sym (div-add-mod a 16) ∙ ap (λ q. 16 * q + a % 16) high ∙ ap (λ r. 16 * (b / 16) + r) low ∙ div-add-mod b 16

escapes_apart : (a b : ℕ) (r s : List ℕ) → escape a ++ r ≡ escape b ++ s → (a ≡ b) × (r ≡ s)
escapes_apart a b r s e =
    let digits : hex_digit (a / 16) ∷ hex_digit (a % 16) ∷ r ≡ hex_digit (b / 16) ∷ hex_digit (b % 16) ∷ s =
    same_tail (same_tail (same_tail (same_tail e))) in (
      halves_apart a b (hex_apart (a / 16) (b / 16) (same_head digits)) (hex_apart (a % 16) (b % 16) (same_head (same_tail digits))),
      same_tail (same_tail digits),
    )

-- what stands behind a character is known, and so is the character
character_apart : (a b : ℕ) (r s : List ℕ) → character a ++ r ≡ character b ++ s → (a ≡ b) × (r ≡ s)
character_apart a b r s e = tested (is_plain a) (is_plain b) refl refl e
  where
    tested : (p q : Bool) → is_plain a ≡ p → is_plain b ≡ q → cond p (a ∷ []) (escape a) ++ r ≡ cond q (b ∷ []) (escape b) ++ s →
        (a ≡ b) × (r ≡ s)
    tested true true x y e = (same_head e, same_tail e)
    tested true false x y e = absurd (clash (sym x ∙ ap is_plain (same_head e)))
    tested false true x y e = absurd (clash (sym y ∙ ap is_plain (sym (same_head e))))
    tested false false x y e = escapes_apart a b r s e

-- no character begins with a quotation mark
no_quote : (b : ℕ) (r s : List ℕ) → 34 ∷ r ≡ character b ++ s → ⊥
no_quote b r s e = tested (is_plain b) refl e
  where
    tested : (p : Bool) → is_plain b ≡ p → 34 ∷ r ≡ cond p (b ∷ []) (escape b) ++ s → ⊥
    tested true x e = clash (sym x ∙ ap is_plain (sym (same_head e)))
    tested false x e = clash (ap (starts 34) e)

joined : {a b : ℕ} {x y r s : List ℕ} → a ≡ b → (x ≡ y) × (r ≡ s) → (a ∷ x ≡ b ∷ y) × (r ≡ s)
joined {a} {b} {x} {y} e both = (ap (λ c. c ∷ x) e ∙ ap (λ z. b ∷ z) both.0, both.1)

characters_apart : (x y r s : List ℕ) → characters x ++ (34 ∷ r) ≡ characters y ++ (34 ∷ s) → (x ≡ y) × (r ≡ s)
characters_apart [] [] r s e = (refl, same_tail e)
characters_apart [] (b ∷ y) r s e =
    absurd (no_quote b r (characters y ++ (34 ∷ s)) (e ∙ append_assoc (character b) (characters y) (34 ∷ s)))
characters_apart (a ∷ x) [] r s e =
    absurd (no_quote a s (characters x ++ (34 ∷ r)) (sym e ∙ append_assoc (character a) (characters x) (34 ∷ r)))
characters_apart (a ∷ x) (b ∷ y) r s e =
    let both : (a ≡ b) × (characters x ++ (34 ∷ r) ≡ characters y ++ (34 ∷ s)) =
    character_apart a b (characters x ++ (34 ∷ r)) (characters y ++ (34 ∷ s))
    (regroup (character a) (characters x) (34 ∷ r) (character b) (characters y) (34 ∷ s) e) in
    joined both.0 (characters_apart x y r s both.1)

pub string_apart : (x y r s : List ℕ) → string_text x ++ r ≡ string_text y ++ s → (x ≡ y) × (r ≡ s)
string_apart x y r s e =
    characters_apart x y r s (regroup (characters x) (34 ∷ []) r (characters y) (34 ∷ []) s (same_tail e))
