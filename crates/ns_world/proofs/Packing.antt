-- The bytes of texts in words of eight.
use Rattle.std.proofs.Common.{◌≡◌, ℕ, zero, suc, ◌+◌, ◌-◌, ◌*◌, ◌<◌, ◌≤◌, List, [], ◌∷◌, ◌++◌, length, take, drop, replicate, refl, ap, ◌∙◌, arith, take-append-drop, length-take, length-drop, length-append, append_assoc, take-take, take_at, ◌⊎◌, inl, inr}
use Rattle.std.proofs.lemmas.List.{take-append-le}
use Rattle.std.proofs.lemmas.Bool.{cases_lt}
use Rattle.std.proofs.Math.Seq.{take-append-add}
use Rattle.ns_world.specs.declared.word.Word.{Word}
use Rattle.ns_world.specs.declared.word.Word.TheVariants.{Bytes}
use Rattle.ns_world.specs.Words.{eight, packed, unpacked}
use Rattle.ns_world.specs.Cell.{text_words}

-- so many words hold all bytes
pub text_words-hold : (n : ℕ) → n ≤ 8 * text_words n
text_words-hold n = omega arith

pub length-packed : (words : ℕ) (bytes : List ℕ) → length (packed words bytes) ≡ words
length-packed zero bytes = refl
length-packed (suc words) bytes = ap suc (length-packed words (drop 8 bytes))

-- few bytes stand at the front of their word
eight-few : (bytes : List ℕ) (rest : List ℕ) → length bytes ≤ 8 → take (length bytes) (eight bytes ++ rest) ≡ bytes
eight-few bytes rest h =
    let zeros : List ℕ = replicate 8 0 in
    let long : length bytes ≤ length (take 8 (bytes ++ zeros)) = omega (arith, length-take 8 (bytes ++ zeros), length-append bytes zeros) in
    take-append-le (length bytes) (take 8 (bytes ++ zeros)) rest long ∙ (take-take (length bytes) 8 (bytes ++ zeros) h ∙ take_at bytes zeros (length bytes) refl)

-- many bytes fill their word
eight-many : (bytes : List ℕ) (rest : List ℕ) → 8 ≤ length bytes →
    take (length bytes) (eight bytes ++ rest) ≡ take 8 bytes ++ take (length (drop 8 bytes)) rest
eight-many bytes rest h =
    let full : eight bytes ≡ take 8 bytes = take-append-le 8 bytes (replicate 8 0) h in
    let parts : length bytes ≡ length (take 8 bytes) + length (drop 8 bytes) = omega (arith, length-take 8 bytes, length-drop 8 bytes) in
    ap (λ word. take (length bytes) (word ++ rest)) full ∙ (ap (λ n. take n (take 8 bytes ++ rest)) parts ∙ take-append-add (take 8 bytes) rest (length (drop 8 bytes)))

-- what was packed is there again
pub unpacked-packed : (words : ℕ) (bytes : List ℕ) (rest : List Word) → length bytes ≤ 8 * words →
    take (length bytes) (unpacked (packed words bytes ++ rest)) ≡ bytes
unpacked-packed zero [] rest h = refl
unpacked-packed zero (byte ∷ bytes) rest h = absurd (omega arith)
unpacked-packed (suc words) bytes rest h =
    unpacked_next words bytes rest (cases_lt (length bytes) 8) (unpacked-packed words (drop 8 bytes) rest (omega (arith, length-drop 8 bytes)))
  where
    unpacked_next : (words : ℕ) (bytes : List ℕ) (rest : List Word) → (length bytes < 8) ⊎ (8 ≤ length bytes) → take (length (drop 8 bytes)) (unpacked (packed words (drop 8 bytes) ++ rest)) ≡ drop 8 bytes → take (length bytes) (unpacked (packed (suc words) bytes ++ rest)) ≡ bytes
    unpacked_next words bytes rest (inl few) e = eight-few bytes (unpacked (packed words (drop 8 bytes) ++ rest)) (omega arith)
    unpacked_next words bytes rest (inr many) e =
        eight-many bytes (unpacked (packed words (drop 8 bytes) ++ rest)) many ∙ (ap (λ tail. take 8 bytes ++ tail) e ∙ take-append-drop 8 bytes)

-- one word of those that are left to pack
pub packed_step : (words : List Word) (count done : ℕ) (bytes : List ℕ) → done < count →
    (words ++ Bytes (eight bytes) ∷ []) ++ packed (count - (done + 1)) (drop 8 bytes) ≡ words ++ packed (count - done) bytes
packed_step words count done bytes h =
    let more : suc (count - (done + 1)) ≡ count - done = omega (arith, h) in
    append_assoc words (Bytes (eight bytes) ∷ []) (packed (count - (done + 1)) (drop 8 bytes)) ∙ ap (λ n. words ++ packed n bytes) more
