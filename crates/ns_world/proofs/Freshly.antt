-- The words of new cells.
use Rattle.std.proofs.Common.{◌≡◌, ℕ, zero, suc, ◌+◌, ◌-◌, ◌∷◌, take, replicate, map, refl, ap, ◌∙◌, arith}
use Rattle.std.proofs.lemmas.List.{length-replicate, replicate-append-replicate, take-replicate, drop-replicate}
use Rattle.ns_world.specs.declared.value.Value.{Value}
use Rattle.ns_world.specs.declared.value.Value.TheVariants.{Nil}
use Rattle.ns_world.specs.declared.cell.NewCell.TheVariants as new
use Rattle.ns_world.specs.declared.word.Word.TheVariants.{Nil as NilWord, Bytes, Object, Array, Text}
use Rattle.ns_world.specs.Cell.{fresh, text_words}
use Rattle.ns_world.specs.Words.{word_of, word_beside, eight, packed, words_of}

pub nil_words : (n : ℕ) → map word_of (replicate n Nil) ≡ replicate n NilWord
nil_words zero = refl
nil_words (suc n) = ap (λ ws. NilWord ∷ ws) (nil_words n)

zero_words : (words bytes : ℕ) → packed words (replicate bytes 0) ≡ replicate words (Bytes (replicate 8 0))
zero_words zero bytes = refl
zero_words (suc words) bytes =
    let whole : eight (replicate bytes 0) ≡ replicate 8 0 = ap (take 8) (replicate-append-replicate bytes 8 0) ∙ take-replicate 8 (bytes + 8) 0 (omega arith) in
    rw whole (ap (λ ws. Bytes (replicate 8 0) ∷ ws) (ap (packed words) (drop-replicate 8 bytes 0) ∙ zero_words words (bytes - 8)))

pub new_object_words : (class words : ℕ) → words_of (fresh (new.Object class words)) ≡ Object class words ∷ replicate words NilWord
new_object_words class words = rw (length-replicate words Nil, nil_words words) refl

pub new_environment_words : (parent : Value) (locals : ℕ) →
    words_of (fresh (new.Environment parent locals)) ≡ word_beside locals parent ∷ replicate locals NilWord
new_environment_words parent locals = rw (length-replicate locals Nil, nil_words locals) refl

pub new_array_words : (size : ℕ) → words_of (fresh (new.Array size)) ≡ Array size ∷ replicate size NilWord
new_array_words size = rw (length-replicate size Nil, nil_words size) refl

pub new_text_words : (bytes : ℕ) → words_of (fresh (new.Text bytes)) ≡ Text bytes ∷ replicate (text_words bytes) (Bytes (replicate 8 0))
new_text_words bytes = rw (length-replicate {A = ℕ} bytes 0, zero_words (text_words bytes) bytes) refl
