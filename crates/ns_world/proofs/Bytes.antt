-- Reading and writing one byte of a text.
use Rattle.std.proofs.Common.{◌≡◌, ℕ, zero, suc, ◌+◌, ◌*◌, ◌/◌, ◌%◌, ◌<◌, ◌≤◌, List, ◌∷◌, ◌++◌, length, take, drop, replicate, get_or, set, refl, ap, sym, ◌∙◌, arith, length-set, length-drop, Option, Some, None}
use Rattle.std.proofs.lemmas.List.{drop-drop, take-append-le, get_or-take, get_or-drop, get_or_append_left, set-append_left, take-set-le, drop-set-lt, drop-set-add}
use Rattle.std.proofs.Math.Seq.{take-set-lt}
use Rattle.ns_world.specs.declared.word.Word.{Word}
use Rattle.ns_world.specs.declared.word.Word.TheVariants.{Bytes as BytesWord, Text as TextWord}
use Rattle.ns_world.specs.Cell.{Cell, ObjectCell, ClassCell, BlockCell, EnvironmentCell, ArrayCell, TextCell, FacetCell, MirrorCell, MessageCell, cell_size, text_words}
use Rattle.ns_world.specs.Heap.{Heap, find_cell, set_cell, bytes_at, byte_at, row_at, write_byte}
use Rattle.ns_world.specs.Words.{eight, packed, words_of, laid_out}
use Rattle.ns_world.proofs.LaidOut.{length-laid_out}
use Rattle.ns_world.specs.laws.Standing.{stands-within}
use Rattle.ns_world.proofs.Standing.{word_of_cell, set_word_of_cell}
use Rattle.ns_world.specs.lemmas.Replacing.{Replaces, StaysReplaced, set_cell_stays}

-- the bytes of the word of that place
abbrev pub word_bytes : ℕ → List ℕ → List ℕ
word_bytes zero bytes = eight bytes
word_bytes (suc q) bytes = word_bytes q (drop 8 bytes)

word_of_packed : (words q : ℕ) (bytes : List ℕ) (d : Word) → q < words → get_or (packed words bytes) q d ≡ BytesWord (word_bytes q bytes)
word_of_packed zero q bytes d h = absurd (omega arith)
word_of_packed (suc words) zero bytes d h = refl
word_of_packed (suc words) (suc q) bytes d h = word_of_packed words q (drop 8 bytes) d (omega arith)

byte_of_eight : (bytes : List ℕ) (r : ℕ) → r < 8 → r < length bytes → get_or (eight bytes) r 0 ≡ get_or bytes r 0
byte_of_eight bytes r h k = get_or-take 8 (bytes ++ replicate 8 0) r 0 h ∙ get_or_append_left bytes (replicate 8 0) 0 r k

byte_of_word : (q r : ℕ) (bytes : List ℕ) → r < 8 → 8 * q + r < length bytes → get_or (word_bytes q bytes) r 0 ≡ get_or bytes (8 * q + r) 0
byte_of_word zero r bytes h k = byte_of_eight bytes r h (omega arith) ∙ ap (λ i. get_or bytes i 0) (omega arith)
byte_of_word (suc q) r bytes h k =
    byte_of_word q r (drop 8 bytes) h (omega (arith, length-drop 8 bytes))
    ∙ (get_or-drop 8 bytes (8 * q + r) 0 ∙ ap (λ i. get_or bytes i 0) (omega arith))

eight-set : (bytes : List ℕ) (r byte : ℕ) → r < 8 → r < length bytes → eight (set bytes r byte) ≡ set (eight bytes) r byte
eight-set bytes r byte h k =
    ap (take 8) (sym (set-append_left bytes (replicate 8 0) r byte k)) ∙ take-set-lt 8 (bytes ++ replicate 8 0) r byte h

eight-set_past : (bytes : List ℕ) (i byte : ℕ) → 8 + i < length bytes → eight (set bytes (8 + i) byte) ≡ eight bytes
eight-set_past bytes i byte k =
    ap (take 8) (sym (set-append_left bytes (replicate 8 0) (8 + i) byte k)) ∙ take-set-le 8 (bytes ++ replicate 8 0) (8 + i) byte (omega arith)

-- a written byte changes one word
packed-set : (words q r byte : ℕ) (bytes : List ℕ) → q < words → r < 8 → 8 * q + r < length bytes →
    packed words (set bytes (8 * q + r) byte) ≡ set (packed words bytes) q (BytesWord (set (word_bytes q bytes) r byte))
packed-set zero q r byte bytes h k l = absurd (omega arith)
packed-set (suc words) zero r byte bytes h k l =
    let at : 8 * 0 + r ≡ r = omega arith in
    let first : eight (set bytes r byte) ≡ set (eight bytes) r byte = eight-set bytes r byte k (omega arith) in
    let rest : drop 8 (set bytes r byte) ≡ drop 8 bytes = drop-set-lt 8 bytes r byte k in
    ap (λ i. packed (suc words) (set bytes i byte)) at ∙ (ap (λ b. BytesWord b ∷ packed words (drop 8 (set bytes r byte))) first ∙ ap (λ bs. BytesWord (set (eight bytes) r byte) ∷ packed words bs) rest)
packed-set (suc words) (suc q) r byte bytes h k l =
    let at : 8 * suc q + r ≡ 8 + (8 * q + r) = omega arith in
    let first : eight (set bytes (8 + (8 * q + r)) byte) ≡ eight bytes = eight-set_past bytes (8 * q + r) byte (omega arith) in
    let rest : drop 8 (set bytes (8 + (8 * q + r)) byte) ≡ set (drop 8 bytes) (8 * q + r) byte = drop-set-add 8 bytes (8 * q + r) byte in
    ap (λ i. packed (suc words) (set bytes i byte)) at
    ∙ (ap (λ b. BytesWord b ∷ packed words (drop 8 (set bytes (8 + (8 * q + r)) byte))) first
    ∙ (ap (λ bs. BytesWord (eight bytes) ∷ packed words bs) rest
    ∙ ap (λ ws. BytesWord (eight bytes) ∷ ws) (packed-set words q r byte (drop 8 bytes) (omega arith) k (omega (arith, length-drop 8 bytes)))))

-- What is known of a byte inside a live text: the word that it stands in, and its bytes.
pub record ReadsByte (heap : Heap) (words : List Word) (n p : ℕ) : Type 0 where
  pub row : List ℕ
  pub inside : n + 1 + p / 8 < length words
  pub word : (d : Word) → get_or words (n + 1 + p / 8) d ≡ BytesWord row
  pub byte : get_or row (p % 8) 0 ≡ byte_at heap n p
  pub after : (b : ℕ) → laid_out (write_byte heap n p b) ≡ set words (n + 1 + p / 8) (BytesWord (set row (p % 8) b))
  pub stays : (b : ℕ) → StaysReplaced heap (write_byte heap n p b)

reads_text : (heap : Heap) (words : List Word) (n p : ℕ) (bytes : List ℕ) → laid_out heap ≡ words →
    find_cell heap n ≡ Some (TextCell bytes) → p < length bytes → ReadsByte heap words n p
reads_text heap words n p bytes laid e h =
    let cell : Cell = TextCell bytes in
    let whole : 8 * (p / 8) + p % 8 ≡ p = omega arith in
    let low : p % 8 < 8 = omega arith in
    let here : p / 8 < text_words (length bytes) = omega arith in
    let fits : suc (p / 8) < cell_size cell = omega arith in
    let at : n + 1 + p / 8 ≡ n + suc (p / 8) = omega arith in
    let is : bytes_at heap n ≡ bytes = rw e refl in
    let within : 8 * (p / 8) + p % 8 < length bytes = omega arith in
    record {
      row = word_bytes (p / 8) bytes;
      inside = omega (arith, stands-within heap n cell e, length-laid_out heap, ap length laid);
      word = λ d.
          ap (λ i. get_or words i d) at
          ∙ (ap (λ ws. get_or ws (n + suc (p / 8)) d) (sym laid)
          ∙ (word_of_cell heap n cell (suc (p / 8)) d e fits ∙ word_of_packed (text_words (length bytes)) (p / 8) bytes d here));
      byte = byte_of_word (p / 8) (p % 8) bytes low within ∙ (ap (λ i. get_or bytes i 0) whole ∙ ap (λ bs. get_or bs p 0) (sym is));
      after = λ b.
          let new : Cell = TextCell (set bytes p b) in
          let written : write_byte heap n p b ≡ set_cell heap n new = rw e refl in
          let same : words_of new ≡ set (words_of cell) (suc (p / 8)) (BytesWord (set (word_bytes (p / 8) bytes) (p % 8) b)) =
          rw (length-set bytes p b) (ap (λ ws. TextWord (length bytes) ∷ ws) (ap (λ i. packed (text_words (length bytes)) (set bytes i b)) (sym whole) ∙ packed-set (text_words (length bytes)) (p / 8) (p % 8) b bytes here low within)) in
          ap laid_out written
          ∙ (set_word_of_cell heap n cell new (suc (p / 8)) (BytesWord (set (word_bytes (p / 8) bytes) (p % 8) b)) e fits same
          ∙ (ap (λ ws. set ws (n + suc (p / 8)) (BytesWord (set (word_bytes (p / 8) bytes) (p % 8) b))) laid
          ∙ ap (λ i. set words i (BytesWord (set (word_bytes (p / 8) bytes) (p % 8) b))) (sym at)));
      stays = λ b.
          let new : Cell = TextCell (set bytes p b) in
          let written : write_byte heap n p b ≡ set_cell heap n new = rw e refl in
          let r : Replaces cell new = record { size_stays = ap (λ m. 1 + text_words m) (length-set bytes p b); old_plain = refl; new_plain = refl } in
          let s = set_cell_stays heap n cell new e r in
          rw written s;
    }

pub reads_byte : (heap : Heap) (words : List Word) (n p : ℕ) → laid_out heap ≡ words → p < length (bytes_at heap n) →
    ReadsByte heap words n p
reads_byte heap words n p laid h = found (find_cell heap n) refl
  where
    found : (o : Option Cell) → find_cell heap n ≡ o → ReadsByte heap words n p
    found None e = absurd (omega (arith, let here : p < length (bytes_at heap n) = h in rw e at here))
    found (Some (TextCell bytes)) e = reads_text heap words n p bytes laid e (rw e at h)
    found (Some (ObjectCell class entries)) e = absurd (omega (arith, let here : p < length (bytes_at heap n) = h in rw e at here))
    found (Some (ClassCell decl base encl holder over)) e = absurd (omega (arith, let here : p < length (bytes_at heap n) = h in rw e at here))
    found (Some (BlockCell body env home receiver holder)) e = absurd (omega (arith, let here : p < length (bytes_at heap n) = h in rw e at here))
    found (Some (EnvironmentCell parent locals)) e = absurd (omega (arith, let here : p < length (bytes_at heap n) = h in rw e at here))
    found (Some (ArrayCell items)) e = absurd (omega (arith, let here : p < length (bytes_at heap n) = h in rw e at here))
    found (Some (FacetCell kind)) e = absurd (omega (arith, let here : p < length (bytes_at heap n) = h in rw e at here))
    found (Some (MirrorCell mirrored)) e = absurd (omega (arith, let here : p < length (bytes_at heap n) = h in rw e at here))
    found (Some (MessageCell sel args)) e = absurd (omega (arith, let here : p < length (bytes_at heap n) = h in rw e at here))

-- the bytes of a word are eight behind those of the words before it
word_bytes_is : (q : ℕ) (bytes : List ℕ) → word_bytes q bytes ≡ eight (drop (8 * q) bytes)
word_bytes_is zero bytes =
    let none : 0 ≡ 8 * 0 = omega arith in
    ap (λ n. eight (drop n bytes)) none
word_bytes_is (suc q) bytes =
    let e : drop (8 * q) (drop 8 bytes) ≡ drop (8 * suc q) bytes = drop-drop (8 * q) 8 bytes ∙ ap (λ n. drop n bytes) (omega arith) in
    word_bytes_is q (drop 8 bytes) ∙ ap eight e

-- What is known of eight bytes inside a live text: where their word stands, and what it holds.
pub record ReadsRow (heap : Heap) (words : List Word) (n q : ℕ) : Type 0 where
  pub inside : n + 1 + q < length words
  pub word : (d : Word) → get_or words (n + 1 + q) d ≡ BytesWord (row_at heap n q)

pub reads_row : (heap : Heap) (words : List Word) (n q : ℕ) → laid_out heap ≡ words → 8 * q + 8 ≤ length (bytes_at heap n) →
    ReadsRow heap words n q
reads_row heap words n q laid h = found (find_cell heap n) refl
  where
    in_text : (bytes : List ℕ) → find_cell heap n ≡ Some (TextCell bytes) → ReadsRow heap words n q
    in_text bytes e =
        let cell : Cell = TextCell bytes in
        let is : bytes_at heap n ≡ bytes = rw e refl in
        let whole : 8 * q + 8 ≤ length bytes = omega (arith, h, ap length is) in
        let here : q < text_words (length bytes) = omega (arith, whole) in
        let fits : suc q < cell_size cell = omega (arith, here) in
        let full : eight (drop (8 * q) bytes) ≡ take 8 (drop (8 * q) bytes) = take-append-le 8 (drop (8 * q) bytes) (replicate 8 0) (omega (arith, whole, length-drop (8 * q) bytes)) in
        record {
          inside = omega (arith, stands-within heap n cell e, fits, length-laid_out heap, ap length laid);
          word = λ d.
              ap (λ i. get_or words i d) (omega arith)
              ∙ (ap (λ ws. get_or ws (n + suc q) d) (sym laid)
              ∙ (word_of_cell heap n cell (suc q) d e fits
              ∙ (word_of_packed (text_words (length bytes)) q bytes d here
              ∙ ap BytesWord (word_bytes_is q bytes ∙ (full ∙ ap (λ bs. take 8 (drop (8 * q) bs)) (sym is))))));
        }

    found : (o : Option Cell) → find_cell heap n ≡ o → ReadsRow heap words n q
    found None e = absurd (omega (arith, let here : 8 * q + 8 ≤ length (bytes_at heap n) = h in rw e at here))
    found (Some (TextCell bytes)) e = in_text bytes e
    found (Some (ObjectCell class entries)) e = absurd (omega (arith, let here : 8 * q + 8 ≤ length (bytes_at heap n) = h in rw e at here))
    found (Some (ClassCell decl base encl holder over)) e = absurd (omega (arith, let here : 8 * q + 8 ≤ length (bytes_at heap n) = h in rw e at here))
    found (Some (BlockCell body env home receiver holder)) e = absurd (omega (arith, let here : 8 * q + 8 ≤ length (bytes_at heap n) = h in rw e at here))
    found (Some (EnvironmentCell parent locals)) e = absurd (omega (arith, let here : 8 * q + 8 ≤ length (bytes_at heap n) = h in rw e at here))
    found (Some (ArrayCell items)) e = absurd (omega (arith, let here : 8 * q + 8 ≤ length (bytes_at heap n) = h in rw e at here))
    found (Some (FacetCell kind)) e = absurd (omega (arith, let here : 8 * q + 8 ≤ length (bytes_at heap n) = h in rw e at here))
    found (Some (MirrorCell mirrored)) e = absurd (omega (arith, let here : 8 * q + 8 ≤ length (bytes_at heap n) = h in rw e at here))
    found (Some (MessageCell sel args)) e = absurd (omega (arith, let here : 8 * q + 8 ≤ length (bytes_at heap n) = h in rw e at here))
