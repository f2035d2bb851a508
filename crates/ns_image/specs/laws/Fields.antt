-- The formats of single fields and of lists.
use Rattle.std.proofs.Common.{◌≡◌, ℕ, zero, suc, ◌-◌, ◌^◌, ◌<◌, ◌≤◌, Bool, true, false, cond, eqb, ltb, List, [], ◌∷◌, ◌++◌, length, take, drop, Option, Some, None, refl, sym, ap, subst, ◌∙◌, append_assoc, arith, All, Fits as Small, inl, inr}
use Rattle.std.specs.Prelude.{FitsSigned, nat_le, ℤ}
use Rattle.std.specs.Option.{ForSome}
use Rattle.std.specs.Int.{Width, w8, w16, w32, w64, byte_len, from_be_bytes, to_be_bytes, cast_signed, cast_unsigned}
use Rattle.std.specs.List.{flat_map}
use Rattle.std.proofs.lemmas.Bool.{cases_lt, ltb-false, le-ltb, leb-true, le-leb}
use Rattle.std.proofs.lemmas.List.{get_or_past, take_at, drop_at, take-append-drop, length-append, length-take}
use Rattle.std.proofs.lemmas.List.Elements.{All-nil, All-cons}
use Rattle.std.proofs.Math.Facts.{sfits_to_z, Fits-of_z}
use Rattle.std.proofs.lemmas.Int.{to_z-of_z, of_z-to_z}
use Rattle.std.proofs.lemmas.Nat.{be_bytes_2, be_bytes_4, be_bytes_8, from_be_bytes-to_be_bytes_2, from_be_bytes-to_be_bytes_4, from_be_bytes-to_be_bytes_8}
use Rattle.ns_code.specs.Fits.{IsByte, IsHalf, IsWord, IsShort}
use Rattle.ns_image.specs.Bytes as b
use Rattle.ns_image.specs.Read.{got, truncated, Reader, ◌>>=◌, given, checked, taken, number, byte, half, word, long, byte_up_to, word_up_to, reference, referred, flag, text, chained, times}
use Rattle.ns_image.specs.laws.Format.{IsBytes, IsBytes-drop, IsBytes-take, Step, Any, Format, bind_got, field, refit, rewrite, mapped, checks}

-- ---- bytes

-- Items that are all bytes give a byte at each place, also behind the last.
pub all_bytes : (bytes : List ℕ) → All IsByte bytes → IsBytes bytes
all_bytes bytes all i =
    elim (cases_lt i (length bytes)) [
      | inl lt ↦ all i 0 lt
      | inr le ↦ rw (get_or_past bytes i 0 le) (omega arith)
    ]

cut_got : {A : Type 0} (short : Bool) (x : A) (rest : List ℕ) (y : A) (rest' : List ℕ) → cond short truncated (got x rest) ≡ got y rest' →
    (short ≡ false) × (x ≡ y) × (rest ≡ rest')
cut_got true x rest y rest' e = absurd cc
cut_got false x rest y rest' e = (refl, cc, cc)

-- so many bytes
pub taken_format : (n : ℕ) → Format (taken n) (λ front. length front ≡ n) (λ front. front)
taken_format n = record {
  takes = λ bytes front rest fits e.
      let g = cut_got (ltb (length bytes) n) (take n bytes) (drop n bytes) front rest e in
      let long : n ≤ length bytes = ltb-false _ _ g.0 in
      let parts : bytes ≡ front ++ rest = sym (take-append-drop n bytes) ∙ ap (λ (x : List ℕ). x ++ drop n bytes) g.1 ∙ ap (λ (x : List ℕ). front ++ x) g.2 in
      let len : length front ≡ n = ap length (sym g.1) ∙ omega (arith, length-take n bytes) in
      (tt, parts, subst IsBytes g.2 (IsBytes-drop n bytes fits), len);
  again = λ front rest known len.
      let long : ltb (length (front ++ rest)) n ≡ false = le-ltb _ _ (omega (arith, length-append front rest)) in
      rw (long, take_at front rest n len, drop_at front rest n len) refl;
}

IsBytes-front : (front rest bytes : List ℕ) → bytes ≡ front ++ rest → IsBytes bytes → IsBytes front
IsBytes-front front rest bytes parts fits =
    let taken-is : take (length front) bytes ≡ front = ap (take (length front)) parts ∙ take_at front rest (length front) refl in
    subst IsBytes taken-is (IsBytes-take (length front) bytes fits)

-- ---- numbers

-- What is known of numbers of so many bytes: each below the limit is that many bytes, and these are read as it.
pub record IsWide (w : Width) (limit : ℕ) : Type 0 where
  pub len : (n : ℕ) → length (to_be_bytes w n) ≡ byte_len w
  pub back : (bytes : List ℕ) → length bytes ≡ byte_len w → IsBytes bytes → to_be_bytes w (from_be_bytes w bytes) ≡ bytes
  pub again : (n : ℕ) → n < limit → from_be_bytes w (to_be_bytes w n) ≡ n
  pub below : (bytes : List ℕ) → IsBytes bytes → from_be_bytes w bytes < limit

-- a number of so many bytes
pub number_format : (w : Width) (limit : ℕ) → IsWide w limit → Format (number w) (λ n. n < limit) (to_be_bytes w)
number_format w limit wide = record {
  takes = λ bytes n rest fits e.
      let b = bind_got (taken (byte_len w) bytes) (λ front. given (from_be_bytes w front)) n rest e in
      let t = (taken_format (byte_len w)).takes bytes b.0 b.1 fits b.2 in
      let n-is : from_be_bytes w b.0 ≡ n = cc (b.3) in
      let rest-is : b.1 ≡ rest = cc (b.3) in
      let front-fits : IsBytes b.0 = IsBytes-front b.0 b.1 bytes t.1 fits in
      let front : b.0 ≡ to_be_bytes w n = sym (wide.back b.0 t.3 front-fits) ∙ ap (to_be_bytes w) n-is in
      (tt, t.1 ∙ ap (λ (x : List ℕ). x ++ b.1) front ∙ ap (λ (x : List ℕ). to_be_bytes w n ++ x) rest-is, subst IsBytes rest-is t.2, subst (λ (x : ℕ). x < limit) n-is (wide.below b.0 front-fits));
  again = λ n rest known lt. rw ((taken_format (byte_len w)).again (to_be_bytes w n) rest tt (wide.len n), wide.again n lt) refl;
}

wide8 : IsWide w8 (2 ^ 8)
wide8 = record {
  len = λ n. refl;
  back = λ bytes len fits. one bytes len fits;
  again = λ n lt. omega arith;
  below = λ bytes fits. omega (arith, fits 0);
}
  where
    one : (bytes : List ℕ) → length bytes ≡ 1 → IsBytes bytes → to_be_bytes w8 (from_be_bytes w8 bytes) ≡ bytes
    one [] len fits = absurd (cc)
    one (x ∷ []) len fits =
        let small : x < 256 = fits 0 in
        ap (λ (y : ℕ). y ∷ []) (omega arith)
    one (x ∷ y ∷ bytes) len fits = absurd (omega (arith, len))

wide16 : IsWide w16 (2 ^ 16)
wide16 = record {
  len = λ n. refl;
  back = λ bytes len fits. be_bytes_2 bytes _ len fits refl;
  again = λ n lt. from_be_bytes-to_be_bytes_2 n lt;
  below = λ bytes fits. omega (arith, fits 0, fits 1);
}

wide32 : IsWide w32 (2 ^ 32)
wide32 = record {
  len = λ n. refl;
  back = λ bytes len fits. be_bytes_4 bytes _ len fits refl;
  again = λ n lt. from_be_bytes-to_be_bytes_4 n lt;
  below = λ bytes fits. omega (arith, fits 0, fits 1, fits 2, fits 3);
}

pub wide64 : IsWide w64 (2 ^ 64)
wide64 = record {
  len = λ n. refl;
  back = λ bytes len fits. be_bytes_8 bytes _ len fits refl;
  again = λ n lt. from_be_bytes-to_be_bytes_8 n lt;
  below = λ bytes fits. omega (arith, fits 0, fits 1, fits 2, fits 3, fits 4, fits 5, fits 6, fits 7);
}

pub byte_format : Format byte IsByte b.byte
byte_format = number_format w8 (2 ^ 8) wide8

pub half_format : Format half IsHalf b.half
half_format = number_format w16 (2 ^ 16) wide16

pub word_format : Format word IsWord b.word
word_format = number_format w32 (2 ^ 32) wide32

cast_fits : (n : ℕ) → n < 2 ^ 64 → FitsSigned w64 (cast_signed w64 n)
cast_fits n lt =
    let small : Small w64 n = omega arith in
    sfits_to_z {w = w64} {n = n} small

cast_below : (z : ℤ) → FitsSigned w64 z → cast_unsigned w64 z < 2 ^ 64
cast_below z fits =
    let small : Small w64 (cast_unsigned w64 z) = Fits-of_z {w = w64} {z = z} fits in
    omega arith

pub long_format : Format long (FitsSigned w64) b.long
long_format =
    mapped (cast_signed w64) (cast_unsigned w64) (FitsSigned w64) (number_format w64 (2 ^ 64) wide64) (λ n lt. (of_z-to_z w64 n lt, cast_fits n lt)) (λ z fits. (to_z-of_z w64 z fits, cast_below z fits))

up_to_format : (p : Reader ℕ) (limit : ℕ) (bytes_of : ℕ → List ℕ) (most : ℕ) → Format p (λ n. n < limit) bytes_of → most < limit →
    Format (checked (λ n. nat_le n most) p) (λ n. n ≤ most) bytes_of
up_to_format p limit bytes_of most format below =
    refit (checks (λ n. nat_le n most) format) (λ n k g. (tt, leb-true n most g.1)) (λ n k g. (tt, (lt_of n g, le-leb n most g)))
  where
    lt_of : (n : ℕ) → n ≤ most → n < limit
    lt_of n le = omega arith

pub byte_up_to_format : (most : ℕ) → most < 2 ^ 8 → Format (byte_up_to most) (λ n. n ≤ most) b.byte
byte_up_to_format most below = up_to_format byte (2 ^ 8) b.byte most byte_format below

pub word_up_to_format : (most : ℕ) → most < 2 ^ 32 → Format (word_up_to most) (λ n. n ≤ most) b.word
word_up_to_format most below = up_to_format word (2 ^ 32) b.word most word_format below

abbrev referring : Option ℕ → ℕ
referring None = 0
referring (Some n) = suc n

abbrev IsReference : Option ℕ → Type 0
IsReference o = ForSome o (λ k. k < 2 ^ 32 - 1)

referred_back : (n : ℕ) → IsWord n → (referring (referred n) ≡ n) × IsReference (referred n)
referred_back zero lt = (refl, λ x e. absurd (cc))
referred_back (suc n) lt = (refl, λ x e. below x (cc))
  where
    below : (x : ℕ) → n ≡ x → x < 2 ^ 32 - 1
    below x same = omega (arith, same)

referring_back : (o : Option ℕ) → IsReference o → (referred (referring o) ≡ o) × IsWord (referring o)
referring_back None small = (refl, omega arith)
referring_back (Some n) small =
    let below : n < 2 ^ 32 - 1 = small n refl in
    (refl, omega arith)

reference-bytes : (o : Option ℕ) → b.word (referring o) ≡ b.reference o
reference-bytes None = refl
reference-bytes (Some n) = ap b.word (omega arith)

pub reference_format : Format reference IsReference b.reference
unfolding reference
reference_format = rewrite (mapped referred referring IsReference word_format referred_back referring_back) reference-bytes

flag_back : (n : ℕ) → n ≤ 1 → (cond (eqb n 1) 1 0 ≡ n) × Unit {0}
flag_back zero le = (refl, tt)
flag_back (suc zero) le = (refl, tt)
flag_back (suc (suc n)) le = absurd (omega arith)

flag_again : (f : Bool) → Unit {0} → (eqb (cond f 1 0) 1 ≡ f) × (cond f 1 0 ≤ 1)
flag_again true known = (refl, omega arith)
flag_again false known = (refl, omega arith)

pub flag_format : Format flag (λ _. Unit {0}) b.flag
unfolding flag
flag_format = mapped (λ n. eqb n 1) (λ f. cond f 1 0) (λ _. Unit {0}) (byte_up_to_format 1 (omega arith)) flag_back flag_again

pub text_format : Format text IsShort b.text
unfolding text
text_format =
    let parts : Step Any text (λ t. IsWord (length t) × Unit {0}) b.text = field length word_format (λ n. refit (taken_format n) (λ t k g. ((tt, g), tt)) (λ t k g. (tt, k.1))) in
    refit parts (λ t k g. (tt, g.0)) (λ t k g. (tt, (g, tt)))

-- ---- lists

-- what is good of items, each in view of those before it
module _ {S A : Type 0} (Good : S → A → Type 0) (next : S → A → S) where
  abbrev pub AllGood : S → List A → Type 0
  AllGood s [] = Unit {0}
  AllGood s (x ∷ xs) = Good s x × AllGood (next s x) xs

module _ {S A : Type 0} (item : S → Reader A) (next : S → A → S) (Good : S → A → Type 0) (bytes_of : A → List ℕ) (format : (s : S) → Format (item s) (Good s) bytes_of) where
  chained_takes : (n : ℕ) (s : S) (bytes : List ℕ) (xs : List A) (rest : List ℕ) → IsBytes bytes → chained item next n s bytes ≡ got xs rest
      → (length xs ≡ n) × (bytes ≡ flat_map bytes_of xs ++ rest) × IsBytes rest × AllGood Good next s xs
  unfolding chained
  chained_takes zero s bytes xs rest fits e =
      let none : [] ≡ xs = cc in
      let behind : bytes ≡ rest = cc in
      subst (λ (ys : List A). (length ys ≡ 0) × (bytes ≡ flat_map bytes_of ys ++ rest) × IsBytes rest × AllGood Good next s ys) none (refl, behind, subst IsBytes behind fits, tt)
  chained_takes (suc n) s bytes xs rest fits e =
      let a = bind_got (item s bytes) (λ x. chained item next n (next s x) >>= λ ys. given (x ∷ ys)) xs rest e in
      let c = bind_got (chained item next n (next s a.0) a.1) (λ ys. given (a.0 ∷ ys)) xs rest a.3 in
      let one = (format s).takes bytes a.0 a.1 fits a.2 in
      let more = chained_takes n (next s a.0) a.1 c.0 c.1 one.2 c.2 in
      let made : a.0 ∷ c.0 ≡ xs = cc (c.3) in
      let behind : c.1 ≡ rest = cc (c.3) in
      let whole : bytes ≡ flat_map bytes_of (a.0 ∷ c.0) ++ rest = one.1 ∙ ap (λ (m : List ℕ). bytes_of a.0 ++ m) (more.1 ∙ ap (λ (m : List ℕ). flat_map bytes_of c.0 ++ m) behind) ∙ sym (append_assoc (bytes_of a.0) (flat_map bytes_of c.0) rest) in
      subst (λ (ys : List A). (length ys ≡ suc n) × (bytes ≡ flat_map bytes_of ys ++ rest) × IsBytes rest × AllGood Good next s ys) made (ap suc more.0, whole, subst IsBytes behind more.2, (one.3, more.3))

  chained_again : (s : S) (xs : List A) (rest : List ℕ) → AllGood Good next s xs → chained item next (length xs) s (flat_map bytes_of xs ++ rest) ≡ got xs rest
  unfolding chained
  chained_again s [] rest good = refl
  chained_again s (x ∷ xs) rest good =
      let regrouped : flat_map bytes_of (x ∷ xs) ++ rest ≡ bytes_of x ++ (flat_map bytes_of xs ++ rest) = append_assoc (bytes_of x) (flat_map bytes_of xs) rest in
      ap (chained item next (suc (length xs)) s) regrouped ∙ rw ((format s).again x (flat_map bytes_of xs ++ rest) tt good.0, chained_again (next s x) xs rest good.1) refl

  -- so many items
  pub chained_format : (n : ℕ) (s : S) → Step (λ xs. Any xs × (length xs ≡ n)) (chained item next n s) (AllGood Good next s) (flat_map bytes_of)
  chained_format n s = record {
    takes = λ bytes xs rest fits e.
        let t = chained_takes n s bytes xs rest fits e in
        ((tt, t.0), t.1, t.2, t.3);
    again = λ xs rest known good. ap (λ (k : ℕ). chained item next k s (flat_map bytes_of xs ++ rest)) (sym known.1) ∙ chained_again s xs rest good;
  }

-- ---- counted lists

-- Items without view of the others are good each for itself.
AllGood-All : {A : Type 0} (Good : A → Type 0) (xs : List A) → AllGood (λ (s : Unit {0}) x. Good x) (λ s _. s) tt xs → All Good xs
AllGood-All Good [] good = All-nil Good
AllGood-All Good (x ∷ xs) good = All-cons Good x xs good.0 (AllGood-All Good xs good.1)

All-AllGood : {A : Type 0} (Good : A → Type 0) (xs : List A) → All Good xs → AllGood (λ (s : Unit {0}) x. Good x) (λ s _. s) tt xs
All-AllGood Good [] good = tt
All-AllGood Good (x ∷ xs) good = (good 0 x (omega arith), All-AllGood Good xs (λ k d lt. good (suc k) d (omega arith)))

-- so many items
pub times_format : {A : Type 0} {item : Reader A} {Good : A → Type 0} {bytes_of : A → List ℕ} (n : ℕ) → Format item Good bytes_of →
    Step (λ xs. Any xs × (length xs ≡ n)) (times n item) (All Good) (flat_map bytes_of)
times_format {A} {item} {Good} {bytes_of} n format =
    refit (chained_format (λ (s : Unit {0}). item) (λ s _. s) (λ s x. Good x) bytes_of (λ s. format) n tt) (λ xs k g. (k, AllGood-All Good xs g)) (λ xs k g. (k, All-AllGood Good xs g))
