-- What a loop over the words of a command line has read.
use Rattle.std.proofs.Common.{◌≡◌, ℕ, zero, suc, ◌+◌, Bool, true, false, List, [], ◌∷◌, ◌++◌, take, drop, map, Option, Some, None, Ok, IfSome, String, string_bytes, refl, sym, ap, subst, ◌∙◌, append_assoc, append-nil, arith}
use Rattle.std.specs.Global.{Global}
use Rattle.ns_system.specs.Line.{AnswersWord, AreWords, IsFound, word_at}
use Rattle.ns_system.specs.declared.arguments.Found as words
use Rattle.ns_system.specs.declared.arguments.Found.TheVariants.{Text, Other, End}

-- With the rest of the words behind them, these are the words behind the first.
abbrev pub HasRead : Option (List (List ℕ)) → ℕ → List (List ℕ) → Type 0
HasRead told i texts = IfSome told (λ all. (rest : List (List ℕ)) → (cut : Bool) → AreWords (drop i all) rest cut → AreWords (drop 1 all) (texts ++ rest) cut)

pub none_read : (told : Option (List (List ℕ))) → HasRead told 1 []
none_read None = tt
none_read (Some all) = λ rest cut a. a

-- the word at a place is the first of the rest
first : (all : List (List ℕ)) (i : ℕ) (text : String Global) (rest : List (List ℕ)) (cut : Bool) → IsFound (word_at all i) (Text text) → AreWords (drop (suc i) all) rest cut → AreWords (drop i all) (string_bytes text ∷ rest) cut
first [] i text rest cut f a = absurd f
first (w ∷ all) zero text rest cut f a = (f.0, f.1, a)
first (w ∷ all) (suc i) text rest cut f a = first all i text rest cut f a

no_text : (all : List (List ℕ)) (i : ℕ) → IsFound (word_at all i) Other → AreWords (drop i all) [] true
no_text [] i f = absurd f
no_text (w ∷ all) zero f = (f, refl)
no_text (w ∷ all) (suc i) f = no_text all i f

no_more : (all : List (List ℕ)) (i : ℕ) → IsFound (word_at all i) End → AreWords (drop i all) [] false
no_more [] zero f = refl
no_more [] (suc i) f = refl
no_more (w ∷ all) zero f = absurd f
no_more (w ∷ all) (suc i) f = no_more all i f

pub more_read : (told : Option (List (List ℕ))) (i j : ℕ) (texts : List (List ℕ)) (text : String Global) → j ≡ i + 1 → HasRead told i texts → IfSome told (λ all. IsFound (word_at all i) (Text text)) → HasRead told j (texts ++ string_bytes text ∷ [])
more_read None i j texts text e h f = tt
more_read (Some all) i j texts text e h f = λ rest cut a.
    subst (λ ws. AreWords (drop 1 all) ws cut) (sym (append_assoc texts (string_bytes text ∷ []) rest))
    (h (string_bytes text ∷ rest) cut (first all i text rest cut f (subst (λ k. AreWords (drop k all) rest cut) (next i j e) a)))
  where
    next : (i j : ℕ) → j ≡ i + 1 → j ≡ suc i
    next i j e = omega (arith, e)

pub more_pushed : (told : Option (List (List ℕ))) (i : ℕ) (old new : List (String Global)) (text : String Global) → new ≡ old ++ text ∷ [] → HasRead told i (map string_bytes old) → IfSome told (λ all. IsFound (word_at all i) (Text text)) → HasRead told (i + 1) (map string_bytes new)
more_pushed told i old new text e h f = subst (HasRead told (i + 1)) (sym (ap (map string_bytes) e ∙ pushed old text)) (more_read told i (i + 1) (map string_bytes old) text refl h f)
  where
    pushed : (old : List (String Global)) (text : String Global) → map string_bytes (old ++ text ∷ []) ≡ map string_bytes old ++ string_bytes text ∷ []
    pushed [] text = refl
    pushed (t ∷ old) text = ap (λ ts. string_bytes t ∷ ts) (pushed old text)

pub cut_read : (told : Option (List (List ℕ))) (i : ℕ) (texts : List (List ℕ)) → HasRead told i texts → IfSome told (λ all. IsFound (word_at all i) Other) → IfSome told (λ all. AreWords (drop 1 all) texts true)
cut_read None i texts h f = tt
cut_read (Some all) i texts h f = subst (λ ws. AreWords (drop 1 all) ws true) (append-nil texts) (h [] true (no_text all i f))

pub all_read : (told : Option (List (List ℕ))) (i : ℕ) (texts : List (List ℕ)) → HasRead told i texts → IfSome told (λ all. IsFound (word_at all i) End) → IfSome told (λ all. AreWords (drop 1 all) texts false)
all_read None i texts h f = tt
all_read (Some all) i texts h f = subst (λ ws. AreWords (drop 1 all) ws false) (append-nil texts) (h [] false (no_more all i f))

-- the bytes in the buffer are those of the word
pub filled : (told : Option (List (List ℕ))) (i n : ℕ) (buffer : List ℕ) (found : words.Found) → IfSome told (λ all. AnswersWord (word_at all i) buffer (Ok n)) → IsFound (Some (take n buffer)) found → IfSome told (λ all. IsFound (word_at all i) found)
filled None i n buffer found a f = tt
filled (Some all) i n buffer found a f = same (word_at all i) a
  where
    same : (word : Option (List ℕ)) → AnswersWord word buffer (Ok n) → IsFound word found
    same None a = absurd a
    same (Some w) a = subst (λ bytes. IsFound (Some bytes) found) a f
