-- What stands behind the name of an option, in a text from which the name was stripped.
use Rattle.std.proofs.Common.{◌≡◌, ◌≢◌, ℕ, ◌+◌, List, ◌++◌, Bool, true, false, Option, Some, None, option_map, MatchOption, Bor, length, take, drop, refl, ap, sym, ◌∙◌}
use Rattle.std.proofs.Math.Seq.{take-append_seam}
use Rattle.std.proofs.lemmas.List.{take-append-drop}
use Rattle.std.proofs.lemmas.Slice.Eq.{bytes_eq-Decides}
use Rattle.std.specs.Str.{bytes_eq}
use Rattle.std.specs.Str.Pattern.{FindsTextPrefix}
use Rattle.ns_run_words.specs.Options.{value_behind}

value_is : (name word rest : List ℕ) → take (length name) word ≡ name → drop (length name) word ≡ rest → value_behind name word ≡ Some rest
value_is name word rest t d =
    let same : bytes_eq (take (length name) word) name ≡ true = (bytes_eq-Decides (take (length name) word) name).1 t in
    rw same (ap Some d)

no_value_is : (name word : List ℕ) → ((rest : List ℕ) → word ≢ name ++ rest) → value_behind name word ≡ None
no_value_is name word h = by (bytes_eq (take (length name) word) name) refl
  where
    by : (q : Bool) → bytes_eq (take (length name) word) name ≡ q → value_behind name word ≡ None
    by false e = rw e refl
    by true e =
        let front : take (length name) word ≡ name = (bytes_eq-Decides (take (length name) word) name).0 e in
        let rest = drop (length name) word in
        absurd (h rest (sym (take-append-drop (length name) word) ∙ ap (λ x. x ++ rest) front))

-- A text from which the name is stripped is the value, and where none is, there is no value.
pub stripped : (name word : List ℕ) (result : Option (Bor (List ℕ)))
    → MatchOption result (FindsTextPrefix name word None) (λ x. (n : ℕ) × FindsTextPrefix name word (Some n) × (x.now ≡ drop n word) × (length x.now + n ≡ length word))
    → option_map (λ (x : Bor (List ℕ)). x.now) result ≡ value_behind name word
stripped name word None h = sym (no_value_is name word h)
stripped name word (Some x) (n, (k, w, b), d, l) =
    let front : take (length name) word ≡ name = ap (take (length name)) w ∙ take-append_seam name (drop n word) in
    sym (value_is name word x.now front (ap (λ j. drop j word) (sym k) ∙ sym d))
