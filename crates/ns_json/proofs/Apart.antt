-- Values are told apart: from the text of a value, and what stands behind it and is no digit, both are known.
use Rattle.std.proofs.Common.{◌≡◌, ℕ, List, [], ◌∷◌, ◌++◌, refl, ap, sym, ◌∙◌}
use Rattle.std.proofs.lemmas.List.{append_assoc, append-nil}
use Rattle.ns_json.specs.Json.{Value, Elements, Members, string, number, array, object, no_elements, more_elements, no_members, more_members}
use Rattle.ns_json.specs.Json.{elements_behind, elements_text, members_behind, members_text, string_text, value_text}
use Rattle.ns_json.proofs.Characters.{string_apart}
use Rattle.ns_json.proofs.Digits.{Stops, no_number, number_apart}
use Rattle.ns_json.proofs.Told.{clash, regroup, same_tail, starts}

-- what stands behind a value is no digit
stops_elements : (more : Elements) (r : List ℕ) → Stops (elements_behind more ++ (93 ∷ r))
stops_elements no_elements r = refl
stops_elements (more_elements value more) r = refl

stops_members : (more : Members) (r : List ℕ) → Stops (members_behind more ++ (125 ∷ r))
stops_members no_members r = refl
stops_members (more_members name value more) r = refl

-- no value begins with a closing bracket
no_value : (v : Value) (r s : List ℕ) → 93 ∷ r ≡ value_text v ++ s → ⊥
no_value (string bytes) r s e = clash (ap (starts 93) e)
no_value (number n) r s e = no_number (93 ∷ r) n s refl e
no_value (array values) r s e = clash (ap (starts 93) e)
no_value (object fields) r s e = clash (ap (starts 93) e)

same_elements : {v w : Value} {x y : Elements} {r s : List ℕ} → v ≡ w → (x ≡ y) × (r ≡ s) →
    (more_elements v x ≡ more_elements w y) × (r ≡ s)
same_elements {v} {w} {x} {y} e both = (ap (λ u. more_elements u x) e ∙ ap (λ z. more_elements w z) both.0, both.1)

same_members : {m n : List ℕ} {v w : Value} {x y : Members} {r s : List ℕ} → m ≡ n → v ≡ w → (x ≡ y) × (r ≡ s) →
    (more_members m v x ≡ more_members n w y) × (r ≡ s)
same_members {m} {n} {v} {w} {x} {y} named e both =
    (ap (λ name. more_members name v x) named ∙ ap (λ u. more_members n u x) e ∙ ap (λ z. more_members n w z) both.0, both.1)

-- what stands behind the name of a member, up to the end of its object and on
abbrev behind_name : Value → Members → List ℕ → List ℕ
behind_name value more r = 58 ∷ (value_text value ++ (members_behind more ++ (125 ∷ r)))

member_parts : (name : List ℕ) (value : Value) (more : Members) (r : List ℕ) →
    (string_text name ++ 58 ∷ value_text value ++ members_behind more) ++ (125 ∷ r) ≡ string_text name ++ behind_name value more r
member_parts name value more r =
    append_assoc (string_text name ++ 58 ∷ value_text value) (members_behind more) (125 ∷ r)
    ∙ append_assoc (string_text name) (58 ∷ value_text value) (members_behind more ++ (125 ∷ r))

mutual
  pub value_apart : (a b : Value) (r s : List ℕ) → Stops r → Stops s → value_text a ++ r ≡ value_text b ++ s → (a ≡ b) × (r ≡ s)
  value_apart (string x) (string y) r s p q e = let both : (x ≡ y) × (r ≡ s) = string_apart x y r s e in (ap string both.0, both.1)
  value_apart (string x) (number n) r s p q e = absurd (no_number (string_text x ++ r) n s refl e)
  value_apart (string x) (array ys) r s p q e = absurd (clash (ap (starts 34) e))
  value_apart (string x) (object ys) r s p q e = absurd (clash (ap (starts 34) e))
  value_apart (number m) (string y) r s p q e = absurd (no_number (string_text y ++ s) m r refl (sym e))
  value_apart (number m) (number n) r s p q e = let both : (m ≡ n) × (r ≡ s) = number_apart m n r s p q e in (ap number both.0, both.1)
  value_apart (number m) (array ys) r s p q e = absurd (no_number (value_text (array ys) ++ s) m r refl (sym e))
  value_apart (number m) (object ys) r s p q e = absurd (no_number (value_text (object ys) ++ s) m r refl (sym e))
  value_apart (array xs) (string y) r s p q e = absurd (clash (ap (starts 91) e))
  value_apart (array xs) (number n) r s p q e = absurd (no_number (value_text (array xs) ++ r) n s refl e)
  value_apart (array xs) (array ys) r s p q e =
      let both : (xs ≡ ys) × (r ≡ s) =
      elements_apart xs ys r s (regroup (elements_text xs) (93 ∷ []) r (elements_text ys) (93 ∷ []) s (same_tail e)) in
      (ap array both.0, both.1)
  value_apart (array xs) (object ys) r s p q e = absurd (clash (ap (starts 91) e))
  value_apart (object xs) (string y) r s p q e = absurd (clash (ap (starts 123) e))
  value_apart (object xs) (number n) r s p q e = absurd (no_number (value_text (object xs) ++ r) n s refl e)
  value_apart (object xs) (array ys) r s p q e = absurd (clash (ap (starts 123) e))
  value_apart (object xs) (object ys) r s p q e =
      let both : (xs ≡ ys) × (r ≡ s) =
      members_apart xs ys r s (regroup (members_text xs) (125 ∷ []) r (members_text ys) (125 ∷ []) s (same_tail e)) in
      (ap object both.0, both.1)

  elements_apart : (xs ys : Elements) (r s : List ℕ) → elements_text xs ++ (93 ∷ r) ≡ elements_text ys ++ (93 ∷ s) → (xs ≡ ys) × (r ≡ s)
  elements_apart no_elements no_elements r s e = (refl, same_tail e)
  elements_apart no_elements (more_elements w ys) r s e =
      absurd (no_value w r (elements_behind ys ++ (93 ∷ s)) (e ∙ append_assoc (value_text w) (elements_behind ys) (93 ∷ s)))
  elements_apart (more_elements v xs) no_elements r s e =
      absurd (no_value v s (elements_behind xs ++ (93 ∷ r)) (sym e ∙ append_assoc (value_text v) (elements_behind xs) (93 ∷ r)))
  elements_apart (more_elements v xs) (more_elements w ys) r s e =
      let both : (v ≡ w) × (elements_behind xs ++ (93 ∷ r) ≡ elements_behind ys ++ (93 ∷ s)) =
      value_apart v w (elements_behind xs ++ (93 ∷ r)) (elements_behind ys ++ (93 ∷ s)) (stops_elements xs r) (stops_elements ys s)
      (regroup (value_text v) (elements_behind xs) (93 ∷ r) (value_text w) (elements_behind ys) (93 ∷ s) e) in
      same_elements both.0 (elements_behind_apart xs ys r s both.1)

  elements_behind_apart : (xs ys : Elements) (r s : List ℕ) →
      elements_behind xs ++ (93 ∷ r) ≡ elements_behind ys ++ (93 ∷ s) → (xs ≡ ys) × (r ≡ s)
  elements_behind_apart no_elements no_elements r s e = (refl, same_tail e)
  elements_behind_apart no_elements (more_elements w ys) r s e = absurd (clash (ap (starts 93) e))
  elements_behind_apart (more_elements v xs) no_elements r s e = absurd (clash (ap (starts 44) e))
  elements_behind_apart (more_elements v xs) (more_elements w ys) r s e =
      let both : (v ≡ w) × (elements_behind xs ++ (93 ∷ r) ≡ elements_behind ys ++ (93 ∷ s)) =
      value_apart v w (elements_behind xs ++ (93 ∷ r)) (elements_behind ys ++ (93 ∷ s)) (stops_elements xs r) (stops_elements ys s)
      (regroup (value_text v) (elements_behind xs) (93 ∷ r) (value_text w) (elements_behind ys) (93 ∷ s) (same_tail e)) in
      same_elements both.0 (elements_behind_apart xs ys r s both.1)

  members_apart : (xs ys : Members) (r s : List ℕ) → members_text xs ++ (125 ∷ r) ≡ members_text ys ++ (125 ∷ s) → (xs ≡ ys) × (r ≡ s)
  members_apart no_members no_members r s e = (refl, same_tail e)
  members_apart no_members (more_members n w ys) r s e = absurd (clash (ap (starts 125) e))
  members_apart (more_members m v xs) no_members r s e = absurd (clash (ap (starts 34) e))
  members_apart (more_members m v xs) (more_members n w ys) r s e =
      let named : (m ≡ n) × (behind_name v xs r ≡ behind_name w ys s) =
      string_apart m n (behind_name v xs r) (behind_name w ys s)
      (sym (member_parts m v xs r) ∙ e ∙ member_parts n w ys s) in
      let both : (v ≡ w) × (members_behind xs ++ (125 ∷ r) ≡ members_behind ys ++ (125 ∷ s)) =
      value_apart v w (members_behind xs ++ (125 ∷ r)) (members_behind ys ++ (125 ∷ s)) (stops_members xs r) (stops_members ys s)
      (same_tail named.1) in
      same_members named.0 both.0 (members_behind_apart xs ys r s both.1)

  members_behind_apart : (xs ys : Members) (r s : List ℕ) →
      members_behind xs ++ (125 ∷ r) ≡ members_behind ys ++ (125 ∷ s) → (xs ≡ ys) × (r ≡ s)
  members_behind_apart no_members no_members r s e = (refl, same_tail e)
  members_behind_apart no_members (more_members n w ys) r s e = absurd (clash (ap (starts 125) e))
  members_behind_apart (more_members m v xs) no_members r s e = absurd (clash (ap (starts 44) e))
  members_behind_apart (more_members m v xs) (more_members n w ys) r s e =
      let named : (m ≡ n) × (behind_name v xs r ≡ behind_name w ys s) =
      string_apart m n (behind_name v xs r) (behind_name w ys s)
      (sym (member_parts m v xs r) ∙ same_tail e ∙ member_parts n w ys s) in
      let both : (v ≡ w) × (members_behind xs ++ (125 ∷ r) ≡ members_behind ys ++ (125 ∷ s)) =
      value_apart v w (members_behind xs ++ (125 ∷ r)) (members_behind ys ++ (125 ∷ s)) (stops_members xs r) (stops_members ys s)
      (same_tail named.1) in
      same_members named.0 both.0 (members_behind_apart xs ys r s both.1)

-- Two values of one text are the same value.
pub values_apart : (a b : Value) → value_text a ≡ value_text b → a ≡ b
values_apart a b e = (value_apart a b [] [] refl refl (append-nil (value_text a) ∙ e ∙ sym (append-nil (value_text b)))).0
