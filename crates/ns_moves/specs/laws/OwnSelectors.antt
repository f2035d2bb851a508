-- The machine's own selectors are selectors, and take the arguments of their texts.
use Rattle.std.proofs.Common.{◌≡◌, ℕ, ◌+◌, ◌-◌, ◌≤◌, ◌⊎◌, inl, inr, List, [], ◌∷◌, length, refl, ap, sym, ◌∙◌, arith, Bool, true, false, cond}
use Rattle.std.specs.Prelude.{nat_lt, ◌&&◌, ◌||◌, not}
use Rattle.std.specs.List.{slice_index_or, list_any}
use Rattle.std.specs.Str.{bytes_eq}
use Rattle.std.proofs.lemmas.Bool.{lt-ltb, le-ltb}
use Rattle.std.proofs.lemmas.Slice.Eq.{bytes_eq-Decides}
use Rattle.ns_code.specs.declared.program.CodeProgram.{CodeProgram}
use Rattle.ns_code.specs.declared.own.Own.{Own}
use Rattle.ns_code.specs.declared.own.Own.TheVariants.{PackageUsing, MainArgs, DoesNotUnderstand}
use Rattle.ns_code.specs.Own.{own_text, own_place, own_texts}
use Rattle.ns_code.specs.Selector.{own_text_at, selector_text, text_arity, selector_arity, has_name, is_selector_number, name_number, own_number}
use Rattle.ns_moves.specs.lemmas.OwnSelector.{Named, named}

-- the text of an own selector at its place, which is one of three
own_there : (own : Own) → own_text_at (own_place own) ≡ own_text own
own_there PackageUsing = refl
own_there MainArgs = refl
own_there DoesNotUnderstand = refl

own_inside : (own : Own) → nat_lt (own_place own) (length own_texts) ≡ true
own_inside PackageUsing = refl
own_inside MainArgs = refl
own_inside DoesNotUnderstand = refl

-- a number that is behind all names names none of that text
unnamed : (text : List ℕ) (names : List (List ℕ)) (first other : ℕ) → first + length names ≤ other →
    name_number names first text other ≡ other
    → list_any (bytes_eq text) names ≡ false
unnamed text [] first other far e = refl
unnamed text (name ∷ names) first other far e = tested (bytes_eq name text) refl e (bytes_eq text name) refl
    (λ f. let one : length (name ∷ names) ≡ length names + 1 = omega arith in unnamed text names (first + 1) other (omega (arith, far, one)) f)
  where
    tested : (b : Bool) → bytes_eq name text ≡ b → cond b first (name_number names (first + 1) text other) ≡ other → (c : Bool) → bytes_eq text name ≡ c
        → (name_number names (first + 1) text other ≡ other → list_any (bytes_eq text) names ≡ false) → (bytes_eq text name || list_any (bytes_eq text) names) ≡ false
    tested true t e c u further = let one : length (name ∷ names) ≡ length names + 1 = omega arith in absurd (omega (arith, far, e, one))
    tested false t e true u further =
        let same : bytes_eq name text ≡ true = (bytes_eq-Decides name text).1 (sym ((bytes_eq-Decides text name).0 u)) in
        let both : false ≡ true = sym t ∙ same in absurd (cc)
    tested false t e false u further = ap (λ c. c || list_any (bytes_eq text) names) u ∙ further e

module _ (code : CodeProgram) (own : Own) where
  -- where its text is that of a name
  named_text : (number : ℕ) → Named code.names 0 number (own_text own) → (nat_lt number (length code.names) ≡ true) × (selector_text code number ≡ own_text own)
  named_text number n =
      let same : n.place ≡ number = let is = n.number_is in omega (arith, is) in
      let inside : nat_lt number (length code.names) ≡ true = let i = n.inside in let is = n.number_is in lt-ltb number (length code.names) (omega (arith, i, is)) in (
        inside,
        ap (λ c. cond c (slice_index_or code.names number []) (own_text_at (number - length code.names))) inside
            ∙ (ap (λ k. slice_index_or code.names k []) (sym same) ∙ n.text_is),
      )

  -- where it stands behind the names
  own_behind : (number : ℕ) → number ≡ length code.names + own_place own → (number - length code.names ≡ own_place own) × (nat_lt number (length code.names) ≡ false)
  own_behind number is = (omega (arith, is), le-ltb number (length code.names) (omega (arith, is)))

  behind_text : (number : ℕ) → number ≡ length code.names + own_place own → selector_text code number ≡ own_text own
  behind_text number is =
      let past = own_behind number is in
      ap (λ c. cond c (slice_index_or code.names number []) (own_text_at (number - length code.names))) past.1 ∙ (ap own_text_at past.0 ∙ own_there own)

  own_text_is : selector_text code (own_number code own) ≡ own_text own
  own_text_is = found (own_number code own) (named code.names 0 (own_text own) (length code.names + own_place own))
    where
      found : (number : ℕ) → Named code.names 0 number (own_text own) ⊎ (number ≡ length code.names + own_place own) → selector_text code number ≡ own_text own
      found number (inl n) = (named_text number n).1
      found number (inr is) = behind_text number is

  -- A selector that the machine sends by itself takes the arguments of its text.
  pub own_arity : selector_arity code (own_number code own) ≡ text_arity (own_text own)
  own_arity = ap text_arity own_text_is

  or_first : (b c : Bool) → b ≡ true → (b || c) ≡ true
  or_first true c e = refl
  or_first false c e = absurd (cc)

  or_second : (b c : Bool) → c ≡ true → (b || c) ≡ true
  or_second true c e = refl
  or_second false c e = e

  both_true : (b c : Bool) → b ≡ true → c ≡ false → (b && not c) ≡ true
  both_true true false e f = refl
  both_true true true e f = absurd (cc)
  both_true false c e f = absurd (cc)

  -- A selector that the machine sends by itself is a selector.
  pub own_is : is_selector_number code (own_number code own) ≡ true
  own_is = found (own_number code own) refl (named code.names 0 (own_text own) (length code.names + own_place own))
    where
      found : (number : ℕ) → own_number code own ≡ number → Named code.names 0 number (own_text own) ⊎ (number ≡ length code.names + own_place own)
          → is_selector_number code number ≡ true
      found number e (inl n) = or_first (nat_lt number (length code.names)) _ (named_text number n).0
      found number e (inr is) =
          let past = own_behind number is in
          let text : own_text_at (number - length code.names) ≡ own_text own = ap own_text_at past.0 ∙ own_there own in
          let none : has_name code (own_text own) ≡ false =
          unnamed (own_text own) code.names 0 (length code.names + own_place own) (omega arith) (e ∙ is) in
          or_second (nat_lt number (length code.names)) _
          (both_true (nat_lt (number - length code.names) (length own_texts)) (has_name code (own_text_at (number - length code.names)))
          (ap (λ k. nat_lt k (length own_texts)) past.0 ∙ own_inside own) (ap (has_name code) text ∙ none))
