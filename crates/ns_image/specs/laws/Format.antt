-- Formats: what is read was written so, and what was written is read again. One law for each way to put formats together.
use Rattle.std.proofs.Common.{◌≡◌, ℕ, ◌+◌, ◌<◌, Bool, true, false, List, [], ◌++◌, length, get_or, take, drop, refl, sym, ap, subst, ◌∙◌, append_assoc, arith, inl, inr}
use Rattle.std.proofs.lemmas.Bool.{cases_lt}
use Rattle.std.proofs.lemmas.List.{append-nil, length-take, get_or-drop, get_or-take, get_or_past}
use Rattle.ns_image.specs.Read.{Outcome, got, truncated, bad, Reader, and_then, ◌>>=◌, given, pair, passed, checked}

abbrev pub IsBytes : List ℕ → Type 0
IsBytes bytes = (i : ℕ) → get_or bytes i 0 < 256

pub IsBytes-drop : (n : ℕ) (bytes : List ℕ) → IsBytes bytes → IsBytes (drop n bytes)
IsBytes-drop n bytes h i = rw get_or-drop (h (n + i))

pub IsBytes-take : (n : ℕ) (bytes : List ℕ) → IsBytes bytes → IsBytes (take n bytes)
IsBytes-take n bytes h i =
    elim (cases_lt i n) [
      | inl lt ↦ rw (get_or-take n bytes i 0 lt) (h i)
      | inr le ↦ rw (get_or_past (take n bytes) i 0 (omega (arith, length-take n bytes))) (omega arith)
    ]

-- A reader whose value is known to be such, which goes over to facts on the value and to its bytes.
pub record Step {C : Type 0} (Known : C → Type 0) (p : Reader C) (Good : C → Type 0) (bytes_of : C → List ℕ) : Type 0 where
  pub takes : (bytes : List ℕ) (c : C) (rest : List ℕ) → IsBytes bytes → p bytes ≡ got c rest → Known c × (bytes ≡ bytes_of c ++ rest) × IsBytes rest × Good c
  pub again : (c : C) (rest : List ℕ) → Known c → Good c → p (bytes_of c ++ rest) ≡ got c rest

abbrev pub Any : {C : Type 0} → C → Type 0
Any c = Unit {0}

abbrev pub Format : {C : Type 0} → Reader C → (C → Type 0) → (C → List ℕ) → Type 0
Format p Good bytes_of = Step Any p Good bytes_of

-- ---- what an outcome was made of

pub bind_got : {A B : Type 0} (o : Outcome A) (f : A → Reader B) (y : B) (rest : List ℕ) → and_then o f ≡ got y rest →
    (a : A) × (mid : List ℕ) × (o ≡ got a mid) × (f a mid ≡ got y rest)
bind_got (got a mid) f y rest e = (a, mid, refl, e)
bind_got truncated f y rest e = absurd cc
bind_got (bad left) f y rest e = absurd cc

pub passed_got : {A : Type 0} (passes : Bool) (a b : A) (left : ℕ) (mid rest : List ℕ) → passed passes a left mid ≡ got b rest →
    (passes ≡ true) × (a ≡ b) × (mid ≡ rest)
passed_got true a b left mid rest e = (refl, cc, cc)
passed_got false a b left mid rest e = absurd cc

-- ---- sequences

-- no field: the value is known
pub done : {C : Type 0} {Known : C → Type 0} (made : C) → ((c : C) → Known c → c ≡ made) → Known made →
    Step Known (given made) (λ _. Unit {0}) (λ _. [])
done {C} {Known} made is_made known = record {
  takes = λ bytes c rest fits e.
      let at : made ≡ c = cc in
      let behind : bytes ≡ rest = cc in
      (subst Known at known, behind, subst IsBytes behind fits, tt);
  again = λ c rest k _. ap (λ (x : C). got x rest) (sym (is_made c k));
}

-- a field of the value, and then the others, where that field is good
pub good_field :
    {A C : Type 0} {Known : C → Type 0} {p : Reader A} {k : A → Reader C} {Good : A → Type 0} {bytes_of : A → List ℕ} {More : A → C → Type 0} {more_of : A → C → List ℕ} (part : C → A)
    → Format p Good bytes_of
    → ((a : A) → Good a → Step (λ c. Known c × (part c ≡ a)) (k a) (More a) (more_of a))
    → Step Known (p >>= k) (λ c. Good (part c) × More (part c) c) (λ c. bytes_of (part c) ++ more_of (part c) c)
good_field {A} {C} {Known} {p} {k} {Good} {bytes_of} {More} {more_of} part first others = record {
  takes = λ bytes c rest fits e.
      let b = bind_got (p bytes) k c rest e in
      let t = first.takes bytes b.0 b.1 fits b.2 in
      let s = (others b.0 t.3).takes b.1 c rest t.2 b.3 in
      let whole : bytes ≡ (bytes_of b.0 ++ more_of b.0 c) ++ rest = t.1 ∙ ap (λ (m : List ℕ). bytes_of b.0 ++ m) s.1 ∙ sym (append_assoc (bytes_of b.0) (more_of b.0 c) rest) in
      subst (λ (a : A). Known c × (bytes ≡ (bytes_of a ++ more_of a c) ++ rest) × IsBytes rest × (Good a × More a c)) (sym s.0.1) (s.0.0, whole, s.2, (t.3, s.3));
  again = λ c rest known good.
      let a : A = part c in
      ap (p >>= k) (append_assoc (bytes_of a) (more_of a c) rest) ∙ rw (first.again a (more_of a c ++ rest) tt good.0) ((others a good.0).again c rest (known, refl) good.1);
}

-- a field of the value, and then the others
pub field :
    {A C : Type 0} {Known : C → Type 0} {p : Reader A} {k : A → Reader C} {Good : A → Type 0} {bytes_of : A → List ℕ} {More : A → C → Type 0} {more_of : A → C → List ℕ} (part : C → A)
    → Format p Good bytes_of
    → ((a : A) → Step (λ c. Known c × (part c ≡ a)) (k a) (More a) (more_of a))
    → Step Known (p >>= k) (λ c. Good (part c) × More (part c) c) (λ c. bytes_of (part c) ++ more_of (part c) c)
field part first others = good_field part first (λ a good. others a)

-- The same reader, with what is known and what is good said otherwise.
pub refit :
    {C : Type 0} {Known Known' : C → Type 0} {p : Reader C} {Good Good' : C → Type 0} {bytes_of : C → List ℕ}
    → Step Known p Good bytes_of → ((c : C) → Known c → Good c → Known' c × Good' c) → ((c : C) → Known' c → Good' c → Known c × Good c) → Step Known' p Good' bytes_of
refit step forth back = record {
  takes = λ bytes c rest fits e.
      let t = step.takes bytes c rest fits e in
      let f = forth c t.0 t.3 in
      (f.0, t.1, t.2, f.1);
  again = λ c rest k g.
      let b = back c k g in
      step.again c rest b.0 b.1;
}

-- The same reader, with the bytes said otherwise.
pub rewrite : {C : Type 0} {Known : C → Type 0} {p : Reader C} {Good : C → Type 0} {bytes_of bytes_of' : C → List ℕ} →
    Step Known p Good bytes_of → ((c : C) → bytes_of c ≡ bytes_of' c) → Step Known p Good bytes_of'
rewrite {C} {Known} {p} step same = record {
  takes = λ bytes c rest fits e.
      let t = step.takes bytes c rest fits e in
      (t.0, t.1 ∙ ap (λ (m : List ℕ). m ++ rest) (same c), t.2, t.3);
  again = λ c rest k g. ap (λ (m : List ℕ). p (m ++ rest)) (sym (same c)) ∙ step.again c rest k g;
}

-- another value for what is read
pub mapped :
    {A B : Type 0} {p : Reader A} {Good : A → Type 0} {bytes_of : A → List ℕ} (to : A → B) (from : B → A) (Good' : B → Type 0) → Format p Good bytes_of
    → ((a : A) → Good a → (from (to a) ≡ a) × Good' (to a)) → ((b : B) → Good' b → (to (from b) ≡ b) × Good (from b)) → Format (p >>= λ a. given (to a)) Good' (λ b. bytes_of (from b))
mapped {A} {B} {p} {Good} {bytes_of} to from Good' format forth back = record {
  takes = λ bytes b rest fits e.
      let g = bind_got (p bytes) (λ a. given (to a)) b rest e in
      let t = format.takes bytes g.0 g.1 fits g.2 in
      let f = forth g.0 t.3 in
      let made : to g.0 ≡ b = cc (g.3) in
      let rest-is : g.1 ≡ rest = cc (g.3) in
      let back-is : g.0 ≡ from b = sym f.0 ∙ ap from made in
      (tt, t.1 ∙ ap (λ (x : List ℕ). x ++ g.1) (ap bytes_of back-is) ∙ ap (λ (x : List ℕ). bytes_of (from b) ++ x) rest-is, subst IsBytes rest-is t.2, subst Good' made f.1);
  again = λ b rest known good.
      let k = back b good in
      rw (format.again (from b) rest tt k.1) (ap (λ (x : B). got x rest) k.0);
}

-- a field, and then another
pub pair_format :
    {A B : Type 0} {p : Reader A} {q : Reader B} {Good : A → Type 0} {Good' : B → Type 0} {bytes_of : A → List ℕ} {bytes_of' : B → List ℕ} →
    Format p Good bytes_of → Format q Good' bytes_of' → Format (pair p q) (λ x. Good x.0 × Good' x.1) (λ x. bytes_of x.0 ++ bytes_of' x.1)
pair_format {A} {B} {p} {q} {Good} {Good'} {bytes_of} {bytes_of'} first second =
    let both : Step Any (pair p q) (λ x. Good x.0 × (Good' x.1 × Unit {0})) (λ x. bytes_of x.0 ++ (bytes_of' x.1 ++ [])) =
    field (λ x. x.0) first (λ a. field (λ x. x.1) second (λ b. done (a, b) (λ x k. rw (← k.1, ← k.0.1) refl) ((tt, refl), refl))) in
    rewrite (refit both (λ x k g. (tt, (g.0, g.1.0))) (λ x k g. (tt, (g.0, (g.1, tt))))) (λ x. ap (λ (m : List ℕ). bytes_of x.0 ++ m) (append-nil (bytes_of' x.1)))

-- a field that is tested
pub checks : {A : Type 0} {p : Reader A} {Good : A → Type 0} {bytes_of : A → List ℕ} (test : A → Bool) → Format p Good bytes_of →
    Format (checked test p) (λ a. Good a × (test a ≡ true)) bytes_of
checks {A} {p} {Good} {bytes_of} test format = record {
  takes = λ bytes a rest fits e.
      let b = bind_got (p bytes) (λ a rest. passed (test a) a (length bytes) rest) a rest e in
      let g = passed_got (test b.0) b.0 a (length bytes) b.1 rest b.3 in
      let t = format.takes bytes b.0 b.1 fits b.2 in
      let tested : (bytes ≡ bytes_of b.0 ++ b.1) × IsBytes b.1 × (Good b.0 × (test b.0 ≡ true)) = (t.1, t.2, (t.3, g.0)) in
      let at : (bytes ≡ bytes_of a ++ b.1) × IsBytes b.1 × (Good a × (test a ≡ true)) = subst (λ (x : A). (bytes ≡ bytes_of x ++ b.1) × IsBytes b.1 × (Good x × (test x ≡ true))) g.1 tested in
      let whole : (bytes ≡ bytes_of a ++ rest) × IsBytes rest × (Good a × (test a ≡ true)) = subst (λ (r : List ℕ). (bytes ≡ bytes_of a ++ r) × IsBytes r × (Good a × (test a ≡ true))) g.2 at in
      (tt, whole.0, whole.1, whole.2);
  again = λ a rest known good. rw (format.again a rest tt good.0) (rw good.1 refl);
}
