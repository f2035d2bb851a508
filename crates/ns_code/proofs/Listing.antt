-- What is listed under a name is found under it.
use Rattle.std.proofs.Common.{◌≡◌, ◌≢◌, ℕ, zero, suc, ◌+◌, ◌<◌, ◌≤◌, List, [], ◌∷◌, length, take, drop, get_or, refl, ap, sym, ◌∙◌, arith, Bool, true, false, ◌||◌, ◌&&◌, Some, slice_get, nat_eq}
use Rattle.std.specs.Prelude.{nat_lt, nat_le}
use Rattle.std.specs.List.{list_any}
use Rattle.std.specs.List.Sorted.{IsPermutation, IsPartitionPoint}
use Rattle.std.proofs.lemmas.Bool.{ltb-true, leb-false, eqb-true, eq-eqb}
use Rattle.std.proofs.lemmas.List.{take-append-drop, get_or-take, get_or-drop, length-take, length-drop}
use Rattle.std.proofs.lemmas.List.Folds.{list_any-append, list_any_none}
use Rattle.std.proofs.lemmas.List.Sorted.{list_any-IsPermutation}
use Rattle.ns_code.specs.declared.class.ClassCode.{ClassCode}
use Rattle.ns_code.specs.declared.listed.Listed.{Listed}
use Rattle.ns_code.specs.Listed.{is_among, is_listed, is_declared, under_names, all_listed, ListsAll}

differ : (a b : ℕ) → a ≢ b → nat_eq a b ≡ false
differ a b apart = by (nat_eq a b) refl
  where
    by : (c : Bool) → nat_eq a b ≡ c → nat_eq a b ≡ false
    by true is = absurd (apart (eqb-true a b is))
    by false is = is

or_right : (b c : Bool) → c ≡ true → (b || c) ≡ true
or_right true c e = refl
or_right false c e = e

or_left : (b c : Bool) → b ≡ true → (b || c) ≡ true
or_left true c e = refl
or_left false c e = absurd (cc)

or_false : (b : Bool) → (b || false) ≡ b
or_false true = refl
or_false false = refl

weaker : (p q : Listed → Bool) → ((one : Listed) → p one ≡ true → q one ≡ true) → (listed : List Listed) →
    list_any p listed ≡ true → list_any q listed ≡ true
weaker p q more [] e = e
weaker p q more (one ∷ listed) e = by (weaker p q more listed) (p one) refl e
  where
    by : (list_any p listed ≡ true → list_any q listed ≡ true) → (b : Bool) → p one ≡ b → (b || list_any p listed) ≡ true → (q one || list_any q listed) ≡ true
    by rest true is e = or_left (q one) (list_any q listed) (more one is)
    by rest false is e = or_right (q one) (list_any q listed) (rest e)

-- ---- a search

-- the test whether an entry has that name and that declaration
abbrev is_entry : ℕ → ℕ → Listed → Bool
is_entry name declaration one = nat_eq name one.name && nat_eq declaration one.declaration

other_name : (name declaration : ℕ) (one : Listed) → name ≢ one.name → is_entry name declaration one ≡ false
other_name name declaration one apart = rw (differ name one.name apart) refl

is_declaration : (name declaration : ℕ) (one : Listed) → is_entry name declaration one ≡ true → nat_eq declaration one.declaration ≡ true
is_declaration name declaration one = by (nat_eq name one.name)
  where
    by : (b : Bool) → (b && nat_eq declaration one.declaration) ≡ true → nat_eq declaration one.declaration ≡ true
    by true e = e
    by false e = absurd (cc)

not_above : (name : ℕ) (one : Listed) → name ≡ one.name → nat_le one.name name ≡ false → ⊥
not_above name one same above = omega (arith, same, leb-false one.name name above)

-- those before a place fail a test, so what passes it stands behind
behind : (p : Listed → Bool) (listed : List Listed) (n : ℕ) → ((k : ℕ) (d : Listed) → k < n → k < length listed → p (get_or listed k d) ≡ false) →
    list_any p listed ≡ list_any p (drop n listed)
behind p listed n fail =
    ap (list_any p) (sym (take-append-drop n listed))
    ∙ (list_any-append p (take n listed) (drop n listed)
    ∙ ap (λ b. b || list_any p (drop n listed))
    (list_any_none p (take n listed)
    (λ k d lt.
    let within : k < n = omega (arith, lt, length-take n listed) in
    ap p (get_or-take n listed k d within) ∙ fail k d within (omega (arith, lt, length-take n listed)))))

-- those from a place on fail it, so what passes it stands before
before : (p : Listed → Bool) (listed : List Listed) (n : ℕ) → ((k : ℕ) (d : Listed) → n ≤ k → k < length listed → p (get_or listed k d) ≡ false) →
    list_any p listed ≡ list_any p (take n listed)
before p listed n fail =
    ap (list_any p) (sym (take-append-drop n listed))
    ∙ (list_any-append p (take n listed) (drop n listed)
    ∙ (ap (λ b. list_any p (take n listed) || b)
    (list_any_none p (drop n listed)
    (λ k d lt.
    ap p (get_or-drop n listed k d) ∙ fail (n + k) d (omega arith) (omega (arith, lt, length-drop n listed))))
    ∙ or_false (list_any p (take n listed))))

pub found_under : (name : ℕ) (listed behind_first under : List Listed) (first past : ℕ) →
    IsPartitionPoint (λ (one : Listed). nat_lt one.name name ≡ true) (λ (one : Listed). nat_lt one.name name ≡ false) listed first →
    behind_first ≡ drop first listed →
    IsPartitionPoint (λ (one : Listed). nat_le one.name name ≡ true) (λ (one : Listed). nat_le one.name name ≡ false) behind_first past →
    under ≡ take past behind_first →
    (declaration : ℕ) → is_listed name declaration listed ≡ true → is_declared declaration under ≡ true
found_under name listed behind_first under first past low cut high cut_again declaration e =
    ap (is_declared declaration) cut_again
    ∙ weaker (is_entry name declaration) (λ one. nat_eq declaration one.declaration) (is_declaration name declaration) (take past behind_first)
    (sym (before (is_entry name declaration) behind_first past
    (λ k d le lt. other_name name declaration (get_or behind_first k d) (λ same. not_above name (get_or behind_first k d) same (high.1 k d le lt))))
    ∙ (ap (list_any (is_entry name declaration)) cut
    ∙ (sym (behind (is_entry name declaration) listed first
    (λ k d lt within. other_name name declaration (get_or listed k d)
    (λ same. omega (arith, same, ltb-true (get_or listed k d).name name (low.0 k d (omega arith) lt)))))
    ∙ e)))

-- ---- what is listed

among_listed : (name declaration : ℕ) (names : List ℕ) → is_among name names ≡ true → is_listed name declaration (under_names declaration names) ≡ true
among_listed name declaration [] e = e
among_listed name declaration (one ∷ names) e =
    rw (eq-eqb declaration declaration refl) (by (among_listed name declaration names) (nat_eq name one) e)
  where
    by : (is_among name names ≡ true → is_listed name declaration (under_names declaration names) ≡ true) → (b : Bool) → (b || is_among name names) ≡ true →
        ((b && true) || is_listed name declaration (under_names declaration names)) ≡ true
    by rest true e = refl
    by rest false e = rest e

listed_from : (names : ClassCode → List ℕ) (start number name : ℕ) (classes : List ClassCode) (class : ClassCode) → slice_get classes number ≡ Some class →
    is_among name (names class) ≡ true → is_listed name (start + number) (all_listed names start classes) ≡ true
listed_from names start number name [] class is e = absurd (cc)
listed_from names start zero name (first ∷ classes) class is e =
    let same : first ≡ class = cc in
    list_any-append (is_entry name (start + 0)) (under_names start (names first)) (all_listed names (start + 1) classes)
    ∙ or_left (is_listed name (start + 0) (under_names start (names first))) (is_listed name (start + 0) (all_listed names (start + 1) classes))
    (ap (λ n. is_listed name n (under_names start (names first))) (omega arith) ∙ among_listed name start (names first) (ap (λ (c : ClassCode). is_among name (names c)) same ∙ e))
listed_from names start (suc number) name (first ∷ classes) class is e =
    list_any-append (is_entry name (start + suc number)) (under_names start (names first)) (all_listed names (start + 1) classes)
    ∙ or_right (is_listed name (start + suc number) (under_names start (names first))) (is_listed name (start + suc number) (all_listed names (start + 1) classes))
    (ap (λ n. is_listed name n (all_listed names (start + 1) classes)) (omega arith) ∙ listed_from names (start + 1) number name classes class is e)

pub lists_all : (names : ClassCode → List ℕ) (classes : List ClassCode) (listed index : List Listed) → listed ≡ all_listed names 0 classes →
    IsPermutation listed index → ListsAll names classes index
lists_all names classes listed index all same = λ number name class is e.
    sym (list_any-IsPermutation (is_entry name number) listed index same)
    ∙ (ap (is_listed name number) all
    ∙ (ap (λ n. is_listed name n (all_listed names 0 classes)) (omega arith) ∙ listed_from names 0 number name classes class is e))
