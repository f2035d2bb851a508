-- A table of what stands first under numbers.
use Rattle.std.proofs.Common.{◌≡◌, ◌⊎◌, inl, inr, ◌∙◌, refl, sym, subst, ap, ℕ, zero, suc, Bool, true, false, List, [], ◌∷◌, Option, Some, None, nat_eq, if◌then◌else◌, fold, replicate, slice_get, arith}
use Rattle.std.proofs.lemmas.Bool.Decides.{nat_tests}
use Rattle.ns_image_members.specs.Under.{first_under, put_where, put_under, IsTableOf}

-- what stands there already, or else the other
abbrev or_first : {A : Type 0} → Option A → Option A → Option A
or_first (Some y) other = Some y
or_first None other = other

-- the same at a place of a table, where there is such a place
abbrev over : {A : Type 0} → Option (Option A) → Option A → Option (Option A)
over None other = None
over (Some found) other = Some (or_first found other)

abbrev when : {A : Type 0} → Bool → A → Option A
when true x = Some x
when false x = None

or_none : {A : Type 0} (found : Option A) → or_first found None ≡ found
or_none None = refl
or_none (Some x) = refl

over_none : {A : Type 0} (found : Option (Option A)) → over found None ≡ found
over_none None = refl
over_none (Some found) = ap Some (or_none found)

-- ---- one value

put_at_first : {A : Type 0} (o : Option A) (table : List (Option A)) (k : ℕ) (v : A) (found : Option (Option A)) →
    slice_get (put_where (o ∷ table) (suc k, v) found) zero ≡ Some o
put_at_first o table k v None = refl
put_at_first o table k v (Some None) = refl
put_at_first o table k v (Some (Some y)) = refl

put_behind : {A : Type 0} (o : Option A) (table : List (Option A)) (k : ℕ) (v : A) (n : ℕ) (found : Option (Option A)) →
    slice_get (put_where (o ∷ table) (suc k, v) found) (suc n) ≡ slice_get (put_where table (k, v) found) n
put_behind o table k v n None = refl
put_behind o table k v n (Some None) = refl
put_behind o table k v n (Some (Some y)) = refl

first_behind : {A : Type 0} (o : Option A) (table : List (Option A)) (v : A) (n : ℕ) → slice_get (put_where (o ∷ table) (zero, v) (Some o)) (suc n) ≡ slice_get table n
first_behind None table v n = refl
first_behind (Some y) table v n = refl

put_first : {A : Type 0} (o : Option A) (table : List (Option A)) (v : A) → slice_get (put_where (o ∷ table) (zero, v) (Some o)) zero ≡ Some (or_first o (Some v))
put_first None table v = refl
put_first (Some y) table v = refl

not_zero : (n : ℕ) → nat_eq zero (suc n) ≡ false
not_zero n = grind (arith, nat_tests)

not_suc : (n : ℕ) → nat_eq (suc n) zero ≡ false
not_suc n = grind (arith, nat_tests)

both_suc : (k n : ℕ) → nat_eq (suc k) (suc n) ≡ nat_eq k n
both_suc k n = grind (arith, nat_tests)

put_at : {A : Type 0} (table : List (Option A)) (k : ℕ) (v : A) (n : ℕ) →
    slice_get (put_where table (k, v) (slice_get table k)) n ≡ over (slice_get table n) (when (nat_eq k n) v)
put_at [] k v n = refl
put_at (o ∷ table) zero v zero = put_first o table v
put_at (o ∷ table) zero v (suc n) = rw (not_zero n) (first_behind o table v n ∙ sym (over_none (slice_get table n)))
put_at (o ∷ table) (suc k) v zero = rw (not_suc k) (put_at_first o table k v (slice_get table k) ∙ sym (over_none (Some o)))
put_at (o ∷ table) (suc k) v (suc n) = rw (both_suc k n) (put_behind o table k v n (slice_get table k) ∙ put_at table k v n)

-- ---- all of them

over_when : {A : Type 0} (found : Option (Option A)) (b : Bool) (v : A) (other : Option A) → over (over found (when b v)) other ≡ over found (if b then Some v else other)
over_when None b v other = refl
over_when (Some None) true v other = refl
over_when (Some None) false v other = refl
over_when (Some (Some y)) true v other = refl
over_when (Some (Some y)) false v other = refl

put_all : {A : Type 0} (table : List (Option A)) (entries : List (ℕ × A)) (n : ℕ) →
    slice_get (fold put_under table entries) n ≡ over (slice_get table n) (first_under entries n)
put_all table [] n = sym (over_none (slice_get table n))
put_all table (x ∷ entries) n =
    put_all (put_under table x) entries n
    ∙ (ap (λ found. over found (first_under entries n)) (put_at table x.0 x.1 n)
    ∙ over_when (slice_get table n) (nat_eq x.0 n) x.1 (first_under entries n))

nothing_there : {A : Type 0} (empty : Option A) (m n : ℕ) → (slice_get (replicate m empty) n ≡ None) ⊎ (slice_get (replicate m empty) n ≡ Some empty)
nothing_there empty zero n = inl refl
nothing_there empty (suc m) zero = inr refl
nothing_there empty (suc m) (suc n) = nothing_there empty m n

same_inside : {A : Type 0} (x y : A) → Some x ≡ Some y → x ≡ y
same_inside x y h = cc

first_or_none : {A : Type 0} (there : Option (Option A)) (other found : Option A) → (there ≡ None) ⊎ (there ≡ Some None) → over there other ≡ Some found → found ≡ other
first_or_none there other found (inl e) h = absurd (let k : over None other ≡ Some found = subst (λ t. over t other ≡ Some found) e h in cc)
first_or_none there other found (inr e) h = sym (same_inside other found (subst (λ t. over t other ≡ Some found) e h))

pub table_of_all : {A : Type 0} (entries : List (ℕ × A)) (length : ℕ) → IsTableOf entries (fold put_under (replicate length None) entries)
table_of_all entries length number found h =
    first_or_none (slice_get (replicate length None) number) (first_under entries number) found (nothing_there None length number)
    (sym (put_all (replicate length None) entries number) ∙ h)

pub table_made : {A : Type 0} (entries : List (ℕ × A)) (length : ℕ) (table : List (Option A)) → table ≡ fold put_under (replicate length None) entries → IsTableOf entries table
table_made entries length table e = subst (IsTableOf entries) (sym e) (table_of_all entries length)
