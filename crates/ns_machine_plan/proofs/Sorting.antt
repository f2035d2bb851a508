-- Members in the order of their numbers: the first under each number is the one that was first before, and a search finds it.
use Rattle.std.proofs.Common.{◌≡◌, ◌≢◌, ◌⊎◌, inl, inr, ℕ, zero, suc, ◌<◌, ◌≤◌, List, [], ◌∷◌, Option, Some, None, Bool, true, false, not, ◌&&◌, cond, refl, sym, ap, ◌∙◌, length, filter, slice_get, get_or, nat_cmp, Bor, arith}
use Rattle.std.specs.Prelude.{nat_eq, nat_lt}
use Rattle.std.specs.Fn.{ComputesKey, Called, Mut}
use Rattle.std.specs.Ordering.{is_lt}
use Rattle.std.specs.declared.cmp.Ordering.TheVariants.{Less, Equal, Greater}
use Rattle.std.specs.List.Sorted.{IsNonDecreasingBy, IsStableByKey, IsPartitionPoint, ties}
use Rattle.std.proofs.lemmas.Fn.{always_returns_same}
use Rattle.std.proofs.lemmas.Bool.{cases_lt, lt-ltb, le-ltb, ltb-true, ltb-false, eqb-true, eq-eqb}
use Rattle.ns_machine_plan.specs.declared.index.Entry.{Entry}
use Rattle.ns_machine_plan.specs.declared.step.Member.{Member}
use Rattle.ns_machine_plan.specs.declared.step.Member.TheVariants.{Absent}
use Rattle.ns_machine_plan.specs.Members.{first_under, under}

differ : (a b : ℕ) → a ≢ b → nat_eq a b ≡ false
differ a b apart = by (nat_eq a b) refl
  where
    by : (c : Bool) → nat_eq a b ≡ c → nat_eq a b ≡ false
    by true is = absurd (apart (eqb-true a b is))
    by false is = is

-- ---- a stable sort

below : (a b : ℕ) → is_lt (nat_cmp a b) ≡ nat_lt a b
below a b = by (nat_lt a b) (nat_eq a b)
  where
    by : (less same : Bool) → is_lt (cond less Less (cond same Equal Greater)) ≡ less
    by true same = refl
    by false true = refl
    by false false = refl

tie_is : (a b : ℕ) → (not (nat_lt a b) && not (nat_lt b a)) ≡ nat_eq a b
tie_is a b = by (cases_lt a b) (cases_lt b a)
  where
    by : (a < b) ⊎ (b ≤ a) → (b < a) ⊎ (a ≤ b) → (not (nat_lt a b) && not (nat_lt b a)) ≡ nat_eq a b
    by (inl lt) other = rw (lt-ltb a b lt, differ a b (λ same. omega (arith, lt, same))) refl
    by (inr le) (inl lt) = rw (le-ltb a b le, lt-ltb b a lt, differ a b (λ same. omega (arith, lt, same))) refl
    by (inr le) (inr ge) = rw (le-ltb a b le, le-ltb b a ge, eq-eqb a b (omega (arith, le, ge))) refl

abbrev number_of : Entry → ℕ
number_of entry = entry.number

abbrev by_number : Entry → Entry → Bool
by_number one other = is_lt (nat_cmp one.number other.number)

ties_are : (number : ℕ) (entry : Entry) → ties by_number (under number Absent) entry ≡ nat_eq number entry.number
ties_are number entry = rw (below number entry.number, below entry.number number) (tie_is number entry.number)

head_member : List Entry → Option Member
head_member [] = None
head_member (entry ∷ entries) = Some entry.member

first_is : (number : ℕ) (test : Entry → Bool) → ((entry : Entry) → test entry ≡ nat_eq number entry.number) → (entries : List Entry) →
    first_under number entries ≡ head_member (filter test entries)
unfolding head_member
first_is number test same [] = refl
first_is number test same (entry ∷ entries) = by (nat_eq number entry.number) refl (first_is number test same entries)
  where
    by : (b : Bool) → nat_eq number entry.number ≡ b → first_under number entries ≡ head_member (filter test entries) →
        first_under number (entry ∷ entries) ≡ head_member (filter test (entry ∷ entries))
    by true is rest = rw (is, same entry ∙ is) refl
    by false is rest = rw (is, same entry ∙ is) rest

-- what a sort by the numbers ensures
stable_by : {F : Type 0} {g : Mut F (Bor Entry × Unit {0}) ℕ} {f : F} (entries sorted : List Entry) →
    ((key : Entry → ℕ) → ComputesKey g key f → IsStableByKey key nat_cmp entries sorted) →
    ((a : Bor Entry × Unit {0}) (r : ℕ) (f' : F) → Called g f a r f' → (r ≡ number_of a.0.now) × (f' ≡ f)) → IsStableByKey number_of nat_cmp entries sorted
stable_by {g = g} {f = f} entries sorted stable told = stable number_of (always_returns_same g (λ a r. r ≡ number_of a.0.now) f told)

-- the first under each number stays the first
stays : (entries sorted : List Entry) → IsStableByKey number_of nat_cmp entries sorted → (number : ℕ) →
    first_under number sorted ≡ first_under number entries
stays entries sorted stable number =
    first_is number (ties by_number (under number Absent)) (ties_are number) sorted
    ∙ (ap head_member (stable (under number Absent)) ∙ sym (first_is number (ties by_number (under number Absent)) (ties_are number) entries))

pub first_stays : {F : Type 0} {g : Mut F (Bor Entry × Unit {0}) ℕ} {f : F} (entries sorted : List Entry) →
    ((key : Entry → ℕ) → ComputesKey g key f → IsStableByKey key nat_cmp entries sorted) →
    ((a : Bor Entry × Unit {0}) (r : ℕ) (f' : F) → Called g f a r f' → (r ≡ number_of a.0.now) × (f' ≡ f)) → (number : ℕ) →
    first_under number sorted ≡ first_under number entries
first_stays entries sorted stable told = stays entries sorted (stable_by entries sorted stable told)

-- ---- a search

-- what stands under a number in one place
abbrev found_there : ℕ → Option Entry → Option Member
found_there number None = None
found_there number (Some entry) = cond (nat_eq number entry.number) (Some entry.member) None

none_above : (number : ℕ) (entries : List Entry) → ((k : ℕ) (d : Entry) → k < length entries → number < (get_or entries k d).number) →
    first_under number entries ≡ None
none_above number [] above = refl
none_above number (entry ∷ entries) above =
    let more : number < entry.number = above 0 entry (omega arith) in
    rw (differ number entry.number (λ same. omega (arith, more, same))) (none_above number entries (λ k d lt. above (suc k) d (omega (arith, lt))))

first_from : (number place : ℕ) (entries : List Entry) →
    ((k : ℕ) (d : Entry) → k < place → k < length entries → (get_or entries k d).number < number) →
    ((k : ℕ) (d : Entry) → place ≤ k → k < length entries → number ≤ (get_or entries k d).number) →
    IsNonDecreasingBy number_of entries → first_under number entries ≡ found_there number (slice_get entries place)
first_from number place [] low high up = refl
first_from number zero (entry ∷ entries) low high up = by (nat_eq number entry.number) refl
  where
    by : (b : Bool) → nat_eq number entry.number ≡ b → first_under number (entry ∷ entries) ≡ found_there number (Some entry)
    by true is = rw is refl
    by false is = rw is (none_above number entries later)
      where
        later : (k : ℕ) (d : Entry) → k < length entries → number < (get_or entries k d).number
        later k d lt = by_lt (cases_lt number (get_or entries k d).number)
          where
            by_lt : (number < (get_or entries k d).number) ⊎ ((get_or entries k d).number ≤ number) → number < (get_or entries k d).number
            by_lt (inl less) = less
            by_lt (inr le) =
                let first : number ≤ entry.number = high 0 entry (omega arith) (omega arith) in
                let rises : entry.number ≤ (get_or entries k d).number = up 0 (suc k) d (omega arith) (omega (arith, lt)) in
                let same : number ≡ entry.number = omega (arith, first, rises, le) in
                absurd (let yes = eq-eqb number entry.number same in cc)
first_from number (suc place) (entry ∷ entries) low high up =
    let less : entry.number < number = low 0 entry (omega arith) (omega arith) in
    rw (differ number entry.number (λ same. omega (arith, less, same)))
    (first_from number place entries
    (λ k d lt within. low (suc k) d (omega (arith, lt)) (omega (arith, within)))
    (λ k d le within. high (suc k) d (omega (arith, le)) (omega (arith, within)))
    (λ i j d le within. up (suc i) (suc j) d (omega (arith, le)) (omega (arith, within))))

-- Members under lower numbers stand before that place, and no others.
abbrev pub IsPlaceOf : ℕ → List Entry → ℕ → Type 0
IsPlaceOf number entries place =
    IsPartitionPoint (λ (entry : Entry). nat_lt entry.number number ≡ true) (λ (entry : Entry). nat_lt entry.number number ≡ false) entries place

found_at : (number place : ℕ) (entries : List Entry) → IsPlaceOf number entries place → IsNonDecreasingBy number_of entries →
    first_under number entries ≡ found_there number (slice_get entries place)
found_at number place entries parted up =
    first_from number place entries
    (λ k d lt within. ltb-true (get_or entries k d).number number (parted.0 k d (omega arith) lt))
    (λ k d le within. ltb-false (get_or entries k d).number number (parted.1 k d le within))
    up

-- what stands there is the first under the number, or nothing is
pub found_here : (number place : ℕ) (entries : List Entry) (entry : Entry) → IsPlaceOf number entries place →
    IsNonDecreasingBy number_of entries →
    slice_get entries place ≡ Some entry → entry.number ≡ number → Some entry.member ≡ first_under number entries
found_here number place entries entry parted up is same =
    sym (found_at number place entries parted up ∙ (ap (found_there number) is ∙ ap (λ b. cond b (Some entry.member) None) (eq-eqb number entry.number (sym same))))

pub other_here : (number place : ℕ) (entries : List Entry) (entry : Entry) → IsPlaceOf number entries place →
    IsNonDecreasingBy number_of entries →
    slice_get entries place ≡ Some entry → entry.number ≢ number → None ≡ first_under number entries
other_here number place entries entry parted up is other =
    sym (found_at number place entries parted up ∙ (ap (found_there number) is ∙ ap (λ b. cond b (Some entry.member) None) (differ number entry.number (λ same. other (sym same)))))

pub none_here : (number place : ℕ) (entries : List Entry) → IsPlaceOf number entries place → IsNonDecreasingBy number_of entries →
    slice_get entries place ≡ None → None ≡ first_under number entries
none_here number place entries parted up is = sym (found_at number place entries parted up ∙ ap (found_there number) is)
