-- Lists that sit in a longer list from a number on.
use Rattle.std.proofs.Common.{◌≡◌, ℕ, zero, suc, ◌+◌, List, [], ◌∷◌, ◌++◌, length, refl, subst, arith}
use Rattle.std.specs.Prelude.{Some, None, slice_get}

-- A list sits in another from that number on.
abbrev pub Sits : {A : Type 0} → List A → ℕ → List A → Type 0
Sits {A} all n items = (k : ℕ) (item : A) → slice_get items k ≡ Some item → slice_get all (k + n) ≡ Some item

get_left : {A : Type 0} → (a b : List A) (k : ℕ) (item : A) → slice_get a k ≡ Some item → slice_get (a ++ b) k ≡ Some item
get_left [] b k item e = absurd (let f : None ≡ Some item = e in cc)
get_left (first ∷ a) b zero item e = e
get_left (first ∷ a) b (suc k) item e = get_left a b k item e

get_right : {A : Type 0} → (a b : List A) (k : ℕ) (item : A) → slice_get b k ≡ Some item → slice_get (a ++ b) (length a + k) ≡ Some item
get_right [] b k item e = let z : k ≡ 0 + k = omega arith in subst (λ n. slice_get b n ≡ Some item) z e
get_right (first ∷ a) b k item e =
    let z : suc (length a + k) ≡ suc (length a) + k = omega arith in
    subst (λ n. slice_get (first ∷ (a ++ b)) n ≡ Some item) z (get_right a b k item e)

-- The first part of a list that sits there sits there.
pub sits_left : {A : Type 0} → (all : List A) (n : ℕ) (a b : List A) → Sits all n (a ++ b) → Sits all n a
sits_left all n a b s k item e = s k item (get_left a b k item e)

-- The second part sits behind the first.
pub sits_right : {A : Type 0} → (all : List A) (n count : ℕ) (a b : List A) → length a ≡ count → Sits all n (a ++ b) →
    Sits all (n + count) b
sits_right all n count a b h s k item e =
    let z : length a + k + n ≡ k + (n + count) = omega (h, arith) in
    subst (λ j. slice_get all j ≡ Some item) z (s (length a + k) item (get_right a b k item e))

-- The first item stands at that number.
pub sits_first : {A : Type 0} → (all : List A) (n : ℕ) (item : A) (items : List A) → Sits all n (item ∷ items) → slice_get all n ≡ Some item
sits_first all n item items s = let z : 0 + n ≡ n = omega arith in subst (λ j. slice_get all j ≡ Some item) z (s zero item refl)

-- The others sit behind it.
pub sits_behind : {A : Type 0} → (all : List A) (n : ℕ) (item : A) (items : List A) → Sits all n (item ∷ items) → Sits all (n + 1) items
sits_behind all n item items s k other e =
    let z : suc k + n ≡ k + (n + 1) = omega arith in subst (λ j. slice_get all j ≡ Some other) z (s (suc k) other e)
