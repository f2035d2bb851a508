-- Readers by their parts: what is read was written so, and what was written is read again. One law each way for a value,
-- for a field before others, and for one of several variants.
use Rattle.std.proofs.Common.{◌≡◌, ℕ, zero, suc, ◌+◌, ◌≤◌, List, [], ◌∷◌, ◌++◌, length, map, Option, Some, None, refl, sym, ap, subst, ◌∙◌, append_assoc, arith, inl, inr}
use Rattle.std.specs.Prelude.{slice_get}
use Rattle.std.specs.Option.{ForSome}
use Rattle.std.proofs.lemmas.Bool.{cases_lt}
use Rattle.std.proofs.lemmas.Option.{slice_get_past}
use Rattle.std.proofs.lemmas.List.{append-nil}
use Rattle.ns_code.specs.Fits.{IsByte}
use Rattle.ns_image.specs.Bytes as b
use Rattle.ns_image.specs.Read.{got, Reader, ◌>>=◌, given, byte}
use Rattle.ns_image.specs.laws.Format.{IsBytes, Format, Any, bind_got}
use Rattle.ns_image.specs.laws.Fields.{byte_format}
use Rattle.ns_snapshot.specs.Bytes as s
use Rattle.ns_snapshot.specs.Fields.{one_of, behind, option}

-- ---- what is read was written so

-- Whatever is read stands in this relation to the bytes that it was read of.
pub record Reads {C : Type 0} (p : Reader C) (Was : C → List ℕ → Type 0) : Type 0 where
  pub takes : (bytes : List ℕ) (c : C) (rest : List ℕ) → IsBytes bytes → p bytes ≡ got c rest → (front : List ℕ) × (bytes ≡ front ++ rest) × IsBytes rest × Was c front

pub reads_given : {C : Type 0} {Was : C → List ℕ → Type 0} (x : C) → Was x [] → Reads (given x) Was
reads_given {C} {Was} x was = record {
  takes = λ bytes c rest fits e.
      let at : x ≡ c = cc (e) in
      let behind : bytes ≡ rest = cc (e) in
      ([], behind, subst IsBytes behind fits, subst (λ (y : C). Was y []) at was);
}

joined : (first mid front rest : List ℕ) → mid ≡ front ++ rest → first ++ mid ≡ (first ++ front) ++ rest
joined first mid front rest e = ap (λ (x : List ℕ). first ++ x) e ∙ sym (append_assoc first front rest)

pub reads_field :
    {A C : Type 0} {p : Reader A} {k : A → Reader C} {Good : A → Type 0} {bytes_of : A → List ℕ} {Was : C → List ℕ → Type 0}
    → Format p Good bytes_of → ((a : A) → Good a → Reads (k a) (λ c front. Was c (bytes_of a ++ front))) → Reads (p >>= k) Was
reads_field {A} {C} {p} {k} {Good} {bytes_of} {Was} first others = record {
  takes = λ bytes c rest fits e.
      let o = bind_got (p bytes) k c rest e in
      let t = first.takes bytes o.0 o.1 fits o.2 in
      let m = (others o.0 t.3).takes o.1 c rest t.2 o.3 in
      let whole : bytes ≡ (bytes_of o.0 ++ m.0) ++ rest = t.1 ∙ joined (bytes_of o.0) o.1 m.0 rest m.1 in
      (bytes_of o.0 ++ m.0, whole, m.2, m.3);
}

-- Each of these variants, from a number on, is read behind its number.
abbrev pub AllRead : {C : Type 0} → (C → List ℕ → Type 0) → ℕ → List (Reader C) → Type 0
AllRead Was n [] = Unit {0}
AllRead Was n (p ∷ ps) = Reads p (λ c front. Was c (b.byte n ++ front)) × AllRead Was (suc n) ps

read_at : {C : Type 0} (Was : C → List ℕ → Type 0) (n : ℕ) (ps : List (Reader C)) (place : ℕ) (p : Reader C) → AllRead Was n ps → slice_get ps place ≡ Some p → Reads p (λ c front. Was c (b.byte (n + place) ++ front))
read_at Was n [] place p all e = absurd (cc (e))
read_at {C} Was n (first ∷ ps) zero p all e =
    let same : first ≡ p = cc (e) in
    let here : n ≡ n + 0 = omega arith in
    subst (λ (k : ℕ). Reads p (λ c front. Was c (b.byte k ++ front))) here (subst (λ (q : Reader C). Reads q (λ c front. Was c (b.byte n ++ front))) same all.0)
read_at Was n (first ∷ ps) (suc place) p all e =
    let there : suc n + place ≡ n + suc place = omega arith in
    subst (λ (k : ℕ). Reads p (λ c front. Was c (b.byte k ++ front))) there (read_at Was (suc n) ps place p all.1 e)

behind_got : {C : Type 0} (left : ℕ) (o : Option (Reader C)) (mid : List ℕ) (c : C) (rest : List ℕ) → behind left o mid ≡ got c rest → (p : Reader C) × (o ≡ Some p) × (p mid ≡ got c rest)
behind_got left None mid c rest e = absurd (cc (e))
behind_got left (Some p) mid c rest e = (p, refl, e)

behind_byte : {C : Type 0} (Was : C → List ℕ → Type 0) (bytes : List ℕ) (c : C) (rest : List ℕ) (n : ℕ) (mid : List ℕ) → bytes ≡ b.byte n ++ mid
    → (front : List ℕ) × (mid ≡ front ++ rest) × IsBytes rest × Was c (b.byte n ++ front)
    → (front : List ℕ) × (bytes ≡ front ++ rest) × IsBytes rest × Was c front
behind_byte Was bytes c rest n mid e m = (b.byte n ++ m.0, e ∙ joined (b.byte n) mid m.0 rest m.1, m.2, m.3)

pub reads_one_of : {C : Type 0} {Was : C → List ℕ → Type 0} (variants : List (Reader C)) → AllRead Was 0 variants → Reads (one_of variants) Was
unfolding one_of
reads_one_of {C} {Was} variants all = record {
  takes = λ bytes c rest fits e.
      let o = bind_got (byte bytes) (λ n rest. behind (length bytes) (slice_get variants n) rest) c rest e in
      let t = byte_format.takes bytes o.0 o.1 fits o.2 in
      let f = behind_got (length bytes) (slice_get variants o.0) o.1 c rest o.3 in
      let there : 0 + o.0 ≡ o.0 = omega arith in
      let m = (subst (λ (k : ℕ). Reads f.0 (λ c front. Was c (b.byte k ++ front))) there (read_at Was 0 variants o.0 f.0 all f.1)).takes o.1 c rest t.2 f.2 in
      behind_byte Was bytes c rest o.0 o.1 t.1 m;
}

-- ---- what was written is read again

-- These bytes are read as this, with any rest.
pub record Again {C : Type 0} (p : Reader C) (c : C) (front : List ℕ) : Type 0 where
  pub is : (rest : List ℕ) → p (front ++ rest) ≡ got c rest

pub again_given : {C : Type 0} (x : C) → Again (given x) x []
again_given x = record { is = λ rest. refl }

pub again_field :
    {A C : Type 0} {p : Reader A} {Good : A → Type 0} {bytes_of : A → List ℕ} {c : C} {front : List ℕ} (k : A → Reader C)
    → Format p Good bytes_of → (a : A) → Good a → Again (k a) c front → Again (p >>= k) c (bytes_of a ++ front)
again_field {A} {C} {p} {Good} {bytes_of} {c} {front} k first a good others = record {
  is = λ rest. ap (p >>= k) (append_assoc (bytes_of a) front rest) ∙ rw (first.again a (front ++ rest) tt good) (others.is rest);
}

pub again_one_of : {C : Type 0} {c : C} {front : List ℕ} (variants : List (Reader C)) (n : ℕ) (p : Reader C) → slice_get variants n ≡ Some p → IsByte n → Again p c front → Again (one_of variants) c (b.byte n ++ front)
unfolding one_of
again_one_of {C} {c} {front} variants n p is below variant = record {
  is = λ rest. ap (one_of variants) (append_assoc (b.byte n) front rest) ∙ rw (byte_format.again n (front ++ rest) tt below, is) (variant.is rest);
}

-- ---- a value made of one field

pub reads_one :
    {A C : Type 0} {p : Reader A} {Good : A → Type 0} {bytes_of : A → List ℕ} {Was : C → List ℕ → Type 0} (make : A → C)
    → Format p Good bytes_of → ((a : A) → Good a → Was (make a) (bytes_of a)) → Reads (p >>= λ a. given (make a)) Was
reads_one {A} {C} {p} {Good} {bytes_of} {Was} make format was =
    reads_field format (λ a good. reads_given (make a) (subst (λ (front : List ℕ). Was (make a) front) (sym (append-nil (bytes_of a))) (was a good)))

pub again_one : {A C : Type 0} {p : Reader A} {Good : A → Type 0} {bytes_of : A → List ℕ} (make : A → C) → Format p Good bytes_of → (a : A) → Good a → Again (p >>= λ a. given (make a)) (make a) (bytes_of a)
again_one {A} {C} {p} {Good} {bytes_of} make format a good =
    subst (Again (p >>= λ a. given (make a)) (make a)) (append-nil (bytes_of a)) (again_field (λ a. given (make a)) format a good (again_given (make a)))

-- ---- both ways

pub both_ways : {C : Type 0} {p : Reader C} {Good : C → Type 0} {bytes_of : C → List ℕ} → Reads p (λ c front. (front ≡ bytes_of c) × Good c) → ((c : C) → Good c → Again p c (bytes_of c)) → Format p Good bytes_of
both_ways {C} {p} {Good} {bytes_of} reads again = record {
  takes = λ bytes c rest fits e.
      let t = reads.takes bytes c rest fits e in
      (tt, t.1 ∙ ap (λ (x : List ℕ). x ++ rest) t.3.0, t.2, t.3.1);
  again = λ c rest known good. (again c good).is rest;
}

-- ---- variants that hold nothing

abbrev pub all_given : {C : Type 0} → List C → List (Reader C)
all_given [] = []
all_given (x ∷ xs) = given x ∷ all_given xs

-- the numbers of so many variants, from one on
abbrev pub numbers_from : ℕ → ℕ → List ℕ
numbers_from n zero = []
numbers_from n (suc count) = n ∷ numbers_from (suc n) count

all_read : {C : Type 0} (number : C → ℕ) (n : ℕ) (xs : List C) → map number xs ≡ numbers_from n (length xs) → AllRead (λ c front. (front ≡ b.byte (number c)) × Unit {0}) n (all_given xs)
all_read number n [] e = tt
all_read number n (x ∷ xs) e =
    let here : n ≡ number x = cc (e) in
    let others : map number xs ≡ numbers_from (suc n) (length xs) = cc (e) in
    (reads_given x (ap b.byte here, tt), all_read number (suc n) xs others)

given_at : {C : Type 0} (xs : List C) (n : ℕ) (x : C) → slice_get xs n ≡ Some x → slice_get (all_given xs) n ≡ Some (given x)
given_at [] n x e = absurd (cc (e))
given_at {C} (y ∷ xs) zero x e =
    let same : y ≡ x = cc (e) in
    ap (λ (z : C). Some (given z)) same
given_at (y ∷ xs) (suc n) x e = given_at xs n x e

number_below : {C : Type 0} (xs : List C) (n : ℕ) (x : C) → length xs ≤ 256 → slice_get xs n ≡ Some x → IsByte n
number_below xs n x few e =
    elim (cases_lt n (length xs)) [
      | inl lt ↦ omega arith
      | inr le ↦ absurd (cc (e, slice_get_past xs n le))
    ]

pub variants_format : {C : Type 0} (xs : List C) (number : C → ℕ) → length xs ≤ 256 → map number xs ≡ numbers_from 0 (length xs) → ((c : C) → slice_get xs (number c) ≡ Some c) → Format (one_of (all_given xs)) Any (λ c. b.byte (number c))
variants_format {C} xs number few numbered there =
    both_ways (reads_one_of (all_given xs) (all_read number 0 xs numbered)) (λ c good. again_one_of {front = []} (all_given xs) (number c) (given c) (given_at xs (number c) c (there c)) (number_below xs (number c) c few (there c)) (again_given c))

-- ---- options

pub option_format : {A : Type 0} {item : Reader A} {Good : A → Type 0} {bytes_of : A → List ℕ} → Format item Good bytes_of → Format (option item) (λ o. ForSome o Good) (s.option bytes_of)
unfolding option
option_format {A} {item} {Good} {bytes_of} format =
    both_ways
    (reads_one_of (given None ∷ (item >>= λ a. given (Some a)) ∷ []) (
      reads_given None (refl, λ x e. absurd (cc (e))),
      (reads_one (λ a. Some a) format (λ a good. (refl, some a good)), tt),
    ))
    again
  where
    some : (a : A) → Good a → ForSome (Some a) Good
    some a good x e =
        let same : a ≡ x = cc (e) in
        subst Good same good

    again : (o : Option A) → ForSome o Good → Again (one_of (given None ∷ (item >>= λ a. given (Some a)) ∷ [])) o (s.option bytes_of o)
    again None good = again_one_of {front = []} _ 0 _ refl (omega arith) (again_given None)
    again (Some a) good = again_one_of {front = bytes_of a} _ 1 _ refl (omega arith) (again_one (λ a. Some a) format a (good a refl))
