-- Rounds, turn by turn.
use Rattle.std.proofs.Common.{◌≡◌, ℕ, zero, suc, ◌+◌, ◌-◌, ◌<◌, ◌≤◌, length, refl, ap, sym, ◌∙◌, subst, inl, inr, ◌⊎◌, ◌||◌, List, Some, None, arith, Bool, true, false, IsSome}
use Rattle.std.specs.Prelude.{slice_get, slice_set}
use Rattle.ns_moves.specs.State.{ending_of}
use Rattle.ns_session.specs.Member.{MemberView}
use Rattle.ns_session.specs.Reached.{left_for, left_of}
use Rattle.ns_session.specs.Session.{SessionView, ending_in}
use Rattle.ns_session.specs.Rounds.{CanGoOn, GivenTo, RoundFrom, Rounds}
use Rattle.ns_session.proofs.Reached.{one_lowers}

-- a turn and those after it
pub round_step : (quantum n k : ℕ) (now next last : SessionView) → k < n
    → GivenTo (ending_in (slice_get now.members k)) (record { number = k; steps = quantum }) now next
    → RoundFrom quantum (n - (k + 1)) (k + 1) next last → RoundFrom quantum (n - k) k now last
round_step quantum n k now next last less given rest =
    let one : suc (n - (k + 1)) ≡ n - k = omega (arith, less) in
    subst (λ m. RoundFrom quantum m k now last) one (next, (given, rest))

-- none is left at the end
pub round_end : (quantum n k : ℕ) (now : SessionView) → k ≡ n → RoundFrom quantum (n - k) k now now
round_end quantum n k now e =
    let none : 0 ≡ n - k = omega (arith, e) in
    subst (λ m. RoundFrom quantum m k now now) none refl

-- rounds and one more
pub round_more : (quantum count : ℕ) (old between new : SessionView) → Rounds quantum count old between
    → RoundFrom quantum (length between.members) 0 between new → Rounds quantum (suc count) old new
round_more quantum zero old between new is round =
    (new, (subst (λ (s : SessionView). RoundFrom quantum (length s.members) 0 s new) is round, refl))
round_more quantum (suc count) old between new rounds round =
    (rounds.0, (rounds.1.0, round_more quantum count rounds.0 between new rounds.1.1 round))

-- ---- what a round has found so far

-- A turn was made, and less is left; or none was, and all up to here had ended.
pub record Found (some : Bool) (k : ℕ) (first now : SessionView) : Type 0 where
  pub less : some ≡ true → left_of now.members < left_of first.members
  pub same : some ≡ false → now ≡ first
  pub over : some ≡ false → (number : ℕ) → number < k → IsSome (ending_in (slice_get first.members number))

pub found_none : (first : SessionView) → Found false 0 first first
found_none first = record { less = λ e. absurd (cc); same = λ e. refl; over = λ e number less. absurd (omega (arith, less)) }

no_more : (some : Bool) (k : ℕ) (first now : SessionView) → Found some k first now → left_of now.members ≤ left_of first.members
no_more true k first now found = let less = found.less refl in omega (arith, less)
no_more false k first now found = let same = ap (λ (s : SessionView). left_of s.members) (found.same refl) in omega (arith, same)

up_to : (k : ℕ) (P : ℕ → Type 0) → ((number : ℕ) → number < k → P number) → P k → (number : ℕ) → number < k + 1 → P number
up_to k P before here number less = by_cases (last number k less)
  where
    last : (m n : ℕ) → m < n + 1 → (m < n) ⊎ (m ≡ n)
    last m n h = grind (arith, h)

    by_cases : (number < k) ⊎ (number ≡ k) → P number
    by_cases (inl h) = before number h
    by_cases (inr e) = subst P (sym e) here

-- One application has had its turn, or it had ended.
pub record Gave (had : Bool) (k : ℕ) (now next : SessionView) : Type 0 where
  pub less : had ≡ true → left_of next.members < left_of now.members
  pub same : had ≡ false → next ≡ now
  pub over : had ≡ false → IsSome (ending_in (slice_get now.members k))

or_true : (some had : Bool) → (some || had) ≡ true → (some ≡ true) ⊎ (had ≡ true)
or_true true had e = inl refl
or_true false had e = inr e

or_false : (some had : Bool) → (some || had) ≡ false → (some ≡ false) × (had ≡ false)
or_false true had e = absurd (cc)
or_false false had e = (refl, e)

-- and with that one more is found
pub found_next : (some had : Bool) (k : ℕ) (first now next : SessionView) → Found some k first now → Gave had k now next →
    Found (some || had) (k + 1) first next
found_next some had k first now next found gave = record {
  less = λ e. lower (or_true some had e) had refl;
  same = λ e. gave.same (or_false some had e).1 ∙ found.same (or_false some had e).0;
  over = λ e.
      up_to k (λ number. IsSome (ending_in (slice_get first.members number))) (found.over (or_false some had e).0)
      (subst (λ (s : SessionView). IsSome (ending_in (slice_get s.members k))) (found.same (or_false some had e).0) (gave.over (or_false some had e).1));
}
  where
    lower : (some ≡ true) ⊎ (had ≡ true) → (b : Bool) → had ≡ b → left_of next.members < left_of first.members
    lower which true e = let less = gave.less e in let most = no_more some k first now found in omega (arith, less, most)
    lower (inl e) false f = let less = found.less e in let same = ap (λ (s : SessionView). left_of s.members) (gave.same f) in omega (arith, less, same)
    lower (inr e) false f = absurd (cc)

-- So many rounds were made.
pub record SoFar (quantum : ℕ) (first now : SessionView) : Type 0 where
  pub count : ℕ
  pub rounds : Rounds quantum count first now

-- ---- one turn

-- a turn of an application that can go on leaves less to do
pub session_lowers : (session : SessionView) (members : List MemberView) (k : ℕ) (old new : MemberView) → members ≡ session.members
    → slice_get members k ≡ Some old → CanGoOn k session → (ending_of old.state ≡ None → left_for new < left_for old)
    → left_of (slice_set members k new) < left_of session.members
session_lowers session members k old new is here can less =
    let goes : ending_of old.state ≡ None =
    sym (ap ending_in here) ∙ (ap (λ (xs : List MemberView). ending_in (slice_get xs k)) is ∙ can.1) in
    subst (λ (xs : List MemberView). left_of (slice_set members k new) < left_of xs) is (one_lowers members k old new here (less goes))
