-- What rows answer, a value or a fault; and the rows of Integer answer the same.
use Rattle.std.proofs.Common.{◌≡◌, ℕ, ℤ, List, Bool, true, false, refl, subst}
use Rattle.std.specs.Prelude.{Result, Ok, Err, int_lt, int_le, neg_ℤ, ◌+ℤ◌, ◌-ℤ◌, ◌*ℤ◌, bit_and, bit_or, bit_xor}
use Rattle.ns_world.specs.declared.value.Value.{Value}
use Rattle.ns_world.specs.declared.value.Value.TheVariants.{True, False, Int, Ref}
use Rattle.ns_world.specs.declared.ending.Fault.{Fault}
use Rattle.ns_world.specs.declared.ending.Fault.TheVariants as fault
use Rattle.ns_world.specs.declared.ending.Kind.TheVariants as kind
use Rattle.ns_world.specs.Booleans.{truth}
use Rattle.ns_kint.specs.Integer.{integer, is_integer, fitting, integer_of, divisor_of, given, same_integer, on_bits}
use Rattle.ns_kint.specs.Division.{floored_quotient, floored_remainder}
use Rattle.ns_world.specs.declared.kernel_parts.IntRow.{IntRow}
use Rattle.ns_world.specs.declared.kernel_parts.IntRow.TheVariants as int
use Rattle.ns_kdata.specs.Arguments.{argument, number_of}
use Rattle.ns_moves.specs.declared.site.Site.{Site}
use Rattle.ns_moves.specs.Site.{fault_ending}
use Rattle.ns_moves.specs.Control.{Progress}
use Rattle.ns_moves.specs.Kernel as kernel
use Rattle.ns_machine_alike.specs.Paired.{IsPairing, Paired, Partners, Same, AllPaired, EndingPaired, Abreast, ControlPaired}
use Rattle.ns_machine_alike.proofs.Values.{cond_so, at_index}
use Rattle.ns_machine_alike.proofs.Charging.{faulted}

-- a fault and its site
pub same_fault : (Pair : ℕ → ℕ → Type 0) (one two : Fault) (site site' : Site) → one ≡ two → site ≡ site' →
    EndingPaired Pair (fault_ending one site) (fault_ending two site')
same_fault Pair one two site site' e s =
    subst (λ f. EndingPaired Pair (fault_ending one site) (fault_ending f site')) e (faulted Pair one site site' s)

module _ (Pair : ℕ → ℕ → Type 0) where
  -- two answers are paired, or the same fault
  abbrev pub AnswerPaired : Result Value Fault → Result Value Fault → Type 0
  AnswerPaired (Ok value) (Ok value') = Paired Pair value value'
  AnswerPaired (Ok value) (Err f') = ⊥
  AnswerPaired (Err f) (Ok value') = ⊥
  AnswerPaired (Err f) (Err f') = f ≡ f'

  pub truth_paired : (b c : Bool) → b ≡ c → Paired Pair (truth b) (truth c)
  truth_paired true true e = Same True refl
  truth_paired false false e = Same False refl
  truth_paired true false e = absurd (cc (e))
  truth_paired false true e = absurd (cc (e))

  pub int_paired : (n m : ℤ) → n ≡ m → Paired Pair (Int n) (Int m)
  int_paired n m e = subst (λ k. Paired Pair (Int n) (Int k)) e (Same (Int n) refl)

  -- ---- Integer

  pub same_number_of : (value value' : Value) → Paired Pair value value' → number_of value ≡ number_of value'
  same_number_of value value' (Partners n m p) = refl
  same_number_of value value' (Same same e) = refl

  fitting_self : (n : ℤ) → AnswerPaired (fitting n) (fitting n)
  fitting_self n = cond_so AnswerPaired (is_integer n) (is_integer n) (Ok (Int n)) (Err (fault.Kind kind.Overflow)) (Ok (Int n)) (Err (fault.Kind kind.Overflow)) refl (λ t. Same (Int n) refl) (λ t. refl)

  given_self : (r : Result ℤ Fault) (answer : ℤ → Result Value Fault) → ((n : ℤ) → AnswerPaired (answer n) (answer n)) → AnswerPaired (given r answer) (given r answer)
  given_self (Ok n) answer h = h n
  given_self (Err f) answer h = refl

  integer_self : (asked : IntRow) (left : ℤ) (right : Value) → AnswerPaired (integer asked left right) (integer asked left right)
  integer_self int.Add left right = given_self (integer_of right) (λ n. fitting (left +ℤ n)) (λ n. fitting_self (left +ℤ n))
  integer_self int.Subtract left right = given_self (integer_of right) (λ n. fitting (left -ℤ n)) (λ n. fitting_self (left -ℤ n))
  integer_self int.Multiply left right = given_self (integer_of right) (λ n. fitting (left *ℤ n)) (λ n. fitting_self (left *ℤ n))
  integer_self int.Quotient left right = given_self (divisor_of right) (λ n. fitting (floored_quotient left n)) (λ n. fitting_self (floored_quotient left n))
  integer_self int.Remainder left right = given_self (divisor_of right) (λ n. Ok (Int (floored_remainder left n))) (λ n. Same (Int (floored_remainder left n)) refl)
  integer_self int.Less left right = given_self (integer_of right) (λ n. Ok (truth (int_lt left n))) (λ n. truth_paired (int_lt left n) (int_lt left n) refl)
  integer_self int.LessEqual left right = given_self (integer_of right) (λ n. Ok (truth (int_le left n))) (λ n. truth_paired (int_le left n) (int_le left n) refl)
  integer_self int.Greater left right = given_self (integer_of right) (λ n. Ok (truth (int_lt n left))) (λ n. truth_paired (int_lt n left) (int_lt n left) refl)
  integer_self int.GreaterEqual left right = given_self (integer_of right) (λ n. Ok (truth (int_le n left))) (λ n. truth_paired (int_le n left) (int_le n left) refl)
  integer_self int.Equal left right = truth_paired (same_integer left right) (same_integer left right) refl
  integer_self int.BitAnd left right = given_self (integer_of right) (λ n. Ok (on_bits bit_and left n)) (λ n. Same (on_bits bit_and left n) refl)
  integer_self int.BitOr left right = given_self (integer_of right) (λ n. Ok (on_bits bit_or left n)) (λ n. Same (on_bits bit_or left n) refl)
  integer_self int.BitXor left right = given_self (integer_of right) (λ n. Ok (on_bits bit_xor left n)) (λ n. Same (on_bits bit_xor left n) refl)
  integer_self int.Negated left right = fitting_self (neg_ℤ left)

  -- a reference is no Integer in both
  same_right : (asked : IntRow) (left : ℤ) (n m : ℕ) → integer asked left (Ref n) ≡ integer asked left (Ref m)
  same_right int.Add left n m = refl
  same_right int.Subtract left n m = refl
  same_right int.Multiply left n m = refl
  same_right int.Quotient left n m = refl
  same_right int.Remainder left n m = refl
  same_right int.Less left n m = refl
  same_right int.LessEqual left n m = refl
  same_right int.Greater left n m = refl
  same_right int.GreaterEqual left n m = refl
  same_right int.Equal left n m = refl
  same_right int.BitAnd left n m = refl
  same_right int.BitOr left n m = refl
  same_right int.BitXor left n m = refl
  same_right int.Negated left n m = refl

  integer_paired : (asked : IntRow) (left : ℤ) (right right' : Value) → Paired Pair right right' → AnswerPaired (integer asked left right) (integer asked left right')
  integer_paired asked left right right' (Partners n m p) = subst (AnswerPaired (integer asked left (Ref n))) (same_right asked left n m) (integer_self asked left (Ref n))
  integer_paired asked left right right' (Same same e) = integer_self asked left same

module _ (Pair : ℕ → ℕ → Type 0) (first second : Progress) (pairing : IsPairing Pair first.world second.world) where
  module _ (one two : Progress) (a : Abreast Pair first second one two) where
    answer_paired : (answer answer' : Result Value Fault) (site site' : Site) → AnswerPaired Pair answer answer' → site ≡ site' → ControlPaired Pair first second (kernel.answer_reached answer site one) (kernel.answer_reached answer' site' two)
    answer_paired (Ok value) (Ok value') site site' p e = (p, a)
    answer_paired (Err f) (Err f') site site' p e = (same_fault Pair f f' site site' p e, a)
    answer_paired (Ok value) (Err f') site site' p e = absurd p
    answer_paired (Err f) (Ok value') site site' p e = absurd p

  pub integer_row_paired : (int : IntRow) (receiver receiver' : Value) (arguments arguments' : List Value) (site site' : Site) (one two : Progress)
      → Abreast Pair first second one two → Paired Pair receiver receiver' → AllPaired Pair arguments arguments' → site ≡ site'
      → ControlPaired Pair first second (kernel.answer_reached (integer int (number_of receiver) (argument arguments 0)) site one)
      (kernel.answer_reached (integer int (number_of receiver') (argument arguments' 0)) site' two)
  integer_row_paired int receiver receiver' arguments arguments' site site' one two a r all s =
      answer_paired one two a (integer int (number_of receiver) (argument arguments 0)) (integer int (number_of receiver') (argument arguments' 0)) site site'
      (subst (λ n. AnswerPaired Pair (integer int (number_of receiver) (argument arguments 0)) (integer int n (argument arguments' 0))) (same_number_of Pair receiver receiver' r)
      (integer_paired Pair int (number_of receiver) (argument arguments 0) (argument arguments' 0) (at_index Pair arguments arguments' 0 all))) s
