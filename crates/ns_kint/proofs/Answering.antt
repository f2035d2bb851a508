-- What the rows answer is an Integer or a boolean.
use Rattle.std.proofs.Common.{ℤ, ◌+ℤ◌, ◌-ℤ◌, ◌*ℤ◌, neg_ℤ, Bool, true, false, rules}
use Rattle.std.specs.Prelude.{Result, Ok, Err, IfOk, IsTrue, if◌then◌else◌}
use Rattle.ns_world.specs.declared.value.Value.{Value}
use Rattle.ns_world.specs.declared.value.Value.TheVariants.{Int}
use Rattle.ns_world.specs.declared.ending.Kind.TheVariants.{Overflow}
use Rattle.ns_world.specs.declared.ending.Fault.{Fault}
use Rattle.ns_world.specs.declared.ending.Fault.TheVariants.{Kind}
use Rattle.ns_world.specs.declared.kernel_parts.IntRow.{IntRow}
use Rattle.ns_world.specs.declared.kernel_parts.IntRow.TheVariants.{Add, Subtract, Multiply, Quotient, Remainder, Less, LessEqual, Greater, GreaterEqual, Equal, BitAnd, BitOr, BitXor, Negated}
use Rattle.ns_kint.specs.Division.{floored_quotient}
use Rattle.ns_kint.specs.Integer.{integer, integer_of, divisor_of, given, fitting, is_integer, is_integer_or_boolean}
use Rattle.ns_world.specs.Booleans.{truth}

abbrev Simple : Result Value Fault → Type 0
Simple r = IfOk r (λ v. IsTrue (is_integer_or_boolean v))

given_simple : (r : Result ℤ Fault) (f : ℤ → Result Value Fault) → ((n : ℤ) → Simple (f n)) → Simple (given r f)
given_simple (Ok n) f h = h n
given_simple (Err e) f h = search rules

chosen_simple : (b : Bool) (z : ℤ) → Simple (if b then Ok (Int z) else Err (Kind Overflow))
chosen_simple true z = search rules
chosen_simple false z = search rules

fitting_simple : (z : ℤ) → Simple (fitting z)
fitting_simple z = chosen_simple (is_integer z) z

truth_simple : (b : Bool) → Simple (Ok (truth b))
truth_simple true = search rules
truth_simple false = search rules

pub simple : (row : IntRow) (left : ℤ) (right : Value) → Simple (integer row left right)
simple Add left right = given_simple (integer_of right) _ (λ n. fitting_simple (left +ℤ n))
simple Subtract left right = given_simple (integer_of right) _ (λ n. fitting_simple (left -ℤ n))
simple Multiply left right = given_simple (integer_of right) _ (λ n. fitting_simple (left *ℤ n))
simple Quotient left right = given_simple (divisor_of right) _ (λ n. fitting_simple (floored_quotient left n))
simple Remainder left right = given_simple (divisor_of right) _ (λ n. search rules)
simple Less left right = given_simple (integer_of right) _ (λ n. truth_simple _)
simple LessEqual left right = given_simple (integer_of right) _ (λ n. truth_simple _)
simple Greater left right = given_simple (integer_of right) _ (λ n. truth_simple _)
simple GreaterEqual left right = given_simple (integer_of right) _ (λ n. truth_simple _)
simple Equal left right = truth_simple _
simple BitAnd left right = given_simple (integer_of right) _ (λ n. search rules)
simple BitOr left right = given_simple (integer_of right) _ (λ n. search rules)
simple BitXor left right = given_simple (integer_of right) _ (λ n. search rules)
simple Negated left right = fitting_simple (neg_ℤ left)
