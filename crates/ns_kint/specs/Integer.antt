-- The kernel's rows of Integer.
use Rattle.std.specs.Prelude.{ℤ, pos, neg_ℤ, ◌+ℤ◌, ◌-ℤ◌, ◌*ℤ◌, ◌^◌, int_lt, int_le, bit_and, bit_or, bit_xor, ℕ, Bool, true, false, ◌&&◌, if◌then◌else◌, Result, Ok, Err}
use Rattle.std.specs.Ordering.{int_eq}
use Rattle.std.specs.Int.{w64, cast_signed, cast_unsigned}
use Rattle.ns_world.specs.declared.value.Value.{Value}
use Rattle.ns_world.specs.declared.value.Value.TheVariants.{True, False, Int}
use Rattle.ns_world.specs.declared.ending.Kind.TheVariants.{Overflow, ZeroDivide, WrongKind}
use Rattle.ns_world.specs.declared.ending.Fault.{Fault}
use Rattle.ns_world.specs.declared.ending.Fault.TheVariants.{Kind}
use Rattle.ns_world.specs.Booleans.{truth}
use Rattle.ns_world.specs.declared.kernel_parts.IntRow.{IntRow}
use Rattle.ns_world.specs.declared.kernel_parts.IntRow.TheVariants.{Add, Subtract, Multiply, Quotient, Remainder, Less, LessEqual, Greater, GreaterEqual, Equal, BitAnd, BitOr, BitXor, Negated}
use Rattle.ns_kint.specs.Division.{floored_quotient, floored_remainder}

-- whether a number is an Integer: these have 64 bits and a sign
abbrev pub is_integer : ℤ → Bool
is_integer number = int_le (neg_ℤ (pos (2 ^ 63))) number && int_lt number (pos (2 ^ 63))

-- the number as an answer, or Overflow where it is no Integer
abbrev pub fitting : ℤ → Result Value Fault
fitting number = if is_integer number then Ok (Int number) else Err (Kind Overflow)

-- the Integer that an argument is; WrongKind where it is none
abbrev pub integer_of : Value → Result ℤ Fault
integer_of (Int number) = Ok number
integer_of other = Err (Kind WrongKind)

-- the divisor that an argument is; WrongKind where it is no Integer, ZeroDivide at 0
abbrev pub divisor_of : Value → Result ℤ Fault
divisor_of (Int number) = if int_eq number (pos 0) then Err (Kind ZeroDivide) else Ok number
divisor_of other = Err (Kind WrongKind)

-- what is answered at that argument, or the fault of the argument
abbrev pub given : Result ℤ Fault → (ℤ → Result Value Fault) → Result Value Fault
given (Ok number) answer = answer number
given (Err fault) answer = Err fault

-- whether the argument is the same Integer
abbrev pub same_integer : ℤ → Value → Bool
same_integer left (Int right) = int_eq left right
same_integer left other = false

-- an operation on the 64 bits of two's complement
abbrev pub on_bits : (ℕ → ℕ → ℕ) → ℤ → ℤ → Value
on_bits both left right = Int (cast_signed w64 (both (cast_unsigned w64 left) (cast_unsigned w64 right)))

-- the answer or fault of each row
abbrev pub integer : IntRow → ℤ → Value → Result Value Fault
integer Add left right = given (integer_of right) (λ n. fitting (left +ℤ n))
integer Subtract left right = given (integer_of right) (λ n. fitting (left -ℤ n))
integer Multiply left right = given (integer_of right) (λ n. fitting (left *ℤ n))
integer Quotient left right = given (divisor_of right) (λ n. fitting (floored_quotient left n))
integer Remainder left right = given (divisor_of right) (λ n. Ok (Int (floored_remainder left n)))
integer Less left right = given (integer_of right) (λ n. Ok (truth (int_lt left n)))
integer LessEqual left right = given (integer_of right) (λ n. Ok (truth (int_le left n)))
integer Greater left right = given (integer_of right) (λ n. Ok (truth (int_lt n left)))
integer GreaterEqual left right = given (integer_of right) (λ n. Ok (truth (int_le n left)))
integer Equal left right = Ok (truth (same_integer left right))
integer BitAnd left right = given (integer_of right) (λ n. Ok (on_bits bit_and left n))
integer BitOr left right = given (integer_of right) (λ n. Ok (on_bits bit_or left n))
integer BitXor left right = given (integer_of right) (λ n. Ok (on_bits bit_xor left n))
integer Negated left right = fitting (neg_ℤ left)

-- whether a value is an Integer or a boolean
abbrev pub is_integer_or_boolean : Value → Bool
is_integer_or_boolean (Int number) = true
is_integer_or_boolean True = true
is_integer_or_boolean False = true
is_integer_or_boolean other = false
