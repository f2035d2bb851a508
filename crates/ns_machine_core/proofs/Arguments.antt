-- How many arguments a selector takes at most.
use Rattle.std.proofs.Common.{◌-◌, ◌≤◌, ℕ, zero, suc, List, [], ◌∷◌, length, arith, Bool, true, false, if◌then◌else◌}
use Rattle.std.specs.Prelude.{nat_lt}
use Rattle.std.specs.List.{slice_index_or}
use Rattle.std.proofs.Math.Nat.{le-max_left, le-max_right}
use Rattle.ns_code.specs.declared.program.CodeProgram.{CodeProgram}
use Rattle.ns_code.specs.Selector.{own_text_at, selector_arity, text_arity}
use Rattle.ns_machine_core.specs.Standing.{most_arguments}

-- those that the machine sends by itself take at most two
own_few : (place : ℕ) → text_arity (own_text_at place) ≤ 2
own_few zero = omega arith
own_few (suc zero) = omega arith
own_few (suc (suc zero)) = omega arith
own_few (suc (suc (suc place))) = omega arith

two_at_least : (names : List (List ℕ)) → 2 ≤ most_arguments names
two_at_least [] = omega arith
two_at_least (name ∷ names) =
    let rest = two_at_least names in
    let more = le-max_right (text_arity name) (most_arguments names) in
    omega (arith, rest, more)

named_few : (names : List (List ℕ)) (number : ℕ) → text_arity (slice_index_or names number []) ≤ most_arguments names
named_few [] number = omega arith
named_few (name ∷ names) zero = le-max_left (text_arity name) (most_arguments names)
named_few (name ∷ names) (suc number) =
    let rest = named_few names number in
    let more = le-max_right (text_arity name) (most_arguments names) in
    omega (arith, rest, more)

pub arguments_few : (code : CodeProgram) (number : ℕ) → selector_arity code number ≤ most_arguments code.names
arguments_few code number = tested (nat_lt number (length code.names))
  where
    tested : (b : Bool) → text_arity (if b then slice_index_or code.names number [] else own_text_at (number - length code.names)) ≤ most_arguments code.names
    tested true = named_few code.names number
    tested false =
        let few = own_few (number - length code.names) in
        let two = two_at_least code.names in
        omega (arith, few, two)
