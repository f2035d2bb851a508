-- There are rounds enough for the actors of a program.
use Rattle.std.proofs.Common.{◌≡◌, ◌<◌, ◌≤◌, ℕ, ℤ, zero, suc, ◌+◌, ◌-◌, ◌*◌, ◌^◌, List, [], ◌∷◌, refl, sym, ap, ◌∙◌, subst, arith, length}
use Rattle.std.specs.Prelude.{replicate}
use Rattle.std.proofs.Math.Nat.{le-mul_of_pos_right, mul-le-mul_left, mul-le-mul_right, mul-suc, suc-mul}
use Rattle.std.proofs.Math.Pow.{pow_mono}
use Rattle.std.proofs.lemmas.List.{length-replicate}
use Rattle.std.proofs.lemmas.Nat.{pow-add}
use Rattle.ns_base.specs.declared.limits.Limits.{Limits}
use Rattle.ns_code.specs.declared.program.CodeProgram.{CodeProgram}
use Rattle.ns_moves.specs.lemmas.Powers.{pow_more}
use Rattle.ns_moves.specs.State.{world_of}
use Rattle.ns_session.specs.Member.{Application, start_of}
use Rattle.ns_actors.specs.declared.letter.Letter.{Letter}
use Rattle.ns_actors.specs.Actor.{ActorView, starting}
use Rattle.ns_actors.specs.Rounds.{actor_of, first_letter, power_of_rounds}
use Rattle.ns_actors.specs.Turn.{delivered}
use Rattle.ns_actors_rounds.specs.Laws.{ProgramsHaveRounds}
use Rattle.ns_actors_rounds.specs.Left.{actor_left, all_left}
use Rattle.ns_actors_rounds.proofs.Delivering.{delivers_few}
use Rattle.ns_actors_rounds.proofs.Rounding.{length_delivered}

-- ---- powers of two

pow_some : (n : ℕ) → suc n ≤ 2 ^ n
pow_some zero = omega arith
pow_some (suc n) =
    let less = pow_some n in
    let more = pow_more n in
    omega (arith, less, more)

-- two numbers below powers have their product, and one more, below the product of these
product_below : (a b p q : ℕ) → suc a ≤ p → 1 ≤ b → suc b ≤ q → a * b + 1 < p * q
product_below a b p q less some fewer =
    let first = mul-le-mul_right b less in
    let own = suc-mul a b in
    let second = mul-le-mul_left p fewer in
    let all = mul-suc p b in
    omega (arith, first, own, second, all, less, some)

-- ---- what is left at first

each_left : (count most : ℕ) (actor : ActorView) → actor_left actor ≤ most → all_left (replicate count actor) ≤ count * most
each_left zero most actor few = omega arith
each_left (suc count) most actor few =
    let rest = each_left count most actor few in
    let all = suc-mul count most in
    omega (arith, rest, few, all)

started_left : (application : Application) → actor_left (starting application) ≤ application.limits.steps * (application.limits.cells + 2) + 1
started_left application =
    let used : application.limits.steps - (world_of (start_of application)).steps ≤ application.limits.steps = omega arith in
    let times = mul-le-mul_right (application.limits.cells + 2) used in
    omega (arith, times)

-- ---- there are rounds enough

enough : (count steps weight : ℕ) → 1 ≤ weight → count * (steps * weight + 1) + 1 < 2 ^ (suc count * (steps + weight))
enough count steps weight some =
    let one = product_below steps weight (2 ^ steps) (2 ^ weight) (pow_some steps) some (pow_some weight) in
    let both = pow-add 2 steps weight in
    let inner : suc (steps * weight + 1) ≤ 2 ^ (steps + weight) = omega (arith, one, both) in
    let most : 1 ≤ steps * weight + 1 = omega arith in
    let all = product_below count (steps * weight + 1) (2 ^ count) (2 ^ (steps + weight)) (pow_some count) most inner in
    let joined = pow-add 2 count (steps + weight) in
    let weighs : 0 < steps + weight = omega (arith, some) in
    let wide = le-mul_of_pos_right count weighs in
    let split = suc-mul count (steps + weight) in
    let fits : count + (steps + weight) ≤ suc count * (steps + weight) = omega (arith, wide, split) in
    let grows = pow_mono fits in
    omega (arith, all, joined, grows)

pub rounds_enough : (code : CodeProgram) (limits : Limits) → ProgramsHaveRounds code limits
rounds_enough code limits count sel number =
    let one : ActorView = starting (actor_of code limits) in
    let letter : Letter = first_letter sel number in
    let few = delivers_few (letter ∷ []) (replicate count one) in
    let each = each_left count (limits.steps * (limits.cells + 2) + 1) one (started_left (actor_of code limits)) in
    let some : 1 ≤ limits.cells + 2 = omega arith in
    let all = enough count limits.steps (limits.cells + 2) some in
    let length_is : length (delivered 0 (letter ∷ []) (replicate count one)) ≡ count
    = length_delivered 0 (letter ∷ []) (replicate count one) ∙ length-replicate count one in
    let power : suc count * (limits.steps + (limits.cells + 2)) ≡ power_of_rounds (length (delivered 0 (letter ∷ []) (replicate count one))) limits
    = power_is count limits ∙ ap (λ n. power_of_rounds n limits) (sym length_is) in
    let same = ap (λ n. 2 ^ n) power in
    omega (arith, few, each, all, same)
  where
    power_is : (count : ℕ) (limits : Limits) → suc count * (limits.steps + (limits.cells + 2)) ≡ power_of_rounds count limits
    power_is count limits =
        let one : suc count ≡ count + 1 = omega arith in
        let other : limits.steps + (limits.cells + 2) ≡ limits.steps + limits.cells + 2 = omega arith in
        ap (λ n. n * (limits.steps + (limits.cells + 2))) one ∙ ap (λ n. (count + 1) * n) other
