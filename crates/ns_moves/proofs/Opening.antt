-- The locals and the environment with which a body begins.
use Rattle.std.proofs.Common.{◌≡◌, ℕ, zero, suc, ◌+◌, ◌<◌, List, [], ◌∷◌, slice_get, refl, ap, sym, ◌∙◌, subst, arith, Option, Some, None, true}
use Rattle.std.proofs.lemmas.Bool.{ltb-true}
use Rattle.std.specs.Prelude.{nat_lt}
use Rattle.std.specs.Option.{option_map_or}
use Rattle.ns_code.specs.declared.program.CodeProgram.{CodeProgram}
use Rattle.ns_code.specs.declared.body.BodyCode.{BodyCode}
use Rattle.ns_code.specs.Soundness.{are_parents_earlier}
use Rattle.ns_world.specs.declared.value.Value.{Value}
use Rattle.ns_world.specs.declared.value.Value.TheVariants.{Nil, True, False, Int, Sym, Kernel, Ref}
use Rattle.ns_world.specs.Heap.{Heap}
use Rattle.ns_world.specs.Lawful.{FitsEnvironment}
use Rattle.ns_world.specs.laws.Chains.{both_of}
use Rattle.ns_moves.specs.lemmas.Opening.{FitsAround}

-- a parent is earlier
earlier_from : (number k : ℕ) (bodies : List BodyCode) (body : BodyCode) (parent : ℕ) → are_parents_earlier number bodies ≡ true →
    slice_get bodies k ≡ Some body → body.parent ≡ Some parent → parent < number + k
earlier_from number zero [] body parent s e is = absurd (cc)
earlier_from number (suc k) [] body parent s e is = absurd (cc)
earlier_from number zero (first ∷ bodies) body parent s e is =
    let two = both_of (option_map_or (λ parent. nat_lt parent number) first.parent true) (are_parents_earlier (number + 1) bodies) s in
    let same : first ≡ body = cc in
    let t : nat_lt parent number ≡ true = sym (ap (λ o. option_map_or (λ parent. nat_lt parent number) o true) (ap (λ (b : BodyCode). b.parent) same ∙ is)) ∙ two.0 in
    omega (arith, ltb-true parent number t)
earlier_from number (suc k) (first ∷ bodies) body parent s e is =
    let two = both_of (option_map_or (λ parent. nat_lt parent number) first.parent true) (are_parents_earlier (number + 1) bodies) s in
    omega (arith, earlier_from (number + 1) k bodies body parent two.1 e is)

pub earlier : (code : CodeProgram) (number : ℕ) (body : BodyCode) (parent : ℕ) → are_parents_earlier 0 code.bodies ≡ true →
    slice_get code.bodies number ≡ Some body → body.parent ≡ Some parent → parent < number
earlier code number body parent s e is = omega (arith, earlier_from 0 number code.bodies body parent s e is)

-- an environment that fits a body fits it at each depth above its number
pub at_depth : (code : CodeProgram) (heap : Heap) (depth other : ℕ) (body : Option ℕ) (env : Value) →
    are_parents_earlier 0 code.bodies ≡ true → ((number : ℕ) → body ≡ Some number → number < other) →
    FitsEnvironment depth heap code body env → FitsEnvironment other heap code body env
at_depth code heap depth other None env early below h = h
at_depth code heap zero other (Some body) env early below h = absurd h
at_depth code heap (suc depth) zero (Some body) env early below h = absurd (omega (arith, below body refl))
at_depth code heap (suc depth) (suc other) (Some body) (Ref at) early below h = (
  λ e g b c.
      let f = h.0 e g b c in
      (f.0, at_depth code heap depth other b.parent e.0 early (λ number is. omega (arith, earlier code body b number early c is, below body refl)) f.1),
  h.1,
  h.2,
)
at_depth code heap (suc depth) (suc other) (Some body) Nil early below h = absurd h
at_depth code heap (suc depth) (suc other) (Some body) True early below h = absurd h
at_depth code heap (suc depth) (suc other) (Some body) False early below h = absurd h
at_depth code heap (suc depth) (suc other) (Some body) (Int number) early below h = absurd h
at_depth code heap (suc depth) (suc other) (Some body) (Sym sel) early below h = absurd h
at_depth code heap (suc depth) (suc other) (Some body) (Kernel class) early below h = absurd h

-- what a block keeps stands around its body
pub block_around : (heap : Heap) (code : CodeProgram) (number : ℕ) (body : BodyCode) (env : Value) →
    are_parents_earlier 0 code.bodies ≡ true → slice_get code.bodies number ≡ Some body →
    FitsEnvironment (number + 1) heap code body.parent env → FitsAround heap code number env
block_around heap code number body env early e fits =
    λ depth deep.
    subst (λ o. FitsEnvironment depth heap code o env) (sym (ap (λ o. option_map_or (λ (b : BodyCode). b.parent) o None) e))
    (at_depth code heap (number + 1) depth body.parent env early (λ parent is. omega (arith, earlier code number body parent early e is, deep)) fits)
