-- Bodies of one shape fit the same environments.
use Rattle.std.proofs.Common.{◌≡◌, ◌≢◌, ℕ, zero, suc, ◌+◌, ◌<◌, List, [], ◌∷◌, length, slice_get, refl, ap, sym, ◌∙◌, arith, Option, Some, None, Bool, true, false, eqb, ◌&&◌}
use Rattle.std.specs.Prelude.{◌==◌, nat_lt}
use Rattle.std.specs.Option.{option_map_or}
use Rattle.std.proofs.lemmas.Bool.{eqb-true, eq-eqb, ltb-true}
use Rattle.std.proofs.lemmas.Option.{slice_get_within}
use Rattle.ns_code.specs.declared.program.CodeProgram.{CodeProgram}
use Rattle.ns_code.specs.declared.body.BodyCode.{BodyCode}
use Rattle.ns_code.specs.Soundness.{are_parents_earlier}
use Rattle.ns_world.specs.declared.value.Value.{Value}
use Rattle.ns_world.specs.declared.value.Value.TheVariants.{Nil, True, False, Int, Sym, Kernel, Ref}
use Rattle.ns_world.specs.Heap.{Heap, find_cell}
use Rattle.ns_world.specs.Lawful.{environment_in}
use Rattle.ns_world.specs.laws.Chains.{both_of}
use Rattle.ns_frozen.specs.Live.{fits_environment}
use Rattle.ns_frozen_tables.specs.Shapes.{AreAlike, AreShapes}
use Rattle.ns_frozen_tables.specs.laws.Lists.{past}
use Rattle.ns_frozen_fitting.proofs.Outwards.{fits_none}

-- ---- what fits

-- a body fits what another does that is as deep, where what is around them does
step : (depth more : ℕ) (code : CodeProgram) (heap : Heap) (number other : ℕ) (body twin : BodyCode) (env : Value)
    → slice_get code.bodies number ≡ Some body → slice_get code.bodies other ≡ Some twin → body.locals ≡ twin.locals
    → ((v : Value) → fits_environment depth code heap body.parent v ≡ fits_environment more code heap twin.parent v)
    → fits_environment (suc depth) code heap (Some number) env ≡ fits_environment (suc more) code heap (Some other) env
step depth more code heap number other body twin (Ref at) f g locals around = of (environment_in (find_cell heap at))
  where
    inside : Option BodyCode → ℕ → Value × List Value → Bool
    inside o deep e = option_map_or (λ (b : BodyCode). length e.1 == b.locals && fits_environment deep code heap b.parent e.0) o false

    both : (e : Value × List Value) → inside (slice_get code.bodies number) depth e ≡ inside (slice_get code.bodies other) more e
    both e =
        ap (λ o. inside o depth e) f
        ∙ (ap (λ (n : ℕ). length e.1 == n && fits_environment depth code heap body.parent e.0) locals
        ∙ (ap (λ (b : Bool). length e.1 == twin.locals && b) (around e.0)
        ∙ ap (λ o. inside o more e) (sym g)))

    of : (o : Option (Value × List Value)) → option_map_or (inside (slice_get code.bodies number) depth) o false ≡ option_map_or (inside (slice_get code.bodies other) more) o false
    of None = refl
    of (Some e) = both e
step depth more code heap number other body twin Nil f g locals around = refl
step depth more code heap number other body twin True f g locals around = refl
step depth more code heap number other body twin False f g locals around = refl
step depth more code heap number other body twin (Int n) f g locals around = refl
step depth more code heap number other body twin (Sym sel) f g locals around = refl
step depth more code heap number other body twin (Kernel class) f g locals around = refl

-- what is around two that are alike
alike_around : (depth : ℕ) (code : CodeProgram) (heap : Heap) (shapes : List ℕ)
    → ((number shape : ℕ) (v : Value) → slice_get shapes number ≡ Some shape
    → fits_environment depth code heap (Some number) v ≡ fits_environment depth code heap (Some shape) v)
    → (one other : Option ℕ) (v : Value) → AreAlike shapes one other → fits_environment depth code heap one v ≡ fits_environment depth code heap other v
alike_around depth code heap shapes below None None v alike = refl
alike_around depth code heap shapes below None (Some other) v alike = absurd alike
alike_around depth code heap shapes below (Some one) None v alike = absurd alike
alike_around depth code heap shapes below (Some one) (Some other) v alike =
    below one alike.shape v alike.has_one ∙ sym (below other alike.shape v alike.has_other)

-- a body and the one that tells its shape fit the same
pub fits_alike : (depth : ℕ) (code : CodeProgram) (heap : Heap) (shapes : List ℕ) (number shape : ℕ) (env : Value) → AreShapes code shapes
    → slice_get shapes number ≡ Some shape
    → fits_environment depth code heap (Some number) env ≡ fits_environment depth code heap (Some shape) env
fits_alike zero code heap shapes number shape env are kept = refl
fits_alike (suc depth) code heap shapes number shape env are kept =
    tested (eqb number shape) refl (λ n s v k. fits_alike depth code heap shapes n s v are k)
  where
    Below : Type 0
    Below = (number shape : ℕ) (v : Value) → slice_get shapes number ≡ Some shape
        → fits_environment depth code heap (Some number) v ≡ fits_environment depth code heap (Some shape) v

    with_body : (o : Option BodyCode) → slice_get code.bodies number ≡ o → number ≢ shape → Below
        → fits_environment (suc depth) code heap (Some number) env ≡ fits_environment (suc depth) code heap (Some shape) env
    with_body None f other below = absurd (omega (arith, past code.bodies number f, slice_get_within shapes number shape kept, are.few))
    with_body (Some body) f other below =
        let twin = are.each number shape body f kept other in
        step depth depth code heap number shape body twin.other env f twin.there twin.locals
        (λ v. alike_around depth code heap shapes below body.parent twin.other.parent v twin.around)

    tested : (b : Bool) → eqb number shape ≡ b → Below
        → fits_environment (suc depth) code heap (Some number) env ≡ fits_environment (suc depth) code heap (Some shape) env
    tested true t below = ap (λ (n : ℕ). fits_environment (suc depth) code heap (Some n) env) (eqb-true number shape t)
    tested false t below = with_body (slice_get code.bodies number) refl (λ q. let x : true ≡ false = sym (eq-eqb number shape q) ∙ t in cc) below

-- ---- how deep

-- a parent is earlier
earlier_from : (number k : ℕ) (bodies : List BodyCode) (body : BodyCode) (parent : ℕ) → are_parents_earlier number bodies ≡ true
    → slice_get bodies k ≡ Some body → body.parent ≡ Some parent → parent < number + k
earlier_from number zero [] body parent s e is = absurd (cc)
earlier_from number (suc k) [] body parent s e is = absurd (cc)
earlier_from number zero (first ∷ bodies) body parent s e is =
    let two = both_of (option_map_or (λ parent. nat_lt parent number) first.parent true) (are_parents_earlier (number + 1) bodies) s in
    let same : first ≡ body = cc in
    let t : nat_lt parent number ≡ true = sym (ap (λ o. option_map_or (λ parent. nat_lt parent number) o true) (ap (λ (b : BodyCode). b.parent) same ∙ is)) ∙ two.0 in
    omega (arith, ltb-true parent number t)
earlier_from number (suc k) (first ∷ bodies) body parent s e is =
    let two = both_of (option_map_or (λ parent. nat_lt parent number) first.parent true) (are_parents_earlier (number + 1) bodies) s in
    omega (arith, earlier_from (number + 1) k bodies body parent two.1 e is)

-- what fits a body fits it at each depth above its number
pub fits_deep : (depth more : ℕ) (code : CodeProgram) (heap : Heap) (number : ℕ) (env : Value) → are_parents_earlier 0 code.bodies ≡ true
    → number < depth → number < more → fits_environment depth code heap (Some number) env ≡ fits_environment more code heap (Some number) env
fits_deep zero more code heap number env early h g = absurd (omega (arith, h))
fits_deep (suc depth) zero code heap number env early h g = absurd (omega (arith, g))
fits_deep (suc depth) (suc more) code heap number env early h g =
    with_body (slice_get code.bodies number) refl env (λ n v a b. fits_deep depth more code heap n v early a b)
  where
    Below : Type 0
    Below = (n : ℕ) (v : Value) → n < depth → n < more → fits_environment depth code heap (Some n) v ≡ fits_environment more code heap (Some n) v

    parents : (body : BodyCode) → slice_get code.bodies number ≡ Some body → Below → (o : Option ℕ) → body.parent ≡ o → (v : Value)
        → fits_environment depth code heap o v ≡ fits_environment more code heap o v
    parents body f below None is v = fits_none depth code heap v ∙ sym (fits_none more code heap v)
    parents body f below (Some p) is v =
        let low : p < 0 + number = earlier_from 0 number code.bodies body p early f is in
        below p v (omega (arith, low, h)) (omega (arith, low, g))

    no_body : (deep : ℕ) → slice_get code.bodies number ≡ None → (env : Value) → fits_environment (suc deep) code heap (Some number) env ≡ false
    no_body deep f (Ref at) = of (environment_in (find_cell heap at))
      where
        of : (o : Option (Value × List Value))
            → option_map_or (λ (e : Value × List Value). option_map_or (λ (b : BodyCode). length e.1 == b.locals && fits_environment deep code heap b.parent e.0) (slice_get code.bodies number) false) o false ≡ false
        of None = refl
        of (Some e) = ap (λ o. option_map_or (λ (b : BodyCode). length e.1 == b.locals && fits_environment deep code heap b.parent e.0) o false) f
    no_body deep f Nil = refl
    no_body deep f True = refl
    no_body deep f False = refl
    no_body deep f (Int n) = refl
    no_body deep f (Sym sel) = refl
    no_body deep f (Kernel class) = refl

    with_body : (o : Option BodyCode) → slice_get code.bodies number ≡ o → (env : Value) → Below
        → fits_environment (suc depth) code heap (Some number) env ≡ fits_environment (suc more) code heap (Some number) env
    with_body None f env below = no_body depth f env ∙ sym (no_body more f env)
    with_body (Some body) f env below = step depth more code heap number number body body env f f refl (parents body f below body.parent refl)

pub earlier : (code : CodeProgram) (number : ℕ) (body : BodyCode) (parent : ℕ) → are_parents_earlier 0 code.bodies ≡ true
    → slice_get code.bodies number ≡ Some body → body.parent ≡ Some parent → parent < number
earlier code number body parent early f is = omega (arith, earlier_from 0 number code.bodies body parent early f is)
