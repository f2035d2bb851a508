-- What is kept of environments tells which bodies they fit.
use Rattle.std.proofs.Common.{◌≡◌, ℕ, zero, suc, ◌-◌, ◌<◌, ◌≤◌, List, length, get_or, slice_get, replicate, refl, ap, sym, ◌∙◌, subst, arith, Option, Some, None, Bool, true, false, eqb, cond}
use Rattle.std.specs.Prelude.{slice_set, ◌==◌, option_and_then, IfSome}
use Rattle.std.proofs.lemmas.Bool.{eqb-true, eq-eqb}
use Rattle.std.proofs.lemmas.Option.{slice_get_within}
use Rattle.ns_code.specs.declared.program.CodeProgram.{CodeProgram}
use Rattle.ns_code.specs.declared.body.BodyCode.{BodyCode}
use Rattle.ns_code.specs.Soundness.{are_parents_earlier}
use Rattle.ns_world.specs.declared.value.Value.{Value}
use Rattle.ns_world.specs.declared.value.Value.TheVariants.{Nil, True, False, Int, Sym, Kernel, Ref}
use Rattle.ns_world.specs.Heap.{Heap, find_cell}
use Rattle.ns_world.specs.Lawful.{environment_in}
use Rattle.ns_frozen.specs.Live.{fits_environment}
use Rattle.ns_frozen_seen.specs.declared.seen.Seen.{Seen}
use Rattle.ns_frozen_fitting.specs.Environments.{around, around_in}
use Rattle.ns_frozen_tables.specs.Numbers.{IsPlaceOf}
use Rattle.ns_frozen_tables.specs.Shapes.{AreShapes}
use Rattle.ns_frozen_seen.specs.Fitting.{AreFitting}
use Rattle.ns_frozen_seen.specs.Seen.{IsSeen, heap_of}
use Rattle.ns_frozen_fitting.proofs.Outwards.{fits_around, fits_step, fits_none}
use Rattle.ns_frozen_tables.specs.laws.Lists.{set_each, past}
use Rattle.ns_frozen_fitting.proofs.Alike.{fits_alike, fits_deep, earlier}

-- ---- shapes

-- a body that has a shape is there, and so is the one that tells it
within_both : (code : CodeProgram) (shapes : List ℕ) (number shape : ℕ) → AreShapes code shapes → slice_get shapes number ≡ Some shape
    → (number < length code.bodies) × (shape < length code.bodies)
within_both code shapes number shape are kept = (inside, of (slice_get code.bodies number) refl (eqb number shape) refl)
  where
    inside : number < length code.bodies
    inside = omega (arith, slice_get_within shapes number shape kept, are.few)

    of : (o : Option BodyCode) → slice_get code.bodies number ≡ o → (b : Bool) → eqb number shape ≡ b → shape < length code.bodies
    of None f b t = absurd (omega (arith, inside, past code.bodies number f))
    of (Some body) f true t = omega (arith, inside, eqb-true number shape t)
    of (Some body) f false t =
        let twin = are.each number shape body f kept (λ q. let x : true ≡ false = sym (eq-eqb number shape q) ∙ t in cc) in
        slice_get_within code.bodies shape twin.other twin.there

-- ---- what is known

-- an environment with the shape of a body fits that, at each depth above its number
pub fits_known : (seen : Seen) (kept : List ℕ) (number shape at place depth : ℕ) → IsSeen seen → AreFitting seen.code.now (heap_of seen) seen.numbers kept
    → slice_get seen.bodies.shapes number ≡ Some shape → slice_get kept place ≡ Some shape → IsPlaceOf seen.numbers at (Some place) → number < depth
    → fits_environment depth seen.code.now (heap_of seen) (Some number) (Ref at) ≡ true
fits_known seen kept number shape at place depth is are told known placed h =
    let both = within_both seen.code.now seen.bodies.shapes number shape is.bodies.shapes told in
    fits_deep depth (length seen.code.now.bodies) seen.code.now (heap_of seen) number (Ref at) is.parents h both.0
    ∙ (fits_alike (length seen.code.now.bodies) seen.code.now (heap_of seen) seen.bodies.shapes number shape (Ref at) is.bodies.shapes told
    ∙ subst (λ (n : ℕ). fits_environment (length seen.code.now.bodies) seen.code.now (heap_of seen) (Some shape) (Ref n) ≡ true)
    placed.1 (are place shape known both.1))

-- ---- one more

-- the environment of a number is kept with the shape of a body that it fits
pub fits_more : (seen : Seen) (kept after : List ℕ) (number shape at place : ℕ) → IsSeen seen → AreFitting seen.code.now (heap_of seen) seen.numbers kept
    → slice_get seen.bodies.shapes number ≡ Some shape → IsPlaceOf seen.numbers at (Some place)
    → fits_environment (length seen.code.now.bodies) seen.code.now (heap_of seen) (Some number) (Ref at) ≡ true
    → after ≡ slice_set kept place shape → AreFitting seen.code.now (heap_of seen) seen.numbers after
fits_more seen kept after number shape at place is are told placed fits e =
    subst (AreFitting seen.code.now (heap_of seen) seen.numbers) (sym e)
    (set_each kept place shape
    (λ i y. y < length seen.code.now.bodies → fits_environment (length seen.code.now.bodies) seen.code.now (heap_of seen) (Some y) (Ref (get_or seen.numbers i 0)) ≡ true)
    are (λ h. here))
  where
    here : fits_environment (length seen.code.now.bodies) seen.code.now (heap_of seen) (Some shape) (Ref (get_or seen.numbers place 0)) ≡ true
    here =
        subst (λ (n : ℕ). fits_environment (length seen.code.now.bodies) seen.code.now (heap_of seen) (Some shape) (Ref n) ≡ true)
        (sym placed.1)
        (sym (fits_alike (length seen.code.now.bodies) seen.code.now (heap_of seen) seen.bodies.shapes number shape (Ref at) is.bodies.shapes told) ∙ fits)

-- nothing is kept
pub none_fit : (code : CodeProgram) (heap : Heap) (numbers kept : List ℕ) (count none : ℕ) → kept ≡ replicate count none → length code.bodies ≤ none
    → AreFitting code heap numbers kept
none_fit code heap numbers kept count none e h place body there within =
    absurd (omega (arith, h, within, same count place (ap (λ (ks : List ℕ). slice_get ks place) (sym e) ∙ there)))
  where
    same : (n k : ℕ) → slice_get (replicate n none) k ≡ Some body → body ≡ none
    same zero k f = absurd (cc)
    same (suc n) zero f = cc
    same (suc n) (suc k) f = same n k f

-- ---- outwards

-- what is around fits too
pub fits_out : (code : CodeProgram) (heap : Heap) (number : ℕ) (env : Value) (parent : Option ℕ) (outer : Value) → are_parents_earlier 0 code.bodies ≡ true
    → fits_environment (length code.bodies) code heap (Some number) env ≡ true → Some (parent, outer) ≡ around code heap number env
    → fits_environment (length code.bodies) code heap parent outer ≡ true
fits_out code heap number env parent outer early fits there = of (length code.bodies) refl fits
  where
    body_around : (o : Option BodyCode) (locals : ℕ) (p : Value) → slice_get code.bodies number ≡ o
        → ◌≡◌ {A = Option (Option ℕ × Value)} (Some (parent, outer)) (option_and_then (λ (b : BodyCode). cond (locals == b.locals) (Some (b.parent, p)) None) o)
        → (q : ℕ) → parent ≡ Some q → (q < number) × (number < length code.bodies)
    body_around None locals p f e q is = absurd (cc)
    body_around (Some body) locals p f e q is = tested (locals == body.locals) e
      where
        tested : (b : Bool) → ◌≡◌ {A = Option (Option ℕ × Value)} (Some (parent, outer)) (cond b (Some (body.parent, p)) None) → (q < number) × (number < length code.bodies)
        tested true e =
            let both : ◌≡◌ {A = Option ℕ × Value} (parent, outer) (body.parent, p) = cc in
            (earlier code number body q early f (sym (ap (λ (x : Option ℕ × Value). x.0) both) ∙ is), slice_get_within code.bodies number body f)
        tested false e = absurd (cc)

    low : (env : Value) → Some (parent, outer) ≡ around code heap number env → (q : ℕ) → parent ≡ Some q → (q < number) × (number < length code.bodies)
    low (Ref at) e q is = by (environment_in (find_cell heap at)) e
      where
        by : (o : Option (Value × List Value)) → Some (parent, outer) ≡ around_in code number o → (q < number) × (number < length code.bodies)
        by None e = absurd (cc)
        by (Some v) e = body_around (slice_get code.bodies number) (length v.1) v.0 refl e q is
    low Nil e q is = absurd (cc)
    low True e q is = absurd (cc)
    low False e q is = absurd (cc)
    low (Int n) e q is = absurd (cc)
    low (Sym sel) e q is = absurd (cc)
    low (Kernel class) e q is = absurd (cc)

    deeper : (m : ℕ) → length code.bodies ≡ suc m → (o : Option ℕ) → parent ≡ o → fits_environment m code heap o outer ≡ true
        → fits_environment (suc m) code heap o outer ≡ true
    deeper m e None is f = fits_none (suc m) code heap outer ∙ (sym (fits_none m code heap outer) ∙ f)
    deeper m e (Some q) is f =
        let small = low env there q is in
        fits_deep (suc m) m code heap q outer early (omega (arith, small.0, small.1, e)) (omega (arith, small.0, small.1, e)) ∙ f

    of : (n : ℕ) → length code.bodies ≡ n → fits_environment n code heap (Some number) env ≡ true → fits_environment n code heap parent outer ≡ true
    of zero e f = absurd (cc)
    of (suc m) e f =
        deeper m e parent refl
        (ap (fits_around m code heap) there ∙ (sym (fits_step m code heap number env) ∙ f))

-- the same of what may be around
pub fits_around_out : (code : CodeProgram) (heap : Heap) (number : ℕ) (env : Value) (o : Option (Option ℕ × Value)) → are_parents_earlier 0 code.bodies ≡ true
    → fits_environment (length code.bodies) code heap (Some number) env ≡ true → o ≡ around code heap number env
    → IfSome o (λ (p : Option ℕ × Value). fits_environment (length code.bodies) code heap p.0 p.1 ≡ true)
fits_around_out code heap number env None early fits e = tt
fits_around_out code heap number env (Some p) early fits e = fits_out code heap number env p.0 p.1 early fits e

pub seen_none_fit : (seen : Seen) (kept : List ℕ) (count : ℕ) → IsSeen seen → kept ≡ replicate count 4294967295
    → AreFitting seen.code.now (heap_of seen) seen.numbers kept
seen_none_fit seen kept count is e = none_fit seen.code.now (heap_of seen) seen.numbers kept count 4294967295 e (omega (arith, is.fits.body_count))
