-- Environments fit a body step by step outwards.
use Rattle.std.proofs.Common.{◌≡◌, ℕ, zero, suc, ◌+◌, ◌-◌, ◌<◌, List, length, slice_get, refl, ap, sym, ◌∙◌, arith, Option, Some, None, Bool, true, false, cond, ◌&&◌}
use Rattle.std.specs.Prelude.{option_and_then, ◌==◌}
use Rattle.std.specs.Option.{is_some, option_map_or}
use Rattle.ns_code.specs.declared.program.CodeProgram.{CodeProgram}
use Rattle.ns_code.specs.declared.body.BodyCode.{BodyCode}
use Rattle.ns_world.specs.declared.value.Value.{Value}
use Rattle.ns_world.specs.declared.value.Value.TheVariants.{Nil, True, False, Int, Sym, Kernel, Ref}
use Rattle.ns_world.specs.Heap.{Heap, find_cell}
use Rattle.ns_world.specs.Seek.{is_nil}
use Rattle.ns_world.specs.Lawful.{environment_in}
use Rattle.ns_frozen.specs.Live.{fits_environment}
use Rattle.ns_frozen_fitting.specs.Environments.{around_in, around}

-- whether what stands around fits, where there is something
abbrev pub fits_around : ℕ → CodeProgram → Heap → Option (Option ℕ × Value) → Bool
fits_around depth code heap o = option_map_or (λ (p : Option ℕ × Value). fits_environment depth code heap p.0 p.1) o false

-- one step
pub fits_step : (depth : ℕ) (code : CodeProgram) (heap : Heap) (body : ℕ) (env : Value)
    → fits_environment (suc depth) code heap (Some body) env ≡ fits_around depth code heap (around code heap body env)
fits_step depth code heap body (Ref at) = of (environment_in (find_cell heap at))
  where
    by_test : (t : Bool) (parent : Option ℕ) (env : Value)
        → (t && fits_environment depth code heap parent env) ≡ fits_around depth code heap (cond t (Some (parent, env)) None)
    by_test true parent env = refl
    by_test false parent env = refl

    with_body : (e : Value × List Value) (o : Option BodyCode)
        → option_map_or (λ (b : BodyCode). length e.1 == b.locals && fits_environment depth code heap b.parent e.0) o false
        ≡ fits_around depth code heap (option_and_then (λ (b : BodyCode). cond (length e.1 == b.locals) (Some (b.parent, e.0)) None) o)
    with_body e None = refl
    with_body e (Some b) = by_test (length e.1 == b.locals) b.parent e.0

    of : (o : Option (Value × List Value))
        → option_map_or (λ (e : Value × List Value). option_map_or
        (λ (b : BodyCode). length e.1 == b.locals && fits_environment depth code heap b.parent e.0) (slice_get code.bodies body) false) o false
        ≡ fits_around depth code heap (around_in code body o)
    of None = refl
    of (Some e) = with_body e (slice_get code.bodies body)
fits_step depth code heap body Nil = refl
fits_step depth code heap body True = refl
fits_step depth code heap body False = refl
fits_step depth code heap body (Int n) = refl
fits_step depth code heap body (Sym sel) = refl
fits_step depth code heap body (Kernel class) = refl

-- no body fits nil, however deep
pub fits_none : (depth : ℕ) (code : CodeProgram) (heap : Heap) (env : Value) → fits_environment depth code heap None env ≡ is_nil env
fits_none zero code heap env = refl
fits_none (suc depth) code heap env = refl

-- with more to come
pub fits_more : (depth done : ℕ) (code : CodeProgram) (heap : Heap) (body : ℕ) (env : Value) → done < depth
    → fits_environment (depth - done) code heap (Some body) env ≡ fits_around (depth - suc done) code heap (around code heap body env)
fits_more depth done code heap body env h =
    let e : depth - done ≡ suc (depth - suc done) = omega (arith, h) in
    ap (λ (n : ℕ). fits_environment n code heap (Some body) env) e ∙ fits_step (depth - suc done) code heap body env

-- with none to come
pub fits_no_more : (n : ℕ) (code : CodeProgram) (heap : Heap) (body : ℕ) (env : Value) → n ≡ 0 → fits_environment n code heap (Some body) env ≡ false
fits_no_more n code heap body env e = ap (λ (n : ℕ). fits_environment n code heap (Some body) env) e

-- ---- the walk outwards

-- one more body outwards
pub out_on : (depth done : ℕ) (code : CodeProgram) (heap : Heap) (at : Option ℕ) (body : ℕ) (env : Value) (parent : Option ℕ) (outer : Value) (whole : Bool)
    → done < depth → at ≡ Some body → Some (parent, outer) ≡ around code heap body env → fits_environment (depth - done) code heap at env ≡ whole
    → fits_environment (depth - (done + 1)) code heap parent outer ≡ whole
out_on depth done code heap at body env parent outer whole h is there same =
    let next : depth - (done + 1) ≡ depth - suc done = omega arith in
    ap (λ (n : ℕ). fits_environment n code heap parent outer) next
    ∙ (ap (fits_around (depth - suc done) code heap) there
    ∙ (sym (fits_more depth done code heap body env h)
    ∙ (ap (λ (o : Option ℕ). fits_environment (depth - done) code heap o env) (sym is) ∙ same)))

-- a body that is known to fit
pub out_known : (left : ℕ) (code : CodeProgram) (heap : Heap) (at : Option ℕ) (body : ℕ) (env : Value) (whole : Bool) → at ≡ Some body
    → fits_environment left code heap (Some body) env ≡ true → fits_environment left code heap at env ≡ whole → true ≡ whole
out_known left code heap at body env whole is fits same =
    sym fits ∙ (ap (λ (o : Option ℕ). fits_environment left code heap o env) (sym is) ∙ same)

-- none outwards
pub out_nowhere : (depth done : ℕ) (code : CodeProgram) (heap : Heap) (at : Option ℕ) (body : ℕ) (env : Value) (whole : Bool)
    → done < depth → at ≡ Some body → None ≡ around code heap body env → fits_environment (depth - done) code heap at env ≡ whole → false ≡ whole
out_nowhere depth done code heap at body env whole h is none same =
    ap (fits_around (depth - suc done) code heap) none
    ∙ (sym (fits_more depth done code heap body env h)
    ∙ (ap (λ (o : Option ℕ). fits_environment (depth - done) code heap o env) (sym is) ∙ same))

-- outside of all bodies
pub out_all : (left : ℕ) (code : CodeProgram) (heap : Heap) (at : Option ℕ) (env : Value) (whole : Bool) → at ≡ None
    → fits_environment left code heap at env ≡ whole → is_nil env ≡ whole
out_all left code heap at env whole is same =
    sym (fits_none left code heap env) ∙ (ap (λ (o : Option ℕ). fits_environment left code heap o env) (sym is) ∙ same)

-- where no more may come
pub out_end : (left : ℕ) (code : CodeProgram) (heap : Heap) (at : Option ℕ) (env : Value) (whole : Bool) → is_some at ≡ false
    → fits_environment left code heap at env ≡ whole → is_nil env ≡ whole
out_end left code heap None env whole e same = sym (fits_none left code heap env) ∙ same
out_end left code heap (Some body) env whole e same = absurd (cc)

pub out_past : (left : ℕ) (code : CodeProgram) (heap : Heap) (at : Option ℕ) (env : Value) (whole : Bool) → left ≡ 0 → is_some at ≡ true
    → fits_environment left code heap at env ≡ whole → false ≡ whole
out_past left code heap None env whole none e same = absurd (cc)
out_past left code heap (Some body) env whole none e same = sym (fits_no_more left code heap body env none) ∙ same
