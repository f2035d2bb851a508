-- The heights of a sound body agree.
use Rattle.std.proofs.Common.{◌≡◌, ◌≢◌, ℕ, zero, suc, ◌+◌, ◌-◌, ◌≤◌, ◌<◌, List, [], ◌∷◌, length, slice_get, slice_set, Option, Some, None, unwrap_or, true, false, not, ◌==◌, refl, ap, ◌∙◌, arith, subst, if◌then◌else◌, inl, inr}
use Rattle.std.specs.Option.{option_map_or, is_none}
use Rattle.std.proofs.lemmas.List.{get_or-set_same, get_or-set_other, length-set, length-replicate}
use Rattle.std.proofs.lemmas.Option.{slice_get_within}
use Rattle.std.proofs.lemmas.Bool.{cases_eq, cases_order}
use Rattle.std.proofs.lemmas.Bool.Decides.{nat_tests}
use Rattle.ns_code.specs.declared.body.BodyCode.{BodyCode}
use Rattle.ns_code.specs.declared.instruction.Instr.{Instr}
use Rattle.ns_code.specs.Table.{height_after, target, goes_on}
use Rattle.ns_verify.specs.Heights.{Pass, begin, known_at, height_at, with_own, give_target, next, differs, falls_apart, known_beside, jumps_apart, heights_from, heights}
use Rattle.ns_verify.specs.Places.{pass_on, pass_before, height_before}

-- one instruction further
pass_step : (pass : Pass) (number : ℕ) (instrs : List Instr) (i : ℕ) (instr : Instr) → slice_get instrs i ≡ Some instr →
    pass_on pass number instrs (suc i) ≡ next (pass_on pass number instrs i) (number + i) instr
pass_step pass number [] i instr there = absurd cc
pass_step pass number (first ∷ instrs) zero instr there =
    let same : first ≡ instr = cc in
    let at : number + 0 ≡ number = omega arith in
    rw (at, same) refl
pass_step pass number (first ∷ instrs) (suc i) instr there =
    let on : number + suc i ≡ (number + 1) + i = omega arith in
    rw on (pass_step (next pass number first) (number + 1) instrs i instr there)

pub before_step : (body : BodyCode) (at : ℕ) (instr : Instr) → slice_get body.instrs at ≡ Some instr →
    pass_before body (suc at) ≡ next (pass_before body at) at instr
before_step body at instr there =
    let here : 0 + at ≡ at = omega arith in
    pass_step (begin (length body.instrs)) 0 body.instrs at instr there ∙ rw here refl

-- A height that is known is the instruction's.
pub known_is : (pass : Pass) (number height : ℕ) → known_at pass.known number ≡ Some height → height_at pass number ≡ height
known_is pass number height h = rw h refl

-- two numbers are equal or not
same_or_not : (P : Type 0) (a b : ℕ) → (a ≡ b → P) → (a ≢ b → P) → P
same_or_not P a b same other = elim (cases_eq a b) [ inl e ↦ same e | inr d ↦ other d ]

-- what is set stays where it is the same
set_stays : (known : List (Option ℕ)) (number at height new : ℕ) → number < length known → known_at known at ≡ Some height →
    (at ≡ number → new ≡ height) → known_at (slice_set known number (Some new)) at ≡ Some height
set_stays known number at height new within h same =
    same_or_not (known_at (slice_set known number (Some new)) at ≡ Some height) at number
    (λ e. rw e (get_or-set_same known number (Some new) None within ∙ ap Some (same e)))
    (λ d. get_or-set_other known number at (Some new) None d ∙ h)

-- a height that is known stays so through an instruction
own_stays : (pass : Pass) (number at height : ℕ) → number < length pass.known → known_at pass.known at ≡ Some height →
    known_at (with_own pass number) at ≡ Some height
own_stays pass number at height within h =
    set_stays pass.known number at height (height_at pass number) within h (λ e. known_is pass number height (subst (λ n. known_at pass.known n ≡ Some height) e h))

give_stays : (known : List (Option ℕ)) (to given at height : ℕ) (before : Option ℕ) → known_at known to ≡ before →
    known_at known at ≡ Some height → known_at (if is_none before then slice_set known to (Some given) else known) at ≡ Some height
give_stays known to given at height (Some have) e h = h
give_stays known to given at height None e h =
    same_or_not (known_at (slice_set known to (Some given)) at ≡ Some height) at to
    (λ same. absurd (let none : known_at known at ≡ None = rw same e in cc))
    (λ d. get_or-set_other known to at (Some given) None d ∙ h)

target_stays : (known : List (Option ℕ)) (to : Option ℕ) (given at height : ℕ) → known_at known at ≡ Some height →
    known_at (give_target known to given) at ≡ Some height
target_stays known None given at height h = h
target_stays known (Some to) given at height h = give_stays known to given at height (known_at known to) refl h

pub next_stays : (pass : Pass) (number at height : ℕ) (instr : Instr) → number < length pass.known → known_at pass.known at ≡ Some height →
    known_at (next pass number instr).known at ≡ Some height
next_stays pass number at height instr within h =
    target_stays (with_own pass number) (target instr) (height_after instr (height_at pass number)) at height (own_stays pass number at height within h)

-- after an instruction its own height is known
pub own_known : (pass : Pass) (number : ℕ) (instr : Instr) → number < length pass.known →
    known_at (next pass number instr).known number ≡ Some (height_at pass number)
own_known pass number instr within =
    target_stays (with_own pass number) (target instr) (height_after instr (height_at pass number)) number (height_at pass number)
    (get_or-set_same pass.known number (Some (height_at pass number)) None within)

-- as many heights are kept as there are instructions
give_length : (known : List (Option ℕ)) (to : Option ℕ) (given : ℕ) → length (give_target known to given) ≡ length known
give_length known None given = refl
give_length known (Some to) given = given_one (known_at known to)
  where
    given_one : (before : Option ℕ) → length (if is_none before then slice_set known to (Some given) else known) ≡ length known
    given_one None = length-set known to (Some given)
    given_one (Some have) = refl

next_length : (pass : Pass) (number : ℕ) (instr : Instr) → length (next pass number instr).known ≡ length pass.known
next_length pass number instr =
    give_length (with_own pass number) (target instr) (height_after instr (height_at pass number)) ∙ length-set pass.known number (Some (height_at pass number))

on_length : (pass : Pass) (number : ℕ) (instrs : List Instr) (i : ℕ) → length (pass_on pass number instrs i).known ≡ length pass.known
on_length pass number instrs zero = refl
on_length pass number [] (suc i) = refl
on_length pass number (first ∷ instrs) (suc i) = on_length (next pass number first) (number + 1) instrs i ∙ next_length pass number first

pub before_length : (body : BodyCode) (at : ℕ) → length (pass_before body at).known ≡ length body.instrs
before_length body at = on_length (begin (length body.instrs)) 0 body.instrs at ∙ length-replicate (length body.instrs) None

pub some_at : (instrs : List Instr) (i : ℕ) → i < length instrs → (instr : Instr) × (slice_get instrs i ≡ Some instr)
some_at [] i h = absurd (omega arith)
some_at (instr ∷ instrs) zero h = (instr, refl)
some_at (instr ∷ instrs) (suc i) h = some_at instrs i (omega arith)

stays_on : (body : BodyCode) (from steps at height : ℕ) → from + steps ≤ length body.instrs →
    known_at (pass_before body from).known at ≡ Some height → known_at (pass_before body (from + steps)).known at ≡ Some height
stays_on body from zero at height within h = let here : from + 0 ≡ from = omega arith in rw here h
stays_on body from (suc steps) at height within h =
    let on : from + suc steps ≡ suc (from + steps) = omega arith in
    let there = some_at body.instrs (from + steps) (omega arith) in
    let inside : from + steps < length (pass_before body (from + steps)).known = omega (arith, before_length body (from + steps)) in
    rw (on, before_step body (from + steps) there.0 there.1)
    (next_stays (pass_before body (from + steps)) (from + steps) at height there.0 inside (stays_on body from steps at height (omega arith) h))

-- what is known before an instruction is known before each later one
stays : (body : BodyCode) (from to at height : ℕ) → from ≤ to → to ≤ length body.instrs →
    known_at (pass_before body from).known at ≡ Some height → known_at (pass_before body to).known at ≡ Some height
stays body from to at height later within h =
    let on : from + (to - from) ≡ to = omega arith in
    subst (λ n. known_at (pass_before body n).known at ≡ Some height) on (stays_on body from (to - from) at height (omega arith) h)

-- a height that doesn't differ
same_height : (known : Option ℕ) (have height : ℕ) → known ≡ Some have → differs known height ≡ false → have ≡ height
same_height known have height e h = let told : not (have == height) ≡ false = subst (λ o. differs o height ≡ false) e h in grind (arith, nat_tests)

fallen : (known falls : Option ℕ) (after : ℕ) → falls ≡ Some after → option_map_or (differs known) falls false ≡ false →
    unwrap_or known (unwrap_or falls 0) ≡ after
fallen None falls after e h = rw e refl
fallen (Some have) falls after e h = let told : option_map_or (differs (Some have)) (Some after) false ≡ false = subst (λ o. option_map_or (differs (Some have)) o false ≡ false) e h in same_height (Some have) have after refl told

-- what a jump gives is known after it, where it doesn't differ from what was known
given_there : (known : List (Option ℕ)) (to height : ℕ) (before : Option ℕ) → known_at known to ≡ before → to < length known →
    differs before height ≡ false →
    known_at (if is_none before then slice_set known to (Some height) else known) to ≡ Some height
given_there known to height None e within h = get_or-set_same known to (Some height) None within
given_there known to height (Some have) e within h = e ∙ ap Some (same_height (Some have) have height refl h)

-- the target of a jump has the height after it
pub target_height : (body : BodyCode) (at : ℕ) (instr : Instr) (to : ℕ) → slice_get body.instrs at ≡ Some instr → target instr ≡ Some to →
    to < length body.instrs →
    jumps_apart (pass_before body at) at instr ≡ false → height_before body to ≡ height_after instr (height_before body at)
target_height body at instr to there is_target within apart =
    elim (cases_order to at) [ inl same ↦ own same | inr other ↦ elim other [ inl earlier ↦ back earlier | inr later ↦ forth later ] ]
  where
    told : differs (known_beside (pass_before body at) at to) (height_after instr (height_before body at)) ≡ false
    told = subst (λ o. option_map_or (λ t. differs (known_beside (pass_before body at) at t) (height_after instr (height_before body at))) o false ≡ false) is_target apart

    at_within : at < length body.instrs
    at_within = slice_get_within body.instrs at instr there

    own : to ≡ at → height_before body to ≡ height_after instr (height_before body at)
    own same =
        let test : (to == at) ≡ true = grind (arith, nat_tests) in
        let beside : known_beside (pass_before body at) at to ≡ Some (height_before body at) = rw test refl in
        rw same (same_height (known_beside (pass_before body at) at to) (height_before body at) (height_after instr (height_before body at)) beside told)

    back : to < at → height_before body to ≡ height_after instr (height_before body at)
    back earlier =
        let test : (to == at) ≡ false = grind (arith, nat_tests) in
        let jumped = some_at body.instrs to within in
        let known : known_at (pass_before body (suc to)).known to ≡ Some (height_before body to) =
        rw (before_step body to jumped.0 jumped.1) (own_known (pass_before body to) to jumped.0 (omega (arith, before_length body to))) in
        let beside : known_beside (pass_before body at) at to ≡ Some (height_before body to) = rw test (stays body (suc to) at to (height_before body to) (omega arith) (omega (arith, at_within)) known) in
        same_height (known_beside (pass_before body at) at to) (height_before body to) (height_after instr (height_before body at)) beside told

    forth : at < to → height_before body to ≡ height_after instr (height_before body at)
    forth later =
        let test : (to == at) ≡ false = grind (arith, nat_tests) in
        let beside : known_beside (pass_before body at) at to ≡ known_at (pass_before body at).known to = rw test refl in
        let other : known_at (with_own (pass_before body at) at) to ≡ known_at (pass_before body at).known to = get_or-set_other (pass_before body at).known at to (Some (height_before body at)) None (λ e. omega arith) in
        let apart_not : differs (known_at (with_own (pass_before body at) at) to) (height_after instr (height_before body at)) ≡ false = rw other (subst (λ o. differs o (height_after instr (height_before body at)) ≡ false) beside told) in
        let long : to < length (with_own (pass_before body at) at) = omega (arith, length-set (pass_before body at).known at (Some (height_before body at)), before_length body at) in
        let given : known_at (next (pass_before body at) at instr).known to ≡ Some (height_after instr (height_before body at)) =
        rw is_target (given_there (with_own (pass_before body at) at) to (height_after instr (height_before body at)) (known_at (with_own (pass_before body at) at) to) refl long apart_not) in
        let known : known_at (pass_before body (suc at)).known to ≡ Some (height_after instr (height_before body at)) = rw (before_step body at instr there) given in
        known_is (pass_before body to) to (height_after instr (height_before body at)) (stays body (suc at) to to (height_after instr (height_before body at)) (omega arith) (omega arith) known)

-- the next instruction has the height after this one, where this one goes on
pub next_height : (body : BodyCode) (at : ℕ) (instr : Instr) → slice_get body.instrs at ≡ Some instr → goes_on instr ≡ true →
    falls_apart (pass_before body (suc at)) (suc at) ≡ false → height_before body (suc at) ≡ height_after instr (height_before body at)
next_height body at instr there on apart =
    let falls : (pass_before body (suc at)).falls ≡ Some (height_after instr (height_before body at)) = rw (before_step body at instr there, on) refl in
    fallen (known_at (pass_before body (suc at)).known (suc at)) (pass_before body (suc at)).falls (height_after instr (height_before body at)) falls apart

heights_on : (pass : Pass) (number : ℕ) (instrs : List Instr) (i : ℕ) (instr : Instr) → slice_get instrs i ≡ Some instr →
    slice_get (heights_from pass number instrs) i ≡ Some (height_at (pass_on pass number instrs i) (number + i))
heights_on pass number [] i instr there = absurd cc
heights_on pass number (first ∷ instrs) zero instr there = let at : number + 0 ≡ number = omega arith in rw at refl
heights_on pass number (first ∷ instrs) (suc i) instr there =
    let on : number + suc i ≡ (number + 1) + i = omega arith in
    rw on (heights_on (next pass number first) (number + 1) instrs i instr there)

-- The list of a body's heights has the height before each instruction.
pub heights_list : (body : BodyCode) (at : ℕ) (instr : Instr) → slice_get body.instrs at ≡ Some instr →
    slice_get (heights body) at ≡ Some (height_before body at)
heights_list body at instr there =
    let here : 0 + at ≡ at = omega arith in
    heights_on (begin (length body.instrs)) 0 body.instrs at instr there ∙ rw here refl
