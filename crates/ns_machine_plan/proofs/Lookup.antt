-- The step of each instruction stands at its number among those of its body, and its place at its own.
use Rattle.std.proofs.Common.{◌≡◌, ℕ, zero, suc, ◌+◌, ◌≤◌, ◌<◌, List, [], ◌∷◌, ◌++◌, length, map, get_or, refl, sym, ap, subst, ◌∙◌, arith, Option, Some, None, All, Bool, true, false, cond, nat_eq}
use Rattle.std.specs.Prelude.{slice_get}
use Rattle.std.specs.List.{slice_index_or}
use Rattle.std.proofs.lemmas.Bool.{eqb-true}
use Rattle.std.proofs.lemmas.Option.{none-some, same_Some, slice_get-get_or, slice_get_past, slice_get_within, get_or_from_slice_get}
use Rattle.std.proofs.lemmas.List.{drop_more, append_assoc, length-append, length-map, append-nil}
use Rattle.std.proofs.Math.Seq.{get_or-append_seam}
use Rattle.ns_base.specs.declared.place.Place.{Place}
use Rattle.ns_code.specs.declared.program.CodeProgram.{CodeProgram}
use Rattle.ns_code.specs.declared.body.BodyCode.{BodyCode}
use Rattle.ns_code.specs.declared.instruction.Instr.{Instr}
use Rattle.ns_code.specs.declared.instruction.Instr.TheVariants as i
use Rattle.ns_code.specs.Fits.{Fits, BodyFits, PlaceFits}
use Rattle.ns_code.specs.Instructions.{carries_place}
use Rattle.ns_moves.specs.Steps as moves
use Rattle.ns_moves.specs.Steps.{place_in, placed, steps_of, steps_from}
use Rattle.ns_machine_plan.specs.declared.step.Step.{Step}
use Rattle.ns_machine_plan.specs.declared.step.Step.TheVariants.{Pop}
use Rattle.ns_machine_plan.specs.Steps.{no_place, place_number, step_of, prepared, all_steps, places_in, all_places, places_of, step_shown, HasItsMember}
use Rattle.ns_machine_plan.specs.Plan.{HasStep, IsStepAt}
use Rattle.ns_machine_plan.proofs.Rows.{HasBody, body_there}
use Rattle.ns_machine_plan.specs.laws.Steps.{steps_are, steps_count}

-- how many places the bodies before one have
abbrev pub first_in : List BodyCode → ℕ → ℕ
first_in [] number = 0
first_in (body ∷ bodies) zero = 0
first_in (body ∷ bodies) (suc number) = length body.places + first_in bodies number

-- ---- the step of an instruction

prepared_there :
    (code : CodeProgram) (body : BodyCode) (first : ℕ) (places : List (ℕ × Place)) (at : ℕ) (instrs : List Instr) (k m : ℕ) (instr : Instr) (d : Step) →
    slice_get instrs k ≡ Some instr → m ≡ at + k →
    get_or (prepared code body first places at instrs) k d ≡ step_of code body (place_number first places m) instr
prepared_there code body first places at [] k m instr d is e = absurd (none-some instr is)
prepared_there code body first places at (one ∷ instrs) zero m instr d is e =
    let same : one ≡ instr = same_Some one instr is in
    let here : at ≡ m = omega (arith, e) in
    cc (same, here)
prepared_there code body first places at (one ∷ instrs) (suc k) m instr d is e =
    prepared_there code body first places (at + 1) instrs k m instr d is (omega (arith, e))

prepared_length : (code : CodeProgram) (body : BodyCode) (first : ℕ) (places : List (ℕ × Place)) (at : ℕ) (instrs : List Instr) →
    length (prepared code body first places at instrs) ≡ length instrs
prepared_length code body first places at [] = refl
prepared_length code body first places at (instr ∷ instrs) =
    let rest : length (prepared code body first places (at + 1) instrs) ≡ length instrs = prepared_length code body first places (at + 1) instrs in
    omega (arith, rest)

-- the steps of a body by its number, among those of bodies
abbrev steps_at : CodeProgram → ℕ → List BodyCode → ℕ → List Step
steps_at code first bodies number = slice_index_or (all_steps code first bodies) number []

-- it is there, among the steps of its body
record StepThere (code : CodeProgram) (first : ℕ) (bodies : List BodyCode) (number next : ℕ) (body : BodyCode) (instr : Instr) (d : Step) : Type 0 where
  inside : next < length (steps_at code first bodies number)
  is : get_or (steps_at code first bodies number) next d ≡ step_of code body (place_number (first + first_in bodies number) body.places next) instr

step_there : (code : CodeProgram) (first : ℕ) (bodies : List BodyCode) (number next : ℕ) (body : BodyCode) (instr : Instr) (d : Step) →
    slice_get bodies number ≡ Some body → slice_get body.instrs next ≡ Some instr → StepThere code first bodies number next body instr d
step_there code first [] number next body instr d is has = absurd (none-some body is)
step_there code first (one ∷ bodies) zero next body instr d is has =
    subst (λ b. (has : slice_get b.instrs next ≡ Some instr) → StepThere code first (one ∷ bodies) zero next b instr d) (same_Some one body is) here has
  where
    here : slice_get one.instrs next ≡ Some instr → StepThere code first (one ∷ bodies) zero next one instr d
    here has =
        let size = prepared_length code one first one.places 0 one.instrs in
        let lt = slice_get_within one.instrs next instr has in
        let from : first ≡ first + 0 = omega arith in
        record {
          inside = omega (arith, size, lt);
          is =
              prepared_there code one first one.places 0 one.instrs next next instr d has (omega arith)
              ∙ ap (λ n. step_of code one (place_number n one.places next) instr) from;
        }
step_there code first (one ∷ bodies) (suc number) next body instr d is has =
    let rest : StepThere code (first + length one.places) bodies number next body instr d = step_there code (first + length one.places) bodies number next body instr d is has in
    let from : first + length one.places + first_in bodies number ≡ first + (length one.places + first_in bodies number) = omega arith in
    record {
      inside = rest.inside;
      is = rest.is ∙ ap (λ n. step_of code body (place_number n body.places next) instr) from;
    }

-- ---- the place of a number

numbered : (before after : List Place) (entries : List (ℕ × Place)) (at : ℕ) →
    length (before ++ (map (λ (entry : ℕ × Place). entry.1) entries ++ after)) ≤ no_place →
    slice_get (before ++ (map (λ (entry : ℕ × Place). entry.1) entries ++ after)) (place_number (length before) entries at) ≡ place_in entries at
numbered before after [] at few = slice_get_past (before ++ ([] ++ after)) no_place few
numbered before after (entry ∷ entries) at few =
    tested (nat_eq entry.0 at) (numbered (before ++ entry.1 ∷ []) after entries at (subst (λ xs. length xs ≤ no_place) (sym shifted) few))
  where
    whole : List Place
    whole = before ++ (entry.1 ∷ (map (λ (e : ℕ × Place). e.1) entries ++ after))

    shifted : (before ++ entry.1 ∷ []) ++ (map (λ (e : ℕ × Place). e.1) entries ++ after) ≡ whole
    shifted = append_assoc before (entry.1 ∷ []) (map (λ (e : ℕ × Place). e.1) entries ++ after)

    count : length (before ++ entry.1 ∷ []) ≡ length before + 1
    count = length-append before (entry.1 ∷ [])

    later : Type 0
    later = slice_get ((before ++ entry.1 ∷ []) ++ (map (λ (e : ℕ × Place). e.1) entries ++ after)) (place_number (length (before ++ entry.1 ∷ [])) entries at) ≡ place_in entries at

    behind_it : later → slice_get whole (place_number (length before + 1) entries at) ≡ place_in entries at
    behind_it is =
        sym (ap (λ xs. slice_get xs (place_number (length (before ++ entry.1 ∷ [])) entries at)) shifted ∙ ap (λ n. slice_get whole (place_number n entries at)) count)
        ∙ is

    long : length whole ≡ length before + length (entry.1 ∷ (map (λ (e : ℕ × Place). e.1) entries ++ after))
    long = length-append before (entry.1 ∷ (map (λ (e : ℕ × Place). e.1) entries ++ after))

    here : slice_get whole (length before) ≡ Some entry.1
    here = slice_get-get_or whole (length before) entry.1 (omega (arith, long)) ∙ ap Some (get_or-append_seam before entry.1 (map (λ (e : ℕ × Place). e.1) entries ++ after) entry.1)

    tested : (b : Bool) → later → slice_get whole (cond b (length before) (place_number (length before + 1) entries at)) ≡ cond b (Some entry.1) (place_in entries at)
    tested true is = here
    tested false is = behind_it is

-- the places of a body among all
record Split (bodies : List BodyCode) (number : ℕ) (body : BodyCode) : Type 0 where
  before : List Place
  after : List Place
  whole : all_places bodies ≡ before ++ (places_in body ++ after)
  count : length before ≡ first_in bodies number

split : (bodies : List BodyCode) (number : ℕ) (body : BodyCode) → slice_get bodies number ≡ Some body → Split bodies number body
split [] number body is = absurd (none-some body is)
split (one ∷ bodies) zero body is =
    let same : one ≡ body = same_Some one body is in
    record { before = []; after = all_places bodies; whole = ap (λ b. places_in b ++ all_places bodies) same; count = refl }
split (one ∷ bodies) (suc number) body is =
    let rest : Split bodies number body = split bodies number body is in
    let size : length (places_in one) ≡ length one.places = length-map one.places _ in
    let all : length (places_in one ++ rest.before) ≡ length (places_in one) + length rest.before = length-append (places_in one) rest.before in
    record {
      before = places_in one ++ rest.before;
      after = rest.after;
      whole = ap (λ ps. places_in one ++ ps) rest.whole ∙ sym (append_assoc (places_in one) rest.before (places_in body ++ rest.after));
      count = omega (arith, size, all, rest.count);
    }

place_there : (code : CodeProgram) (number next : ℕ) (body : BodyCode) (more : List Place) → length (places_of code ++ more) ≤ no_place →
    slice_get code.bodies number ≡ Some body →
    slice_get (places_of code ++ more) (place_number (0 + first_in code.bodies number) body.places next) ≡ place_in body.places next
place_there code number next body more few is =
    let parts : Split code.bodies number body = split code.bodies number body is in
    let n : length parts.before ≡ 0 + first_in code.bodies number = omega (arith, parts.count) in
    let whole : places_of code ++ more ≡ parts.before ++ (places_in body ++ (parts.after ++ more)) =
    ap (λ ps. ps ++ more) parts.whole ∙ (append_assoc parts.before (places_in body ++ parts.after) more ∙ ap (λ ps. parts.before ++ ps) (append_assoc (places_in body) parts.after more)) in
    ap (λ ps. slice_get ps (place_number (0 + first_in code.bodies number) body.places next)) whole
    ∙ (ap (λ k. slice_get (parts.before ++ (places_in body ++ (parts.after ++ more))) (place_number k body.places next)) (sym n)
    ∙ numbered parts.before (parts.after ++ more) body.places next (subst (λ ps. length ps ≤ no_place) whole few))

-- only what carries a place has one
no_place_in : (code : CodeProgram) (body : BodyCode) (entries : List (ℕ × Place)) (at : ℕ) (instr : Instr) →
    All (PlaceFits code body) entries → slice_get body.instrs at ≡ Some instr → carries_place instr ≡ false → place_in entries at ≡ None
no_place_in code body [] at instr fit is none = refl
no_place_in code body (entry ∷ entries) at instr fit is none =
    tested (nat_eq entry.0 at) refl (no_place_in code body entries at instr tail is none)
  where
    tail : All (PlaceFits code body) entries
    tail k d lt = fit (suc k) d (omega (arith, lt))

    tested : (b : Bool) → nat_eq entry.0 at ≡ b → place_in entries at ≡ None → cond b (Some entry.1) (place_in entries at) ≡ None
    tested true e later =
        let here : entry.0 ≡ at = eqb-true entry.0 at e in
        let head : PlaceFits code body entry = fit zero entry (omega arith) in
        let same : slice_index_or body.instrs entry.0 instr ≡ instr = ap (λ n. get_or body.instrs n instr) here ∙ get_or_from_slice_get body.instrs at instr instr is in
        absurd (let both : true ≡ false = sym (ap carries_place (sym same) ∙ head.carries instr) ∙ none in cc)
    tested false e later = later

-- ---- the step and its place

shown_is : (code : CodeProgram) (body : BodyCode) (number : ℕ) (instr : Instr) (places : List Place) (place : Option Place) →
    slice_get places number ≡ place → (carries_place instr ≡ false → place ≡ None) →
    step_shown places (step_of code body number instr) ≡ (instr, place)
shown_is code body number i.PushNil places place is none = ap (λ p. (i.PushNil, p)) (sym (none refl))
shown_is code body number i.PushTrue places place is none = ap (λ p. (i.PushTrue, p)) (sym (none refl))
shown_is code body number i.PushFalse places place is none = ap (λ p. (i.PushFalse, p)) (sym (none refl))
shown_is code body number (i.PushInt n) places place is none = ap (λ p. ((i.PushInt n), p)) (sym (none refl))
shown_is code body number (i.PushSym s) places place is none = ap (λ p. ((i.PushSym s), p)) (sym (none refl))
shown_is code body number (i.PushText n) places place is none = ap (λ p. ((i.PushText n), p)) (sym (none refl))
shown_is code body number i.PushSelf places place is none = ap (λ p. (i.PushSelf, p)) (sym (none refl))
shown_is code body number (i.PushOuter n) places place is none = ap (λ p. ((i.PushOuter n), p)) (sym (none refl))
shown_is code body number (i.PushLocal h k) places place is none = ap (λ p. ((i.PushLocal h k), p)) (sym (none refl))
shown_is code body number (i.StoreLocal h k) places place is none = ap (λ p. ((i.StoreLocal h k), p)) (sym (none refl))
shown_is code body number (i.PushBlock n) places place is none = ap (λ p. ((i.PushBlock n), p)) (sym (none refl))
shown_is code body number (i.MakeArray n) places place is none = ap (λ p. ((i.MakeArray n), p)) (sym (none refl))
shown_is code body number i.Pop places place is none = ap (λ p. (i.Pop, p)) (sym (none refl))
shown_is code body number (i.Pick n) places place is none = ap (λ p. ((i.Pick n), p)) (sym (none refl))
shown_is code body number (i.Send sel argc) places place is none = ap (λ p. ((i.Send sel argc), p)) is
shown_is code body number (i.SendInner sel argc) places place is none = ap (λ p. ((i.SendInner sel argc), p)) is
shown_is code body number (i.SendPrivate level sel argc) places place is none = ap (λ p. ((i.SendPrivate level sel argc), p)) is
shown_is code body number (i.SendSuper sel argc) places place is none = ap (λ p. ((i.SendSuper sel argc), p)) is
shown_is code body number (i.InitSuper argc) places place is none = ap (λ p. ((i.InitSuper argc), p)) is
shown_is code body number (i.StoreSlot n) places place is none = ap (λ p. ((i.StoreSlot n), p)) (sym (none refl))
shown_is code body number i.Return places place is none = ap (λ p. (i.Return, p)) (sym (none refl))
shown_is code body number i.ReturnSelf places place is none = ap (λ p. (i.ReturnSelf, p)) (sym (none refl))
shown_is code body number i.ReturnHome places place is none = ap (λ p. (i.ReturnHome, p)) (sym (none refl))
shown_is code body number (i.Jump n) places place is none = ap (λ p. ((i.Jump n), p)) (sym (none refl))
shown_is code body number (i.JumpFalse n) places place is none = ap (λ p. ((i.JumpFalse n), p)) (sym (none refl))
shown_is code body number (i.JumpTrue n) places place is none = ap (λ p. ((i.JumpTrue n), p)) (sym (none refl))

its_member : (code : CodeProgram) (body : BodyCode) (number : ℕ) (instr : Instr) → HasItsMember code body (step_of code body number instr)
its_member code body number i.PushNil = tt
its_member code body number i.PushTrue = tt
its_member code body number i.PushFalse = tt
its_member code body number (i.PushInt n) = tt
its_member code body number (i.PushSym s) = tt
its_member code body number (i.PushText n) = tt
its_member code body number i.PushSelf = tt
its_member code body number (i.PushOuter n) = tt
its_member code body number (i.PushLocal h k) = tt
its_member code body number (i.StoreLocal h k) = tt
its_member code body number (i.PushBlock n) = tt
its_member code body number (i.MakeArray n) = tt
its_member code body number i.Pop = tt
its_member code body number (i.Pick n) = tt
its_member code body number (i.Send sel argc) = refl
its_member code body number (i.SendInner sel argc) = refl
its_member code body number (i.SendPrivate level sel argc) = refl
its_member code body number (i.SendSuper sel argc) = tt
its_member code body number (i.InitSuper argc) = tt
its_member code body number (i.StoreSlot n) = tt
its_member code body number i.Return = tt
its_member code body number i.ReturnSelf = tt
its_member code body number i.ReturnHome = tt
its_member code body number (i.Jump n) = tt
its_member code body number (i.JumpFalse n) = tt
its_member code body number (i.JumpTrue n) = tt

placed_there : (places : List (ℕ × Place)) (at : ℕ) (instrs : List Instr) (k m : ℕ) (instr : Instr) (d : moves.PlacedInstr) →
    slice_get instrs k ≡ Some instr → m ≡ at + k → get_or (placed places at instrs) k d ≡ (instr, place_in places m)
placed_there places at [] k m instr d is e = absurd (none-some instr is)
placed_there places at (one ∷ instrs) zero m instr d is e =
    let same : one ≡ instr = same_Some one instr is in
    let here : at ≡ m = omega (arith, e) in
    cc (same, here)
placed_there places at (one ∷ instrs) (suc k) m instr d is e = placed_there places (at + 1) instrs k m instr d is (omega (arith, e))

-- what is left from an instruction on begins with it and its place
pub left_from : (code : CodeProgram) (number next : ℕ) (body : BodyCode) (instr : Instr) → slice_get code.bodies number ≡ Some body →
    slice_get body.instrs next ≡ Some instr →
    steps_from code number next ≡ (instr, place_in body.places next) ∷ steps_from code number (next + 1)
left_from code number next body instr is has =
    let lt : next < length (steps_of code number) = subst (λ n. next < n) (sym (steps_count code number body is)) (slice_get_within body.instrs next instr has) in
    drop_more (steps_of code number) next (i.ReturnSelf, None) lt
    ∙ ap (λ step. step ∷ steps_from code number (next + 1))
    (ap (λ steps. get_or steps next (i.ReturnSelf, None)) (steps_are code number body is) ∙ placed_there body.places 0 body.instrs next next instr (i.ReturnSelf, None) has (omega arith))

fits_at : (code : CodeProgram) (number : ℕ) (body : BodyCode) → Fits code → slice_get code.bodies number ≡ Some body → BodyFits code body
fits_at code number body fits is =
    subst (λ b. BodyFits code b) (get_or_from_slice_get code.bodies number body body is) (fits.bodies number body (slice_get_within code.bodies number body is))

step_read : (code : CodeProgram) (number next : ℕ) (body : BodyCode) (instr : Instr) (d : Step) → Fits code →
    length (places_of code) ≤ no_place → slice_get code.bodies number ≡ Some body → slice_get body.instrs next ≡ Some instr →
    IsStepAt code number next (get_or (steps_at code 0 code.bodies number) next d)
step_read code number next body instr d fits few is has =
    subst (λ s. IsStepAt code number next s) (sym (step_there code 0 code.bodies number next body instr d is has).is)
    (record {
      shown = left_from code number next body instr is has ∙ ap (λ s. s ∷ steps_from code number (next + 1)) (sym plain);
      longer = λ more long. ap (λ s. s.1) (shown more long ∙ sym plain);
      member = λ other same. subst (λ b. HasItsMember code b (step_of code body n instr)) (same_Some body other (sym is ∙ same)) (its_member code body n instr);
    })
  where
    n : ℕ
    n = place_number (0 + first_in code.bodies number) body.places next

    shown : (more : List Place) → length (places_of code ++ more) ≤ no_place → step_shown (places_of code ++ more) (step_of code body n instr) ≡ (instr, place_in body.places next)
    shown more long =
        shown_is code body n instr (places_of code ++ more) (place_in body.places next) (place_there code number next body more long is)
        (λ none. no_place_in code body body.places next instr (fits_at code number body fits is).places has none)

    alone : places_of code ++ [] ≡ places_of code
    alone = append-nil (places_of code)

    plain : step_shown (places_of code) (step_of code body n instr) ≡ (instr, place_in body.places next)
    plain = subst (λ ps. step_shown ps (step_of code body n instr) ≡ (instr, place_in body.places next)) alone (shown [] (subst (λ ps. length ps ≤ no_place) (sym alone) few))

-- there is an instruction for each step
pub record HasInstr (code : CodeProgram) (number next : ℕ) : Type 0 where
  pub body : BodyCode
  pub is : slice_get code.bodies number ≡ Some body
  pub instr : Instr
  pub has : slice_get body.instrs next ≡ Some instr

pub instr_there : (code : CodeProgram) (number next : ℕ) → HasStep code number next → HasInstr code number next
instr_there code number next step =
    let there : HasBody code.bodies number = body_there code.bodies number step.body_there in
    let lt : next < length there.body.instrs = subst (λ n. next < n) (steps_count code number there.body there.is) step.next_there in
    record { body = there.body; is = there.is; instr = get_or there.body.instrs next i.Pop; has = slice_get-get_or there.body.instrs next i.Pop lt }

pub step_inside : (code : CodeProgram) (number next : ℕ) (steps : List (List Step)) → steps ≡ all_steps code 0 code.bodies →
    HasStep code number next → next < length (slice_index_or steps number [])
step_inside code number next steps are step =
    let at : HasInstr code number next = instr_there code number next step in
    subst (λ (xs : List (List Step)). next < length (slice_index_or xs number [])) (sym are) (step_there code 0 code.bodies number next at.body at.instr Pop at.is at.has).inside

pub step_told : (code : CodeProgram) (number next : ℕ) (steps : List (List Step)) (d : Step) → steps ≡ all_steps code 0 code.bodies → Fits code →
    length (places_of code) ≤ no_place → HasStep code number next → IsStepAt code number next (get_or (slice_index_or steps number []) next d)
step_told code number next steps d are fits few step =
    let at : HasInstr code number next = instr_there code number next step in
    subst (λ (xs : List (List Step)). IsStepAt code number next (get_or (slice_index_or xs number []) next d)) (sym are) (step_read code number next at.body at.instr d fits few at.is at.has)
