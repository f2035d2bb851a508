-- A plan that is being made: what was added and what the rest will add is the whole.
use Rattle.std.proofs.Common.{◌≡◌, ℕ, ◌+◌, ◌≤◌, ◌<◌, List, [], ◌∷◌, ◌++◌, length, drop, get_or, sym, ap, subst, ◌∙◌, arith}
use Rattle.std.specs.Prelude.{max}
use Rattle.std.proofs.lemmas.List.{drop_more, append-nil, append_assoc, length-append, length-map}
use Rattle.ns_code.specs.declared.program.CodeProgram.{CodeProgram}
use Rattle.ns_code.specs.declared.body.BodyCode.{BodyCode}
use Rattle.ns_code.specs.Fits.{Fits, BodyFits}
use Rattle.ns_code.specs.Selectors.{IsTableOf}
use Rattle.ns_machine_plan.specs.declared.making.Draft.{Draft}
use Rattle.ns_machine_plan.specs.declared.plan.Plan.{Plan}
use Rattle.ns_machine_plan.specs.Steps.{no_place, prepared, all_steps, all_places, places_in}
use Rattle.ns_machine_plan.specs.Rows.{all_rows, row_of}
use Rattle.ns_machine_plan.specs.Making.{IsEmpty, IsAdded}
use Rattle.ns_machine_plan.specs.Plan.{IsPlanOf}
use Rattle.ns_moves.specs.Bodies.{greatest_of}

-- what was added, before the bodies that are left
pub record IsSoFar (code : CodeProgram) (draft : Draft) (left : List BodyCode) : Type 0 where
  pub steps : draft.steps ++ all_steps code draft.places left ≡ all_steps code 0 code.bodies
  pub bodies : draft.bodies.items ++ all_rows (length draft.bodies.items) left ≡ all_rows 0 code.bodies
  pub places : draft.places + length (all_places left) ≡ length (all_places code.bodies)
  pub count : length draft.bodies.items + length left ≡ length code.bodies
  pub greatest : max draft.greatest (greatest_of left) ≡ greatest_of code.bodies

pub so_far_starts : (code : CodeProgram) (draft : Draft) → IsEmpty draft → IsSoFar code draft code.bodies
so_far_starts code draft empty =
    record {
      steps = cc (empty.steps, empty.places);
      bodies = cc (empty.bodies);
      places = omega (arith, empty.places);
      count = omega (arith, ap length empty.bodies);
      greatest = omega (arith, empty.greatest);
    }

-- the places of a body, and those of the bodies behind it
pub places_count : (body : BodyCode) (left : List BodyCode) → length (all_places (body ∷ left)) ≡ length body.places + length (all_places left)
places_count body left = length-append (places_in body) (all_places left) ∙ ap (λ k. k + length (all_places left)) (length-map body.places _)

-- one round of counting them
pub places_on : (bodies : List BodyCode) (k count sum : ℕ) (body d : BodyCode) → k < length bodies → body ≡ get_or bodies k d →
    sum ≡ count + length body.places → count + length (all_places (drop k bodies)) ≡ length (all_places bodies) →
    sum + length (all_places (drop (k + 1) bodies)) ≡ length (all_places bodies)
places_on bodies k count sum body d lt is more was =
    let left = drop_more bodies k d lt ∙ ap (λ b. b ∷ drop (k + 1) bodies) (sym is) in
    let all = ap (λ bs. length (all_places bs)) left in
    let here = places_count body (drop (k + 1) bodies) in
    omega (arith, more, was, all, here)

pub so_far_goes_on : (code : CodeProgram) (old new : Draft) (body : BodyCode) (left : List BodyCode) → IsSoFar code old (body ∷ left) →
    IsAdded code body old new → IsSoFar code new left
so_far_goes_on code old new body left was added =
    let steps = prepared code body old.places body.places 0 body.instrs in
    let row = row_of (length old.bodies.items) body in
    let k : length new.bodies.items ≡ length old.bodies.items + 1 = ap length added.bodies ∙ length-append old.bodies.items (row ∷ []) in
    record {
      steps =
          ap (λ xs. xs ++ all_steps code new.places left) added.steps
          ∙ (append_assoc old.steps (steps ∷ []) (all_steps code new.places left)
          ∙ (ap (λ m. old.steps ++ (steps ∷ all_steps code m left)) added.places ∙ was.steps));
      bodies =
          ap (λ xs. xs ++ all_rows (length new.bodies.items) left) added.bodies
          ∙ (append_assoc old.bodies.items (row ∷ []) (all_rows (length new.bodies.items) left)
          ∙ (ap (λ m. old.bodies.items ++ (row ∷ all_rows m left)) k ∙ was.bodies));
      places = omega (arith, added.places, places_count body left, was.places);
      count = omega (arith, k, was.count);
      greatest =
          ap (λ m. max m (greatest_of left)) added.greatest
          ∙ (greater old.greatest (body.locals + body.height) (greatest_of left) ∙ was.greatest);
    }
  where
    greater : (a b c : ℕ) → max (max a b) c ≡ max a (max b c)
    greater a b c = omega arith

-- nothing is left, and the plan has what was added
pub so_far_ends : (code : CodeProgram) (draft : Draft) (plan : Plan) → plan.steps ≡ draft.steps → plan.bodies ≡ draft.bodies.items →
    plan.place_count ≡ length (all_places code.bodies) → plan.place_count ≤ no_place → plan.greatest ≡ draft.greatest →
    IsTableOf code plan.selectors → Fits code → IsSoFar code draft [] → IsPlanOf code plan
so_far_ends code draft plan steps bodies places few greatest selectors fits was =
    record {
      steps = steps ∙ (sym (append-nil draft.steps) ∙ was.steps);
      bodies = bodies ∙ (sym (append-nil draft.bodies.items) ∙ was.bodies);
      place_count = places;
      few = omega (arith, places, few);
      selectors = selectors;
      greatest = omega (arith, greatest, was.greatest);
      fits = fits;
    }

-- the body that comes next
next_body : (code : CodeProgram) (body : BodyCode) (k : ℕ) (slice : List BodyCode) (d : BodyCode) → slice ≡ code.bodies → k < length slice →
    body ≡ get_or slice k d → drop k code.bodies ≡ body ∷ drop (k + 1) code.bodies
next_body code body k slice d slice_is under is =
    let lt : k < length code.bodies = subst (λ bs. k < length bs) slice_is under in
    let here : get_or code.bodies k d ≡ body = sym (is ∙ ap (λ bs. get_or bs k d) slice_is) in
    drop_more code.bodies k d lt ∙ ap (λ b. b ∷ drop (k + 1) code.bodies) here

-- one round of the loop over bodies
pub round : (code : CodeProgram) (old new : Draft) (body : BodyCode) (k : ℕ) (slice : List BodyCode) (d : BodyCode) → slice ≡ code.bodies →
    k < length slice → body ≡ get_or slice k d → IsSoFar code old (drop k code.bodies) → IsAdded code body old new →
    IsSoFar code new (drop (k + 1) code.bodies)
round code old new body k slice d slice_is under is was added =
    so_far_goes_on code old new body (drop (k + 1) code.bodies)
    (subst (λ bs. IsSoFar code old bs) (next_body code body k slice d slice_is under is) was) added

-- its places have numbers
pub body_numbers : (code : CodeProgram) (draft : Draft) (body : BodyCode) (k : ℕ) (slice : List BodyCode) (d : BodyCode) → slice ≡ code.bodies →
    k < length slice → body ≡ get_or slice k d → length (all_places code.bodies) ≤ no_place → IsSoFar code draft (drop k code.bodies) →
    draft.places + length body.places ≤ no_place
body_numbers code draft body k slice d slice_is under is few was =
    let left = ap (λ bs. length (all_places bs)) (next_body code body k slice d slice_is under is) in
    let here = places_count body (drop (k + 1) code.bodies) in
    omega (arith, left, here, few, was.places)

-- its body fits
pub body_fits : (code : CodeProgram) (body : BodyCode) (k : ℕ) (slice : List BodyCode) (d : BodyCode) → slice ≡ code.bodies →
    k < length slice → body ≡ get_or slice k d → Fits code → BodyFits code body
body_fits code body k slice d slice_is under is fits =
    subst (λ b. BodyFits code b) (sym (is ∙ ap (λ bs. get_or bs k d) slice_is)) (fits.bodies k d (subst (λ bs. k < length bs) slice_is under))
