-- Places along the instructions of a body: what is left of them is enough.
use Rattle.std.proofs.Common.{◌≡◌, ℕ, suc, ◌+◌, ◌-◌, ◌≤◌, ◌<◌, List, [], ◌∷◌, ◌++◌, length, drop, get_or, refl, sym, ap, subst, ◌∙◌, arith, Bool, true, false, cond, nat_eq}
use Rattle.std.specs.Prelude.{nat_le}
use Rattle.std.specs.List.{AllPairs}
use Rattle.std.proofs.lemmas.Bool.{eqb-true, eqb-false, leb-true, leb-false}
use Rattle.std.proofs.lemmas.List.{drop_more, append_assoc}
use Rattle.ns_base.specs.declared.place.Place.{Place}
use Rattle.ns_code.specs.declared.program.CodeProgram.{CodeProgram}
use Rattle.ns_code.specs.declared.body.BodyCode.{BodyCode}
use Rattle.ns_code.specs.declared.instruction.Instr.{Instr}
use Rattle.ns_machine_plan.specs.declared.step.Step.{Step}
use Rattle.ns_machine_plan.specs.Steps.{no_place, place_number, step_of, prepared}
use Rattle.ns_machine_plan.specs.Making.{AreFrom, number_at, behind}

apart : (n m : ℕ) → n < m → nat_eq n m ≡ false
apart n m lt = tested (nat_eq n m) refl
  where
    tested : (b : Bool) → nat_eq n m ≡ b → nat_eq n m ≡ false
    tested true e = let same : n ≡ m = eqb-true n m e in absurd (omega (arith, same, lt))
    tested false e = e

apart_above : (n m : ℕ) → m < n → nat_eq n m ≡ false
apart_above n m lt = tested (nat_eq n m) refl
  where
    tested : (b : Bool) → nat_eq n m ≡ b → nat_eq n m ≡ false
    tested true e = let same : n ≡ m = eqb-true n m e in absurd (omega (arith, same, lt))
    tested false e = e

above : (n m : ℕ) → nat_eq n m ≡ false → m ≤ n → m + 1 ≤ n
above n m e le = tested (nat_le n m) refl
  where
    tested : (b : Bool) → nat_le n m ≡ b → m + 1 ≤ n
    tested true t = let under : n ≤ m = leb-true n m t in let same : n ≡ m = omega (arith, under, le) in absurd (eqb-false n m e same)
    tested false f = let over : m < n = leb-false n m f in omega (arith, over)

-- a place that was passed is not met again
passed :
    (code : CodeProgram) (body : BodyCode) (first : ℕ) (entry : ℕ × Place) (entries : List (ℕ × Place)) (at : ℕ) (instrs : List Instr) →
    entry.0 < at → prepared code body first (entry ∷ entries) at instrs ≡ prepared code body (first + 1) entries at instrs
passed code body first entry entries at [] lt = refl
passed code body first entry entries at (instr ∷ instrs) lt =
    let here : place_number first (entry ∷ entries) at ≡ place_number (first + 1) entries at = ap (λ b. cond b first (place_number (first + 1) entries at)) (apart entry.0 at lt) in
    ap (λ n. step_of code body n instr ∷ prepared code body first (entry ∷ entries) (at + 1) instrs) here
    ∙ ap (λ rest. step_of code body (place_number (first + 1) entries at) instr ∷ rest) (passed code body first entry entries (at + 1) instrs (omega (arith, lt)))

-- places further on are not met yet
ahead : (first from : ℕ) (entries : List (ℕ × Place)) (at : ℕ) → AreFrom from entries → at < from → place_number first entries at ≡ no_place
ahead first from [] at order lt = refl
ahead first from (entry ∷ entries) at order lt =
    ap (λ b. cond b first (place_number (first + 1) entries at)) (apart_above entry.0 at (omega (arith, order.0, lt)))
    ∙ ahead (first + 1) (entry.0 + 1) entries at order.1 (omega (arith, order.0, lt))

-- one instruction with what is left
one_on : (code : CodeProgram) (body : BodyCode) (left : List (ℕ × Place)) (end at : ℕ) (instr : Instr) (instrs : List Instr) →
    AreFrom at left → length left ≤ end →
    step_of code body (number_at left end at) instr ∷ prepared code body (end - length (behind left at)) (behind left at) (at + 1) instrs
    ≡ prepared code body (end - length left) left at (instr ∷ instrs)
one_on code body [] end at instr instrs order within = refl
one_on code body (entry ∷ entries) end at instr instrs order within = tested (nat_eq entry.0 at) refl
  where
    goal : Bool → Type 0
    goal b =
        step_of code body (cond b (end - length (entry ∷ entries)) no_place) instr
        ∷ prepared code body (end - length (cond b entries (entry ∷ entries))) (cond b entries (entry ∷ entries)) (at + 1) instrs
        ≡ step_of code body (cond b (end - length (entry ∷ entries)) (place_number (end - length (entry ∷ entries) + 1) entries at)) instr
        ∷ prepared code body (end - length (entry ∷ entries)) (entry ∷ entries) (at + 1) instrs

    tested : (b : Bool) → nat_eq entry.0 at ≡ b → goal b
    tested true e =
        let is : entry.0 ≡ at = eqb-true entry.0 at e in
        let n : end - length entries ≡ end - length (entry ∷ entries) + 1 = omega (arith, within) in
        ap (λ rest. step_of code body (end - length (entry ∷ entries)) instr ∷ rest)
        (ap (λ k. prepared code body k entries (at + 1) instrs) n ∙ sym (passed code body (end - length (entry ∷ entries)) entry entries (at + 1) instrs (omega (arith, is))))
    tested false e =
        ap (λ n. step_of code body n instr ∷ prepared code body (end - length (entry ∷ entries)) (entry ∷ entries) (at + 1) instrs)
        (sym (ahead (end - length (entry ∷ entries) + 1) (entry.0 + 1) entries at order.1 (omega (arith, order.0))))

-- what is left is in order, and no more than before
pub behind_order : (left : List (ℕ × Place)) (at : ℕ) → AreFrom at left → AreFrom (at + 1) (behind left at)
behind_order [] at order = tt
behind_order (entry ∷ entries) at order = tested (nat_eq entry.0 at) refl
  where
    tested : (b : Bool) → nat_eq entry.0 at ≡ b → AreFrom (at + 1) (cond b entries (entry ∷ entries))
    tested true e = let is : entry.0 ≡ at = eqb-true entry.0 at e in subst (λ n. AreFrom (n + 1) entries) is order.1
    tested false e = (above entry.0 at e order.0, order.1)

pub behind_count : (left : List (ℕ × Place)) (at end : ℕ) → length left ≤ end → length (behind left at) ≤ end
behind_count [] at end le = le
behind_count (entry ∷ entries) at end le = tested (nat_eq entry.0 at)
  where
    tested : (b : Bool) → length (cond b entries (entry ∷ entries)) ≤ end
    tested true = omega (arith, le)
    tested false = le

-- places that are in order belong to instructions from the first on
in_order_from : (at : ℕ) (places : List (ℕ × Place)) → ((d : ℕ × Place) → 0 < length places → at ≤ (get_or places 0 d).0) →
    AllPairs (λ (a b : ℕ × Place). a.0 < b.0) places → AreFrom at places
in_order_from at [] first pairs = tt
in_order_from at (entry ∷ entries) first pairs =
    (first entry (omega arith), in_order_from (entry.0 + 1) entries (λ d lt. let under : entry.0 < (get_or entries 0 d).0 = pairs 0 1 d (omega arith) (omega (arith, lt)) in omega (arith, under)) (λ i j d lt within. pairs (suc i) (suc j) d (omega (arith, lt)) (omega (arith, within))))

pub in_order : (places : List (ℕ × Place)) → AllPairs (λ (a b : ℕ × Place). a.0 < b.0) places → AreFrom 0 places
in_order places pairs = in_order_from 0 places (λ d lt. omega arith) pairs

walk :
    (code : CodeProgram) (body : BodyCode) (steps whole : List Step) (left : List (ℕ × Place)) (end at k : ℕ) (instrs : List Instr) (d : Instr) →
    k < length instrs → AreFrom at left → length left ≤ end →
    steps ++ prepared code body (end - length left) left at (drop k instrs) ≡ whole →
    (steps ++ step_of code body (number_at left end at) (get_or instrs k d) ∷ []) ++ prepared code body (end - length (behind left at)) (behind left at) (at + 1) (drop (k + 1) instrs) ≡ whole
walk code body steps whole left end at k instrs d lt order within was =
    append_assoc steps (step_of code body (number_at left end at) (get_or instrs k d) ∷ []) (prepared code body (end - length (behind left at)) (behind left at) (at + 1) (drop (k + 1) instrs))
    ∙ (ap (λ rest. steps ++ rest) (one_on code body left end at (get_or instrs k d) (drop (k + 1) instrs) order within)
    ∙ (ap (λ rest. steps ++ prepared code body (end - length left) left at rest) (sym (drop_more instrs k d lt)) ∙ was))

-- one round of the loop over the instructions of a body
pub round :
    (code : CodeProgram) (body : BodyCode) (steps whole : List Step) (left : List (ℕ × Place)) (end at k : ℕ) (slice instrs : List Instr) (d : Instr) (items : List Step) (rest : List (ℕ × Place)) (step : Step) (number : ℕ) →
    slice ≡ instrs → k < length slice → AreFrom at left → length left ≤ end →
    steps ++ prepared code body (end - length left) left at (drop k instrs) ≡ whole →
    items ≡ steps ++ step ∷ [] → number ≡ number_at left end at → step ≡ step_of code body number (get_or slice k d) → rest ≡ behind left at → at ≡ k →
    (at + 1 ≡ k + 1) × (length rest ≤ end) × AreFrom (at + 1) rest × (items ++ prepared code body (end - length rest) rest (at + 1) (drop (k + 1) instrs) ≡ whole)
round code body steps whole left end at k slice instrs d items rest step number slice_is under order within was items_are number_is step_is rest_is at_is =
    let lt : k < length instrs = subst (λ xs. k < length xs) slice_is under in
    let one : items ≡ steps ++ step_of code body (number_at left end at) (get_or instrs k d) ∷ [] =
    items_are ∙ ap (λ s. steps ++ s ∷ []) (step_is ∙ (ap (λ n. step_of code body n (get_or slice k d)) number_is ∙ ap (λ xs. step_of code body (number_at left end at) (get_or xs k d)) slice_is)) in (
      omega (arith, at_is),
      subst (λ xs. length xs ≤ end) (sym rest_is) (behind_count left at end within),
      subst (λ xs. AreFrom (at + 1) xs) (sym rest_is) (behind_order left at order),
      ap (λ xs. xs ++ prepared code body (end - length rest) rest (at + 1) (drop (k + 1) instrs)) one
          ∙ (ap (λ xs. (steps ++ step_of code body (number_at left end at) (get_or instrs k d) ∷ []) ++ prepared code body (end - length xs) xs (at + 1) (drop (k + 1) instrs)) rest_is
          ∙ walk code body steps whole left end at k instrs d lt order within was),
    )
