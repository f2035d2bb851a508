-- A turn and then another are one turn of all their steps, and a turn leaves one state.
use Rattle.std.proofs.Common.{◌≡◌, ℕ, zero, suc, ◌+◌, refl, sym, ap, ◌∙◌, arith, ◌⊎◌, inl, inr, Bool, true, false}
use Rattle.ns_code.specs.declared.program.CodeProgram.{CodeProgram}
use Rattle.ns_moves.specs.State.{State, Unbegun, Going, Pends, Ended, Stuck}
use Rattle.ns_moves.specs.Move.{move, moves}
use Rattle.ns_moves.specs.Turn.{is_still, charges, one_if, charged_in, Turns}

-- a run that is still stays as it is, and charges nothing
still_moves : (code : CodeProgram) (state : State) → is_still state ≡ true → move code state ≡ state
still_moves code (Unbegun arguments progress) still = refl
still_moves code (Ended ending phase progress) still = refl
still_moves code (Stuck progress) still = refl
still_moves code (Going phase frames progress) still = absurd (cc)
still_moves code (Pends phase pending frames progress) still = absurd (cc)

still_free : (code : CodeProgram) (state : State) → is_still state ≡ true → charges code state ≡ false
still_free code (Unbegun arguments progress) still = refl
still_free code (Ended ending phase progress) still = refl
still_free code (Stuck progress) still = refl
still_free code (Going phase frames progress) still = absurd (cc)
still_free code (Pends phase pending frames progress) still = absurd (cc)

pub still_stays : (code : CodeProgram) (k : ℕ) (state : State) → is_still state ≡ true → moves code k state ≡ state
still_stays code zero state still = refl
still_stays code (suc k) state still = ap (moves code k) (still_moves code state still) ∙ still_stays code k state still

still_charges : (code : CodeProgram) (k : ℕ) (state : State) → is_still state ≡ true → charged_in code k state ≡ 0
still_charges code zero state still = refl
still_charges code (suc k) state still =
    ap (λ b. one_if b (charged_in code k (move code state))) (still_free code state still)
    ∙ (ap (charged_in code k) (still_moves code state still) ∙ still_charges code k state still)

-- ---- moves add

none_more : (k : ℕ) → 0 + k ≡ k
none_more k = omega arith

suc_more : (j k : ℕ) → suc j + k ≡ suc (j + k)
suc_more j k = omega arith

-- so many moves and then so many are all these moves
pub moves_add : (code : CodeProgram) (j k : ℕ) (state : State) → moves code (j + k) state ≡ moves code k (moves code j state)
moves_add code zero k state = ap (λ count. moves code count state) (none_more k)
moves_add code (suc j) k state = ap (λ count. moves code count state) (suc_more j k) ∙ moves_add code j k (move code state)

one_more : (b : Bool) (m x y : ℕ) → m ≡ x + y → one_if b m ≡ one_if b x + y
one_more true m x y e = omega (arith, e)
one_more false m x y e = e

-- and they charge what these charge
pub charges_add : (code : CodeProgram) (j k : ℕ) (state : State)
    → charged_in code (j + k) state ≡ charged_in code j state + charged_in code k (moves code j state)
charges_add code zero k state = let e = ap (λ count. charged_in code count state) (none_more k) in omega (arith, e)
charges_add code (suc j) k state =
    ap (λ count. charged_in code count state) (suc_more j k)
    ∙ one_more (charges code state) _ _ _ (charges_add code j k (move code state))

-- so many moves to one state, and so many from there
then_is : (code : CodeProgram) (j k : ℕ) (first second third : State) → moves code j first ≡ second → moves code k second ≡ third
    → moves code (j + k) first ≡ third
then_is code j k first second third e f = moves_add code j k first ∙ (ap (moves code k) e ∙ f)

then_charged : (code : CodeProgram) (j k : ℕ) (first second : State) → moves code j first ≡ second
    → charged_in code (j + k) first ≡ charged_in code j first + charged_in code k second
then_charged code j k first second e = charges_add code j k first ∙ ap (λ s. charged_in code j first + charged_in code k s) e

-- ---- turns add

pub turns_add : (code : CodeProgram) (a b : ℕ) (first second third : State) → Turns code a first second → Turns code b second third
    → Turns code (a + b) first third
turns_add code a b first second third (inl p) (inl q) =
    let c = then_charged code p.count q.count first second p.is in
    inl (record {
      count = p.count + q.count;
      is = then_is code p.count q.count first second third p.is q.is;
      charged = omega (arith, c, p.charged, q.charged);
      next = q.next;
    })
turns_add code a b first second third (inl p) (inr q) =
    let c = then_charged code p.count q.count first second p.is in
    inr (record {
      count = p.count + q.count;
      spared = q.spared;
      is = then_is code p.count q.count first second third p.is q.is;
      charged = omega (arith, c, p.charged, q.charged);
      still = q.still;
    })
turns_add code a b first second third (inr p) (inl q) =
    let same : second ≡ third = sym (still_stays code q.count second p.still) ∙ q.is in
    let free : charges code third ≡ false = ap (charges code) (sym same) ∙ still_free code second p.still in
    let both : false ≡ true = sym free ∙ q.next in
    absurd (cc)
turns_add code a b first second third (inr p) (inr q) =
    let same : second ≡ third = sym (still_stays code q.count second p.still) ∙ q.is in
    inr (record { count = p.count; spared = p.spared + b; is = p.is ∙ same; charged = omega (arith, p.charged); still = q.still })

-- ---- a turn leaves one state

-- So many moves charge so many steps but those that are spared, and there the turn ends.
record Ends (code : CodeProgram) (steps count : ℕ) (state new : State) : Type 0 where
  spared : ℕ
  is : moves code count state ≡ new
  charged : charged_in code count state + spared ≡ steps
  stops : (is_still new ≡ true) ⊎ ((spared ≡ 0) × (charges code new ≡ true))

abbrev count_of : (code : CodeProgram) (steps : ℕ) (state new : State) → Turns code steps state new → ℕ
count_of code steps state new (inl p) = p.count
count_of code steps state new (inr p) = p.count

ends_of : (code : CodeProgram) (steps : ℕ) (state new : State) (p : Turns code steps state new) →
    Ends code steps (count_of code steps state new p) state new
ends_of code steps state new (inl p) = let c = p.charged in record { spared = 0; is = p.is; charged = omega (arith, c); stops = inr (refl, p.next) }
ends_of code steps state new (inr p) = record { spared = p.spared; is = p.is; charged = p.charged; stops = inl p.still }

-- the moves after the first one end there too
others_end : (code : CodeProgram) (steps left count : ℕ) (state new : State) (x : Ends code steps (suc count) state new)
    → charged_in code count (move code state) + x.spared ≡ left → Ends code left count (move code state) new
others_end code steps left count state new x c = record { spared = x.spared; is = x.is; charged = c; stops = x.stops }

-- the first of some moves leaves the steps to the others, or takes one of them
first_of : {A : Type 0} (b : Bool) (steps m n x y : ℕ) → one_if b m + x ≡ steps → one_if b n + y ≡ steps →
    ((left : ℕ) → m + x ≡ left → n + y ≡ left → A) → A
first_of false steps m n x y c d again = again steps c d
first_of true zero m n x y c d again = absurd (omega (arith, c))
first_of true (suc left) m n x y c d again = again left (omega (arith, c)) (omega (arith, d))

-- a move that charges takes a step
takes_one : (b : Bool) (m x : ℕ) → b ≡ true → one_if b m + x ≡ 0 → ⊥
takes_one true m x e c = omega (arith, c)
takes_one false m x e c = absurd (cc)

-- where a turn ends at once, another that ends after more moves leaves the same state
ends_here : (code : CodeProgram) (steps k : ℕ) (state one other : State) → Ends code steps zero state one →
    Ends code steps (suc k) state other → one ≡ other
ends_here code steps k state one other x y = on x.stops
  where
    on : (is_still one ≡ true) ⊎ ((x.spared ≡ 0) × (charges code one ≡ true)) → one ≡ other
    on (inl still) = sym (still_stays code (suc k) one still) ∙ (ap (moves code (suc k)) (sym x.is) ∙ y.is)
    on (inr h) =
        let c = x.charged in
        let none : steps ≡ 0 = omega (arith, c, h.0) in
        absurd (takes_one (charges code state) (charged_in code k (move code state)) y.spared (ap (charges code) x.is ∙ h.1) (y.charged ∙ none))

same_end : (code : CodeProgram) (j k steps : ℕ) (state one other : State) → Ends code steps j state one → Ends code steps k state other →
    one ≡ other
same_end code zero zero steps state one other x y = sym x.is ∙ y.is
same_end code zero (suc k) steps state one other x y = ends_here code steps k state one other x y
same_end code (suc j) zero steps state one other x y = sym (ends_here code steps j state other one y x)
same_end code (suc j) (suc k) steps state one other x y =
    first_of (charges code state) steps (charged_in code j (move code state)) (charged_in code k (move code state)) x.spared y.spared x.charged y.charged
    (λ left c d. same_end code j k left (move code state) one other (others_end code steps left j state one x c) (others_end code steps left k state other y d))

pub turns_one : (code : CodeProgram) (steps : ℕ) (first second third : State) → Turns code steps first second → Turns code steps first third
    → second ≡ third
turns_one code steps first second third p q =
    same_end code (count_of code steps first second p) (count_of code steps first third q) steps first second third
    (ends_of code steps first second p) (ends_of code steps first third q)
