-- The state before the move that ends a run: moves lead to it, and there is no other.
use Rattle.std.proofs.Common.{◌≡◌, ℕ, zero, suc, ◌+◌, ◌-◌, ◌^◌, ◌<◌, ◌≤◌, ◌⊎◌, inl, inr, refl, sym, ap, subst, ◌∙◌, arith, Bool, true, false, if◌then◌else◌}
use Rattle.std.proofs.lemmas.Bool.{cases_lt}
use Rattle.ns_code.specs.declared.program.CodeProgram.{CodeProgram}
use Rattle.ns_facets.specs.declared.row.Grants.{Grants}
use Rattle.ns_moves.specs.Doubling.{times}
use Rattle.ns_moves.specs.Falling.{LeftIsBelowPower, power_left, run_left}
use Rattle.ns_moves.specs.Move.{move, moves}
use Rattle.ns_moves.specs.Standing.{MovesKeepValid}
use Rattle.ns_moves.specs.State.{State, world_of}
use Rattle.ns_moves.specs.StatedMoves.{MovesAdd, StaysStill}
use Rattle.ns_moves.specs.Turn.{is_still}
use Rattle.ns_moves.specs.Valid.{Valid}
use Rattle.ns_moves.specs.laws.Doubling.{leads}
use Rattle.ns_run_code.specs.Machine.{rested}
use Rattle.ns_run_code.specs.Resting.{ValidComesToRest, MovesKeepRest, StillIsRested}
use Rattle.ns_run_trace.specs.Before.{before_end, ends_next, moved_within}
use Rattle.ns_run_trace.specs.Laws.{IsBeforeEnd, RunsEndAfterIt}

-- What is known of moves.
pub record Known (code : CodeProgram) (grants : Grants) : Type 0 where
  pub add : (s : State) → MovesAdd code s
  pub stay : (s : State) → StaysStill code s
  pub keeps : MovesKeepValid code grants
  pub rests : ValidComesToRest code grants
  pub keep_rest : MovesKeepRest code grants
  pub still_rests : StillIsRested code grants
  pub below : LeftIsBelowPower code grants

-- where the next move ends the run, moves within it lead nowhere
stays_within : (code : CodeProgram) (count : ℕ) (s : State) → ends_next code s ≡ true → times (moved_within code) count s ≡ s
stays_within code zero s e = refl
stays_within code (suc count) s e =
    let here : moved_within code s ≡ s = ap (λ (b : Bool). if b then s else move code s) e in
    ap (times (moved_within code) count) here ∙ stays_within code count s e

-- So many moves were made within the run, and the next one ends it unless all of them were.
record Walked (code : CodeProgram) (count : ℕ) (s last : State) : Type 0 where
  made : ℕ
  is : moves code made s ≡ last
  going : is_still last ≡ false
  all : (ends_next code last ≡ true) ⊎ (made ≡ count)

-- a move more within the run
walked_on : (code : CodeProgram) (count : ℕ) (s last : State) → Walked code count (move code s) last → Walked code (suc count) s last
walked_on code count s last w = record { made = suc w.made; is = w.is; going = w.going; all = by w.all }
  where
    by : (ends_next code last ≡ true) ⊎ (w.made ≡ count) → (ends_next code last ≡ true) ⊎ (suc w.made ≡ suc count)
    by (inl e) = inl e
    by (inr e) = inr (ap suc e)

walked : (code : CodeProgram) (count : ℕ) (s : State) → is_still s ≡ false → Walked code count s (times (moved_within code) count s)
walked code zero s going = record { made = 0; is = refl; going = going; all = inr refl }
walked code (suc count) s going = tested (ends_next code s) refl (walked code count (move code s))
  where
    tested : (b : Bool) → ends_next code s ≡ b
        → (is_still (move code s) ≡ false → Walked code count (move code s) (times (moved_within code) count (move code s)))
        → Walked code (suc count) s (times (moved_within code) (suc count) s)
    tested true e next =
        let here = stays_within code (suc count) s e in
        subst (Walked code (suc count) s) (sym here) (record { made = 0; is = refl; going = going; all = inl e })
    tested false e next =
        let here : moved_within code s ≡ move code s = ap (λ (b : Bool). if b then s else move code s) e in
        subst (λ (on : State). Walked code (suc count) s (times (moved_within code) count on)) (sym here)
        (walked_on code count s (times (moved_within code) count (move code s)) (next e))

module _ (code : CodeProgram) (grants : Grants) (known : Known code grants) where
  -- a run that moves on after so many moves has made fewer than are left to it
  few_moves : (count : ℕ) (s : State) → Valid code grants s → is_still (moves code count s) ≡ false → count < run_left code s
  few_moves count s valid on = by (cases_lt count (run_left code s))
    where
      by : (count < run_left code s) ⊎ (run_left code s ≤ count) → count < run_left code s
      by (inl few) = few
      by (inr many) =
          let rest = known.rests s valid in
          let split : run_left code s + (count - run_left code s) ≡ count = omega (arith, many) in
          let there : moves code count s ≡ rested code s =
          ap (λ n. moves code n s) (sym split)
          ∙ (known.add s (run_left code s) (count - run_left code s)
          ∙ (ap (moves code (count - run_left code s)) rest.moved ∙ known.stay (rested code s) (count - run_left code s) rest.still)) in
          absurd (let still = rest.still in let same = ap is_still there in cc)

  -- moves to a state that is still lead to where the run comes to rest
  pub rest_is : (count : ℕ) (s last : State) → Valid code grants s → moves code count s ≡ last → is_still last ≡ true → last ≡ rested code s
  rest_is count s last valid is still =
      sym (known.still_rests last (subst (Valid code grants) is (known.keeps count s valid)) still)
      ∙ (ap (rested code) (sym is) ∙ known.keep_rest count s valid)

  -- a run that was walked so far is before its end
  stops : (s : State) (count : ℕ) → Valid code grants s → (w : Walked code count s (before_end code s))
      → (ends_next code (before_end code s) ≡ true) ⊎ (w.made ≡ count)
      → (ends_next code (before_end code s) ≡ true) ⊎ (2 ^ (0 + power_left code (world_of s).limits) ≤ count + 2 ^ 0)
      → ends_next code (before_end code s) ≡ true
  stops s count valid w (inl e) done = e
  stops s count valid w (inr all) (inl e) = e
  stops s count valid w (inr all) (inr many) =
      let few = few_moves w.made s valid (ap is_still w.is ∙ w.going) in
      let most = known.below s valid in
      let none : 0 + power_left code (world_of s).limits ≡ power_left code (world_of s).limits = omega arith in
      let same = ap (λ n. 2 ^ n) none in
      absurd (omega (arith, few, many, most, all, same))

  -- the state that is told of is such a state
  pub before_is : (s : State) → Valid code grants s → is_still s ≡ false → IsBeforeEnd code s (before_end code s)
  before_is s valid going =
      let led = leads (ends_next code) (moved_within code) 0 (power_left code (world_of s).limits) s in
      let w = subst (Walked code led.count s) led.is (walked code led.count s going) in
      let ended = stops s led.count valid w w.all led.done in
      let one : move code (before_end code s) ≡ moves code (w.made + 1) s = ap (move code) (sym w.is) ∙ sym (known.add s w.made 1) in
      record {
        count = w.made;
        is = w.is;
        going = w.going;
        ends = rest_is (w.made + 1) s (move code (before_end code s)) valid (sym one) ended;
      }

  -- of two such states none comes before the other
  not_before : (s one other : State) (first second : ℕ) → Valid code grants s → moves code first s ≡ one → move code one ≡ rested code s
      → moves code second s ≡ other → is_still other ≡ false → first < second → ⊥
  not_before s one other first second valid is ends too going less =
      let more = second - (first + 1) in
      let split : first + 1 + more ≡ second = omega (arith, less) in
      let rest = known.rests s valid in
      let there : other ≡ rested code s =
      sym too ∙ (ap (λ n. moves code n s) (sym split)
      ∙ (known.add s (first + 1) more
      ∙ (ap (moves code more) (known.add s first 1 ∙ (ap (move code) is ∙ ends)) ∙ known.stay (rested code s) more rest.still))) in
      let still = rest.still in
      let same = ap is_still there in
      absurd (cc)

  -- so there is one
  one_before : (s one other : State) → Valid code grants s → IsBeforeEnd code s one → IsBeforeEnd code s other → one ≡ other
  one_before s one other valid first second = by (cases_lt first.count second.count) (cases_lt second.count first.count)
    where
      by : (first.count < second.count) ⊎ (second.count ≤ first.count) → (second.count < first.count) ⊎ (first.count ≤ second.count) → one ≡ other
      by (inl less) more = absurd (not_before s one other first.count second.count valid first.is first.ends second.is second.going less)
      by (inr most) (inl less) = absurd (not_before s other one second.count first.count valid second.is second.ends first.is first.going less)
      by (inr most) (inr least) =
          let same : first.count ≡ second.count = omega (arith, most, least) in
          sym first.is ∙ (ap (λ n. moves code n s) same ∙ second.is)

  -- a state that moves no more is its own
  pub still_before : (s : State) → is_still s ≡ true → before_end code s ≡ s
  still_before s still =
      let led = leads (ends_next code) (moved_within code) 0 (power_left code (world_of s).limits) s in
      let none : move code s ≡ s = known.stay s 1 still in
      sym led.is ∙ stays_within code led.count s (ap is_still none ∙ still)

  pub ends_after_it : RunsEndAfterIt code grants
  ends_after_it s valid = record { before = before_is s valid; one = one; still = still_before s }
    where
      one : (other : State) → IsBeforeEnd code s other → other ≡ before_end code s
      one other is = by (is_still s) refl
        where
          by : (b : Bool) → is_still s ≡ b → other ≡ before_end code s
          by false going = one_before s other (before_end code s) valid is (before_is s valid going)
          by true still =
              let here : other ≡ s = sym is.is ∙ known.stay s is.count still in
              let going = is.going in
              let same = ap is_still here in
              absurd (cc)
