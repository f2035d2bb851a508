-- The moves that are left are counted as they are made.
use Rattle.std.proofs.Common.{◌≡◌, ℕ, ◌+◌, ◌-◌, refl, ap, ◌∙◌, arith, true, false, is_some}
use Rattle.ns_code.specs.declared.program.CodeProgram.{CodeProgram}
use Rattle.ns_facets.specs.declared.row.Grants.{Grants}
use Rattle.ns_moves.specs.Move.{move, moves}
use Rattle.ns_moves.specs.State.{State, Unbegun, Going, Pends, Ended, Stuck, ending_of, is_idle}
use Rattle.ns_moves.specs.StatedMoves.{MovesAdd}
use Rattle.ns_moves.specs.Turn.{is_still}
use Rattle.ns_moves.specs.Valid.{Valid}
use Rattle.ns_run_trace.specs.Nearing.{HasMoved, MovesAreLeft}

pub moved_none : (code : CodeProgram) (near : State) → HasMoved code near 0 near
moved_none code near = record { is = refl; going = λ fewer e. absurd (omega (arith, e)) }

pub moved_one : (code : CodeProgram) (near now : State) (count : ℕ) → MovesAdd code near → HasMoved code near count now → is_still now ≡ false
    → HasMoved code near (count + 1) (move code now)
moved_one code near now count add moved on = record { is = add count 1 ∙ ap (move code) moved.is; going = going }
  where
    going : (fewer : ℕ) → count + 1 ≡ fewer + 1 → is_still (moves code fewer near) ≡ false
    going fewer e =
        let same : fewer ≡ count = omega (arith, e) in
        ap (λ n. is_still (moves code n near)) same ∙ (ap is_still moved.is ∙ on)

pub moved_all : (code : CodeProgram) (near now : State) (count : ℕ) → HasMoved code near count now → is_still now ≡ true → MovesAreLeft code near count
moved_all code near now count moved still = record { still = ap is_still moved.is ∙ still; going = moved.going }

-- a run of which nothing was begun, or which ended with a value, moves no more
pub idle_still : (s : State) → is_idle s ≡ true → is_still s ≡ true
idle_still (Unbegun arguments p) e = refl
idle_still (Going phase frames p) e = absurd (cc)
idle_still (Pends phase pending frames p) e = absurd (cc)
idle_still (Ended ending phase p) e = refl
idle_still (Stuck p) e = absurd (cc)

-- another one does where it has an end
pub other_still : (code : CodeProgram) (grants : Grants) (s : State) → Valid code grants s → is_idle s ≡ false → is_some (ending_of s) ≡ is_still s
other_still code grants (Unbegun arguments p) valid e = absurd (cc)
other_still code grants (Going phase frames p) valid e = refl
other_still code grants (Pends phase pending frames p) valid e = refl
other_still code grants (Ended ending phase p) valid e = refl
other_still code grants (Stuck p) valid e = absurd valid
