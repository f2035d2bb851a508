-- States that are still, and valid ones, which can move.
use Rattle.std.proofs.Common.{◌≡◌, ℕ, zero, suc, refl, true, false}
use Rattle.ns_code.specs.declared.program.CodeProgram.{CodeProgram}
use Rattle.ns_facets.specs.declared.row.Grants.{Grants}
use Rattle.ns_moves.specs.State.{Sending, Performing, Evaluating, State, Unbegun, Going, Pends, Ended, Stuck}
use Rattle.ns_moves.specs.Move.{move}
use Rattle.ns_moves.specs.Turn.{is_still, ends_with_steps, charged_in}
use Rattle.ns_moves.specs.Charges.{is_stuck, WaitsForBlock, CanMove}
use Rattle.ns_moves.specs.Standing.{MovesKeepValid}
use Rattle.ns_moves.specs.Valid.{Valid}

-- A run that has ended with its steps is still.
pub limited_still : (s : State) → ends_with_steps s ≡ true → is_still s ≡ true
limited_still (Unbegun arguments p) e = absurd (cc)
limited_still (Stuck p) e = absurd (cc)
limited_still (Going phase frames p) e = absurd (cc)
limited_still (Pends phase pending frames p) e = absurd (cc)
limited_still (Ended ending phase p) e = refl

-- A run that moves on has not ended with its steps.
pub moves_on : (s : State) → is_still s ≡ false → ends_with_steps s ≡ false
moves_on (Unbegun arguments p) e = absurd (cc)
moves_on (Ended ending phase p) e = absurd (cc)
moves_on (Stuck p) e = absurd (cc)
moves_on (Going phase frames p) e = refl
moves_on (Pends phase pending frames p) e = refl

-- A run that moves no more charges nothing.
pub none_charged : (code : CodeProgram) (count : ℕ) (s : State) → is_still s ≡ true → charged_in code count s ≡ 0
none_charged code zero s still = refl
none_charged code (suc count) (Unbegun arguments p) still = none_charged code count (Unbegun arguments p) still
none_charged code (suc count) (Ended ending phase p) still = none_charged code count (Ended ending phase p) still
none_charged code (suc count) (Stuck p) still = none_charged code count (Stuck p) still
none_charged code (suc count) (Going phase frames p) still = absurd (cc)
none_charged code (suc count) (Pends phase pending frames p) still = absurd (cc)

not_stuck : (code : CodeProgram) (grants : Grants) (s : State) → Valid code grants s → is_stuck s ≡ false
not_stuck code grants (Unbegun arguments p) valid = refl
not_stuck code grants (Ended ending phase p) valid = refl
not_stuck code grants (Stuck p) valid = absurd valid
not_stuck code grants (Going phase frames p) valid = refl
not_stuck code grants (Pends phase pending frames p) valid = refl

waits_for_block : (code : CodeProgram) (grants : Grants) (s : State) → Valid code grants s → WaitsForBlock s
waits_for_block code grants (Unbegun arguments p) valid = tt
waits_for_block code grants (Ended ending phase p) valid = tt
waits_for_block code grants (Stuck p) valid = tt
waits_for_block code grants (Going phase frames p) valid = tt
waits_for_block code grants (Pends phase (Sending receiver sel arguments site) frames p) valid = tt
waits_for_block code grants (Pends phase (Performing receiver sel array site) frames p) valid = tt
waits_for_block code grants (Pends phase (Evaluating block arguments site) frames p) valid = valid.1.0

-- A valid state can move: it leads to no loss, and what it is to evaluate is a block.
pub can_move : (code : CodeProgram) (grants : Grants) → MovesKeepValid code grants → (s : State) → Valid code grants s → CanMove code s
can_move code grants keeps s valid =
    record { finds = not_stuck code grants (move code s) (keeps 1 s valid); block = waits_for_block code grants s valid }
