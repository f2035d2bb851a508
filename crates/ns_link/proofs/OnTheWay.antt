-- A turn leaves a state on the way to the end of the run.
use Rattle.std.proofs.Common.{◌≡◌, ℕ, ◌+◌, refl, sym, ap, ◌∙◌, inl, inr, arith}
use Rattle.ns_code.specs.declared.program.CodeProgram.{CodeProgram}
use Rattle.ns_model.specs.Whole.{RunEnd}
use Rattle.ns_moves.specs.State.{State, Ended, progress_of}
use Rattle.ns_moves.specs.Move.{moves}
use Rattle.ns_moves.specs.Turn.{Turns}
use Rattle.ns_moves.specs.StatedMoves.{MovesAdd, StaysStill}
use Rattle.ns_moves.specs.MovesOnward.{MovesGoOnward}
use Rattle.ns_link.specs.Stated.{EndsAs, IsOnTheWay}

-- what is known of moves
pub record MovesKnown (code : CodeProgram) : Type 0 where
  pub add : (state : State) → MovesAdd code state
  pub stay : (state : State) → StaysStill code state
  pub onward : MovesGoOnward code

module _ (code : CodeProgram) (known : MovesKnown code) (ended : RunEnd) (old : State) (ends : EndsAs code old ended) where
  abbrev last : State
  last = Ended ended.ending ends.phase ended.progress

  -- after so many moves it comes there by as many as from the beginning
  comes : (count : ℕ) (new : State) → moves code count old ≡ new → moves code ends.count new ≡ last
  comes count new is =
      ap (moves code ends.count) (sym is) ∙ sym (known.add old count ends.count) ∙ ap (λ n. moves code n old) (swapped count ends.count)
      ∙ known.add old ends.count count ∙ ap (moves code count) ends.is ∙ known.stay last count refl
    where
      swapped : (a b : ℕ) → a + b ≡ b + a
      swapped a b = omega arith

  pub way : (count : ℕ) (new : State) → moves code count old ≡ new → IsOnTheWay code new ended
  way count new is =
      let there = comes count new is in
      let later = (known.onward ends.count new).later in
      record {
        goes_on = record { count = ends.count; phase = ends.phase; is = there };
        more = later.more;
        printed = ap (λ (state : State). (progress_of state).world.output) (sym there) ∙ later.printed;
        at_rest = λ rests. sym (known.stay new ends.count rests) ∙ there;
      }

  pub on_the_way : (steps : ℕ) (new : State) → Turns code steps old new → IsOnTheWay code new ended
  on_the_way steps new (inl turn) = way turn.count new turn.is
  on_the_way steps new (inr turn) = way turn.count new turn.is
