use Rattle.std.proofs.Common.{◌≡◌, arith, slice_get, refl}
use Rattle.std.proofs.lemmas.List.Elements.{All-nil}
use Rattle.ns_actors.specs.declared.letter.Letter.{Letter}
use Rattle.ns_actors.specs.Stated.{LetterIsGood}
use Rattle.ns_actors.specs.Turn.{host_number}
use Rattle.ns_actors.proofs.Views.{added_are, held_are, posted_are, turn_are}
use Rattle.ns_actors.proofs.laws.actors_stay_actors.Goals as goal

pub returns-clause-nobody : goal.returns-clause-nobody
returns-clause-nobody c = record {
  few = omega arith;
  each = λ number actor got. absurd (cc (got));
  host = All-nil (λ (letter : Letter). LetterIsGood 0 letter × (letter.from ≡ host_number));
  boxes = λ a b within. absurd (omega (arith, within));
}

pub returns-clause-added : goal.returns-clause-added
returns-clause-added c application view may boardless room are =
    added_are application view may boardless (c.applications_stay_in_reach.ensures.start application may) room are

pub returns-clause-posted : goal.returns-clause-posted
returns-clause-posted c = posted_are

pub returns-clause-turns : goal.returns-clause-turns
returns-clause-turns c k steps view are =
    turn_are (λ code grants. (c.valid_runs_come_to_rest.ensures.moves code grants, c.valid_runs_come_to_rest.ensures.still code grants))
    c.begun_runs_stay_begun.ensures c.sends_of_a_host_are_valid.ensures c.moves_keep_valid.ensures c.moves_go_onward.ensures c.what_lives_stays.ensures.values k steps view are
    (slice_get view.actors k) refl

pub returns-clause-held : goal.returns-clause-held
returns-clause-held c k steps view are =
    held_are (λ code grants. (c.valid_runs_come_to_rest.ensures.moves code grants, c.valid_runs_come_to_rest.ensures.still code grants))
    c.begun_runs_stay_begun.ensures c.sends_of_a_host_are_valid.ensures c.moves_keep_valid.ensures c.moves_go_onward.ensures c.what_lives_stays.ensures.values k steps view are
    (slice_get view.actors k) refl
