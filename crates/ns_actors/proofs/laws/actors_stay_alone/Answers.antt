use Rattle.std.proofs.Common.{slice_get, refl}
use Rattle.ns_actors.proofs.Growing.{added_alone}
use Rattle.ns_actors.proofs.Stands.{held_alone, posted_alone, turn_alone}
use Rattle.ns_actors.proofs.laws.actors_stay_alone.Goals as goal

pub returns-clause-nobody : goal.returns-clause-nobody
returns-clause-nobody c number actor got = absurd (cc (got))

pub returns-clause-added : goal.returns-clause-added
returns-clause-added c = added_alone

pub returns-clause-posted : goal.returns-clause-posted
returns-clause-posted c = posted_alone

pub returns-clause-turns : goal.returns-clause-turns
returns-clause-turns c k steps view are =
    turn_alone (λ code grants. (c.valid_runs_come_to_rest.ensures.moves code grants, c.valid_runs_come_to_rest.ensures.still code grants))
    c.sends_of_a_host_are_valid.ensures c.moves_keep_valid.ensures k steps view are (slice_get view.actors k) refl

pub returns-clause-held : goal.returns-clause-held
returns-clause-held c k steps view are =
    held_alone (λ code grants. (c.valid_runs_come_to_rest.ensures.moves code grants, c.valid_runs_come_to_rest.ensures.still code grants))
    c.sends_of_a_host_are_valid.ensures c.moves_keep_valid.ensures k steps view are (slice_get view.actors k) refl
