use Rattle.ns_machine_reach.proofs.Staying.{moves_stay}
use Rattle.ns_machine_reach.proofs.laws.moves_stay_in_reach.Goals as goal

pub returns : goal.returns
returns c code grants =
    moves_stay code grants
    (record {
      known = record {
        integers = c.answers_are_integers_and_booleans.ensures;
        value = c.rows_that_are_found_suit.ensures.value;
        above = c.rows_that_are_found_suit.ensures.above;
        own = c.rows_that_are_found_suit.ensures.own;
      };
      levels = λ world. c.enclosing_objects_are_there.ensures.levels world code;
      asks = c.moves_keep_frames_valid.ensures.asks code;
      keeps = c.moves_keep_valid.ensures code grants;
    })
