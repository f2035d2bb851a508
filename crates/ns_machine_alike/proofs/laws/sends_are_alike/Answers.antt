use Rattle.ns_machine_alike.proofs.Staying.{sends_alike}
use Rattle.ns_machine_alike.proofs.laws.sends_are_alike.Goals as goal

pub returns : goal.returns
returns c code grants grants' =
    sends_alike code grants grants'
    (record {
      known = record {
        value = c.rows_that_are_found_suit.ensures.value;
        above = c.rows_that_are_found_suit.ensures.above;
        own = c.rows_that_are_found_suit.ensures.own;
      };
      levels = λ world. c.enclosing_objects_are_there.ensures.levels world code;
      asks = c.moves_keep_frames_valid.ensures.asks code;
      keeps = c.moves_keep_valid.ensures code grants;
      host = c.sends_of_a_host_are_valid.ensures code grants;
    })
    (record {
      known = record {
        value = c.rows_that_are_found_suit.ensures.value;
        above = c.rows_that_are_found_suit.ensures.above;
        own = c.rows_that_are_found_suit.ensures.own;
      };
      levels = λ world. c.enclosing_objects_are_there.ensures.levels world code;
      asks = c.moves_keep_frames_valid.ensures.asks code;
      keeps = c.moves_keep_valid.ensures code grants';
      host = c.sends_of_a_host_are_valid.ensures code grants';
    })
