use Rattle.ns_machine_turns.proofs.Along.{KnownMoves, gone_on}
use Rattle.ns_machine_turns.proofs.laws.moves_go_along.Goals as goal

pub returns : goal.returns
returns c = λ code plan sends left old now new from here next along goes on few moved.
    let all : KnownMoves code = (record {
      known = record {
        begin = c.turns_go_by_moves.ensures.begin code;
        free = c.turns_go_by_moves.ensures.free code;
        charged = c.turns_go_by_moves.ensures.charged code;
        last = c.turns_go_by_moves.ensures.last code;
        rest = c.turns_go_by_moves.ensures.rest code;
        took = c.moves_charge_as_told.ensures.steps code;
        test = c.moves_charge_as_told.ensures.test code;
        keeps = c.moves_keep_valid.ensures code;
        onward = c.moves_go_onward.ensures code;
      };
      keeps = c.moves_keep_machines_ready.ensures.moves code;
      lower = c.moves_lower.ensures code;
    }) in
    gone_on code all plan sends left old from goes now new here next on few moved along
