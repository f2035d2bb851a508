use Rattle.ns_machine_turns.proofs.Passed.{KnownPassing, gone_past}
use Rattle.ns_machine_turns.proofs.laws.passing_goes_along.Goals as goal

pub returns : goal.returns
returns c = λ code plan sends left old now new from here next along goes on few passed.
    let all : KnownPassing code = (record {
      known = record {
        begin = c.turns_go_by_moves.ensures.begin code;
        free = c.turns_go_by_moves.ensures.free code;
        charged = c.turns_go_by_moves.ensures.charged code;
        last = c.turns_go_by_moves.ensures.last code;
        rest = c.turns_go_by_moves.ensures.rest code;
        took = c.moves_charge_as_told.ensures.steps code;
        test = c.moves_charge_as_told.ensures.test code;
        keeps = c.moves_keep_valid.ensures code;
        onward = c.moves_go_onward.ensures code;
      };
      keeps = c.passing_keeps_machines_ready.ensures.moves code;
      lower = c.moves_lower.ensures code;
    }) in
    gone_past code all plan sends left old now new from here next goes on few passed along
