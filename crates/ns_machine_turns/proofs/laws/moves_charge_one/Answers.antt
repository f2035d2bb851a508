use Rattle.ns_machine_turns.proofs.ChargedOnce.{move_charges, passing_charges}
use Rattle.ns_machine_turns.proofs.laws.moves_charge_one.Goals as goal

pub returns-clause-moves : goal.returns-clause-moves
returns-clause-moves c = λ code plan sends old new from next runs goes moved.
    move_charges code (c.moves_charge_as_told.ensures.steps code) (c.moves_keep_valid.ensures code) plan sends old new from next runs goes moved

pub returns-clause-passing : goal.returns-clause-passing
returns-clause-passing c = λ code plan sends old new from next runs goes passed.
    passing_charges code (c.moves_charge_as_told.ensures.steps code) (c.moves_keep_valid.ensures code) plan sends old new from next runs goes passed
