use Rattle.ns_machine_sends.proofs.opening.open_body.Goals as goal

pub returns-clause-opens : goal.returns-clause-opens
returns-clause-opens c =
    record { paid = c.enter.new.self.world; charges = c.in-Ok.ensures.charges.0; opens = c.environment_for.ensures.opens }
