use Rattle.ns_resolved.specs.Tables.{tables}
use Rattle.ns_gen_code.specs.Code.{code_of}
use Rattle.ns_model.specs.Whole.{ran}
use Rattle.ns_link.specs.Stated.{begins}
use Rattle.ns_link.proofs.OnTheWay.{on_the_way}
use Rattle.ns_link.proofs.laws.turns_are_on_the_way.Goals as goal

pub returns : goal.returns
returns c meant first grants arguments limits steps state turns =
    let code = code_of meant in
    on_the_way code
    (record { add = c.moves_add.ensures.moves code; stay = c.ended_runs_stay.ensures code; onward = c.moves_go_onward.ensures code })
    (ran meant (tables meant) grants arguments limits) (begins meant grants arguments limits)
    (c.the_machine_does_what_is_meant.ensures.ends meant first grants arguments limits) steps state turns
