use Rattle.ns_gen_code.specs.Code.{code_of}
use Rattle.ns_gen_code.proofs.Bodies.{bodies_unfaulted}
use Rattle.ns_gen_code.proofs.laws.right_bodies_have_no_fault.Goals as goal

pub returns : goal.returns
returns c = λ meant right size.
    bodies_unfaulted meant right size
    (record { inside = c.homes_are_outermost.ensures.inside (code_of meant); outermost = c.homes_are_outermost.ensures.outermost (code_of meant) })
