use Rattle.ns_gen_code.specs.Code.{code_of}
use Rattle.ns_gen_code.proofs.Sound.{code_sound}
use Rattle.ns_gen_code.proofs.laws.right_programs_have_sound_code.Goals as goal

pub returns : goal.returns
returns c = λ meant right size.
    code_sound meant right size
    (record { inside = c.homes_are_outermost.ensures.inside (code_of meant); outermost = c.homes_are_outermost.ensures.outermost (code_of meant) })
