use Rattle.ns_resolved.specs.Classes.{meant}
use Rattle.ns_link.proofs.sound.code_is_sound.Goals as goal

pub returns : goal.returns
returns c program whole e size =
    c.right_programs_have_sound_code.ensures (meant program) (c.whole_programs_are_right.ensures program whole e) size
