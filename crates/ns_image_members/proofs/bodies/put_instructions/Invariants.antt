use Rattle.std.proofs.Common.{◌≡◌, drop}
use Rattle.ns_image_list.specs.Listing.{numbered}
use Rattle.ns_image_list.specs.Output.{after}
use Rattle.ns_image_members.specs.Members.{instr_line}
use Rattle.ns_image_members.proofs.bodies.put_instructions.Given as goal

abbrev pub invariant-instrs : goal.invariant-instrs
invariant-instrs l =
    after l.out (numbered (instr_line l.source l.places) l.at (drop l.at l.instrs)) ≡ after l.fn.out (numbered (instr_line l.source l.places) 0 l.instrs)
