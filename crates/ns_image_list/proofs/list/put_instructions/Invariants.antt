use Rattle.std.proofs.Common.{◌≡◌, drop}
use Rattle.ns_image_list.specs.Listing.{numbered, instr_line}
use Rattle.ns_image_list.specs.Output.{after}
use Rattle.ns_image_list.proofs.list.put_instructions.Given as goal

abbrev pub invariant-instrs : goal.invariant-instrs
invariant-instrs l =
    after l.out (numbered (instr_line l.source) l.place (drop l.place l.instrs)) ≡ after l.fn.out (numbered (instr_line l.source) 0 l.instrs)
