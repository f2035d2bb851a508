use Rattle.std.proofs.Common.{ℕ, ap, sym, ◌∙◌, subst}
use Rattle.ns_world.specs.Heap.{find_cell, is_class}
use Rattle.ns_world.specs.Layout.{declaration_of, entries_of}
use Rattle.ns_moves.specs.Running.{code_of}
use Rattle.ns_machine_plan.specs.Privates.{SlotIsAmong, found_in}
use Rattle.ns_machine_quick.proofs.Members.{member_among, member_found}
use Rattle.ns_machine_quick.proofs.private.found_around.Goals as goal

pub found_with-requires-clause-holder : goal.found_with-requires-clause-holder
found_with-requires-clause-holder c =
    let heap = c.args.world.now.world.cells in
    let place = c.enclosing_objects_are_there.ensures.levels c.args.world.now.world c.args.code.now (code_of c.args.running) c.args.level c.requires.lawful c.requires.runs c.requires.level in
    ap (λ (h : ℕ). is_class (find_cell heap h)) c.requires.holder ∙ place.class

pub found_with-requires-clause-among : goal.found_with-requires-clause-among
found_with-requires-clause-among c =
    subst (λ (h : ℕ). SlotIsAmong (entries_of c.args.code.now (declaration_of c.args.world.now.world.cells h)) c.args.member) (sym c.requires.holder)
    (member_among c.args.code.now (c.members_are_found.ensures.entries c.args.code.now) c.args.world.now.world (code_of c.args.running) c.args.level c.args.sel c.args.member
    c.requires.lawful c.requires.runs c.requires.level c.requires.member)

pub returns : goal.returns
returns c =
    c.found_with.ensures
    ∙ (ap (λ (h : ℕ). found_in c.args.world.now.world.cells c.args.code.now h c.args.member) c.requires.holder
    ∙ member_found c.args.code.now (c.members_are_found.ensures.found c.args.code.now) c.args.world.now.world (code_of c.args.running) c.args.level c.args.sel c.args.member
    c.requires.lawful c.requires.runs c.requires.level c.requires.member)
