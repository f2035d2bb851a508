use Rattle.std.proofs.Common.{subst}
use Rattle.ns_find.specs.declared.found.Found.{Found}
use Rattle.ns_moves.specs.Suits.{Suits}
use Rattle.ns_machine_quick.proofs.nested.send_nested.Goals as goal

pub kept_by-requires-clause-suits : goal.kept_by-requires-clause-suits
kept_by-requires-clause-suits c =
    let world = c.args.core.now.run.world.world in
    subst (λ (f : Found). Suits world.cells c.args.code.now c.args.receiver f) c.requires.finds
    (c.what_is_found_suits.ensures.own world c.args.code.now c.args.receiver c.args.sent.site.sel.0 c.args.kind c.requires.can.lawful)
