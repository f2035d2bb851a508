use Rattle.ns_find.proofs.Keeping.{all_right}
use Rattle.ns_find.proofs.memo.find_anew.Goals as goal

pub returns-clause-keeps : goal.returns-clause-keeps
returns-clause-keeps c =
    all_right c.args.world.now.world.cells c.args.code.now c.args.memo.now c.keep.new.self c.args.place _ c.keep.ensures (c.requires.start, c.find-found.ensures) c.requires.kept
