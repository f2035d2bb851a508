use Rattle.std.proofs.Common.{◌∙◌}
use Rattle.std.proofs.lemmas.Result.{err_from_is_err_and}
use Rattle.ns_machine_start.proofs.Started.{standing_stopped, texts_stopped, array_last}
use Rattle.ns_machine_start.proofs.start.make_all.Goals as goal

pub returns-in_err-make_standing-clause-made : goal.returns-in_err-make_standing-clause-made
returns-in_err-make_standing-clause-made c = λ progress.
    let p = err_from_is_err_and c.from_residual.result c.from_residual.ensures.1 in
    rw p.1 (standing_stopped c.args.code.now c.args.grants c.args.arguments.now c.args.world.now c.make_standing.new.world _ _ c.in_err-make_standing.ensures progress)

pub returns-in_err-make_texts-clause-made : goal.returns-in_err-make_texts-clause-made
returns-in_err-make_texts-clause-made c = λ progress.
    let p = err_from_is_err_and c.from_residual-in_err-make_texts.result c.from_residual-in_err-make_texts.ensures.1 in
    rw p.1
    (texts_stopped c.args.code.now c.args.grants c.args.arguments.now c.args.world.now c.make_standing.new.world c.make_texts.new.world _ _
    c.in_ok-make_standing.ensures c.in_err-make_texts.ensures.makes progress)

pub returns-clause-made : goal.returns-clause-made
returns-clause-made c =
    array_last c.args.code.now c.args.grants c.args.arguments.now c.as_slice.result.now c.args.world.now c.make_standing.new.world c.make_texts.new.world
    c.make_array.new.self c.make_array.result c.requires.empty c.in_ok-make_standing.ensures c.in_ok-make_texts.ensures.makes
    (c.as_slice.ensures.value ∙ c.in_ok-make_texts.ensures.listed) c.make_array.ensures.makes
