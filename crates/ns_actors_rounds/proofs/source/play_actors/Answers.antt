use Rattle.std.proofs.Common.{◌∙◌, ap, to_z-of_z}
use Rattle.ns_code.specs.declared.program.CodeProgram.{CodeProgram}
use Rattle.ns_actors_rounds.proofs.SourceLaws.{told_played}
use Rattle.ns_actors_rounds.proofs.source.play_actors.Goals as goal

pub returns : goal.returns
returns c =
    told_played c.args.code.now c.args.limits c.args.count c.args.sel.now c.args.number _ c.as_slice.result.now c.in_ok-actors.actors c.play.new.actors c.in_ok-told.told
    c.in_ok-parts.parts (to_z-of_z c.ranges.number) c.in_ok-actors.ensures (c.programs_come_to_rest.ensures.rounds c.args.code.now c.args.limits) c.in_ok-play.ensures
    (c.as_slice.ensures ∙ ap (λ (p : CodeProgram). p.files) c.code.ensures.code) c.in_ok-told.ensures c.in_ok-parts.ensures
