use Rattle.std.proofs.Common.{◌∙◌}
use Rattle.ns_actors_rounds.proofs.Texts.{told_is}
use Rattle.ns_actors_rounds.proofs.telling.told_of.Goals as goal

pub returns : goal.returns
returns c =
    told_is c.args.files.now c.args.actors.now c.from_vec.result c.status_of.result (c.from_vec.ensures ∙ c.in_ok-out.ensures) c.status_of.ensures
