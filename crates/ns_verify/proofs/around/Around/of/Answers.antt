use Rattle.std.proofs.Common.{Some, ap, ◌∙◌}
use Rattle.ns_verify.specs.Around.{outwards}
use Rattle.ns_verify.proofs.Outward.{declarations_met, bodies_met}
use Rattle.ns_verify.proofs.around.Around.of.Goals as goal

pub returns : goal.returns
returns c = record {
  declarations = declarations_met c.args.code.now c.args.tables.now.outers c.args.class c.from_vec.result c.requires.outers
      (c.from_vec.ensures ∙ c.in_ok-declarations.ensures ∙ ap (λ t. outwards t 256 (Some c.args.class)) c.outers.ensures);
  bodies = bodies_met c.args.code.now c.args.tables.now.arounds c.args.number c.from_vec-2.result c.requires.arounds
      (c.from_vec-2.ensures ∙ c.in_ok-bodies.ensures ∙ ap (λ t. outwards t 256 (Some c.args.number)) c.arounds.ensures);
}
