use Rattle.std.proofs.Common.{◌≡◌, subst, sym, ◌∙◌}
use Rattle.ns_audit.specs.declared.answer.Audit.TheVariants.{Yes}
use Rattle.ns_audit.specs.Stated.{NeverSends}
use Rattle.ns_audit.proofs.audit.audit.Goals as goal

pub returns-clause-yes : goal.returns-clause-yes
returns-clause-yes c =
    subst (λ code. c.audit_code.result ≡ Yes → NeverSends code c.args.class c.args.denied.now) c.code.ensures.code
    (λ yes. c.yes_is_kept.ensures c.code.result.now c.args.class c.args.denied.now c.code.ensures.sound c.code.ensures.fits (sym c.audit_code.ensures ∙ yes))
