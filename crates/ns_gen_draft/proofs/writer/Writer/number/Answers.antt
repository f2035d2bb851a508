use Rattle.std.proofs.Common.{subst, sym}
use Rattle.ns_gen_draft.specs.Drafts.{IsNumberOf}
use Rattle.ns_gen_draft.proofs.Stand.{text_at_number}
use Rattle.ns_gen_draft.proofs.writer.Writer.number.Goals as goal

pub returns-clause-found : goal.returns-clause-found
returns-clause-found c =
    subst (λ names. IsNumberOf names c.in_ok-sel.sel c.args.text.now) (sym c.in_ok-sel.ensures.put)
    (text_at_number c.self.inside.names c.args.text.now c.in_ok-sel.sel c.in_ok-sel.ensures.number)
