use Rattle.std.proofs.Common.{◌∙◌}
use Rattle.ns_gen_draft.specs.Standing.{around_of}
use Rattle.ns_gen_records.proofs.Parts.{declaration_made}
use Rattle.ns_gen_records.proofs.declared.declaration.Goals as goal

pub returns-clause-made : goal.returns-clause-made
returns-clause-made c =
    declaration_made (around_of c.args.inside.now) c.args.outer c.args.clause c.args.number c.args.next.now c.args.class.now c.in_ok-name.name
    c.in_ok-factory.factory c.in_ok-super_selector.super_selector c.in_ok-params.params c.from_vec.result c.from_vec-2.result
    c.from_vec-3.result c.from_vec-4.result (c.in_ok-name.ensures ∙ c.bytes.ensures) c.in_ok-factory.ensures c.in_ok-params.ensures
    c.in_ok-super_selector.ensures (c.from_vec.ensures ∙ c.in_ok-slots.ensures) (c.from_vec-2.ensures ∙ c.in_ok-nested.ensures)
    (c.from_vec-3.ensures ∙ c.in_ok-methods.ensures.methods) (c.from_vec-4.ensures ∙ c.in_ok-methods.ensures.side_methods)
