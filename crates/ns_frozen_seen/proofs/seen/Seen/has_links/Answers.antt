use Rattle.std.proofs.Common.{ℕ, ap, ◌∙◌}
use Rattle.std.specs.Prelude.{not, ◌==◌}
use Rattle.ns_frozen_tables.specs.Chain.{next_links}
use Rattle.ns_frozen_seen.specs.Seen.{heap_of}
use Rattle.ns_frozen_tables.specs.laws.Linked.{class_linked}
use Rattle.ns_frozen_seen.proofs.seen.Seen.has_links.Goals as goal

pub returns : goal.returns
returns c = λ encl holder there.
    ap (λ (n : ℕ). not (n == 0)) (c.next_links.ensures ∙ ap (next_links c.args.self.now.code.now c.args.decl c.args.over) c.links_before.ensures)
    ∙ class_linked c.args.self.now.code.now (heap_of c.args.self.now) c.args.number c.args.decl encl holder c.args.over there
