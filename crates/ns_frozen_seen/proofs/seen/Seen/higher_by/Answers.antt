use Rattle.ns_frozen_seen.proofs.seen.Seen.higher_by.Goals as goal

pub returns-then-leads : goal.returns-then-leads
returns-then-leads c =
    let told = c.leads.ensures c.if-leads.true in
    record { before = told.0; high = told.1; up = λ chain. (c.requires chain).far told.0 }

pub returns-then-leads-2 : goal.returns-then-leads-2
returns-then-leads-2 c =
    let told = c.leads-2.ensures c.if-leads-2.true in
    record { before = told.0; high = told.1; up = λ chain. (c.requires chain).over told.0 }
