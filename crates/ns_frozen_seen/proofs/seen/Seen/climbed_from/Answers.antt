use Rattle.std.proofs.Common.{Option, ℕ, get_or, subst}
use Rattle.std.specs.Prelude.{IfSome}
use Rattle.ns_frozen_seen.specs.Climbs.{LeadsUp}
use Rattle.ns_frozen_seen.specs.Seen.{heap_of}
use Rattle.ns_frozen_seen.proofs.Climbed.{walks_here, walks_up}
use Rattle.ns_frozen_seen.proofs.seen.Seen.climbed_from.Goals as goal

pub classes-init : goal.classes-init
classes-init c =
    walks_here c.args.self.now.code.now (heap_of c.args.self.now) (get_or c.args.self.now.chains.numbers.items c.args.from 0) c.args.holder c.requires.chain

pub classes-preserved : goal.classes-preserved
classes-preserved c =
    let leads = subst (λ (o : Option ℕ). IfSome o (LeadsUp c.args.self.now.code.now (heap_of c.args.self.now) c.args.self.now.chains.numbers.items c.classes.place c.args.holder))
    c.in-Some.is c.higher.ensures in
    walks_up c.args.self.now.code.now (heap_of c.args.self.now) c.args.self.now.chains.numbers.items (get_or c.args.self.now.chains.numbers.items c.args.from 0)
    c.args.holder c.classes.place c.in-Some.above c.classes.invariant (leads.up c.classes.invariant.chain) leads.high

pub classes-smaller : goal.classes-smaller
classes-smaller c =
    (subst (λ (o : Option ℕ). IfSome o (LeadsUp c.args.self.now.code.now (heap_of c.args.self.now) c.args.self.now.chains.numbers.items c.classes.place c.args.holder))
    c.in-Some.is c.higher.ensures).before
