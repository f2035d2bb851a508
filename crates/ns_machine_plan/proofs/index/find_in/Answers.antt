use Rattle.std.proofs.Common.{refl, sym, length}
use Rattle.std.proofs.lemmas.Bool.{ltb-true}
use Rattle.std.proofs.lemmas.Option.{slice_get_read, slice_get_past}
use Rattle.ns_machine_plan.proofs.Sorting.{found_here, other_here, none_here}
use Rattle.ns_machine_plan.proofs.index.find_in.Goals as goal

pub returns-then-entry-number : goal.returns-then-entry-number
returns-then-entry-number c =
    let there = c.in-Some.ensures.lookup in
    found_here c.args.number c.place_of.result c.args.entries.now c.in-Some.entry.now c.place_of.ensures c.requires
    (slice_get_read c.args.entries.now (length c.args.entries.now) c.place_of.result c.in-Some.entry.now refl (ltb-true c.place_of.result (length c.args.entries.now) (sym there.0)) there.1) c.if-entry-number.true

pub returns-else-entry-number : goal.returns-else-entry-number
returns-else-entry-number c =
    let there = c.in-Some.ensures.lookup in
    other_here c.args.number c.place_of.result c.args.entries.now c.in-Some.entry.now c.place_of.ensures c.requires
    (slice_get_read c.args.entries.now (length c.args.entries.now) c.place_of.result c.in-Some.entry.now refl (ltb-true c.place_of.result (length c.args.entries.now) (sym there.0)) there.1) c.if-entry-number.false

pub returns-in-None : goal.returns-in-None
returns-in-None c =
    none_here c.args.number c.place_of.result c.args.entries.now c.place_of.ensures c.requires
    (slice_get_past c.args.entries.now c.place_of.result c.in-None.ensures.lookup.3)
