use Rattle.std.proofs.Common.{◌≡◌, ◌∙◌, ap, sym, arith}
use Rattle.std.specs.Prelude.{slice_get, Some}
use Rattle.ns_gen_records.proofs.Units.{unit_listed, unit_number}
use Rattle.ns_gen_records.proofs.declared.declared.Goals as goal

pub loop-unit-preserved : goal.loop-unit-preserved
loop-unit-preserved c =
    let l = c.loop-unit in
    let places : slice_get c.args.marks.now l.unit-index ≡ Some c.in_ok-places.places.now =
    ap (slice_get c.args.marks.now) (sym l.invariant.0) ∙ c.in_ok-places.ensures in (
      omega (l.invariant.0, arith),
      unit_listed l.number c.put_unit.new.number l.next c.put_unit.new.next l.unit-index c.args.units.now c.unit-item.result c.args.marks.now
          c.in_ok-places.places.now l.all.items c.put_unit.new.all.items _ c.loop-unit-test.true c.unit-item.is places l.invariant.1
          c.in_ok-put_unit.ensures.put c.in_ok-put_unit.ensures.number c.in_ok-put_unit.ensures.next,
      unit_number l.number c.put_unit.new.number l.next c.put_unit.new.next l.unit-index _ c.args.units.now c.unit-item.result c.args.marks.now
          c.in_ok-places.places.now c.loop-unit-test.true c.unit-item.is places l.invariant.2 c.in_ok-put_unit.ensures.number
          c.in_ok-put_unit.ensures.next,
    )
