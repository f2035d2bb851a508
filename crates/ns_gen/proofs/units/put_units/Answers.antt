use Rattle.std.proofs.Common.{◌≡◌, ◌∙◌, ap, sym, arith}
use Rattle.std.specs.Prelude.{slice_get, Some}
use Rattle.ns_gen.proofs.UnitByUnit.{unit_put}
use Rattle.ns_gen.proofs.units.put_units.Goals as goal

pub loop-unit-preserved : goal.loop-unit-preserved
loop-unit-preserved c =
    let l = c.loop-unit in
    let places : slice_get c.args.marks.now l.unit-index ≡ Some c.in_ok-places.places.now =
    ap (slice_get c.args.marks.now) (sym l.invariant.0) ∙ c.in_ok-places.ensures in (
      omega (l.invariant.0, arith),
      unit_put l.number c.put_unit.new.number l.next c.put_unit.new.next l.unit-index c.args.units.now c.unit-item.result c.args.marks.now
          c.in_ok-places.places.now l.output c.put_unit.new.output _ c.loop-unit-test.true c.unit-item.is places l.invariant.1
          c.in_ok-put_unit.ensures.put c.in_ok-put_unit.ensures.number c.in_ok-put_unit.ensures.next,
    )
