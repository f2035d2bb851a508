use Rattle.std.proofs.Common.{◌≡◌, ◌+◌, ◌-◌, ◌%◌, arith, append_assoc}
use Rattle.std.proofs.lemmas.Fmt.{decimal_step, decimal_digit}
use Rattle.std.proofs.lemmas.List.{drop-set, length-set}
use Rattle.ns_kdata.proofs.Digits.{length_digit, length_step, length_all}
use Rattle.ns_kdata.proofs.decimal.write_digits.Goals as goal

pub overflow_sub-at : goal.overflow_sub-at
overflow_sub-at c =
    omega (arith, c.digits.invariant.place, length_all c.args.number c.ranges.number.fits, length_step c.digits.left c.digits-test.true c.digits.auto.left-fits.fits)

pub digits-preserved : goal.digits-preserved
digits-preserved c =
    let l = c.digits in
    let long = length_all c.args.number c.ranges.number.fits in
    let step = length_step l.left c.digits-test.true l.auto.left-fits.fits in
    let on : l.at - 1 + 1 ≡ l.at = omega (arith, l.invariant.place, long, step) in
    record {
      inside = omega (arith, l.invariant.inside);
      size = omega (arith, l.invariant.size, length-set l.bytes (l.at - 1) (48 + l.left % 10));
      place = omega (arith, l.invariant.place, step, on);
      text = rw (drop-set l.bytes (l.at - 1) _ (omega (arith, on, l.invariant.inside, l.invariant.size)), on) (rw (decimal_step l.left c.digits-test.true l.auto.left-fits.fits, append_assoc) at l.invariant.text);
    }

pub overflow_sub-at-2 : goal.overflow_sub-at-2
overflow_sub-at-2 c =
    omega (arith, c.digits.invariant.place, length_all c.args.number c.ranges.number.fits, length_digit c.digits.left c.digits-test.false)

pub returns-clause-start : goal.returns-clause-start
returns-clause-start c =
    let long = length_all c.args.number c.ranges.number.fits in
    omega (arith, c.digits.invariant.place, long, length_digit c.digits.left c.digits-test.false)

pub returns-clause-written : goal.returns-clause-written
returns-clause-written c =
    let l = c.digits in
    let long = length_all c.args.number c.ranges.number.fits in
    let on : l.at - 1 + 1 ≡ l.at = omega (arith, l.invariant.place, long, length_digit l.left c.digits-test.false) in
    rw (drop-set l.bytes (l.at - 1) _ (omega (arith, on, l.invariant.inside, l.invariant.size)), on) (rw (decimal_digit l.left c.digits-test.false) at l.invariant.text)
