use Rattle.std.proofs.Common.{◌≡◌, ◌+◌, ◌-◌, arith, to_z-of_z}
use Rattle.std.proofs.lemmas.List.{drop-set}
use Rattle.ns_kdata.proofs.Digits.{length_whole, minus_first}
use Rattle.ns_kdata.proofs.decimal.write_signed.Goals as goal

pub overflow_sub-bytes : goal.overflow_sub-bytes
overflow_sub-bytes c = omega (arith, c.write_digits-start.ensures.start, length_whole c.unsigned_abs.result (omega (arith, c.unsigned_abs.ensures.bound)))

pub overflow_sub-result : goal.overflow_sub-result
overflow_sub-result c = omega (arith, c.write_digits-start.ensures.start, length_whole c.unsigned_abs.result (omega (arith, c.unsigned_abs.ensures.bound)))

pub returns-clause-written : goal.returns-clause-written
returns-clause-written c =
    let w = c.write_digits-start in
    let long = length_whole c.unsigned_abs.result (omega (arith, c.unsigned_abs.ensures.bound)) in
    let on : w.result - 1 + 1 ≡ w.result = omega (arith, w.ensures.start, long) in
    let back = to_z-of_z c.ranges.number in
    rw (drop-set w.new.bytes (w.result - 1) 45 (omega (arith, w.ensures.start, on)), on, w.ensures.written, c.unsigned_abs.ensures.value, back)
    (minus_first c.args.number (rw back at c.if-number-ge0.false))
