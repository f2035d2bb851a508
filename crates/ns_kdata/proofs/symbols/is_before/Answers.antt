use Rattle.std.proofs.Common.{◌≡◌, min, length, sym, ◌∙◌, arith}
use Rattle.ns_kdata.proofs.Comparing.{before_end}
use Rattle.ns_kdata.proofs.symbols.is_before.Goals as goal

pub returns : goal.returns
returns c =
    let last : c.bytes.place ≡ min (length c.args.first.now) (length c.args.second.now) =
    omega (arith, c.bytes-test.false, c.bytes.auto.place-end, c.min-place-end.ensures) in
    sym (before_end c.args.first.now c.args.second.now c.bytes.place last) ∙ c.bytes.invariant
