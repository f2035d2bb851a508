use Rattle.std.proofs.Common.{◌+◌, length, refl, ap, arith, length-drop}
use Rattle.ns_system.proofs.Passed.{passed}
use Rattle.ns_system.proofs.outlet.put_all.Goals as goal

pub pieces-preserved : goal.pieces-preserved
pieces-preserved g c = (
  omega (arith, c.in-Some.ensures.bound, ap length c.rest_of.ensures, length-drop c.pieces.done c.args.bytes.now, c.pieces.invariant.0),
  passed (g.W.Outlet.written c.args.to.now) (g.W.Outlet.written c.pieces.to) (g.W.Outlet.written c.put_some.new.to) c.args.bytes.now c.rest_of.result.now c.pieces.done c.in-Some.n (c.pieces.done + c.in-Some.n)
      c.rest_of.ensures refl c.pieces.invariant.1 c.in-Some.ensures.some,
)
