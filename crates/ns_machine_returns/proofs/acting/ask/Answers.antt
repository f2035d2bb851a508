use Rattle.std.proofs.Common.{refl}
use Rattle.ns_machine_returns.proofs.acting.ask.Goals as goal

pub returns : goal.returns
returns c =
    record {
      can = c.requires.can;
      top = c.requires.top;
      same = refl;
      rest = c.method_next.ensures.rest;
      is = c.method_next.ensures.waited;
    }
