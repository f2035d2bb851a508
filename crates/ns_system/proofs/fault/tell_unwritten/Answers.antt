use Rattle.std.proofs.Common.{sym, ◌∙◌}
use Rattle.ns_system.proofs.Unwritten.{of_error, of_output}
use Rattle.ns_system.proofs.fault.tell_unwritten.Goals as goal

pub returns-in-0-eq0 : goal.returns-in-0-eq0
returns-in-0-eq0 g c =
    rw (of_error (g.S.TellingShelf.unstored c.args.shelf.now) (g.S.Shelf.store_faults c.args.shelf.now) (g.O.Sink.faults c.args.out.now)
    (sym c.failed_stores.ensures ∙ c.in-0-eq0.is-0) (sym c.failed_puts.ensures ∙ c.in-0-eq0.is-1)) c.tell.ensures

pub returns-in-0-default : goal.returns-in-0-default
returns-in-0-default g c =
    rw (of_output (g.S.TellingShelf.unstored c.args.shelf.now) (g.S.Shelf.store_faults c.args.shelf.now) (g.O.Sink.faults c.args.out.now)
    (sym c.failed_stores.ensures ∙ c.in-0-default.is-0) (λ e. c.in-0-default.is-1.1 (c.failed_puts.ensures ∙ e))) c.tell-in-0-default.ensures
