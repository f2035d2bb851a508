use Rattle.std.proofs.Common.{true, false, sym, ◌∙◌}
use Rattle.ns_frozen_seen.specs.Seen.{heap_of}
use Rattle.ns_frozen_valid.proofs.Framed.{state_so}
use Rattle.ns_frozen_valid.proofs.kernel.is_state.Goals as goal

pub returns-then-has_live_values : goal.returns-then-has_live_values
returns-then-has_live_values c =
    c.has_method.ensures
    ∙ state_so c.args.seen.now.code.now (heap_of c.args.seen.now) c.args.method c.args.state true (sym c.has_live_values.ensures ∙ c.if-has_live_values.true)

pub returns-else-has_live_values : goal.returns-else-has_live_values
returns-else-has_live_values c =
    c.if-has_live_values.false
    ∙ state_so c.args.seen.now.code.now (heap_of c.args.seen.now) c.args.method c.args.state false (sym c.has_live_values.ensures ∙ c.if-has_live_values.false)
