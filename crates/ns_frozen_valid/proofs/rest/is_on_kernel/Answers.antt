use Rattle.std.proofs.Common.{◌-◌, length, ◌∙◌, arith}
use Rattle.ns_frozen_valid.proofs.Ended.{last_kernel}
use Rattle.ns_frozen_valid.proofs.rest.is_on_kernel.Goals as goal

pub returns-in-len1-up : goal.returns-in-len1-up
returns-in-len1-up c =
    c.is_kernel.ensures
    ∙ last_kernel c.args.frames.now (length c.args.frames.now - 1) c.frame-item.result (omega (arith, c.in-len1-up.len_at_least)) c.frame-item.is
