use Rattle.std.proofs.Common.{ap, ◌∙◌, take}
use Rattle.ns_base.specs.Sink.{with_bytes}
use Rattle.ns_run_outcome.proofs.PieceLaws.{prefix_so_far}
use Rattle.ns_run_outcome.proofs.deliver.put_all.Goals as goal

pub returns-in-Err-clause-part : goal.returns-in-Err-clause-part
returns-in-Err-clause-part g c =
    let w = g.O.Sink.written in
    let piece = c.split_at-in-loop-done.ensures.front ∙ ap (take c.piece_len-n.result) c.split_at.ensures.back in
    prefix_so_far c.args.bytes.now c.loop-done.done c.piece_len-n.result (w c.args.out.now) (w c.loop-done.out) (w c.put.new.self) c.loop-done.invariant.told
    (c.in-Err.ensures.err.0, c.in-Err.ensures.err.1 ∙ ap (λ t. with_bytes (take c.in-Err.ensures.err.0 t) (w c.loop-done.out)) piece)
