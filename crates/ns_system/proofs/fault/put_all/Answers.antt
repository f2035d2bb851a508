use Rattle.std.proofs.Common.{ap, arith, ◌∙◌, take}
use Rattle.std.proofs.lemmas.Result.{err_from_is_err_and}
use Rattle.ns_system.proofs.Puts.{piece_cut, piece_put, rose_later}
use Rattle.ns_system.proofs.fault.put_all.Goals as goal

pub returns-in_err-put : goal.returns-in_err-put
returns-in_err-put g c =
    let w = g.E.Sink.written in
    let f = g.E.Sink.faults in
    let p = err_from_is_err_and c.from_residual.result c.from_residual.ensures.1 in
    let piece = c.split_at-in-loop-done.ensures.front ∙ ap (take c.min-n.result) c.split_at.ensures.back in
    rw p.1 (
      piece_cut c.args.bytes.now c.split_at-in-loop-done.result.0.now c.loop-done.done c.min-n.result (w c.args.err.now) (w c.loop-done.err) (w c.put.new.self) piece c.loop-done.invariant.told c.in_err-put.ensures.err,
      rose_later (f c.args.err.now) (f c.loop-done.err) (f c.put.new.self) c.loop-done.invariant.faults c.in_err-put.ensures.failed,
    )

pub loop-done-preserved : goal.loop-done-preserved
loop-done-preserved g c =
    let w = g.E.Sink.written in
    let piece = c.split_at-in-loop-done.ensures.front ∙ ap (take c.min-n.result) c.split_at.ensures.back in
    record {
      place = omega (arith, c.min-n.ensures, c.split_at.ensures.back_len, c.loop-done.invariant.place);
      told = piece_put c.args.bytes.now c.split_at-in-loop-done.result.0.now c.loop-done.done c.min-n.result (w c.args.err.now) (w c.loop-done.err) (w c.put.new.self) piece c.loop-done.invariant.told c.in_ok-put.ensures.ok;
      faults = omega (arith, c.loop-done.invariant.faults, c.in_ok-put.ensures.faults);
    }
