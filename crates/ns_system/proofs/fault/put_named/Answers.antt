use Rattle.std.proofs.Common.{codes, subst, ◌++◌}
use Rattle.std.proofs.lemmas.Result.{err_from_is_err_and}
use Rattle.ns_system.specs.Telling.{Puts}
use Rattle.ns_system.proofs.Puts.{cut_put, then_put}
use Rattle.ns_system.proofs.fault.put_named.Goals as goal

pub returns-in_err-put_all : goal.returns-in_err-put_all
returns-in_err-put_all g c =
    let p = err_from_is_err_and c.from_residual.result c.from_residual.ensures.1 in
    cut_put g.E.Sink.written g.E.Sink.faults (codes "nspk: ") (c.args.name.now ++ c.args.what.now) c.put_all.result c.from_residual.result
    c.in_err-put_all.field-0.0 p.0 c.args.err.now c.put_all.new.err c.in_err-put_all.was p.1 c.put_all.ensures

pub returns-in_err-put_all-2 : goal.returns-in_err-put_all-2
returns-in_err-put_all-2 g c =
    let w = g.E.Sink.written in
    let f = g.E.Sink.faults in
    let p = err_from_is_err_and c.from_residual-in_err-put_all-2.result c.from_residual-in_err-put_all-2.ensures.1 in
    let named = subst (λ bs. Puts w f bs c.put_all-2.result c.put_all.new.err c.put_all-2.new.err) c.as_bytes.ensures.value c.put_all-2.ensures in
    let so_far = then_put w f (codes "nspk: ") c.args.name.now c.put_all.result c.put_all-2.result c.in_ok-put_all.field-0 c.args.err.now
    c.put_all.new.err c.put_all-2.new.err c.in_ok-put_all.was c.put_all.ensures named in
    cut_put w f (codes "nspk: " ++ c.args.name.now) c.args.what.now c.put_all-2.result c.from_residual-in_err-put_all-2.result
    c.in_err-put_all-2.field-0.0 p.0 c.args.err.now c.put_all-2.new.err c.in_err-put_all-2.was p.1 so_far

pub returns : goal.returns
returns g c =
    let w = g.E.Sink.written in
    let f = g.E.Sink.faults in
    let named = subst (λ bs. Puts w f bs c.put_all-2.result c.put_all.new.err c.put_all-2.new.err) c.as_bytes.ensures.value c.put_all-2.ensures in
    let last = subst (λ bs. Puts w f bs c.put_all-3.result c.put_all-2.new.err c.put_all-3.new.err) c.as_bytes-2.ensures.value c.put_all-3.ensures in
    let so_far = then_put w f (codes "nspk: ") c.args.name.now c.put_all.result c.put_all-2.result c.in_ok-put_all.field-0 c.args.err.now
    c.put_all.new.err c.put_all-2.new.err c.in_ok-put_all.was c.put_all.ensures named in
    then_put w f (codes "nspk: " ++ c.args.name.now) c.args.what.now c.put_all-2.result c.put_all-3.result c.in_ok-put_all-2.field-0
    c.args.err.now c.put_all-2.new.err c.put_all-3.new.err c.in_ok-put_all-2.was so_far last
