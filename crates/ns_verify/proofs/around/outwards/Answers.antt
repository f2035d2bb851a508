use Rattle.std.proofs.Common.{◌≡◌, ◌-◌, ◌++◌, Some, None, sym, ap, ◌∙◌, append-nil, arith}
use Rattle.ns_verify.specs.Around.{outwards}
use Rattle.ns_verify.proofs.Outward.{one_out, none_out, none_left}
use Rattle.ns_verify.proofs.around.outwards.Goals as goal

pub returns-in-None : goal.returns-in-None
returns-in-None c =
    let all = rw c.in-None.is at c.levels.invariant in
    sym (append-nil c.levels.found.items)
    ∙ ap (c.levels.found.items ++◌) (sym (none_out c.args.table.now (c.args.most - c.levels._passed)))
    ∙ all

pub levels-preserved : goal.levels-preserved
levels-preserved c =
    let all = rw c.in-Some.is at c.levels.invariant in
    rw c.around_in-next.ensures
    (one_out c.args.table.now c.args.most c.levels._passed c.in-Some.inner c.levels.found.items c.push.new.self.items
    (outwards c.args.table.now c.args.most (Some c.args.number)) (omega arith) all c.in_ok-push-in-Some.ensures.items)

pub returns : goal.returns
returns c =
    let done : c.levels._passed ≡ c.args.most = omega arith in
    let all = rw done at c.levels.invariant in
    sym (append-nil c.levels.found.items)
    ∙ ap (c.levels.found.items ++◌) (sym (none_left c.args.table.now c.args.most c.levels.next))
    ∙ all
