use Rattle.std.proofs.Common.{◌≡◌, suc, ◌+◌, ap, ◌∙◌, arith}
use Rattle.ns_world.specs.Heap.{shape_at}
use Rattle.ns_find.specs.Outward.{around, outward}
use Rattle.ns_find.proofs.Keeping.{all_right}
use Rattle.ns_find.proofs.ways.go_out.Goals as goal

pub out-preserved : goal.out-preserved
out-preserved c =
    let heap = c.args.world.now.world.cells in
    let more : suc c.out.level ≡ c.out.level + 1 = omega arith in
    let end : c.around-to.result ≡ outward heap c.args.from (c.out.level + 1) =
    c.around-to.ensures ∙ (ap (λ n. around (shape_at heap n)) c.out.invariant.0 ∙ ap (outward heap c.args.from) more) in (
      end,
      all_right heap c.args.code.now c.out.memo c.keep.new.self c.place_of.result _ c.keep.ensures
          ((λ k lt. c.requires.way k (omega (arith, lt, c.out-test.true))), end) c.out.invariant.1,
    )
