use Rattle.std.proofs.Common.{◌≡◌, ◌+◌, ◌∷◌, [], ◌++◌, ◌∙◌, ap, sym, arith, map, take}
use Rattle.std.proofs.lemmas.Result.{err_from_is_err_and}
use Rattle.ns_world.specs.declared.value.Value.TheVariants.{Ref}
use Rattle.ns_world.specs.Cell.{TextCell}
use Rattle.ns_world.specs.Heap.{heap_size}
use Rattle.ns_moves.specs.Start.{size_of_cells}
use Rattle.ns_machine_start.proofs.Listed.{text_made, text_stopped, one_more_refers}
use Rattle.ns_machine_start.proofs.texts.make_texts.Goals as goal

pub returns-in_err-number-clause-makes : goal.returns-in_err-number-clause-makes
returns-in_err-number-clause-makes c =
    let p = err_from_is_err_and c.from_residual.result c.from_residual.ensures.1 in
    rw p.1
    (text_stopped c.args.texts.now c.texts.text-index c.text-item.result c.args.world.now c.texts.world c.make_text.new.world _ _ c.texts-test.true
    c.text-item.is c.texts.invariant.makes c.in_err-number.ensures.makes)

pub texts-preserved : goal.texts-preserved
texts-preserved c =
    let size : heap_size c.texts.world.world.cells ≡ heap_size c.args.world.now.world.cells + size_of_cells (map TextCell (take c.texts.text-index c.args.texts.now)) =
    c.texts.invariant.makes.size in
    record {
      makes = text_made c.args.texts.now c.texts.text-index c.text-item.result c.args.world.now c.texts.world c.make_text.new.world _ c.texts-test.true
          c.text-item.is c.texts.invariant.makes c.in_ok-number.ensures.makes;
      listed = c.push_reserved.ensures.items
          ∙ (ap (λ values. values ++ Ref c.in_ok-number.number ∷ []) c.texts.invariant.listed
          ∙ sym (one_more_refers (heap_size c.args.world.now.world.cells) c.args.texts.now c.texts.text-index c.text-item.result c.in_ok-number.number c.texts-test.true
          c.text-item.is (c.in_ok-number.ensures.number ∙ size)));
      count = omega (arith, c.push_reserved.ensures.len, c.texts.invariant.count);
      enough = omega (arith, c.push_reserved.ensures.capacity, c.texts.invariant.enough);
    }
