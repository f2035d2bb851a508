use Rattle.std.proofs.Common.{length, ap, ◌∙◌, arith}
use Rattle.ns_kdata.specs.Arguments.{bytes_of}
use Rattle.ns_kdata.specs.Texts.{filled, bytes_in}
use Rattle.ns_kdata.proofs.Parts.{part_size, text_few}
use Rattle.ns_kdata.proofs.Finished.{new_text_is, text_kept, text_apart, text_finished}
use Rattle.ns_kdata.proofs.making.copy_text.Goals as goal

pub put_part-requires : goal.put_part-requires
put_part-requires c =
    let new = new_text_is c.args.world.now c.new_text.new.world _ c.in_ok-to.to c.in_ok-to.ensures.makes in
    let kept = text_kept c.args.world.now c.new_text.new.world _ c.in_ok-to.to c.args.from c.requires.there new in
    let few = text_few c.args.world.now.world c.args.from c.requires.within in
    record {
      inside = omega (arith, new.size);
      small = omega (arith, c.in_ok-to.ensures.small);
      there = omega (arith, c.requires.inside, ap length kept);
      short = omega (arith, c.requires.inside, few);
      apart = text_apart c.args.world.now c.new_text.new.world _ c.in_ok-to.to c.args.from c.requires.there new;
    }

pub returns : goal.returns
returns c =
    let to = c.in_ok-to.to in
    let new = new_text_is c.args.world.now c.new_text.new.world _ to c.in_ok-to.ensures.makes in
    let kept = text_kept c.args.world.now c.new_text.new.world _ to c.args.from c.requires.there new in
    let bytes = bytes_of c.args.world.now.world.cells c.args.from in
    let all = c.put_part.ensures ∙ ap (λ bs. filled c.new_text.new.world to 0 (bytes_in bs c.args.part)) kept in
    text_finished c.args.world.now c.new_text.new.world c.put_part.new.world (bytes_in bytes c.args.part) _ to (omega (arith, c.from.ensures, part_size bytes c.args.part c.requires.inside)) all c.in_ok-to.ensures.makes
