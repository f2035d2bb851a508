use Rattle.std.proofs.Common.{◌<◌, length, sym, ◌∙◌, arith}
use Rattle.ns_kdata.specs.Arguments.{bytes_of}
use Rattle.ns_kdata.proofs.Comparing.{equal_on, equal_end, equal_behind}
use Rattle.ns_kdata.proofs.texts.are_equal.Goals as goal

pub bytes-preserved : goal.bytes-preserved
bytes-preserved c =
    let text = bytes_of c.args.world.now.world.cells c.args.text in
    let other = bytes_of c.args.world.now.world.cells c.args.other in
    let inside : c.bytes.place < length text = omega (arith, c.bytes-test.true, c.text_size-size.ensures) in
    let within : c.bytes.place < length other = omega (arith, c.bytes-test.true, c.if-size-text_size.false, c.text_size.ensures) in
    sym (equal_on text other c.bytes.place inside within (sym c.text_byte.ensures ∙ (c.if-text_byte.false ∙ c.text_byte-in-bytes.ensures))) ∙ c.bytes.invariant

pub returns : goal.returns
returns c =
    let text = bytes_of c.args.world.now.world.cells c.args.text in
    let other = bytes_of c.args.world.now.world.cells c.args.other in
    sym (equal_end text other c.bytes.place (omega (arith, c.bytes-test.false, c.text_size-size.ensures)) (omega (arith, c.bytes-test.false, c.if-size-text_size.false, c.text_size.ensures))) ∙ c.bytes.invariant

pub bytes-init : goal.bytes-init
bytes-init c =
    let text = bytes_of c.args.world.now.world.cells c.args.text in
    let other = bytes_of c.args.world.now.world.cells c.args.other in
    equal_behind c.same_front-start.result text other (omega (arith, c.same_front-start.ensures.within, c.text_size-size.ensures)) (omega (arith, c.same_front-start.ensures.within, c.if-size-text_size.false, c.text_size.ensures)) c.same_front-start.ensures.same
