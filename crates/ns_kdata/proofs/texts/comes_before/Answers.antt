use Rattle.std.proofs.Common.{◌≡◌, ◌<◌, min, length, get_or, ap, sym, ◌∙◌, arith}
use Rattle.std.specs.Prelude.{nat_lt}
use Rattle.ns_kdata.specs.Arguments.{bytes_of}
use Rattle.ns_kdata.proofs.Comparing.{before_on, before_here, before_end, before_behind}
use Rattle.ns_kdata.proofs.texts.comes_before.Goals as goal

pub returns-then-byte-against : goal.returns-then-byte-against
returns-then-byte-against c =
    let text = bytes_of c.args.world.now.world.cells c.args.text in
    let other = bytes_of c.args.world.now.world.cells c.args.other in
    let inside : c.bytes.place < length text = omega (arith, c.bytes-test.true, c.min-least.ensures, c.text_size-size.ensures) in
    let within : c.bytes.place < length other = omega (arith, c.bytes-test.true, c.min-least.ensures, c.text_size-others.ensures) in
    let here = before_here text other c.bytes.place inside within (λ e. c.if-byte-against.true (c.text_byte-byte.ensures ∙ (e ∙ sym c.text_byte-against.ensures))) in
    ap (λ n. nat_lt n c.text_byte-against.result) c.text_byte-byte.ensures
    ∙ (ap (λ n. nat_lt (get_or text c.bytes.place 0) n) c.text_byte-against.ensures ∙ (sym here ∙ c.bytes.invariant))

pub bytes-preserved : goal.bytes-preserved
bytes-preserved c =
    let text = bytes_of c.args.world.now.world.cells c.args.text in
    let other = bytes_of c.args.world.now.world.cells c.args.other in
    let inside : c.bytes.place < length text = omega (arith, c.bytes-test.true, c.min-least.ensures, c.text_size-size.ensures) in
    let within : c.bytes.place < length other = omega (arith, c.bytes-test.true, c.min-least.ensures, c.text_size-others.ensures) in
    sym (before_on text other c.bytes.place inside within (sym c.text_byte-byte.ensures ∙ (c.if-byte-against.false ∙ c.text_byte-against.ensures))) ∙ c.bytes.invariant

pub returns : goal.returns
returns c =
    let text = bytes_of c.args.world.now.world.cells c.args.text in
    let other = bytes_of c.args.world.now.world.cells c.args.other in
    let last : c.bytes.place ≡ min (length text) (length other) =
    omega (arith, c.bytes-test.false, c.bytes.auto.place-end, c.min-least.ensures, c.text_size-size.ensures, c.text_size-others.ensures) in
    ap (λ n. nat_lt n c.text_size-others.result) c.text_size-size.ensures
    ∙ (ap (λ n. nat_lt (length text) n) c.text_size-others.ensures ∙ (sym (before_end text other c.bytes.place last) ∙ c.bytes.invariant))

pub bytes-init : goal.bytes-init
bytes-init c =
    let text = bytes_of c.args.world.now.world.cells c.args.text in
    let other = bytes_of c.args.world.now.world.cells c.args.other in
    before_behind c.same_front-start.result text other (omega (arith, c.same_front-start.ensures.within, c.min-least.ensures, c.text_size-size.ensures)) (omega (arith, c.same_front-start.ensures.within, c.min-least.ensures, c.text_size-others.ensures)) c.same_front-start.ensures.same
