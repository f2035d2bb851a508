use Rattle.std.proofs.Common.{◌<◌, ℕ, List, length, ap, ◌∙◌, arith}
use Rattle.ns_kdata.specs.Arguments.{items_of}
use Rattle.ns_actors.specs.declared.letter.Letter.{Letter}
use Rattle.ns_actors_calls.proofs.Reading.{read_more}
use Rattle.ns_actors_calls.proofs.outbox.read_letters.Goals as goal

pub elements-preserved : goal.elements-preserved
elements-preserved c =
    let items = items_of c.args.world.now.world.cells c.args.array in
    let within : c.elements.place < length items = omega (arith, c.elements-test.true, c.requires.size) in
    let parts = c.in-Some.parts in
    let named : List ℕ → Letter = λ sel. record { from = c.args.from; to = parts.to; sel = sel; arg = parts.arg } in
    read_more c.args.code.now c.args.world.now.world.cells c.args.from c.args.count items c.elements.place c.elements.letters.items c.push.new.self.items
    c.array_item.result c.in-Some.parts c.in_ok-letter_of-in-Some.field-0 within c.array_item.ensures c.in-Some.ensures
    (c.in_ok-letter_of-in-Some.ensures ∙ ap named c.selector_text-sel.ensures) c.in_ok-push-in-Some.ensures.items c.elements.invariant
