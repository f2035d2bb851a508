use Rattle.std.proofs.Common.{◌≡◌, ℕ, ◌+◌, ◌<◌, length, drop, get_or, ap, sym, ◌∙◌, arith}
use Rattle.ns_world.specs.Heap.{bytes_at}
use Rattle.ns_world.specs.World.{WorldView, byte_written}
use Rattle.ns_kdata.specs.Arguments.{bytes_of}
use Rattle.ns_kdata.specs.Texts.{filled, bytes_in}
use Rattle.ns_kdata.proofs.Writing.{sizes_stay}
use Rattle.ns_kdata.proofs.Filling.{filled_step}
use Rattle.ns_kdata.proofs.Parts.{part_size, part_byte, text_elsewhere}
use Rattle.ns_kdata.proofs.making.put_part.Goals as goal

pub bytes-preserved : goal.bytes-preserved
bytes-preserved c =
    let l = c.bytes in
    let to = c.args.to in
    let whole = bytes_of c.args.world.now.world.cells c.args.from in
    let part = bytes_in whole c.args.part in
    let byte = c.text_byte-byte.result in
    let wrote = c.set_byte.ensures in
    let inside : l.place < length part = omega (arith, part_size whole c.args.part c.requires.there) in
    let is : byte ≡ get_or part l.place 0 =
    c.text_byte-byte.ensures
    ∙ (ap (λ bs. get_or bs (c.args.part.start + l.place) 0) l.invariant.same ∙ sym (part_byte whole c.args.part l.place c.bytes-test.true)) in
    let on : c.args.at + (l.place + 1) ≡ (c.args.at + l.place) + 1 = omega arith in
    let next : ℕ → WorldView = λ b. record l.world { world = byte_written l.world.world to (c.args.at + l.place) b } in
    record {
      rest = ap (λ (v : WorldView). filled v to (c.args.at + (l.place + 1)) (drop (l.place + 1) part)) wrote
          ∙ (ap (λ b. filled (next b) to (c.args.at + (l.place + 1)) (drop (l.place + 1) part)) is
          ∙ (ap (λ n. filled (next (get_or part l.place 0)) to n (drop (l.place + 1) part)) on
          ∙ (sym (filled_step l.world to (c.args.at + l.place) l.place part inside) ∙ l.invariant.rest)));
      size = ap (λ (v : WorldView). length (bytes_at v.world.cells to)) wrote
          ∙ (sizes_stay l.world.world.cells to (c.args.at + l.place) byte to ∙ l.invariant.size);
      same = ap (λ (v : WorldView). bytes_of v.world.cells c.args.from) wrote
          ∙ (text_elsewhere l.world.world.cells to (c.args.at + l.place) byte c.args.from c.requires.apart ∙ l.invariant.same);
    }
