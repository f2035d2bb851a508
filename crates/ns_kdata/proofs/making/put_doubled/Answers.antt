use Rattle.std.proofs.Common.{◌≡◌, [], ◌∷◌, length, ap, ◌∙◌, arith}
use Rattle.ns_world.specs.Heap.{bytes_at}
use Rattle.ns_world.specs.World.{WorldView}
use Rattle.ns_base.specs.Quoted.{doubled}
use Rattle.ns_kdata.proofs.Writing.{sizes_stay}
use Rattle.ns_kdata.proofs.making.put_doubled.Goals as goal

pub set_byte-requires-2 : goal.set_byte-requires-2
set_byte-requires-2 c =
    let two : length (doubled (c.args.byte ∷ [])) ≡ 2 = ap (λ b. length (doubled (b ∷ []))) c.if-byte-ne39.false in
    let size = ap (λ (v : WorldView). length (bytes_at v.world.cells c.args.to)) c.set_byte.ensures ∙ sizes_stay c.args.world.now.world.cells c.args.to c.args.at c.args.byte c.args.to in
    omega (arith, two, size, c.requires.inside)
