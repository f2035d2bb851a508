use Rattle.std.proofs.Common.{◌≡◌, ℕ, ◌+◌, ◌<◌, List, [], ◌∷◌, ◌++◌, length, drop, get_or, ap, sym, ◌∙◌, arith, append_assoc, length-append}
use Rattle.ns_world.specs.Heap.{bytes_at}
use Rattle.ns_world.specs.World.{WorldView}
use Rattle.ns_kdata.specs.Arguments.{bytes_of}
use Rattle.ns_kdata.specs.Texts.{filled}
use Rattle.ns_base.specs.Quoted.{doubled}
use Rattle.ns_base.specs.laws.Quoted.{doubled_step}
use Rattle.ns_kdata.proofs.Writing.{sizes_stay}
use Rattle.ns_kdata.proofs.Filling.{filled_append, filled_sizes}
use Rattle.ns_kdata.proofs.Parts.{text_elsewhere, text_unfilled}
use Rattle.ns_kdata.proofs.Quoted.{doubled_step_size}
use Rattle.ns_kdata.proofs.making.put_quoted.Goals as goal

pub bytes-init : goal.bytes-init
bytes-init c =
    let to = c.args.to in
    let whole = bytes_of c.args.world.now.world.cells c.args.text in
    let wrote = c.set_byte.ensures in
    record {
      rest = ap (λ v. filled v to 1 (doubled whole ++ 39 ∷ [])) wrote;
      count = omega (arith, length-append (doubled whole) (39 ∷ []));
      size = ap (λ (v : WorldView). length (bytes_at v.world.cells to)) wrote ∙ sizes_stay c.args.world.now.world.cells to 0 39 to;
      same = ap (λ (v : WorldView). bytes_of v.world.cells c.args.text) wrote ∙ text_elsewhere c.args.world.now.world.cells to 0 39 c.args.text c.requires.apart;
    }

pub bytes-preserved : goal.bytes-preserved
bytes-preserved c =
    let l = c.bytes in
    let to = c.args.to in
    let whole = bytes_of c.args.world.now.world.cells c.args.text in
    let byte = c.text_byte-byte.result in
    let wrote = c.put_doubled-at.ensures.world in
    let inside : l.place < length whole = omega (arith, c.text_size-size.ensures, c.bytes-test.true) in
    let is : byte ≡ get_or whole l.place 0 = c.text_byte-byte.ensures ∙ ap (λ bs. get_or bs l.place 0) l.invariant.same in
    let here : List ℕ = doubled (byte ∷ []) in
    let rest : List ℕ = doubled (drop (l.place + 1) whole) in
    let step : here ++ rest ≡ doubled (drop l.place whole) = ap (λ b. doubled (b ∷ []) ++ rest) is ∙ sym (doubled_step whole l.place inside) in
    record {
      rest = ap (λ v. filled v to c.put_doubled-at.result (rest ++ 39 ∷ [])) wrote
          ∙ (ap (λ n. filled (filled l.world to l.at here) to n (rest ++ 39 ∷ [])) c.put_doubled-at.ensures.place
          ∙ (filled_append l.world to l.at here (rest ++ 39 ∷ [])
          ∙ (ap (filled l.world to l.at) (sym (append_assoc here rest (39 ∷ [])))
          ∙ (ap (λ bs. filled l.world to l.at (bs ++ 39 ∷ [])) step ∙ l.invariant.rest))));
      count = omega (arith, c.put_doubled-at.ensures.place, l.invariant.count, doubled_step_size whole l.place inside, ap (λ b. length (doubled (b ∷ []))) is);
      size = ap (λ (v : WorldView). length (bytes_at v.world.cells to)) wrote ∙ (filled_sizes l.world to l.at to here ∙ l.invariant.size);
      same = ap (λ (v : WorldView). bytes_of v.world.cells c.args.text) wrote ∙ (text_unfilled l.world to l.at here c.args.text c.requires.apart ∙ l.invariant.same);
    }
