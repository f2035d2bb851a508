use Rattle.std.proofs.Common.{◌≡◌, ℕ, ◌+◌, ◌*◌, List, length, take, drop, ap, ◌∙◌, arith, length-append}
use Rattle.ns_world.specs.World.{WorldView}
use Rattle.ns_kdata.specs.Arguments.{bytes_of}
use Rattle.ns_facets.specs.Console.{appended}
use Rattle.ns_facets.proofs.Rows.{row_behind, appended_twice}
use Rattle.ns_facets.proofs.console.append_text.Goals as goal

pub rows-preserved : goal.rows-preserved
rows-preserved c =
    let l = c.rows in
    let whole : List ℕ = bytes_of c.args.world.now.world.cells c.args.text in
    let row : List ℕ = take 8 (drop (8 * l.row) whole) in
    let rest : List ℕ = drop (8 * (l.row + 1)) whole in
    let is : c.text_row-bytes.result ≡ row = c.text_row-bytes.ensures ∙ ap (λ bs. take 8 (drop (8 * l.row) bs)) l.invariant.same in
    let on : c.append.new.world ≡ appended l.world row = c.append.ensures ∙ ap (appended l.world) is in
    let output = ap (λ (v : WorldView). length v.world.output) on in
    let out = ap (λ (v : WorldView). v.world.limits.out) on in
    let room = ap (λ (v : WorldView). v.out_room) on in
    record {
      rest = ap (λ (v : WorldView). appended v rest) on ∙ (appended_twice l.world row rest ∙ (ap (appended l.world) (row_behind whole l.row) ∙ l.invariant.rest));
      same = ap (λ (v : WorldView). bytes_of v.world.cells c.args.text) on ∙ l.invariant.same;
      fits = omega (arith, output, out, length-append l.world.world.output row, length-append row rest, ap length (row_behind whole l.row), l.invariant.fits);
      room = omega (arith, out, room, l.invariant.room);
    }
