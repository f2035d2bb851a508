use Rattle.std.proofs.Common.{◌≡◌, ◌+◌, ◌++◌, length, ap, ◌∙◌, arith, length-append}
use Rattle.ns_world.specs.Heap.{bytes_at}
use Rattle.ns_world.specs.World.{WorldView}
use Rattle.ns_kdata.specs.Arguments.{bytes_of}
use Rattle.ns_kdata.specs.Texts.{filled, bytes_in}
use Rattle.ns_kdata.proofs.Parts.{text_unfilled}
use Rattle.ns_kdata.proofs.Filling.{second_part, filled_sizes}
use Rattle.ns_kdata.proofs.Finished.{new_text_is, text_kept, text_apart, text_finished}
use Rattle.ns_kdata.proofs.making.join_texts.Goals as goal

pub put_part-requires-clause-inside : goal.put_part-requires-clause-inside
put_part-requires-clause-inside c =
    let new = new_text_is c.args.world.now c.new_text.new.world _ c.in_ok-to.to c.in_ok-to.ensures.makes in
    omega (arith, new.size)

pub put_part-requires-clause-there : goal.put_part-requires-clause-there
put_part-requires-clause-there c =
    let new = new_text_is c.args.world.now c.new_text.new.world _ c.in_ok-to.to c.in_ok-to.ensures.makes in
    let kept = text_kept c.args.world.now c.new_text.new.world _ c.in_ok-to.to c.args.one c.requires.one new in
    omega (arith, c.whole-first.ensures.start, c.whole-first.ensures.count, ap length kept)

pub put_part-requires-clause-apart : goal.put_part-requires-clause-apart
put_part-requires-clause-apart c =
    let new = new_text_is c.args.world.now c.new_text.new.world _ c.in_ok-to.to c.in_ok-to.ensures.makes in
    text_apart c.args.world.now c.new_text.new.world _ c.in_ok-to.to c.args.one c.requires.one new

pub put_part-requires-2-clause-inside : goal.put_part-requires-2-clause-inside
put_part-requires-2-clause-inside c =
    let to = c.in_ok-to.to in
    let new = new_text_is c.args.world.now c.new_text.new.world _ to c.in_ok-to.ensures.makes in
    let size = ap (λ (v : WorldView). length (bytes_at v.world.cells to)) c.put_part.ensures ∙ filled_sizes c.new_text.new.world to 0 to (bytes_in (bytes_of c.new_text.new.world.world.cells c.args.one) c.whole-first.result) in
    omega (arith, new.size, size)

pub put_part-requires-2-clause-there : goal.put_part-requires-2-clause-there
put_part-requires-2-clause-there c =
    let to = c.in_ok-to.to in
    let new = new_text_is c.args.world.now c.new_text.new.world _ to c.in_ok-to.ensures.makes in
    let kept = text_kept c.args.world.now c.new_text.new.world _ to c.args.other c.requires.other new in
    let apart = text_apart c.args.world.now c.new_text.new.world _ to c.args.other c.requires.other new in
    let still = ap (λ (v : WorldView). bytes_of v.world.cells c.args.other) c.put_part.ensures ∙ text_unfilled c.new_text.new.world to 0 (bytes_in (bytes_of c.new_text.new.world.world.cells c.args.one) c.whole-first.result) c.args.other apart in
    omega (arith, c.whole-second.ensures.start, c.whole-second.ensures.count, ap length kept, ap length still)

pub put_part-requires-2-clause-apart : goal.put_part-requires-2-clause-apart
put_part-requires-2-clause-apart c =
    let new = new_text_is c.args.world.now c.new_text.new.world _ c.in_ok-to.to c.in_ok-to.ensures.makes in
    text_apart c.args.world.now c.new_text.new.world _ c.in_ok-to.to c.args.other c.requires.other new

pub returns : goal.returns
returns c =
    let to = c.in_ok-to.to in
    let mid = c.new_text.new.world in
    let new = new_text_is c.args.world.now mid _ to c.in_ok-to.ensures.makes in
    let one = bytes_of c.args.world.now.world.cells c.args.one in
    let other = bytes_of c.args.world.now.world.cells c.args.other in
    let first_kept = text_kept c.args.world.now mid _ to c.args.one c.requires.one new in
    let other_kept = text_kept c.args.world.now mid _ to c.args.other c.requires.other new in
    let apart = text_apart c.args.world.now mid _ to c.args.other c.requires.other new in
    let still = ap (λ (v : WorldView). bytes_of v.world.cells c.args.other) c.put_part.ensures ∙ (text_unfilled mid to 0 (bytes_in (bytes_of mid.world.cells c.args.one) c.whole-first.result) c.args.other apart ∙ other_kept) in
    let first_bytes = ap (λ bs. bytes_in bs c.whole-first.result) first_kept ∙ c.whole-first.ensures.bytes in
    let other_bytes = ap (λ bs. bytes_in bs c.whole-second.result) still ∙ c.whole-second.ensures.bytes in
    let first = c.put_part.ensures ∙ ap (filled mid to 0) first_bytes in
    let all : c.put_part-2.new.world ≡ filled mid to 0 (one ++ other) =
    c.put_part-2.ensures
    ∙ (ap (filled c.put_part.new.world to c.whole-first.result.count) other_bytes
    ∙ (ap (λ n. filled c.put_part.new.world to n other) c.whole-first.ensures.count
    ∙ (ap (λ v. filled v to (length one) other) first ∙ second_part mid to one other))) in
    let count : c.from.result + c.from-2.result ≡ length (one ++ other) =
    omega (arith, c.from.ensures, c.from-2.ensures, c.whole-first.ensures.count, c.whole-second.ensures.count, length-append one other) in
    text_finished c.args.world.now mid c.put_part-2.new.world (one ++ other) _ to count all c.in_ok-to.ensures.makes
