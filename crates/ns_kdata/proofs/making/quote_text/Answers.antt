use Rattle.std.proofs.Common.{length, ap, sym, ◌∙◌}
use Rattle.ns_kdata.specs.Arguments.{bytes_of}
use Rattle.ns_kdata.specs.Texts.{filled}
use Rattle.ns_base.specs.Quoted.{quoted}
use Rattle.ns_kdata.proofs.Finished.{new_text_is, text_kept, text_apart, text_finished}
use Rattle.ns_kdata.proofs.making.quote_text.Goals as goal

pub put_quoted-requires-clause-inside : goal.put_quoted-requires-clause-inside
put_quoted-requires-clause-inside c =
    let new = new_text_is c.args.world.now c.new_text.new.world _ c.in_ok-to.to c.in_ok-to.ensures.makes in
    let kept = text_kept c.args.world.now c.new_text.new.world _ c.in_ok-to.to c.args.text c.requires.there new in
    new.size ∙ (c.quoted_size-size.ensures ∙ ap (λ bs. length (quoted bs)) (sym kept))

pub put_quoted-requires-clause-apart : goal.put_quoted-requires-clause-apart
put_quoted-requires-clause-apart c =
    let new = new_text_is c.args.world.now c.new_text.new.world _ c.in_ok-to.to c.in_ok-to.ensures.makes in
    text_apart c.args.world.now c.new_text.new.world _ c.in_ok-to.to c.args.text c.requires.there new

pub returns : goal.returns
returns c =
    let to = c.in_ok-to.to in
    let mid = c.new_text.new.world in
    let new = new_text_is c.args.world.now mid _ to c.in_ok-to.ensures.makes in
    let kept = text_kept c.args.world.now mid _ to c.args.text c.requires.there new in
    let bytes = bytes_of c.args.world.now.world.cells c.args.text in
    let all = c.put_quoted.ensures ∙ ap (λ bs. filled mid to 0 (quoted bs)) kept in
    text_finished c.args.world.now mid c.put_quoted.new.world (quoted bytes) _ to c.quoted_size-size.ensures all c.in_ok-to.ensures.makes
