use Rattle.std.proofs.Common.{◌+◌, ◌∷◌, ap, sym, ◌∙◌, drop}
use Rattle.std.proofs.lemmas.List.{drop_more}
use Rattle.ns_frozen.specs.declared.frame.FrozenFrame.{FrozenFrame}
use Rattle.ns_machine_thaw.proofs.Stacked.{fit_at, next_room, next_small, put_goes_on}
use Rattle.ns_machine_thaw.proofs.frames.put_frames.Goals as goal

pub kept_frame-kept-requires-clause-fits : goal.kept_frame-kept-requires-clause-fits
kept_frame-kept-requires-clause-fits c =
    let frame = c.index-frames-number.result in
    let rest = drop (c.frames.number + 1) c.args.frames.now in
    fit_at c.args.code.now c.frames.number c.args.frames.now frame rest
    (drop_more c.args.frames.now c.frames.number frame c.frames-test.true ∙ ap (λ (f : FrozenFrame). f ∷ rest) (sym c.index-frames-number.is)) c.requires.fit

pub kept_frame-kept-requires-clause-small : goal.kept_frame-kept-requires-clause-small
kept_frame-kept-requires-clause-small c =
    next_small c.args.code.now c.frames.stack c.frames.at c.frames.invariant.stand
    (next_room c.args.code.now c.args.first c.args.waits c.args.frames.now c.frames.number c.frames.part c.args.stack.now c.frames.stack c.frames.at c.frames-test.true
    c.requires.room c.frames.invariant)

pub put_frame-at-requires-clause-room : goal.put_frame-at-requires-clause-room
put_frame-at-requires-clause-room c =
    next_room c.args.code.now c.args.first c.args.waits c.args.frames.now c.frames.number c.frames.part c.args.stack.now c.frames.stack c.frames.at c.frames-test.true
    c.requires.room c.frames.invariant

pub is_at_super-part-requires-clause-fits : goal.is_at_super-part-requires-clause-fits
is_at_super-part-requires-clause-fits c =
    let frame = c.index-frames-number.result in
    let rest = drop (c.frames.number + 1) c.args.frames.now in
    fit_at c.args.code.now c.frames.number c.args.frames.now frame rest
    (drop_more c.args.frames.now c.frames.number frame c.frames-test.true ∙ ap (λ (f : FrozenFrame). f ∷ rest) (sym c.index-frames-number.is)) c.requires.fit

pub frames-preserved : goal.frames-preserved
frames-preserved c =
    let frame = c.index-frames-number.result in
    let rest = drop (c.frames.number + 1) c.args.frames.now in
    put_goes_on c.args.code.now c.args.first c.args.waits c.args.frames.now c.frames.number c.frames.part c.is_waiting-waiting.result c.is_at_super-part.result
    c.args.stack.now c.frames.stack c.put_frame-at.new.stack c.frames.at c.put_frame-at.result frame c.kept_frame-kept.result
    (drop_more c.args.frames.now c.frames.number frame c.frames-test.true ∙ ap (λ (f : FrozenFrame). f ∷ rest) (sym c.index-frames-number.is))
    c.is_waiting-waiting.ensures c.kept_frame-kept.ensures.shown c.put_frame-at.ensures c.is_at_super-part.ensures c.frames.invariant
