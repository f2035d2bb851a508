use Rattle.std.proofs.Common.{refl, ap, sym, ◌∙◌, arith}
use Rattle.ns_frozen.specs.Frames.{bad_frame_from}
use Rattle.ns_frozen_tables.specs.Above.{above_shown}
use Rattle.ns_frozen_seen.specs.Seen.{heap_of}
use Rattle.ns_frozen_valid.proofs.Framed.{frame_on, frame_here, frame_end}
use Rattle.ns_frozen_valid.proofs.frames.bad_among_frames.Goals as goal

pub frames-init : goal.frames-init
frames-init c = (omega arith, refl)

pub returns-then-not-is_good_frame : goal.returns-then-not-is_good_frame
returns-then-not-is_good_frame c =
    frame_here c.args.seen.now.code.now (heap_of c.args.seen.now) c.args.homes (above_shown c.args.top) (above_shown c.above_of.result) c.frames.least c.frames.place
    c.in-Some.frame.now c.in-Some.above.now _ c.above_of.ensures (sym c.is_good_frame.ensures ∙ c.if-not-is_good_frame.true)
    (ap (bad_frame_from c.args.seen.now.code.now (heap_of c.args.seen.now) c.args.homes (above_shown c.args.top) c.frames.least c.frames.place) (sym c.in-Some.ensures.cases.0)
    ∙ c.frames.invariant.1)

pub frames-preserved : goal.frames-preserved
frames-preserved c = (
  omega (arith, c.frames.invariant.0, c.in-Some.ensures.cases.1),
  frame_on c.args.seen.now.code.now (heap_of c.args.seen.now) c.args.homes (above_shown c.args.top) (above_shown c.above_of.result) c.frames.least
      c.least_above-least.result c.frames.place c.in-Some.frame.now c.in-Some.above.now _ c.above_of.ensures c.least_above-least.ensures
      (sym c.is_good_frame.ensures ∙ c.if-not-is_good_frame.false)
      (ap (bad_frame_from c.args.seen.now.code.now (heap_of c.args.seen.now) c.args.homes (above_shown c.args.top) c.frames.least c.frames.place) (sym c.in-Some.ensures.cases.0)
      ∙ c.frames.invariant.1),
)

pub returns : goal.returns
returns c =
    frame_end c.args.seen.now.code.now (heap_of c.args.seen.now) c.args.homes (above_shown c.args.top) c.frames.least c.frames.place c.frames.left.now _
    c.in_default.ensures.cases c.frames.invariant.1
