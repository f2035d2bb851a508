-- Frames stay valid while the run goes on.
use Rattle.std.proofs.Common.{◌≡◌, ℕ, ◌+◌, ◌≤◌, List, [], ◌∷◌, get_or, arith, All, Bool, true, false, cond}
use Rattle.std.specs.Prelude.{nat_lt, ◌==◌}
use Rattle.ns_code.specs.declared.program.CodeProgram.{CodeProgram}
use Rattle.ns_code.specs.Soundness.{method_kind, block_kind}
use Rattle.ns_world.specs.declared.value.Value.{Value}
use Rattle.ns_world.specs.Heap.{Heap}
use Rattle.ns_world.specs.Lawful.{IsLiveValue}
use Rattle.ns_world.specs.Later.{RunsOn}
use Rattle.ns_world.specs.declared.kernel_parts.KMethod.{KMethod}
use Rattle.ns_kcode.specs.declared.state.KState.{KState}
use Rattle.ns_moves.specs.declared.site.Site.{Site}
use Rattle.ns_moves.specs.Control.{Progress, Activation, FromMethod, FromBody, FromClause}
use Rattle.ns_moves.specs.Bodies.{no_home}
use Rattle.ns_moves.specs.Fitting.{FitsMethod, kind_of, environment_body}
use Rattle.ns_moves.specs.State.{Leaving, Loud, Silent, Frame, Running, Looping}
use Rattle.ns_moves.specs.Steps.{PlacedInstr}
use Rattle.ns_moves.specs.ValidFrames.{Awaited, Nothing, SendValue, BlockValue, PartEnd, awaited_below, is_in_method, has_home_of}
use Rattle.ns_moves.specs.ValidFrames.{FitsLeaving, RunningIsValid, LoopingIsValid, FrameIsValid, FramesAreValid}
use Rattle.ns_moves.proofs.FramesKnown.{Known}
use Rattle.ns_moves.specs.laws.Frames.{first_valid, others_valid}

-- A run goes on lawfully, and no method less has begun.
pub record Onto (code : CodeProgram) (old new : Progress) : Type 0 where
  pub run : RunsOn code old.world new.world
  pub begun : old.begun ≤ new.begun

pub both_valid : (code : CodeProgram) (p : Progress) (awaited : Awaited) (frame : Frame) (frames : List Frame) →
    FrameIsValid code p awaited frame
    → FramesAreValid code p (awaited_below code frame) frames → FramesAreValid code p awaited (frame ∷ frames)
both_valid code p Nothing frame frames one more = (one, more)
both_valid code p SendValue frame frames one more = (one, more)
both_valid code p BlockValue frame frames one more = (one, more)
both_valid code p PartEnd frame frames one more = (one, more)

-- ---- homes

below_more : (home low high : ℕ) → low ≤ high → nat_lt home low ≡ true → nat_lt home high ≡ true
below_more home low high h e = grind (arith, h, e)

home_more : (b c d none : Bool) (home low high : ℕ) → low ≤ high →
    cond b (nat_lt home low) (cond c (cond d (nat_lt home low) none) none) ≡ true
    → cond b (nat_lt home high) (cond c (cond d (nat_lt home high) none) none) ≡ true
home_more true c d none home low high h e = below_more home low high h e
home_more false true true none home low high h e = below_more home low high h e
home_more false true false none home low high h e = e
home_more false false d none home low high h e = e

pub home_lasts : (code : CodeProgram) (low high kind body home : ℕ) → low ≤ high → has_home_of code low kind body home ≡ true
    → has_home_of code high kind body home ≡ true
home_lasts code low high kind body home h e =
    home_more (kind == method_kind) (kind == block_kind) (is_in_method code body) (home == no_home) home low high h e

-- ---- methods of the kernel

pub method_of : (code : CodeProgram) (heap : Heap) (awaited : Awaited) (named : KMethod) (state : KState) (site : Site)
    → LoopingIsValid heap code awaited named state site → FitsMethod heap named state
method_of code heap awaited named state site valid = record {
  arguments = valid.arguments;
  receiver = valid.receiver;
  counts = valid.counts;
}

-- ---- while the run goes on

module _ (known : Known) (code : CodeProgram) (old new : Progress) (onto : Onto code old new) where
  pub value_lasts : (v : Value) → IsLiveValue old.world.cells code v → IsLiveValue new.world.cells code v
  value_lasts v live = known.lasting.values v code old.world new.world onto.run live

  pub values_last : (vs : List Value) → All (IsLiveValue old.world.cells code) vs → All (IsLiveValue new.world.cells code) vs
  values_last vs all = λ i d h. value_lasts (get_or vs i d) (all i d h)

  leaving_lasts : (leaving : Leaving) (a : Activation) → FitsLeaving old.world.cells code leaving a → FitsLeaving new.world.cells code leaving a
  leaving_lasts Silent a fits = tt
  leaving_lasts (Loud FromMethod) a fits = tt
  leaving_lasts (Loud FromBody) a fits = tt
  leaving_lasts (Loud (FromClause object holder class)) a fits =
      (known.lasting.exits (FromClause object holder class) code old.world new.world onto.run fits.0, fits.1, fits.2, fits.3)

  pub running_lasts : (awaited : Awaited) (leaving : Leaving) (a : Activation) (ls : List Value) (rest : List PlacedInstr) (stack : List Value)
      → RunningIsValid code old awaited leaving a ls rest stack → RunningIsValid code new awaited leaving a ls rest stack
  running_lasts awaited leaving a ls rest stack valid = record {
    fits = known.lasting.activations a code old.world new.world onto.run valid.fits;
    object = λ is. known.lasting.holders a.self a.holder code old.world new.world onto.run (valid.object is);
    kind = valid.kind;
    leaves = leaving_lasts leaving a valid.leaves;
    inside = valid.inside;
    stands = valid.stands;
    environment = known.lasting.environments (a.body + 1) (environment_body code a.body) a.env code old.world new.world onto.run valid.environment;
    beside = valid.beside;
    live_locals = values_last ls valid.live_locals;
    live_stack = values_last stack valid.live_stack;
    home = home_lasts code old.begun new.begun (kind_of code a.body) a.body a.home onto.begun valid.home;
    named = valid.named;
  }

  pub looping_lasts : (awaited : Awaited) (named : KMethod) (state : KState) (site : Site) → LoopingIsValid old.world.cells code awaited named state site
      → LoopingIsValid new.world.cells code awaited named state site
  looping_lasts awaited named state site valid =
      let fits = known.lasting.methods named state code old.world new.world onto.run (method_of code old.world.cells awaited named state site valid) in
      record {
        live = known.lasting.states state code old.world new.world onto.run valid.live;
        receiver = fits.receiver;
        arguments = fits.arguments;
        counts = fits.counts;
        waits = valid.waits;
        named = valid.named;
      }

  frame_lasts : (awaited : Awaited) (frame : Frame) → FrameIsValid code old awaited frame → FrameIsValid code new awaited frame
  frame_lasts awaited (Running leaving a ls rest stack) valid = running_lasts awaited leaving a ls rest stack valid
  frame_lasts awaited (Looping named state site) valid = looping_lasts awaited named state site valid

  none_lasts : (awaited : Awaited) → FramesAreValid code old awaited [] → FramesAreValid code new awaited []
  none_lasts Nothing valid = valid
  none_lasts SendValue valid = valid
  none_lasts BlockValue valid = valid
  none_lasts PartEnd valid = valid

  pub frames_last : (awaited : Awaited) (frames : List Frame) → FramesAreValid code old awaited frames → FramesAreValid code new awaited frames
  frames_last awaited [] valid = none_lasts awaited valid
  frames_last awaited (frame ∷ frames) valid =
      both_valid code new awaited frame frames (frame_lasts awaited frame (first_valid code old awaited frame frames valid))
      (frames_last (awaited_below code frame) frames (others_valid code old awaited frame frames valid))
