-- A value comes to a frame, and a return goes down to a home: what goes on then is valid.
use Rattle.std.proofs.Common.{◌≡◌, ℕ, zero, suc, ◌+◌, ◌≤◌, List, [], ◌∷◌, length, refl, subst, arith, All, Some, Bool, true, false, cond, slice_get}
use Rattle.std.specs.Prelude.{◌==◌}
use Rattle.ns_code.specs.declared.program.CodeProgram.{CodeProgram}
use Rattle.ns_code.specs.declared.body.BodyCode.{BodyCode}
use Rattle.ns_code.specs.Soundness.{block_kind}
use Rattle.ns_world.specs.declared.value.Value.{Value}
use Rattle.ns_world.specs.declared.ending.Kind.TheVariants.{DeadReturn}
use Rattle.ns_world.specs.Heap.{Heap}
use Rattle.ns_world.specs.Lawful.{IsLiveValue}
use Rattle.ns_world.specs.Later.{IsLater}
use Rattle.ns_verify.specs.Verify.{IsSound}
use Rattle.ns_world.specs.declared.kernel_parts.KMethod.{KMethod}
use Rattle.ns_world.specs.declared.kernel_parts.KMethod.TheVariants as method
use Rattle.ns_kcode.specs.declared.state.KState.{KState}
use Rattle.ns_moves.specs.declared.site.Site.{Site}
use Rattle.ns_moves.specs.Site.{error}
use Rattle.ns_moves.specs.Control.{Progress, Activation, Exit, FromMethod, FromBody, FromClause, After, Gives, Halts, frame_left}
use Rattle.ns_moves.specs.Blocks.{taken}
use Rattle.ns_moves.specs.Classes.{body_ended}
use Rattle.ns_moves.specs.Lawful.{LawfulRun, LawfulAfter, FitsExit}
use Rattle.ns_moves.specs.Onward.{after_reached}
use Rattle.ns_moves.specs.Actions.{EndsBody}
use Rattle.ns_moves.specs.Spending.{CellSpends, EndSpends}
use Rattle.ns_moves.specs.State.{Leaving, Loud, Silent, Frame, Running, Looping, Phase, Ended}
use Rattle.ns_moves.specs.Steps.{PlacedInstr}
use Rattle.ns_moves.specs.Returns.{concluded, delivered, settled, returned, ends_at, has_home, unwound, returned_home}
use Rattle.ns_moves.specs.ValidFrames.{Awaited, Nothing, SendValue, BlockValue, PartEnd, awaited_below, next_number, StandsBefore, Stands}
use Rattle.ns_moves.specs.Fitting.{kind_of, counts_fit}
use Rattle.ns_moves.specs.ValidFrames.{FitsLeaving, RunningIsValid, LoopingIsValid, FramesAreValid}
use Rattle.ns_moves.specs.Valid.{has_frame}
use Rattle.ns_moves.specs.Standing.{FramesStand}
use Rattle.ns_moves.proofs.FramesKnown.{Known}
use Rattle.ns_moves.specs.laws.Frames.{first_valid, others_valid}
use Rattle.ns_moves.proofs.FramesLast.{Onto, both_valid, value_lasts, frames_last}
use Rattle.ns_moves.proofs.FramesStanding.{value_comes, part_ends}

-- whether a value is waited for
abbrev pub is_value : Awaited → Bool
is_value Nothing = false
is_value SendValue = true
is_value BlockValue = true
is_value PartEnd = false

-- below a frame whose end gives a value, one is waited for
pub loud_below : (code : CodeProgram) (exit : Exit) (a : Activation) (ls : List Value) (rest : List PlacedInstr) (stack : List Value)
    → is_value (awaited_below code (Running (Loud exit) a ls rest stack)) ≡ true
loud_below code exit a ls rest stack = either (kind_of code a.body == block_kind)
  where
    either : (b : Bool) → is_value (cond b BlockValue SendValue) ≡ true
    either true = refl
    either false = refl

-- what a frame is left with doesn't change what the one below waits for
pub same_below : (code : CodeProgram) (leaving : Leaving) (a : Activation) (ls ls' : List Value) (rest rest' : List PlacedInstr) (stack stack' : List Value)
    → awaited_below code (Running leaving a ls rest stack) ≡ awaited_below code (Running leaving a ls' rest' stack')
same_below code Silent a ls ls' rest rest' stack stack' = refl
same_below code (Loud exit) a ls ls' rest rest' stack stack' = refl

counts_taken : (heap : Heap) (state : KState) (v : Value) (named : KMethod) → counts_fit heap state named ≡ true →
    counts_fit heap (taken state v) named ≡ true
counts_taken heap state v method.Do t = t
counts_taken heap state v method.And t = refl
counts_taken heap state v method.Or t = refl
counts_taken heap state v method.IfTrue t = refl
counts_taken heap state v method.IfFalse t = refl
counts_taken heap state v method.IfTrueIfFalse t = refl
counts_taken heap state v method.IfFalseIfTrue t = refl
counts_taken heap state v method.WhileTrue t = refl
counts_taken heap state v method.WhileFalse t = refl
counts_taken heap state v method.ToDo t = refl
counts_taken heap state v method.TimesRepeat t = refl

-- one value more
pub all_more : {A : Type 0} (P : A → Type 0) (x : A) (xs : List A) → P x → All P xs → All P (x ∷ xs)
all_more P x xs one more zero d h = one
all_more P x xs one more (suc k) d h = more k d (omega (arith, h))

-- What an action gives goes on lawfully with a live value.
abbrev pub GivesOnto : CodeProgram → Progress → After → Type 0
GivesOnto code old (Gives v p) = Onto code old p × IsLiveValue p.world.cells code v
GivesOnto code old (Halts ending p) = Unit {0}

pub onto_of : (code : CodeProgram) (old new : Progress) → LawfulRun code old → LawfulRun code new → IsLater old.world new.world →
    old.begun ≤ new.begun
    → Onto code old new
onto_of code old new before after later begun = record { run = record { before = before; after = after; later = later }; begun = begun }

pub cell_gives : (code : CodeProgram) (p : Progress) (after : After) → LawfulRun code p → LawfulAfter code after →
    IsLater p.world (after_reached after).world
    → CellSpends p after → GivesOnto code p after
cell_gives code p (Gives v q) before lawful later s = let b = s.begun in (onto_of code p q before lawful.0 later (omega (arith, b)), lawful.1)
cell_gives code p (Halts ending q) before lawful later s = tt

end_gives : (code : CodeProgram) (p : Progress) (after : After) → LawfulRun code p → LawfulAfter code after →
    IsLater p.world (after_reached after).world
    → EndSpends p after → GivesOnto code p after
end_gives code p (Gives v q) before lawful later s = let b = s.begun in (onto_of code p q before lawful.0 later (omega (arith, b)), lawful.1)
end_gives code p (Halts ending q) before lawful later s = tt

-- What comes after the last frame is valid, as long as the run goes on.
abbrev pub EndsWell : CodeProgram → Phase → Progress → Type 0
EndsWell code phase p =
    (q : Progress) (v : Value) → Onto code p q → IsLiveValue q.world.cells code v → FramesStand code (concluded code phase v q)

module _ (known : Known) (code : CodeProgram) (sound : IsSound code) where
  -- the run goes on by giving a frame back
  pub onto_left : (p : Progress) → LawfulRun code p → Onto code p (frame_left p)
  onto_left p lawful = onto_of code p (frame_left p) lawful (known.worlds.left_lawful p.world code lawful) (known.worlds.left_later p.world) (omega arith)

  pub onto_same : (p : Progress) → LawfulRun code p → Onto code p p
  onto_same p lawful = onto_of code p p lawful lawful (known.worlds.same p.world) (omega arith)

  pub onto_on : (first second third : Progress) → Onto code first second → Onto code second third → Onto code first third
  onto_on first second third one two =
      let a = one.begun in let b = two.begun in
      onto_of code first third one.run.before two.run.after (known.worlds.on first.world second.world third.world one.run.later two.run.later) (omega (arith, a, b))

  -- ---- a value comes

  value_stands : (number : ℕ) (b : BodyCode) → slice_get code.bodies number ≡ Some b → (awaited : Awaited) (at count : ℕ) → is_value awaited ≡ true
      → Stands b awaited at count → StandsBefore b at (count + 1)
  value_stands number b e Nothing at count is s = absurd (cc)
  value_stands number b e SendValue at count is s = value_comes known.sound code number b sound e at count s
  value_stands number b e BlockValue at count is s = value_comes known.sound code number b sound e at count s
  value_stands number b e PartEnd at count is s = absurd (cc)

  pub received : (p : Progress) (awaited : Awaited) (leaving : Leaving) (a : Activation) (ls : List Value) (rest : List PlacedInstr) (stack : List Value) (v : Value)
      → is_value awaited ≡ true → IsLiveValue p.world.cells code v → RunningIsValid code p awaited leaving a ls rest stack
      → RunningIsValid code p Nothing leaving a ls rest (v ∷ stack)
  received p awaited leaving a ls rest stack v is live valid = record {
    fits = valid.fits;
    object = valid.object;
    kind = valid.kind;
    leaves = valid.leaves;
    inside = valid.inside;
    stands = λ b e.
        let more : length stack + 1 ≡ length (v ∷ stack) = omega arith in
        subst (λ n. StandsBefore b (next_number code a.body rest) n) more
        (value_stands a.body b e awaited (next_number code a.body rest) (length stack) is (valid.stands b e));
    environment = valid.environment;
    beside = valid.beside;
    live_locals = valid.live_locals;
    live_stack = all_more (IsLiveValue p.world.cells code) v stack live valid.live_stack;
    home = valid.home;
    named = valid.named;
  }

  takes_value : (p : Progress) (awaited : Awaited) (named : KMethod) (state : KState) (site : Site) (v : Value) → IsLiveValue p.world.cells code v
      → LoopingIsValid p.world.cells code awaited named state site → LoopingIsValid p.world.cells code Nothing named (taken state v) site
  takes_value p awaited named state site v live valid = record {
    live = record {
      receiver = valid.live.receiver;
      first = valid.live.first;
      second = valid.live.second;
      last = λ other e. let same : v ≡ other = cc in subst (λ o. IsLiveValue p.world.cells code o) same live;
    };
    receiver = valid.receiver;
    arguments = valid.arguments;
    counts = counts_taken p.world.cells state v named valid.counts;
    waits = refl;
    named = valid.named;
  }

  pub delivered_stands : (phase : Phase) (v : Value) (frames : List Frame) (old p : Progress) (awaited : Awaited) → EndsWell code phase old → Onto code old p
      → is_value awaited ≡ true → IsLiveValue p.world.cells code v → FramesAreValid code p awaited frames → FramesStand code (delivered code phase v frames p)
  delivered_stands phase v [] old p awaited ends onto is live valid = ends p v onto live
  delivered_stands phase v (Running leaving a ls rest stack ∷ frames) old p awaited ends onto is live valid =
      let frame : Frame = Running leaving a ls rest stack in
      let next : Frame = Running leaving a ls rest (v ∷ stack) in
      let below = subst (λ w. FramesAreValid code p w frames) (same_below code leaving a ls ls rest rest stack (v ∷ stack)) (others_valid code p awaited frame frames valid) in
      (refl, both_valid code p Nothing next frames (received p awaited leaving a ls rest stack v is live (first_valid code p awaited frame frames valid)) below)
  delivered_stands phase v (Looping named state site ∷ frames) old p awaited ends onto is live valid =
      let frame : Frame = Looping named state site in (
        refl,
        both_valid code p Nothing (Looping named (taken state v) site) frames
            (takes_value p awaited named state site v live (first_valid code p awaited frame frames valid)) (others_valid code p awaited frame frames valid),
      )

  pub settled_stands : (phase : Phase) (after : After) (frames : List Frame) (p : Progress) (awaited : Awaited) → EndsWell code phase p → is_value awaited ≡ true
      → GivesOnto code p after → FramesAreValid code p awaited frames → FramesStand code (settled code phase after frames)
  settled_stands phase (Gives v q) frames p awaited ends is gives valid =
      delivered_stands phase v frames p q awaited ends gives.0 is gives.1 (frames_last known code p q gives.0 awaited frames valid)
  settled_stands phase (Halts ending q) frames p awaited ends is gives valid = tt

  -- ---- a superclass part ends

  pub part_over : (frames : List Frame) (p : Progress) → FramesAreValid code p PartEnd frames → (has_frame frames ≡ true) × FramesAreValid code p Nothing frames
  part_over [] p valid = absurd valid
  part_over (Running leaving a ls rest stack ∷ frames) p valid =
      let frame : Frame = Running leaving a ls rest stack in
      let own = first_valid code p PartEnd frame frames valid in
      let next : RunningIsValid code p Nothing leaving a ls rest stack = record {
        fits = own.fits;
        object = own.object;
        kind = own.kind;
        leaves = own.leaves;
        inside = own.inside;
        stands = λ b e.
            let same : length stack + 0 ≡ length stack = omega arith in
            subst (λ n. StandsBefore b (next_number code a.body rest) n) same
            (part_ends known.sound code a.body b sound e (next_number code a.body rest) (length stack) (own.stands b e));
        environment = own.environment;
        beside = own.beside;
        live_locals = own.live_locals;
        live_stack = own.live_stack;
        home = own.home;
        named = own.named;
      } in
      (refl, both_valid code p Nothing frame frames next (others_valid code p PartEnd frame frames valid))
  part_over (Looping named state site ∷ frames) p valid = let own = (first_valid code p PartEnd (Looping named state site) frames valid).waits in absurd (cc)

  -- ---- returns

  pub exit_fits : (heap : Heap) (exit : Exit) (a : Activation) → FitsLeaving heap code (Loud exit) a → FitsExit heap code exit
  exit_fits heap FromMethod a fits = tt
  exit_fits heap FromBody a fits = tt
  exit_fits heap (FromClause object holder class) a fits = fits.0

  pub returned_stands : (phase : Phase) (leaving : Leaving) (a : Activation) (ls : List Value) (rest : List PlacedInstr) (stack : List Value) (v : Value) (frames : List Frame)
      (p : Progress) → LawfulRun code p → EndsWell code phase p → FitsLeaving p.world.cells code leaving a → IsLiveValue p.world.cells code v
      → FramesAreValid code p (awaited_below code (Running leaving a ls rest stack)) frames → FramesStand code (returned code phase leaving a v frames p)
  returned_stands phase (Loud exit) a ls rest stack v frames p lawful ends leaves live valid =
      let after : After = body_ended code exit a v p in
      settled_stands phase after frames p (awaited_below code (Running (Loud exit) a ls rest stack)) ends (loud_below code exit a ls rest stack)
      (end_gives code p after lawful (known.actions.ended code exit a v p lawful (exit_fits p.world.cells exit a leaves) live)
      (known.actions.leads code (EndsBody exit a v) p) (known.actions.spends code (EndsBody exit a v) p)) valid
  returned_stands phase Silent a ls rest stack v frames p lawful ends leaves live valid =
      part_over frames (frame_left p) (frames_last known code p (frame_left p) (onto_left p lawful) PartEnd frames valid)

  pub unwound_stands : (phase : Phase) (home : ℕ) (v : Value) (frames : List Frame) (old p : Progress) (awaited : Awaited) → EndsWell code phase old → Onto code old p
      → has_home home frames ≡ true → IsLiveValue p.world.cells code v → FramesAreValid code p awaited frames → FramesStand code (unwound code phase home v frames p)
  unwound_stands phase home v [] old p awaited ends onto has live valid = absurd (cc)
  unwound_stands phase home v (Running (Loud exit) a ls rest stack ∷ frames) old p awaited ends onto has live valid =
      let frame : Frame = Running (Loud exit) a ls rest stack in
      let down = onto_left p onto.run.after in
      let live' = value_lasts known code p (frame_left p) down v live in
      let on = onto_on old p (frame_left p) onto down in
      let below = frames_last known code p (frame_left p) down (awaited_below code frame) frames (others_valid code p awaited frame frames valid) in
      tested (ends_at (Loud exit) a.home home) has
      (delivered_stands phase v frames old (frame_left p) (awaited_below code frame) ends on (loud_below code exit a ls rest stack) live' below)
      (λ has'. unwound_stands phase home v frames old (frame_left p) (awaited_below code frame) ends on has' live' below)
    where
      tested : (b : Bool) → cond b true (has_home home frames) ≡ true → FramesStand code (delivered code phase v frames (frame_left p))
          → (has_home home frames ≡ true → FramesStand code (unwound code phase home v frames (frame_left p)))
          → FramesStand code (cond b (delivered code phase v frames (frame_left p)) (unwound code phase home v frames (frame_left p)))
      tested true has here further = here
      tested false has here further = further has
  unwound_stands phase home v (Running Silent a ls rest stack ∷ frames) old p awaited ends onto has live valid =
      let frame : Frame = Running Silent a ls rest stack in
      let down = onto_left p onto.run.after in
      unwound_stands phase home v frames old (frame_left p) PartEnd ends (onto_on old p (frame_left p) onto down) has
      (value_lasts known code p (frame_left p) down v live)
      (frames_last known code p (frame_left p) down PartEnd frames (others_valid code p awaited frame frames valid))
  unwound_stands phase home v (Looping named state site ∷ frames) old p awaited ends onto has live valid =
      let frame : Frame = Looping named state site in
      let down = onto_left p onto.run.after in
      unwound_stands phase home v frames old (frame_left p) SendValue ends (onto_on old p (frame_left p) onto down) has
      (value_lasts known code p (frame_left p) down v live)
      (frames_last known code p (frame_left p) down SendValue frames (others_valid code p awaited frame frames valid))

  pub home_stands : (phase : Phase) (a : Activation) (v : Value) (frames : List Frame) (p : Progress) (awaited : Awaited) → LawfulRun code p → EndsWell code phase p
      → IsLiveValue p.world.cells code v → FramesAreValid code p awaited frames → FramesStand code (returned_home code phase a v frames p)
  home_stands phase a v frames p awaited lawful ends live valid = tested (has_home a.home frames) refl
    where
      tested : (b : Bool) → has_home a.home frames ≡ b
          → FramesStand code (cond b (unwound code phase a.home v frames p) (Ended (error DeadReturn a.site) phase p))
      tested true has = unwound_stands phase a.home v frames p p awaited ends (onto_same p lawful) has live valid
      tested false has = tt
