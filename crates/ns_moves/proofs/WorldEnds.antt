-- What is delivered, and what ends a run, fits.
use Rattle.std.proofs.Common.{◌≡◌, ℕ, ◌+◌, List, [], ◌∷◌, length, refl, arith, Bool, true, false, cond}
use Rattle.ns_code.specs.declared.program.CodeProgram.{CodeProgram}
use Rattle.ns_world.specs.declared.value.Value.{Value}
use Rattle.ns_world.specs.declared.ending.Ending.{Ending}
use Rattle.ns_world.specs.declared.ending.Ending.TheVariants.{Done, Error, Limit}
use Rattle.ns_world.specs.declared.ending.Kind.TheVariants.{DeadReturn}
use Rattle.ns_world.specs.declared.ending.LimitKind.TheVariants.{Steps, Cells, Depth, Out}
use Rattle.ns_world.specs.Lawful.{IsLiveValue}
use Rattle.ns_facets.specs.declared.row.Grants.{Grants}
use Rattle.ns_world.specs.declared.kernel_parts.KMethod.{KMethod}
use Rattle.ns_moves.specs.declared.site.Site.{Site}
use Rattle.ns_moves.specs.Site.{error}
use Rattle.ns_moves.specs.Control.{Progress, Activation, After, Gives, Halts, Control, Now, Enter, Evaluate, Begin, Perform, frame_left}
use Rattle.ns_moves.specs.Control.{PartControl, Skip, Stop, EnterPart, Waiting, Waits, Finishes}
use Rattle.ns_moves.specs.Lawful.{LawfulAfter, LawfulControl, LawfulWaiting}
use Rattle.ns_moves.specs.Onward.{reached, after_reached, part_reached, waiting_reached}
use Rattle.ns_moves.specs.Spending.{ControlSpends, WaitingSpends, CellSpends, EndSpends}
use Rattle.ns_moves.specs.Actions.{EndsPart}
use Rattle.ns_moves.specs.Ending.{FitsEnding, EndsAfter, EndsControl, PartEnds, EndsWaiting}
use Rattle.ns_moves.specs.Fitting.{FitsSite}
use Rattle.ns_moves.specs.State.{Frame, Running, Looping, Phase, Start, First, Second, Hosted, State, Unbegun, Going, Pends, Ended, Stuck}
use Rattle.ns_moves.specs.Returns.{concluded, delivered, settled, is_home, has_home, unwound, returned_home}
use Rattle.ns_moves.specs.Arrivals.{arrived, part_arrived, acted_on}
use Rattle.ns_moves.specs.Valid.{EndIsValid as EndsValid, Valid}
use Rattle.ns_moves.specs.Counted.{FramesAreCounted}
use Rattle.ns_moves.specs.WorldStays.{WorldFits}
use Rattle.ns_moves.proofs.WorldKeeps.{InWorld, action_in}

-- ---- states, before their frames are counted

module _ (code : CodeProgram) (grants : Grants) where
  -- In the world of a run; what ends it fits.
  abbrev pub InWorldOf : State → Type 0
  InWorldOf (Unbegun arguments p) = Valid code grants (Unbegun arguments p)
  InWorldOf (Going phase frames p) = InWorld code grants phase p
  InWorldOf (Pends phase pending frames p) = InWorld code grants phase p
  InWorldOf (Ended ending phase p) = EndsValid code grants ending phase p
  InWorldOf (Stuck p) = Unit {0}

  pub counted_fits : (s : State) → FramesAreCounted s → InWorldOf s → WorldFits code grants s
  counted_fits (Unbegun arguments p) c w = w
  counted_fits (Going phase frames p) c w = record { world = w.world; some = w.some; arguments = w.arguments; depth = c.depth; homes = c.homes }
  counted_fits (Pends phase pending frames p) c w = record { world = w.world; some = w.some; arguments = w.arguments; depth = c.depth; homes = c.homes }
  counted_fits (Ended ending phase p) c w = w
  counted_fits (Stuck p) c w = tt

  -- an end that is no value
  pub ended_in : (ending : Ending) (phase : Phase) (p : Progress) → InWorld code grants phase p → FitsEnding code ending → EndsValid code grants ending phase p
  ended_in ending Start p w f = let e = w.some in absurd (cc)
  ended_in (Done v) phase p w f = absurd f
  ended_in (Error e) (First arguments) p w f = (w.world, f)
  ended_in (Error e) Second p w f = (w.world, f)
  ended_in (Error e) Hosted p w f = (w.world, f)
  ended_in (Limit Steps) (First arguments) p w f = (w.world, tt)
  ended_in (Limit Steps) Second p w f = (w.world, tt)
  ended_in (Limit Steps) Hosted p w f = (w.world, tt)
  ended_in (Limit Cells) (First arguments) p w f = (w.world, tt)
  ended_in (Limit Cells) Second p w f = (w.world, tt)
  ended_in (Limit Cells) Hosted p w f = (w.world, tt)
  ended_in (Limit Depth) (First arguments) p w f = (w.world, tt)
  ended_in (Limit Depth) Second p w f = (w.world, tt)
  ended_in (Limit Depth) Hosted p w f = (w.world, tt)
  ended_in (Limit Out) (First arguments) p w f = (w.world, tt)
  ended_in (Limit Out) Second p w f = (w.world, tt)
  ended_in (Limit Out) Hosted p w f = (w.world, tt)

  -- ---- a value comes to where it goes

  -- behind the last frame the first opening send goes on with the second, and any other ends with a live value
  concluded_in : (phase : Phase) (v : Value) (p : Progress) → InWorld code grants phase p → IsLiveValue p.world.cells code v → p.world.depth ≡ 0
      → InWorldOf (concluded code phase v p)
  concluded_in Start v p w live d = let e = w.some in absurd (cc)
  concluded_in (First arguments) v p w live d = record { world = w.world; some = refl; arguments = tt }
  concluded_in Second v p w live d = (w.world, (live, d))
  concluded_in Hosted v p w live d = (w.world, (live, d))

  pub delivered_in : (phase : Phase) (v : Value) (frames : List Frame) (p : Progress) → InWorld code grants phase p → IsLiveValue p.world.cells code v
      → p.world.depth ≡ length frames → InWorldOf (delivered code phase v frames p)
  delivered_in phase v [] p w live d = concluded_in phase v p w live d
  delivered_in phase v (Running leaving a ls rest stack ∷ frames) p w live d = w
  delivered_in phase v (Looping method state site ∷ frames) p w live d = w

  -- what is given is live, and there is as much depth as frames; what halts fits
  abbrev pub Settles : After → List Frame → Type 0
  Settles (Gives v q) frames = IsLiveValue q.world.cells code v × (q.world.depth ≡ length frames)
  Settles (Halts ending q) frames = FitsEnding code ending

  pub settled_in : (phase : Phase) (after : After) (frames : List Frame) → InWorld code grants phase (after_reached after) → Settles after frames
      → InWorldOf (settled code phase after frames)
  settled_in phase (Gives v q) frames w s = delivered_in phase v frames q w s.0 s.1
  settled_in phase (Halts ending q) frames w f = ended_in ending phase q w f

  pub cell_settles : (p : Progress) (after : After) (frames : List Frame) → p.world.depth ≡ length frames → LawfulAfter code after → EndsAfter code after
      → CellSpends p after → Settles after frames
  cell_settles p (Gives v q) frames d l e s = (l.1, omega (arith, d, s.depth))
  cell_settles p (Halts ending q) frames d l e s = e

  pub end_settles : (p : Progress) (after : After) (frame : Frame) (frames : List Frame) → p.world.depth ≡ length (frame ∷ frames) → LawfulAfter code after
      → EndsAfter code after → EndSpends p after → Settles after frames
  end_settles p (Gives v q) frame frames d l e s =
      let one : length (frame ∷ frames) ≡ length frames + 1 = omega arith in (l.1, omega (arith, d, s.depth, one))
  end_settles p (Halts ending q) frame frames d l e s = e

  -- ---- where control goes

  pub arrived_in : (phase : Phase) (c : Control) (frames : List Frame) (p : Progress) → InWorld code grants phase (reached c) → p.world.depth ≡ length frames
      → LawfulControl code c → EndsControl code c → ControlSpends 1 p c → InWorldOf (arrived code phase c frames)
  arrived_in phase (Now (Gives v q)) frames p w d l e s = delivered_in phase v frames q w l.1 (omega (arith, d, s.depth))
  arrived_in phase (Now (Halts ending q)) frames p w d l e s = ended_in ending phase q w e
  arrived_in phase (Enter exit a ls q) frames p w d l e s = w
  arrived_in phase (Evaluate block arguments site q) frames p w d l e s = w
  arrived_in phase (Begin method state site q) frames p w d l e s = w
  arrived_in phase (Perform receiver sel array site q) frames p w d l e s = w

  pub part_in : (phase : Phase) (part : PartControl) (frames : List Frame) → InWorld code grants phase (part_reached part) → PartEnds code part
      → InWorldOf (part_arrived code phase part frames)
  part_in phase (Skip q) frames w e = w
  part_in phase (Stop ending q) frames w e = ended_in ending phase q w e
  part_in phase (EnterPart a ls q) frames w e = w

  pub acted_in : (phase : Phase) (method : KMethod) (site : Site) (steps : ℕ) (w : Waiting) (frame : Frame) (frames : List Frame) (p : Progress)
      → InWorld code grants phase (waiting_reached w) → p.world.depth ≡ length (frame ∷ frames) → LawfulWaiting code w → EndsWaiting code w
      → WaitingSpends steps p w
      → InWorldOf (acted_on code phase method site w frames)
  acted_in phase method site steps (Waits block arguments state q) frame frames p w d l e s = w
  acted_in phase method site steps (Finishes (Gives v q)) frame frames p w d l e s =
      let one : length (frame ∷ frames) ≡ length frames + 1 = omega arith in
      delivered_in phase v frames q w l.1 (omega (arith, d, s.depth, one))
  acted_in phase method site steps (Finishes (Halts ending q)) frame frames p w d l e s = ended_in ending phase q w e

  -- ---- returns from a home

  unwound_in : (phase : Phase) (home : ℕ) (v : Value) (frames : List Frame) (p : Progress) → InWorld code grants phase p → IsLiveValue p.world.cells code v
      → p.world.depth ≡ length frames → InWorldOf (unwound code phase home v frames p)
  unwound_in phase home v [] p w live d = tt
  unwound_in phase home v (frame ∷ frames) p w live d =
      let one : length (frame ∷ frames) ≡ length frames + 1 = omega arith in
      let q : Progress = frame_left p in
      let less : q.world.depth ≡ length frames = omega (arith, d, one) in
      let down : InWorld code grants phase q = action_in code grants phase EndsPart p w tt in
      tested (is_home home frame) (delivered_in phase v frames q down live less) (unwound_in phase home v frames q down live less)
    where
      tested : (b : Bool) → InWorldOf (delivered code phase v frames (frame_left p)) → InWorldOf (unwound code phase home v frames (frame_left p))
          → InWorldOf (cond b (delivered code phase v frames (frame_left p)) (unwound code phase home v frames (frame_left p)))
      tested true here below = here
      tested false here below = below

  pub returned_home_in : (phase : Phase) (a : Activation) (v : Value) (frames : List Frame) (p : Progress) → InWorld code grants phase p
      → IsLiveValue p.world.cells code v → FitsSite code a.site → p.world.depth ≡ length frames → InWorldOf (returned_home code phase a v frames p)
  returned_home_in phase a v frames p w live site d = tested (has_home a.home frames)
    where
      tested : (b : Bool) → InWorldOf (cond b (unwound code phase a.home v frames p) (Ended (error DeadReturn a.site) phase p))
      tested true = unwound_in phase a.home v frames p w live d
      tested false = ended_in (error DeadReturn a.site) phase p w site
