-- A move of a valid state leaves a world of a run, and ends it fitly.
use Rattle.std.proofs.Common.{List, [], ◌∷◌}
use Rattle.ns_base.specs.declared.selector.Sel.{Sel}
use Rattle.ns_code.specs.declared.program.CodeProgram.{CodeProgram}
use Rattle.ns_world.specs.declared.value.Value.{Value}
use Rattle.ns_world.specs.declared.value.Value.TheVariants.{Ref}
use Rattle.ns_world.specs.Lawful.{IsLiveValue}
use Rattle.ns_facets.specs.declared.row.Grants.{Grants}
use Rattle.ns_kdata.specs.Arguments.{items_of}
use Rattle.ns_kcode.specs.Next.{next}
use Rattle.ns_moves.specs.declared.site.Site.{Site}
use Rattle.ns_moves.specs.Control.{Progress}
use Rattle.ns_moves.specs.Blocks.{evaluated, method_next}
use Rattle.ns_moves.specs.Lawful.{FitsSelector}
use Rattle.ns_moves.specs.Actions.{Evaluates, Continues}
use Rattle.ns_moves.specs.Spending.{action_steps}
use Rattle.ns_moves.specs.laws.Spending.{action_spends}
use Rattle.ns_moves.specs.laws.Ending.{action_ends, waited_ends}
use Rattle.ns_moves.specs.laws.LawfulBlocks.{evaluated_lawful}
use Rattle.ns_moves.specs.laws.SentFrom.{from_lawful, from_spends}
use Rattle.ns_moves.specs.laws.LawfulParts.{next_lawful}
use Rattle.ns_moves.specs.State.{Frame, Running, Looping, Sending, Performing, Evaluating, Phase, State, Unbegun, Going, Pends, Ended, Stuck}
use Rattle.ns_moves.specs.Arrivals.{arrived}
use Rattle.ns_moves.specs.Move.{sent_on, move}
use Rattle.ns_moves.specs.Fitting.{FitsSite}
use Rattle.ns_moves.specs.Valid.{GoesOn, Valid}
use Rattle.ns_moves.specs.Counted.{FramesAreCounted}
use Rattle.ns_moves.specs.WorldStays.{WorldFits}
use Rattle.ns_moves.specs.WorldAsks.{FindsAsked}
use Rattle.ns_moves.proofs.Counting.{moves_counted}
use Rattle.ns_moves.proofs.WorldKeeps.{InWorld, action_in, waited_in}
use Rattle.ns_moves.proofs.WorldEnds.{InWorldOf, counted_fits, arrived_in, acted_in}
use Rattle.ns_moves.proofs.WorldInstr.{executed_in}

module _ (code : CodeProgram) (grants : Grants) where
  in_world_of : (phase : Phase) (frames : List Frame) (p : Progress) → GoesOn code grants phase frames p → InWorld code grants phase p
  in_world_of phase frames p g = record { world = g.world; some = g.some; arguments = g.arguments }

  waited : (phase : Phase) (receiver : Value) (sel : Sel) (vs : List Value) (site : Site) (frames : List Frame) (p : Progress)
      → GoesOn code grants phase frames p → IsLiveValue p.world.cells code receiver → FitsSelector p.world.cells code sel vs → FitsSite code site
      → InWorldOf code grants (arrived code phase (sent_on code receiver sel vs site p) frames)
  waited phase receiver sel vs site frames p g live fits named =
      arrived_in code grants phase (sent_on code receiver sel vs site p) frames p
      (waited_in code grants phase receiver sel vs site p (in_world_of phase frames p g) live fits) g.depth
      (from_lawful code receiver sel vs site p g.world.lawful live fits) (waited_ends code receiver sel vs site p g.world.lawful named)
      (from_spends code receiver sel vs site p)

  move_in : (s : State) → Valid code grants s → FindsAsked code s → InWorldOf code grants (move code s)
  move_in (Unbegun arguments p) v asks = v
  move_in (Ended ending phase p) v asks = v
  move_in (Stuck p) v asks = tt
  move_in (Going phase [] p) v asks = tt
  move_in (Going phase (Running leaving a ls [] stack ∷ frames) p) v asks = tt
  move_in (Going phase (Running leaving a ls (step ∷ rest) stack ∷ frames) p) (g, some, (running, below)) asks =
      executed_in code grants phase leaving a ls rest frames p (in_world_of phase (Running leaving a ls (step ∷ rest) stack ∷ frames) p g) running.named g.depth
      step.0 step.1 stack asks.asks running.live_stack asks.file
  move_in (Going phase (Looping method state site ∷ frames) p) (g, some, (looping, below)) asks =
      let w : InWorld code grants phase p = in_world_of phase (Looping method state site ∷ frames) p g in
      acted_in code grants phase method site (action_steps (next method state)) (method_next method state site p) (Looping method state site) frames p
      (action_in code grants phase (Continues method state site) p w looping.live) g.depth
      (next_lawful code method state site p g.world.lawful looping.live)
      (action_ends code (Continues method state site) p g.world.lawful looping.named)
      (action_spends code (Continues method state site) p)
  move_in (Pends phase (Sending receiver sel arguments site) frames p) (g, (none, send, fits, named), below) asks =
      waited phase receiver sel arguments site frames p g send.live fits named
  move_in (Pends phase (Performing receiver sel array site) frames p) (g, (live, is, fits, named), below) asks =
      waited phase receiver sel (items_of p.world.cells (Ref array)) site frames p g live fits named
  move_in (Pends phase (Evaluating block arguments site) frames p) (g, (is, few, live, named), below) asks =
      let w : InWorld code grants phase p = in_world_of phase frames p g in
      arrived_in code grants phase (evaluated code block arguments site p) frames p (action_in code grants phase (Evaluates block arguments site) p w live)
      g.depth (evaluated_lawful code block arguments site p g.world.lawful live)
      (action_ends code (Evaluates block arguments site) p g.world.lawful named)
      (action_spends code (Evaluates block arguments site) p)

  -- a valid state has its frames counted
  valid_counted : (s : State) → Valid code grants s → FramesAreCounted s
  valid_counted (Unbegun arguments p) v = v.2
  valid_counted (Going phase frames p) v = record { depth = v.0.depth; homes = v.0.homes }
  valid_counted (Pends phase pending frames p) v = record { depth = v.0.depth; homes = v.0.homes }
  valid_counted (Ended ending phase p) v = tt
  valid_counted (Stuck p) v = absurd v

  pub move_fits : (s : State) → Valid code grants s → FindsAsked code s → WorldFits code grants (move code s)
  move_fits s v asks = counted_fits code grants (move code s) (moves_counted code 1 s (valid_counted s v)) (move_in s v asks)
