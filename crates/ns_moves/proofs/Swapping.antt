-- Another board keeps a state valid.
use Rattle.std.proofs.Common.{List, [], ◌∷◌}
use Rattle.ns_code.specs.declared.program.CodeProgram.{CodeProgram}
use Rattle.ns_world.specs.Cell.{Cell}
use Rattle.ns_world.specs.declared.ending.Ending.{Ending}
use Rattle.ns_world.specs.declared.ending.Ending.TheVariants.{Done, Error, Limit}
use Rattle.ns_world.specs.declared.ending.LimitKind.TheVariants.{Steps, Cells, Depth, Out}
use Rattle.ns_facets.specs.declared.row.Grants.{Grants}
use Rattle.ns_facets.specs.declared.board.Board.{Board}
use Rattle.ns_moves.specs.Control.{Progress}
use Rattle.ns_moves.specs.Start.{standing_cells}
use Rattle.ns_moves.specs.State.{Frame, Running, Looping, Phase, Start, First, Second, Hosted, Unbegun, Going}
use Rattle.ns_moves.specs.State.{Pends, Ended, Stuck, with_board}
use Rattle.ns_moves.specs.ValidFrames.{Awaited, Nothing, SendValue, BlockValue, PartEnd, awaited_below, awaited_for, FrameIsValid, FramesAreValid}
use Rattle.ns_moves.specs.Valid.{WorldIsValid, GoesOn, EndIsValid}
use Rattle.ns_moves.specs.WorldStays.{SwapsKeepValid}

module _ (board : Board) where
  world_swapped : (code : CodeProgram) (first : List Cell) (p : Progress) → WorldIsValid code first p → WorldIsValid code first (with_board board p)
  world_swapped code first p w = record { sound = w.sound; lawful = w.lawful; begins = w.begins; homes = w.homes; begun = w.begun }

  on_swapped : (code : CodeProgram) (grants : Grants) (phase : Phase) (frames : List Frame) (p : Progress) → GoesOn code grants phase frames p
      → GoesOn code grants phase frames (with_board board p)
  on_swapped code grants phase frames p g = record {
    world = world_swapped code (standing_cells code grants) p g.world;
    some = g.some;
    arguments = g.arguments;
    depth = g.depth;
    homes = g.homes;
  }

  frame_swapped : (code : CodeProgram) (w : Awaited) (frame : Frame) (p : Progress) → FrameIsValid code p w frame → FrameIsValid code (with_board board p) w frame
  frame_swapped code w (Running leaving a ls rest stack) p r = record {
    fits = r.fits;
    object = r.object;
    kind = r.kind;
    leaves = r.leaves;
    inside = r.inside;
    stands = r.stands;
    environment = r.environment;
    beside = r.beside;
    live_locals = r.live_locals;
    live_stack = r.live_stack;
    home = r.home;
    named = r.named;
  }
  frame_swapped code w (Looping method state site) p l = l

  frames_swapped : (code : CodeProgram) (w : Awaited) (frames : List Frame) (p : Progress) → FramesAreValid code p w frames
      → FramesAreValid code (with_board board p) w frames
  frames_swapped code Nothing [] p v = tt
  frames_swapped code SendValue [] p v = tt
  frames_swapped code BlockValue [] p v = tt
  frames_swapped code PartEnd [] p v = absurd v
  frames_swapped code Nothing (frame ∷ frames) p v = (frame_swapped code Nothing frame p v.0, frames_swapped code (awaited_below code frame) frames p v.1)
  frames_swapped code SendValue (frame ∷ frames) p v = (frame_swapped code SendValue frame p v.0, frames_swapped code (awaited_below code frame) frames p v.1)
  frames_swapped code BlockValue (frame ∷ frames) p v = (frame_swapped code BlockValue frame p v.0, frames_swapped code (awaited_below code frame) frames p v.1)
  frames_swapped code PartEnd (frame ∷ frames) p v = (frame_swapped code PartEnd frame p v.0, frames_swapped code (awaited_below code frame) frames p v.1)

  ended_swapped : (code : CodeProgram) (grants : Grants) (ending : Ending) (phase : Phase) (p : Progress) → EndIsValid code grants ending phase p
      → EndIsValid code grants ending phase (with_board board p)
  ended_swapped code grants (Limit Cells) Start p v = world_swapped code _ p v
  ended_swapped code grants (Limit Steps) Start p v = absurd v
  ended_swapped code grants (Limit Depth) Start p v = absurd v
  ended_swapped code grants (Limit Out) Start p v = absurd v
  ended_swapped code grants (Done value) Start p v = absurd v
  ended_swapped code grants (Error error) Start p v = absurd v
  ended_swapped code grants (Done value) (First arguments) p v = absurd v
  ended_swapped code grants (Done value) Second p v = (world_swapped code _ p v.0, v.1)
  ended_swapped code grants (Done value) Hosted p v = (world_swapped code _ p v.0, v.1)
  ended_swapped code grants (Error error) (First arguments) p v = (world_swapped code _ p v.0, v.1)
  ended_swapped code grants (Error error) Second p v = (world_swapped code _ p v.0, v.1)
  ended_swapped code grants (Error error) Hosted p v = (world_swapped code _ p v.0, v.1)
  ended_swapped code grants (Limit Steps) (First arguments) p v = (world_swapped code _ p v.0, v.1)
  ended_swapped code grants (Limit Steps) Second p v = (world_swapped code _ p v.0, v.1)
  ended_swapped code grants (Limit Steps) Hosted p v = (world_swapped code _ p v.0, v.1)
  ended_swapped code grants (Limit Cells) (First arguments) p v = (world_swapped code _ p v.0, v.1)
  ended_swapped code grants (Limit Cells) Second p v = (world_swapped code _ p v.0, v.1)
  ended_swapped code grants (Limit Cells) Hosted p v = (world_swapped code _ p v.0, v.1)
  ended_swapped code grants (Limit Depth) (First arguments) p v = (world_swapped code _ p v.0, v.1)
  ended_swapped code grants (Limit Depth) Second p v = (world_swapped code _ p v.0, v.1)
  ended_swapped code grants (Limit Depth) Hosted p v = (world_swapped code _ p v.0, v.1)
  ended_swapped code grants (Limit Out) (First arguments) p v = (world_swapped code _ p v.0, v.1)
  ended_swapped code grants (Limit Out) Second p v = (world_swapped code _ p v.0, v.1)
  ended_swapped code grants (Limit Out) Hosted p v = (world_swapped code _ p v.0, v.1)

pub swaps_valid : (code : CodeProgram) (grants : Grants) → SwapsKeepValid code grants
swaps_valid code grants board (Unbegun arguments p) v = (world_swapped board code (standing_cells code grants) p v.0, v.1, v.2)
swaps_valid code grants board (Going phase frames p) v =
    (on_swapped board code grants phase frames p v.0, v.1, frames_swapped board code Nothing frames p v.2)
swaps_valid code grants board (Pends phase pending frames p) v =
    (on_swapped board code grants phase frames p v.0, v.1, frames_swapped board code (awaited_for pending) frames p v.2)
swaps_valid code grants board (Ended ending phase p) v = ended_swapped board code grants ending phase p v
swaps_valid code grants board (Stuck p) v = v
