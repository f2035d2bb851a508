-- What the next instruction of a valid frame asks of the world is there.
use Rattle.std.proofs.Common.{◌≡◌, ℕ, List, ◌∷◌, Some, slice_get}
use Rattle.ns_code.specs.declared.instruction.Instr.TheVariants as i
use Rattle.ns_verify.specs.Uses.{IsUsable, IsSendOf}
use Rattle.ns_moves.specs.WorldAsks.{SelectorTakes, CanLeave, InstrAsks, InstructionRunsOn as StepRunsOn}
use Rattle.ns_moves.proofs.InstrHomes.{block_home_there}
use Rattle.ns_moves.specs.laws.Levels.{level_there}
use Rattle.ns_moves.proofs.InstrFacts.{is_selector, block_in}
use Rattle.ns_base.specs.declared.selector.Sel.{Sel}
use Rattle.ns_code.specs.declared.program.CodeProgram.{CodeProgram}
use Rattle.ns_code.specs.declared.body.BodyCode.{BodyCode}
use Rattle.ns_code.specs.declared.instruction.Instr.{Instr}
use Rattle.ns_code.specs.Table.{target}
use Rattle.ns_world.specs.declared.value.Value.{Value}
use Rattle.ns_verify.specs.Verify.{IsSound}
use Rattle.ns_moves.specs.Control.{Progress, Activation}
use Rattle.ns_moves.specs.Lawful.{LawfulRun}
use Rattle.ns_moves.specs.State.{Leaving, Loud, Silent, Frame, Running, Phase}
use Rattle.ns_moves.specs.Steps.{PlacedInstr}
use Rattle.ns_moves.specs.ValidFrames.{Nothing, awaited_below, FitsLeaving, RunningIsValid, FramesAreValid}
use Rattle.ns_moves.proofs.FramesKnown.{Known}
use Rattle.ns_moves.proofs.FramesStanding.{IsNext}
use Rattle.ns_moves.proofs.FramesReturn.{EndsWell, exit_fits}
use Rattle.ns_moves.proofs.InstrFrame.{next, uses, named as frame_named, local_there as frame_local_there, has_slot as frame_has_slot}

module _ (known : Known) (code : CodeProgram) (sound : IsSound code) (phase : Phase) (leaving : Leaving) (a : Activation) (ls : List Value) (step : PlacedInstr)
    (rest : List PlacedInstr) (first : List Value) (frames : List Frame) (p : Progress) (lawful : LawfulRun code p) (ends : EndsWell code phase p) (b : BodyCode)
    (there : slice_get code.bodies a.body ≡ Some b) (valid : RunningIsValid code p Nothing leaving a ls (step ∷ rest) first)
    (below : FramesAreValid code p (awaited_below code (Running leaving a ls (step ∷ rest) first)) frames) where
  abbrev here : IsNext code a.body b step rest
  here = next known code sound phase leaving a ls step rest first frames p lawful ends b there valid below

  relies : (which : Instr) → slice_get b.instrs here.at ≡ Some which → IsUsable code a.body b here.at which
  relies which is = uses known code sound phase leaving a ls step rest first frames p lawful ends b there valid below which is

  takes_arguments : (sel : Sel) (argc : ℕ) → IsSendOf code sel argc → SelectorTakes code sel argc
  takes_arguments sel argc send = record { selector = is_selector code sel.0 send.0; arity = send.1 }

  can_leave : (l : Leaving) → FitsLeaving p.world.cells code l a → CanLeave p.world.cells code l
  can_leave (Loud exit) fits = exit_fits known code sound p.world.cells exit a fits
  can_leave Silent fits = tt

  asked : (which : Instr) → slice_get b.instrs here.at ≡ Some which → InstrAsks code which leaving a p
  asked (i.StoreLocal hops index) is = frame_local_there known code sound phase leaving a ls step rest first frames p lawful ends b there valid below hops index (relies (i.StoreLocal hops index) is)
  asked (i.PushBlock block) is =
      let u = relies (i.PushBlock block) is in (
        known.names.block_lawful code a block p lawful valid.fits valid.environment (block_in known.sound code a.body block b sound there u),
        block_home_there known code sound a.body b there block a.home p.begun u valid.home,
      )
  asked (i.Send sel argc) is = takes_arguments sel argc (relies (i.Send sel argc) is)
  asked (i.SendInner sel argc) is = takes_arguments sel argc (relies (i.SendInner sel argc) is)
  asked (i.SendPrivate level sel argc) is =
      let u = relies (i.SendPrivate level sel argc) is in (takes_arguments sel argc u.0, (valid.fits, level_there code a.body level u.1.0 b there u.1.2))
  asked (i.SendSuper sel argc) is = (takes_arguments sel argc (relies (i.SendSuper sel argc) is), valid.fits)
  asked (i.InitSuper argc) is = valid.fits.live
  asked (i.StoreSlot slot) is = let u = relies (i.StoreSlot slot) is in frame_has_slot known code sound phase leaving a ls step rest first frames p lawful ends b there valid below slot u.0 u.1
  asked i.Return is = can_leave leaving valid.leaves
  asked i.ReturnSelf is = (can_leave leaving valid.leaves, valid.fits.live)
  asked i.PushNil is = tt
  asked i.PushTrue is = tt
  asked i.PushFalse is = tt
  asked (i.PushInt number) is = tt
  asked (i.PushSym sel) is = tt
  asked (i.PushText text) is = tt
  asked i.PushSelf is = tt
  asked (i.PushOuter level) is = tt
  asked (i.PushLocal hops index) is = tt
  asked (i.MakeArray many) is = tt
  asked i.Pop is = tt
  asked (i.Pick number) is = tt
  asked i.ReturnHome is = tt
  asked (i.Jump target) is = tt
  asked (i.JumpFalse target) is = tt
  asked (i.JumpTrue target) is = tt

  pub step_asked : StepRunsOn code step leaving a p
  step_asked = record { asks = asked step.0 here.instr; file = frame_named known code sound phase leaving a ls step rest first frames p lawful ends b there valid below step.1 here.place }
