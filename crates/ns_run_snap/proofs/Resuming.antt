-- A run that is paused goes on from its snapshot to where it comes to rest.
use Rattle.std.proofs.Common.{◌≡◌, ℕ, zero, suc, [], refl, sym, ap, ◌∙◌, true}
use Rattle.ns_moves.specs.Control.{Progress}
use Rattle.ns_code.specs.declared.program.CodeProgram.{CodeProgram}
use Rattle.ns_facets.specs.declared.row.Grants.{Grants}
use Rattle.ns_frozen.specs.Freezing.{frozen_of}
use Rattle.ns_frozen.specs.Laws.{ThawsBack, ValidFreezes}
use Rattle.ns_frozen.specs.Thawing.{arguments_in, heap_thawed, progress_thawed, thawed}
use Rattle.ns_gen_code.specs.Code.{code_of}
use Rattle.ns_moves.specs.Beginning.{NewIsValid, StartKeepsValid}
use Rattle.ns_moves.specs.Doubling.{until}
use Rattle.ns_moves.specs.Falling.{power_left}
use Rattle.ns_moves.specs.Move.{move}
use Rattle.ns_moves.specs.Starts.{started}
use Rattle.ns_moves.specs.State.{Phase, Start, First, Second, Hosted, State, Unbegun, Going, Pends, Ended, Stuck, world_of}
use Rattle.ns_moves.specs.Turn.{is_still}
use Rattle.ns_moves.specs.Valid.{Valid}
use Rattle.ns_resolved.specs.Program.{Meant}
use Rattle.ns_run_code.specs.Laws.{CodeEnds, CodeRunsAsMeant, ComesToItsEnd}
use Rattle.ns_run_code.specs.Machine.{begins_with, rested, told_at}
use Rattle.ns_run_code.specs.Resting.{StillIsRested}
use Rattle.ns_run_code.specs.Run.{granted}
use Rattle.ns_run_code.specs.declared.run.Ran.{Ran}
use Rattle.ns_run_snap.specs.Laws.{GoesOnFrom, ResumesAsMeant, TurnsGoOn}
use Rattle.ns_run_snap.specs.Resumed.{has_run, of_read, run_on}
use Rattle.ns_run_snap.specs.Snapped.{paused}
use Rattle.ns_snapshot.specs.Laws.{WrittenIsRead}
use Rattle.ns_frozen.specs.declared.frozen.Frozen.{Frozen}
use Rattle.ns_world.specs.declared.ending.Ending.{Ending}
use Rattle.ns_world.specs.declared.ending.Ending.TheVariants.{Done, Error, Limit}
use Rattle.ns_world.specs.declared.ending.LimitKind.TheVariants.{Steps, Cells, Depth, Out}

-- A state that moves no more is where it comes to rest, valid or not.
still_until : (code : CodeProgram) (power more : ℕ) (s : State) → is_still s ≡ true → until is_still (move code) power more s ≡ s
still_until code power zero s still = refl
still_until code power (suc more) s still = rw still refl

module _ (code : CodeProgram) (grants : Grants) where
  -- what is told of a run that goes on from plain data of a state
  abbrev told_again : State → Ran
  told_again s = run_on code (thawed code (frozen_of code grants s))

  abbrev GoesOnAgain : State → Type 0
  GoesOnAgain s = told_again s ≡ told_at code (rested code s)

  -- where the state itself is thawed, and was begun
  same_again : (s : State) → started code s ≡ s → thawed code (frozen_of code grants s) ≡ s → GoesOnAgain s
  same_again s begun back = ap (run_on code) back ∙ ap (λ (t : State). told_at code (rested code t)) begun

  -- a state that ended in the first opening send is valid as one that ended in the second
  later_valid : (ending : Ending) (arguments : ℕ) (progress : Progress) → Valid code grants (Ended ending (First arguments) progress)
      → Valid code grants (Ended ending Second progress)
  later_valid (Done value) arguments progress valid = absurd valid
  later_valid (Error error) arguments progress valid = valid
  later_valid (Limit Steps) arguments progress valid = valid
  later_valid (Limit Cells) arguments progress valid = valid
  later_valid (Limit Depth) arguments progress valid = valid
  later_valid (Limit Out) arguments progress valid = valid

  -- What a run has done is told whole, whatever its phase.
  first_back : ThawsBack code → (ending : Ending) (arguments : ℕ) (progress : Progress) → Valid code grants (Ended ending (First arguments) progress)
      → progress_thawed code (frozen_of code grants (Ended ending (First arguments) progress)) ≡ progress
  first_back back ending arguments progress valid =
      let whole = back grants (Ended ending Second progress) (later_valid ending arguments progress valid) tt in cc

  first_again : ThawsBack code → (ending : Ending) (arguments : ℕ) (progress : Progress) → Valid code grants (Ended ending (First arguments) progress)
      → GoesOnAgain (Ended ending (First arguments) progress)
  first_again back ending arguments progress valid =
      let s = Ended ending (First arguments) progress in
      let frozen = frozen_of code grants s in
      let array = arguments_in code grants (heap_thawed code frozen.cells) in
      let t : State = Ended ending (First array) (progress_thawed code frozen) in
      ap (told_at code) (still_until code 0 (power_left code (world_of t).limits) t refl)
      ∙ (ap (λ (p : Progress). told_at code (Ended ending (First array) p)) (first_back back ending arguments progress valid)
      ∙ sym (ap (told_at code) (still_until code 0 (power_left code progress.world.limits) s refl)))

  -- So does the run from each valid state that was begun.
  goes_on_again : ThawsBack code → (s : State) → Valid code grants s → started code s ≡ s → GoesOnAgain s
  goes_on_again back (Unbegun arguments progress) valid begun = absurd (cc (begun))
  goes_on_again back (Going phase frames progress) valid begun = same_again _ begun (back grants _ valid tt)
  goes_on_again back (Pends phase pending frames progress) valid begun = same_again _ begun (back grants _ valid tt)
  goes_on_again back (Ended ending Start progress) valid begun = same_again _ begun (back grants _ valid tt)
  goes_on_again back (Ended ending (First arguments) progress) valid begun = first_again back ending arguments progress valid
  goes_on_again back (Ended ending Second progress) valid begun = same_again _ begun (back grants _ valid tt)
  goes_on_again back (Ended ending Hosted progress) valid begun = same_again _ begun (back grants _ valid tt)
  goes_on_again back (Stuck progress) valid begun = absurd valid

  -- A state from which the run comes to an end was begun.
  was_begun : StillIsRested code grants → (s : State) (ending : Ending) (phase : Phase) (progress : Progress) → Valid code grants s
      → rested code s ≡ Ended ending phase progress → started code s ≡ s
  was_begun still (Unbegun arguments before) ending phase progress valid ends =
      let here = still (Unbegun arguments before) valid refl in absurd (cc (here, ends))
  was_begun still (Going before frames done) ending phase progress valid ends = refl
  was_begun still (Pends before pending frames done) ending phase progress valid ends = refl
  was_begun still (Ended end before done) ending phase progress valid ends = refl
  was_begun still (Stuck done) ending phase progress valid ends = refl

-- ---- the laws that are known of code

pub record Known (code : CodeProgram) : Type 0 where
  pub new : NewIsValid code granted
  pub start : StartKeepsValid code granted
  pub turns : TurnsGoOn code granted
  pub still : StillIsRested code granted
  pub ends : CodeEnds code
  pub back : ThawsBack code
  pub freezes : ValidFreezes code
  pub read : (frozen : Frozen) → WrittenIsRead code frozen

pub resumes_as_meant : (meant : Meant) → Known (code_of meant) → CodeRunsAsMeant meant → ResumesAsMeant meant
resumes_as_meant meant known means limits steps may =
    let code = code_of meant in
    let begins = begins_with code limits [] in
    let valid : Valid code granted begins = known.start _ (known.new limits [] may.run.sound may.run.fits may.run.range) in
    let goes : GoesOnFrom code granted begins (paused code limits steps) = known.turns steps begins valid in
    let end : ComesToItsEnd code begins = known.ends limits [] (record { sound = may.run.sound; fits = may.run.fits; range = may.run.range }) in
    let begun = was_begun code granted known.still (paused code limits steps) end.ending end.phase end.progress goes.valid (goes.rests ∙ end.is) in
    let frozen = frozen_of code granted (paused code limits steps) in
    let read = known.read frozen
    (record { sound = may.run.sound; fits = may.run.fits; short = may.short; valid = known.freezes granted _ goes.valid; fields = may.fields }) in
    ap of_read read
    ∙ ap has_run (goes_on_again code granted known.back (paused code limits steps) goes.valid begun
    ∙ (ap (told_at code) goes.rests ∙ means limits [] may.run))
