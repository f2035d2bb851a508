-- How the counters go from one world to the next.
use Rattle.std.proofs.Common.{◌≡◌, inl, inr, ℕ, ◌+◌, List, [], ◌∷◌, ◌++◌, length, refl, ◌∙◌, subst, arith, Some, None, Bool, true, false, cond}
use Rattle.std.specs.Prelude.{nat_le, nat_lt}
use Rattle.ns_code.specs.declared.program.CodeProgram.{CodeProgram}
use Rattle.ns_world.specs.declared.value.Value.{Value}
use Rattle.ns_world.specs.declared.value.Value.TheVariants.{Nil, True, False, Int, Sym, Kernel, Ref}
use Rattle.ns_world.specs.declared.ending.Ending.{Ending}
use Rattle.ns_world.specs.declared.ending.Ending.TheVariants.{Limit}
use Rattle.ns_world.specs.declared.ending.LimitKind.TheVariants.{Cells}
use Rattle.ns_world.specs.Cell.{Cell, EnvironmentCell, cell_size}
use Rattle.ns_world.specs.Heap.{heap_size}
use Rattle.ns_world.specs.World.{World, made, stepped, entered, left, printed, stored}
use Rattle.ns_kdata.specs.laws.Leading.{Allows, Writes}
use Rattle.ns_moves.specs.Control.{Progress, in_world, Activation, charged}
use Rattle.ns_moves.specs.Bodies.{has_environment, first_locals, opened}
use Rattle.ns_moves.specs.Spending.{Charged, GivenBack, Stopped}
use Rattle.ns_moves.specs.laws.Onward.{charged_all}

-- Steps and frames are as they were.
pub record SameCounts (old new : World) : Type 0 where
  pub steps : new.steps ≡ old.steps
  pub depth : new.depth ≡ old.depth

pub counts_not : (world : World) → SameCounts world world
counts_not world = record { steps = refl; depth = refl }

pub counts_on : (first second third : World) → SameCounts first second → SameCounts second third → SameCounts first third
counts_on first second third one two = record { steps = two.steps ∙ one.steps; depth = two.depth ∙ one.depth }

-- what a test gives is what it tests
given_by : (holds : World → Type 0) (more after : World) (b : Bool) → cond b (Some more) None ≡ Some after → holds more → holds after
given_by holds more after true e h = let is : more ≡ after = cc in subst holds is h
given_by holds more after false e h = absurd (cc)

-- A cell that is made charges neither a step nor depth.
pub made_counts : (world after : World) (cell : Cell) → made world cell ≡ Some after → SameCounts world after
made_counts world after cell e =
    given_by (SameCounts world) (record world { cells = cell ∷ world.cells }) after (nat_le (heap_size world.cells + cell_size cell) world.limits.cells) e (record { steps = refl; depth = refl })

printed_counts : (world after : World) (bytes : List ℕ) → printed world bytes ≡ Some after → SameCounts world after
printed_counts world after bytes e =
    given_by (SameCounts world) (record world { output = world.output ++ bytes }) after (nat_le (length world.output + length bytes) world.limits.out) e (record { steps = refl; depth = refl })

pub stored_counts : (world : World) (object : Value) (word : ℕ) (value : Value) → SameCounts world (stored world object word value)
stored_counts world (Ref at) word value = record { steps = refl; depth = refl }
stored_counts world Nil word value = counts_not world
stored_counts world True word value = counts_not world
stored_counts world False word value = counts_not world
stored_counts world (Int number) word value = counts_not world
stored_counts world (Sym sel) word value = counts_not world
stored_counts world (Kernel class) word value = counts_not world

-- so rows of the kernel keep them
pub counts_allow : (world : World) → Allows (SameCounts world) world
counts_allow world =
    record { same = counts_not world; cell = λ after cell may common e. made_counts world after cell e; output = λ after bytes e. printed_counts world after bytes e }

pub counts_write : (world : World) (object : Value) → Writes (SameCounts world) world object
counts_write world object word item = stored_counts world object word item

-- ---- what was charged

-- A progress that stays the same charges nothing.
pub nothing_charged : (progress : Progress) → Charged 0 0 0 progress progress
nothing_charged progress = record { steps = omega arith; depth = omega arith; begun = omega arith }

pub still_charged : (steps frames begun : ℕ) (old progress : Progress) (world : World) → Charged steps frames begun old progress →
    SameCounts progress.world world → Charged steps frames begun old (in_world progress world)
still_charged steps frames begun old progress world was same =
    record { steps = same.steps ∙ was.steps; depth = same.depth ∙ was.depth; begun = was.begun }

-- A step charges one step.
pub step_charged : (progress : Progress) (world : World) → stepped progress.world ≡ Some world →
    Charged 1 0 0 progress (in_world progress world)
step_charged progress world e =
    let more : World = record progress.world { steps = progress.world.steps + 1 } in
    given_by (λ (w : World). Charged 1 0 0 progress (in_world progress w)) more world (nat_lt progress.world.steps progress.world.limits.steps) e
    (record { steps = refl; depth = omega arith; begun = omega arith })

-- A frame that is entered charges one of depth more.
pub frame_charged : (steps : ℕ) (old progress : Progress) (world : World) → Charged steps 0 0 old progress →
    entered progress.world ≡ Some world → Charged steps 1 0 old (in_world progress world)
frame_charged steps old progress world was e =
    let more : World = record progress.world { depth = progress.world.depth + 1 } in
    given_by (λ (w : World). Charged steps 1 0 old (in_world progress w)) more world (nat_lt progress.world.depth progress.world.limits.depth) e
    (record { steps = was.steps; depth = omega (arith, was.depth); begun = was.begun })

pub back_given : (progress : Progress) → GivenBack progress (in_world progress (left progress.world))
back_given progress = record { steps = refl; depth = refl; begun = refl }

pub still_given : (old progress : Progress) (world : World) → GivenBack old progress → SameCounts progress.world world →
    GivenBack old (in_world progress world)
still_given old progress world was same = record { steps = same.steps ∙ was.steps; depth = same.depth ∙ was.depth; begun = was.begun }

pub stopped_here : (steps : ℕ) (old progress : Progress) → Charged steps 0 0 old progress → Stopped steps old progress
stopped_here steps old progress was = inr (inl was)

pub stopped_framed : (steps : ℕ) (old progress : Progress) → Charged steps 1 0 old progress → Stopped steps old progress
stopped_framed steps old progress was = inr (inr was)

-- a body that begins charges neither, and keeps its home
pub opened_counts : {A : Type 0} (P : A → Type 0) (code : CodeProgram) (stop : Ending → Progress → A) (go : Activation → List Value → Progress → A) (activation : Activation) (arguments : List Value) (progress : Progress)
    → P (stop (Limit Cells) progress) → ((running : Activation) (locals : List Value) (world : World) → SameCounts progress.world world → running.home ≡ activation.home → P (go running locals (in_world progress world)))
    → P (opened code stop go activation arguments progress)
opened_counts P code stop go activation arguments progress stops goes = tested (has_environment code activation.body)
  where
    locals : List Value
    locals = first_locals code activation.body arguments

    inner : Activation
    inner = record activation { env = Ref (heap_size progress.world.cells) }

    tested : (b : Bool) → P (cond b (charged stop Cells (made progress.world (EnvironmentCell activation.env locals)) progress (go inner [])) (go activation locals progress))
    tested true = charged_all P stop Cells (made progress.world (EnvironmentCell activation.env locals)) progress (go inner []) stops
        (λ world e. goes inner [] world (made_counts progress.world world (EnvironmentCell activation.env locals) e) refl)
    tested false = goes activation locals progress.world (counts_not progress.world) refl
