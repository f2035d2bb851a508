-- The meaning of calls: the recursion that ties the bodies together.
use Rattle.std.specs.Prelude.{ℕ, zero, suc, ◌-◌, List, [], slice_get}
use Rattle.std.specs.Option.{option_map_or}
use Rattle.ns_code.specs.declared.program.CodeProgram.{CodeProgram}
use Rattle.ns_world.specs.declared.value.Value.{Value}
use Rattle.ns_world.specs.declared.kernel_parts.KMethod.{KMethod}
use Rattle.ns_moves.specs.declared.site.Site.{Site}
use Rattle.ns_moves.specs.Control.{Progress, Now, Enter, Evaluate, Begin, Perform, Skip, Stop, EnterPart, Waiting, Waits, Finishes}
use Rattle.ns_moves.specs.Blocks.{evaluated, method_next, taken}
use Rattle.ns_moves.specs.Sends.{performed}
use Rattle.ns_resolved.specs.Program.{Meant, Body, Does, as_method}
use Rattle.ns_model.specs.Outcome.{Completion, Yields, Ends, Spent, bind, settled, passed, homes_in, finish, finish_part}
use Rattle.ns_model.specs.Eval.{Call, PartCall, eval_body}

-- what the body of that number does; one that isn't there answers self
abbrev pub does_at : Meant → ℕ → Does
does_at meant number = option_map_or (λ (body : Body). body.does) (slice_get meant.bodies number) (as_method [] [])

-- A method of the kernel goes on: it ends, or it waits for a block's value and goes on with that.
abbrev pub gone_on : CodeProgram → Call → KMethod → Site → Waiting → List ℕ → Completion Value
gone_on code call named site (Finishes after) live = settled [] after
gone_on code call named site (Waits block arguments state progress) live =
    bind (passed (call (evaluated code block arguments site progress) live)) λ value locals progress.
    call (Begin named (taken state value) site progress) live

module _ (meant : Meant) (code : CodeProgram) where
  -- A superclass part. A superclass was made before its class, so its number is smaller; the number here is one that
  -- is greater.
  abbrev pub run_part : Call → ℕ → PartCall
  run_part call above (Skip progress) live = Yields tt [] progress
  run_part call above (Stop ending progress) live = Ends ending progress
  run_part call zero (EnterPart activation locals progress) live = Spent
  run_part call (suc above) (EnterPart activation locals progress) live =
      finish_part (eval_body code call (run_part call above) activation live (does_at meant activation.body) locals progress)

  -- Where control moves a step was charged, and the fuel goes down; all else goes down a tree or a chain of classes.
  abbrev pub run : ℕ → Call
  run fuel (Now after) live = settled [] after
  run zero (Enter exit activation locals progress) live = Spent
  run zero (Evaluate block arguments site progress) live = Spent
  run zero (Begin named state site progress) live = Spent
  run zero (Perform receiver sel array site progress) live = Spent
  run (suc fuel) (Enter exit activation locals progress) live =
      finish code exit activation
      (eval_body code (run fuel) (run_part (run fuel) activation.holder) activation (homes_in exit activation.home live)
      (does_at meant activation.body) locals progress)
  run (suc fuel) (Evaluate block arguments site progress) live = run fuel (evaluated code block arguments site progress) live
  run (suc fuel) (Begin named state site progress) live = gone_on code (run fuel) named site (method_next named state site progress) live
  run (suc fuel) (Perform receiver sel array site progress) live = run fuel (performed code receiver sel array site progress) live

-- the steps that are left and one more, which is enough
abbrev pub fuel_of : Progress → ℕ
fuel_of progress = suc (progress.world.limits.steps - progress.world.steps)
