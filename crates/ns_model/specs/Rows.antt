-- The kernel's methods that evaluate blocks, each as the recursion over its turns that it means in a run.
use Rattle.std.specs.Prelude.{ℕ, pos, List, [], length}
use Rattle.ns_code.specs.declared.program.CodeProgram.{CodeProgram}
use Rattle.ns_world.specs.declared.value.Value.{Value}
use Rattle.ns_world.specs.declared.value.Value.TheVariants.{Int}
use Rattle.ns_world.specs.declared.ending.LimitKind.TheVariants.{Steps}
use Rattle.ns_world.specs.World.{stepped}
use Rattle.ns_kdata.specs.Arguments.{items_of}
use Rattle.ns_world.specs.declared.kernel_parts.KMethod.{KMethod}
use Rattle.ns_world.specs.declared.kernel_parts.KMethod.TheVariants as method
use Rattle.ns_kcode.specs.Rows.{Host, and_row, or_row, if_true_row, if_false_row, choice_row, while_true_row, while_false_row, to_do_row, times_row, do_row}
use Rattle.ns_moves.specs.declared.site.Site.{Site}
use Rattle.ns_moves.specs.Site.{error}
use Rattle.ns_moves.specs.Control.{Progress, charged, frame_left}
use Rattle.ns_moves.specs.Blocks.{evaluated, listed, item_at}
use Rattle.ns_model.specs.Outcome.{Completion, Yields, Ends, Spent, bind, passed}
use Rattle.ns_model.specs.Eval.{Call}

module _ (code : CodeProgram) (call : Call) (live : List ℕ) (site : Site) where
  -- the run in which such a method stands
  abbrev pub host : Host Progress (Completion Value)
  host = record {
    answers = λ value progress. Yields value [] (frame_left progress);
    fails = λ kind progress. Ends (error kind site) progress;
    evaluates = λ block argument progress go.
        bind (passed (call (evaluated code block (listed argument) site progress) live)) λ value locals progress. go value progress;
    begins_turn = λ progress go. charged Ends Steps (stepped progress.world) progress go;
    element = λ array item progress. item_at progress.world.cells array item;
    spent = Spent;
  }

  -- `to:do:` and `timesRepeat:`, of at most so many turns; they have Integers, and answer their receiver
  abbrev pub counted : ℕ → Value → Value → Value → Progress → Completion Value
  counted turns (Int start) (Int last) block progress = to_do_row host turns start start last block progress
  counted turns receiver last block progress = Yields receiver [] (frame_left progress)

  -- the turns of `timesRepeat:`, as many as its receiver says
  abbrev pub repeated : ℕ → Value → Value → Progress → Completion Value
  repeated turns (Int (pos times)) block progress = times_row host turns times (Int (pos times)) block progress
  repeated turns receiver block progress = times_row host turns 0 receiver block progress

  -- what each method means, of at most so many turns
  abbrev pub method_row : ℕ → KMethod → Value → Value → Value → Progress → Completion Value
  method_row turns method.And receiver first second progress = and_row host receiver first progress
  method_row turns method.Or receiver first second progress = or_row host receiver first progress
  method_row turns method.IfTrue receiver first second progress = if_true_row host receiver first progress
  method_row turns method.IfFalse receiver first second progress = if_false_row host receiver first progress
  method_row turns method.IfTrueIfFalse receiver first second progress = choice_row host receiver first second progress
  method_row turns method.IfFalseIfTrue receiver first second progress = choice_row host receiver second first progress
  method_row turns method.WhileTrue receiver first second progress = while_true_row host turns receiver first progress
  method_row turns method.WhileFalse receiver first second progress = while_false_row host turns receiver first progress
  method_row turns method.ToDo receiver first second progress = counted turns receiver first second progress
  method_row turns method.TimesRepeat receiver first second progress = repeated turns receiver first progress
  method_row turns method.Do receiver first second progress = do_row host turns 0 (length (items_of progress.world.cells receiver)) receiver first progress
