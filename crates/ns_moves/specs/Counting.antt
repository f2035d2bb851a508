-- How methods are counted that begin.
use Rattle.std.specs.Prelude.{ℕ}
use Rattle.ns_moves.specs.declared.control.Reached.{Reached}
use Rattle.ns_moves.specs.declared.control.Reached.TheVariants as reached
use Rattle.ns_moves.specs.declared.control.Exit.{Exit as ExitKind}
use Rattle.ns_moves.specs.declared.control.Exit.TheVariants as exit
use Rattle.ns_moves.specs.Control.{Control, Now, Enter, Evaluate, Begin, Perform, FromMethod, FromBody, FromClause}
use Rattle.ns_moves.specs.Sends.{one_more}

-- a method that is entered has begun
abbrev pub counted : Control → Control
counted (Now after) = Now after
counted (Enter FromMethod activation locals progress) = Enter FromMethod activation locals (one_more progress)
counted (Enter FromBody activation locals progress) = Enter FromBody activation locals progress
counted (Enter (FromClause object holder class) activation locals progress) =
    Enter (FromClause object holder class) activation locals progress
counted (Evaluate block arguments site progress) = Evaluate block arguments site progress
counted (Begin method state site progress) = Begin method state site progress
counted (Perform receiver sel array site progress) = Perform receiver sel array site progress

-- how many begin by what an action comes to
abbrev pub begins_by : ExitKind → ℕ
begins_by exit.Method = 1
begins_by exit.Body = 0
begins_by (exit.Clause class) = 0

abbrev pub begins : Reached → ℕ
begins (reached.Enters exit entered) = begins_by exit
begins (reached.Gives value) = 0
begins (reached.Fails fault) = 0
begins (reached.Refused sel) = 0
begins (reached.Evaluates block given) = 0
begins (reached.Begins method state) = 0
begins (reached.Performs receiver sel array) = 0
