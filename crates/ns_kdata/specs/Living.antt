-- Which outcomes answer live values.
use Rattle.ns_code.specs.declared.program.CodeProgram.{CodeProgram}
use Rattle.ns_world.specs.Lawful.{IsLiveValue}
use Rattle.ns_kdata.specs.Outcome.{RowOutcome, Answers, Fails}

-- An answer is live in the world after it.
abbrev pub AnswersLive : CodeProgram → RowOutcome → Type 0
AnswersLive code (Answers value world) = IsLiveValue world.cells code value
AnswersLive code (Fails fault) = Unit {0}
