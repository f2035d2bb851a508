-- What `replay` tells of a program without static faults.
use Rattle.std.specs.Prelude.{ℕ, List, [], Option, Some, None}
use Rattle.ns_base.specs.declared.limits.Limits.{Limits}
use Rattle.ns_code.specs.declared.program.CodeProgram.{CodeProgram}
use Rattle.ns_gen_code.specs.Code.{code_of}
use Rattle.ns_gen_code.specs.Sizes.{size_fault}
use Rattle.ns_gen_code.specs.declared.size.SizeKind.{SizeKind}
use Rattle.ns_resolved.specs.Program.{Meant}
use Rattle.ns_run_code.specs.Machine.{begins_with}
use Rattle.ns_run_replay.specs.Moves.{lines_from}
use Rattle.ns_run_words.specs.declared.moves.Move.{Move}

-- the lines of moves through the run of some code within these limits, without arguments, from its start on
abbrev pub lines_of : CodeProgram → Limits → List Move → List ℕ
lines_of code limits moves = lines_from code (begins_with code limits []) 0 moves

-- the lines of the moves, or what of the program is too large
pub data Replayed : Type 0 where
  lines : (bytes : List ℕ) → Replayed
  too_large : (kind : SizeKind) → Replayed

-- the moves through the run of code, of which this size is too large
abbrev pub of_size : CodeProgram → Limits → List Move → Option SizeKind → Replayed
of_size code limits moves (Some kind) = too_large kind
of_size code limits moves None = lines (lines_of code limits moves)

-- the moves through the run of a program
abbrev pub replayed_of : Meant → Limits → List Move → Replayed
replayed_of meant limits moves = of_size (code_of meant) limits moves (size_fault (code_of meant))
