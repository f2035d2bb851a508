-- The lines of a replay that stands at its start, and those of a program.
use Rattle.std.proofs.Common.{◌≡◌, ◌∙◌, ◌≤◌, ℕ, List, [], None, ap, arith, sym}
use Rattle.ns_base.specs.declared.limits.Limits.{Limits}
use Rattle.ns_code.specs.declared.program.CodeProgram.{CodeProgram}
use Rattle.ns_gen_code.specs.Code.{code_of}
use Rattle.ns_gen_code.specs.Sizes.{size_fault}
use Rattle.ns_replay.specs.At.{position_in}
use Rattle.ns_replay.specs.Replay.{ReplayView, replay_of}
use Rattle.ns_resolved.specs.Program.{Meant}
use Rattle.ns_run_code.specs.Machine.{begins_with}
use Rattle.ns_run_code.specs.Run.{granted}
use Rattle.ns_run_replay.specs.Moves.{lines_from}
use Rattle.ns_run_replay.specs.Replayed.{lines, lines_of, of_size, replayed_of}
use Rattle.ns_run_words.specs.declared.moves.Move.{Move}

-- A replay at its start, where no step is used, has the lines of the run of its code.
pub from_start :
    (code : CodeProgram) (limits : Limits) (moves : List Move) (view : ReplayView) →
    view ≡ replay_of (record { code = code; grants = granted; state = begins_with code limits [] }) → position_in view.state ≤ view.asked
    → lines_from view.code view.start (position_in view.state) moves ≡ lines_of code limits moves
from_start code limits moves view is few =
    let first : view.asked ≡ 0 = ap (λ (v : ReplayView). v.asked) is in
    let none : position_in view.state ≡ 0 = omega (arith, few, first) in
    ap (λ n. lines_from view.code view.start n moves) none ∙ ap (λ (v : ReplayView). lines_from v.code v.start 0 moves) is

-- The code of a program, of which no size is too large, has the program's lines.
pub same_program :
    (meant : Meant) (code : CodeProgram) (limits : Limits) (moves : List Move) (bytes : List ℕ) → code ≡ code_of meant → size_fault (code_of meant) ≡ None
    → bytes ≡ lines_of code limits moves → replayed_of meant limits moves ≡ lines bytes
same_program meant code limits moves bytes is small told =
    ap (of_size (code_of meant) limits moves) small ∙ sym (ap lines (told ∙ ap (λ (each : CodeProgram). lines_of each limits moves) is))
