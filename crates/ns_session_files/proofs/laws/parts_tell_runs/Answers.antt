use Rattle.std.proofs.Common.{refl, sym}
use Rattle.ns_moves.specs.State.{ending_of, world_of}
use Rattle.ns_run_code.specs.Machine.{end_of}
use Rattle.ns_session_files.proofs.laws.parts_tell_runs.Goals as goal

pub returns : goal.returns
returns c member =
    let code = member.application.code in
    record {
      output = refl;
      line = sym (c.lines_tell_ends.ensures (world_of member.state).cells code code.files (end_of (ending_of member.state)));
      used = refl;
    }
