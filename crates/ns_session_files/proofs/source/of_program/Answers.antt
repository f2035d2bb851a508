use Rattle.std.proofs.Common.{map, string_bytes}
use Rattle.ns_session_files.proofs.MakingLaws.{program_made}
use Rattle.ns_session_files.proofs.source.of_program.Goals as goal

pub returns-in-Ok-clause-made : goal.returns-in-Ok-clause-made
returns-in-Ok-clause-made c = λ grants.
    program_made (map string_bytes c.args.names.items) grants c.args.program c.in-Ok.checked c.of_checked.result c.in-Ok.ensures.program c.in-Ok.ensures.exact (c.of_checked.ensures.made grants)
