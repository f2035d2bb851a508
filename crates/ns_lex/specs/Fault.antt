-- Faults of a source.
use Rattle.std.specs.Prelude.{ℕ}
use Rattle.ns_lex.specs.declared.piece.Cause.{Cause}
use Rattle.ns_lex.specs.declared.piece.Cause.TheVariants as cause
use Rattle.ns_lex.specs.declared.fault.LexFault.{LexFault}
use Rattle.ns_lex.specs.declared.fault.LexFault.TheVariants.{BadByte, UnclosedComment, UnclosedString, BigNumber}

-- the fault of that cause at an offset
abbrev pub fault_at : Cause → ℕ → LexFault
fault_at cause.BadByte at = BadByte at
fault_at cause.UnclosedComment at = UnclosedComment at
fault_at cause.UnclosedString at = UnclosedString at
fault_at cause.BigNumber at = BigNumber at
