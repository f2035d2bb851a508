use Rattle.std.proofs.Common.{◌≡◌, ◌++◌, map, drop}
use Rattle.ns_gen_draft.specs.Drafts.{instruction}
use Rattle.ns_gen_draft.proofs.writer.put_instructions.Given as goal

abbrev pub invariant-loop-draft : goal.invariant-loop-draft
invariant-loop-draft l = l.instrs.items ++ map instruction (drop l.draft-index l.drafts) ≡ l.fn.instrs.items ++ map instruction l.fn.drafts
