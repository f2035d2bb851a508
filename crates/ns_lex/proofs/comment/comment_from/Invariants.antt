use Rattle.std.proofs.Common.{◌≡◌, ◌+◌, ◌≤◌, drop}
use Rattle.ns_lex.specs.Comment as spec
use Rattle.ns_lex.specs.declared.comment.Last.TheVariants.{Plain}
use Rattle.ns_lex.proofs.comment.comment_from.Given as goal

abbrev pub invariant-loop-b : goal.invariant-loop-b
invariant-loop-b l = (spec.comment_from l.depth l.last l.at (drop l.b-index l.text) ≡ spec.comment_from 0 Plain 2 l.text) × (l.at ≡ l.b-index + 2) × (l.depth ≤ l.b-index)
