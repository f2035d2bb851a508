use Rattle.std.proofs.Common.{◌≡◌, ◌++◌, drop}
use Rattle.ns_gen_draft.specs.Drafts.{draft_places}
use Rattle.ns_gen_draft.proofs.writer.put_places.Given as goal

abbrev pub invariant-loop-draft : goal.invariant-loop-draft
invariant-loop-draft l =
    (l.number ≡ l.draft-index)
    × (l.places.items ++ draft_places l.number (drop l.draft-index l.drafts) ≡ l.fn.places.items ++ draft_places 0 l.fn.drafts)
