use Rattle.std.proofs.Common.{◌≡◌, ◌≤◌, ◌+◌, length, drop}
use Rattle.ns_gen_draft.specs.Drafts.{draft_places}
use Rattle.ns_gen_draft.proofs.writer.place_count.Given as goal

abbrev pub invariant-loop-draft : goal.invariant-loop-draft
invariant-loop-draft l =
    (l.count ≤ l.draft-index) × (l.count + length (draft_places l.draft-index (drop l.draft-index l.drafts)) ≡ length (draft_places 0 l.drafts))
