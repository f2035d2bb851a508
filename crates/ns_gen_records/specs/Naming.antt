-- Names that are put in turn.
use Rattle.std.specs.Prelude.{ℕ, List}
use Rattle.ns_resolved.specs.Tables.{put_all}
use Rattle.ns_gen_draft.specs.Drafts.{Written}

-- with further names
abbrev pub with_names : List (List ℕ) → Written → Written
with_names names before = record before { names = put_all before.names names }
