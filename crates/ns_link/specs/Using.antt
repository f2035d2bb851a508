-- When the bodies of a program use what is there.
use Rattle.std.specs.Prelude.{◌≡◌, ℕ, Some, slice_get}
use Rattle.ns_resolved.specs.Program as m
use Rattle.ns_resolved.specs.Uses.{DoesHave}
use Rattle.ns_link.specs.Reached.{IsThereButBlocks}

-- What each body uses is there, and its numbers fit; of blocks it says nothing.
abbrev pub UseWhatIsThere : m.Meant → Type 0
UseWhatIsThere meant =
    (number : ℕ) (body : m.Body) → slice_get meant.bodies number ≡ Some body → DoesHave (IsThereButBlocks meant number body) body.does
