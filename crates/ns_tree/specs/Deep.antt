-- How deep the brackets of a source nest.
use Rattle.std.specs.Prelude.{ℕ, ◌+◌, ◌-◌, Bool, true, false, if◌then◌else◌, ◌&&◌, nat_le, List, [], ◌∷◌, Option, Some, None}
use Rattle.ns_tree.specs.declared.token.Kind.{Kind}
use Rattle.ns_tree.specs.declared.token.Kind.TheVariants as k

abbrev pub opens : Kind → Bool
opens k.Open = true
opens k.OpenBlock = true
opens k.OpenTuple = true
opens _ = false

abbrev pub closes : Kind → Bool
closes k.Close = true
closes k.CloseBlock = true
closes k.CloseTuple = true
closes _ = false

-- how many brackets are open behind a token, where so many are open before it
abbrev pub open_behind : ℕ → Kind → ℕ
open_behind before kind = if opens kind then before + 1 else if closes kind then before - 1 else before

-- how many brackets may be open
abbrev pub most_brackets : ℕ
most_brackets = 100

-- the number of the first token that opens bracket 101, where the first token has the number `at` and so many
-- brackets are open before it
abbrev pub deep_from : ℕ → ℕ → List Kind → Option ℕ
deep_from before at [] = None
deep_from before at (kind ∷ rest) = if opens kind && nat_le most_brackets before then Some at else deep_from (open_behind before kind) (at + 1) rest

abbrev pub deep : List Kind → Option ℕ
deep = deep_from 0 0
