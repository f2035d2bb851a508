-- The characters of a string, one after another.
use Rattle.std.proofs.Common.{◌≡◌, ℕ, ◌+◌, ◌<◌, List, ◌++◌, length, drop, get_or, ap}
use Rattle.std.proofs.lemmas.List.{drop_more}
use Rattle.ns_json.specs.Json.{character, characters}

-- one byte of what is left
pub characters_step : (bytes : List ℕ) (i : ℕ) → i < length bytes →
    characters (drop i bytes) ≡ character (get_or bytes i 0) ++ characters (drop (i + 1) bytes)
characters_step bytes i h = ap characters (drop_more bytes i 0 h)
