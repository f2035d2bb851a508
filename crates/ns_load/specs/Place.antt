-- Lines and columns (this profile).
use Rattle.std.specs.Prelude.{ℕ, ◌+◌, ◌==◌, List, [], ◌∷◌, ◌++◌, length, map, take, if◌then◌else◌}
use Rattle.ns_base.specs.declared.place.Place.{Place}
use Rattle.ns_tree.specs.declared.token.Token.{Token}

-- the place of the first byte of a file
abbrev pub start : ℕ → Place
start file = record { file = file; line = 1; col = 1 }

-- the place behind a byte: a line feed ends its line
abbrev pub past : ℕ → Place → Place
past b place =
    if b == 10 then record { file = place.file; line = place.line + 1; col = 1 }
    else record { file = place.file; line = place.line; col = place.col + 1 }

-- the place behind a text that stands at a place
abbrev pub behind : List ℕ → Place → Place
behind [] place = place
behind (b ∷ bs) place = behind bs (past b place)

-- the place of the byte at that offset; behind the last byte, that of the end
abbrev pub place_of : ℕ → List ℕ → ℕ → Place
place_of file source offset = behind (take offset source) (start file)

-- the places of tokens
abbrev pub places : ℕ → List ℕ → List Token → List Place
places file source tokens = map (λ token. place_of file source token.start) tokens

-- the place of each token, and last that of the end
abbrev pub marks : ℕ → List ℕ → List Token → List Place
marks file source tokens = places file source tokens ++ place_of file source (length source) ∷ []
