-- Files by name.
use Rattle.std.specs.Prelude.{◌≡◌, ◌≢◌, ℕ, List, Option}

-- the bytes of each file that is there
abbrev pub Files : Type 0
Files = List ℕ → Option (List ℕ)

-- Each file but the one of this name is as it was.
abbrev pub OthersStand : Files → Files → List ℕ → Type 0
OthersStand old new name = (other : List ℕ) → other ≢ name → new other ≡ old other

-- Each file is as it was.
abbrev pub AllStand : Files → Files → Type 0
AllStand old new = (other : List ℕ) → new other ≡ old other
