-- What a shelf answers where its files are told.
use Rattle.std.specs.Prelude.{◌≡◌, ℕ, ◌≤◌, List, take, Option, Some, None, Result, Ok, Err, option_map, IsSome}
use Rattle.std.specs.Global.{Vec}
use Rattle.ns_base.specs.Files.{Files, OthersStand, AllStand}
use Rattle.ns_base.specs.declared.shelf.ShelfFault.{ShelfFault}
use Rattle.ns_base.specs.declared.shelf.ShelfFault.TheVariants.{Missing, Failed, Memory}

-- what a load answers: the first bytes of the file, or that it isn't there exactly where it isn't
abbrev pub AnswersLoad : Files → List ℕ → ℕ → Result (Vec ℕ) ShelfFault → Type 0
AnswersLoad files name most (Ok bytes) = option_map (take most) (files name) ≡ Some bytes.items
AnswersLoad files name most (Err Missing) = files name ≡ None
AnswersLoad files name most (Err Failed) = IsSome (files name)
AnswersLoad files name most (Err Memory) = Unit {0}

-- what a store leaves: the file holds the bytes; or anything, where the store failed
abbrev pub AnswersStore : Files → Files → List ℕ → List ℕ → Result (Unit {0}) ShelfFault → Type 0
AnswersStore old new name bytes (Ok _) = (new name ≡ Some bytes) × OthersStand old new name
AnswersStore old new name bytes (Err Missing) = ⊥
AnswersStore old new name bytes (Err Failed) = OthersStand old new name
AnswersStore old new name bytes (Err Memory) = AllStand old new

-- A shelf that shows its files and its counts of misses, failed loads and failed stores so was only read: its files and
-- the count of failed stores stand, and no other count fell.
abbrev pub OnlyRead : {S : Type 0} → (S → Option Files) → (S → ℕ) → (S → ℕ) → (S → ℕ) → S → S → Type 0
OnlyRead holds misses faults store_faults old new =
    (holds new ≡ holds old) × (store_faults new ≡ store_faults old) × (misses old ≤ misses new) × (faults old ≤ faults new)
