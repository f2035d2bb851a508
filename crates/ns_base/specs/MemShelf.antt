-- What a shelf over memory does at each of its calls, which fail exactly where they are listed (this profile).
use Rattle.std.specs.Prelude.{◌≡◌, ◌==◌, ℕ, Bool, true, false, List, take, Option, Some, None, Result, Ok, Err}
use Rattle.std.specs.List.{list_any}
use Rattle.std.specs.Global.{Vec}
use Rattle.ns_base.specs.Count.{one_more}
use Rattle.ns_base.specs.Files.{OthersStand}
use Rattle.ns_base.specs.Stored.{file_at}
use Rattle.ns_base.specs.declared.mem_shelf.MemShelf.{MemShelf}
use Rattle.ns_base.specs.declared.shelf.ShelfFault.{ShelfFault}
use Rattle.ns_base.specs.declared.shelf.ShelfFault.TheVariants.{Missing, Failed, Memory}

-- whether the next call is listed as one that fails
abbrev pub will_fail : MemShelf → Bool
will_fail shelf = list_any (λ call. call == shelf.calls) shelf.fail_at.items

-- the file of that name, if the shelf holds it
abbrev pub held : MemShelf → List ℕ → Option (List ℕ)
held shelf name = file_at shelf.files.items name

-- what is read of these bytes: so many of them from the first on, or no memory was found
abbrev pub ReadsFirst : ℕ → List ℕ → Result (Vec ℕ) ShelfFault → Type 0
ReadsFirst most bytes (Ok first) = first.items ≡ take most bytes
ReadsFirst most bytes (Err fault) = fault ≡ Memory

-- what a load answers of a file: `Missing` exactly where it isn't held, and else `Failed` exactly where the call is listed
abbrev pub Loads : Option (List ℕ) → (fails : Bool) → ℕ → Result (Vec ℕ) ShelfFault → Type 0
Loads None fails most result = result ≡ Err Missing
Loads (Some bytes) true most result = result ≡ Err Failed
Loads (Some bytes) false most result = ReadsFirst most bytes result

-- the shelf behind a load: the call is counted, and so is a miss, or a fault
abbrev pub after_load : Option (List ℕ) → (fails : Bool) → MemShelf → MemShelf
after_load None fails shelf = record shelf { calls = one_more shelf.calls; misses = one_more shelf.misses }
after_load (Some bytes) true shelf = record shelf { calls = one_more shelf.calls; faults = one_more shelf.faults }
after_load (Some bytes) false shelf = record shelf { calls = one_more shelf.calls }

-- The file of that name has these bytes, and the others stand.
abbrev pub IsStored : List ℕ → List ℕ → (old new : MemShelf) → Type 0
IsStored name bytes old new = (held new name ≡ Some bytes) × OthersStand (held old) (held new) name

-- what a store that doesn't fail answers, and what the files are then: the file is stored, or no memory was found
abbrev pub StoresOrWants : List ℕ → List ℕ → (old new : MemShelf) → Result (Unit {0}) ShelfFault → Type 0
StoresOrWants name bytes old new (Ok _) = IsStored name bytes old new
StoresOrWants name bytes old new (Err fault) = (fault ≡ Memory) × (new.files.items ≡ old.files.items)

-- But for its files and its count of calls, the shelf is as it was, and the call is counted.
abbrev pub CallIsCounted : (old new : MemShelf) → Type 0
CallIsCounted old new = new ≡ record old { calls = one_more old.calls; files = new.files }

-- what a store answers and leaves: `Failed` exactly where the call is listed, which is counted as a fault and changes no file
abbrev pub Stores : (fails : Bool) → List ℕ → List ℕ → (old new : MemShelf) → Result (Unit {0}) ShelfFault → Type 0
Stores true name bytes old new result =
    (result ≡ Err Failed) × (new ≡ record old { calls = one_more old.calls; store_faults = one_more old.store_faults })
Stores false name bytes old new result = StoresOrWants name bytes old new result × CallIsCounted old new
