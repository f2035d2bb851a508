-- What files are loaded as.
use Rattle.std.specs.Prelude.{ℕ, ◌+◌, Bool, true, false, List, [], ◌∷◌, ◌++◌, map, codes, Option, Some}
use Rattle.ns_base.specs.Files.{Files}
use Rattle.ns_base.specs.declared.place.Place.{Place}
use Rattle.ns_lib.specs.Collections.{collections}
use Rattle.ns_load.specs.Source.{FileReading, spells, refused, read_file}
use Rattle.ns_load.specs.declared.fault.LoadFault.{LoadFault}
use Rattle.ns_tree.specs.Plain as p

-- Files are the units of a program with their places; or the first that is refused stops the loading.
pub data Loading : Type 0 where
  units : (trees : List p.SourceUnit) (places : List (List Place)) → Loading
  stopped : (fault : LoadFault) → Loading

-- units, and then what else is loaded
abbrev pub after : List p.SourceUnit → List (List Place) → Loading → Loading
after trees places (units more others) = units (trees ++ more) (places ++ others)
after trees places (stopped fault) = stopped fault

-- a file, and then what else is loaded
abbrev pub with_file : FileReading → Loading → Loading
with_file (spells unit places) rest = after (unit ∷ []) (places ∷ []) rest
with_file (refused fault) rest = stopped fault

-- what these texts are loaded as, of which the first is file k
abbrev pub load_from : ℕ → List (Option (List ℕ)) → Loading
load_from k [] = units [] []
load_from k (text ∷ texts) = with_file (read_file k text) (load_from (k + 1) texts)

-- the library, where it is asked for
abbrev pub library : Bool → List (Option (List ℕ))
library true = Some collections ∷ []
library false = []

-- what these texts are loaded as, and the library behind them where it is asked for
abbrev pub loaded_texts : List (Option (List ℕ)) → Bool → Loading
loaded_texts texts lib = load_from 0 (texts ++ library lib)

-- what the files of these names are loaded as, and the library behind them where it is asked for
abbrev pub loaded : List (List ℕ) → Bool → Files → Loading
loaded names lib files = loaded_texts (map files names) lib

abbrev pub library_name : Bool → List (List ℕ)
library_name true = codes "lib:Collections" ∷ []
library_name false = []

-- the names of a program's files
abbrev pub file_names : List (List ℕ) → Bool → List (List ℕ)
file_names names lib = names ++ library_name lib
