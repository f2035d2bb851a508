-- What an answer says of the files.
use Rattle.std.specs.Prelude.{◌≡◌, ◌≤◌, ℕ, ◌+◌, Bool, List, [], ◌∷◌, length, map, take, slice_get, Option, Result, Ok, Err, IsSome, IsSomeAnd}
use Rattle.ns_base.specs.Files.{Files}
use Rattle.ns_base.specs.declared.place.Place.{Place}
use Rattle.ns_load.specs.Loaded.{Loading, units, stopped, load_from, loaded, loaded_texts}
use Rattle.ns_load.specs.Source.{spells, refused, read, read_file}
use Rattle.ns_load.specs.declared.fault.LoadCause.TheVariants.{Missing, TooLong, ReadFault, Spelling}
use Rattle.ns_load.specs.declared.fault.LoadFault.{LoadFault}
use Rattle.ns_load.specs.declared.fault.LoadFault.TheVariants.{At, Memory}
use Rattle.ns_load.specs.declared.read.Source.{Source}
use Rattle.ns_scope.specs.declared.program.Program.{Program}
use Rattle.ns_tree.specs.Plain as p
use Rattle.ns_tree.specs.PlainOf.{unit_of}

-- ---- faults that need no shelf

-- A text is wrong, or no memory was found.
abbrev pub IsSpelling : LoadFault → Type 0
IsSpelling (At Missing file) = ⊥
IsSpelling (At TooLong file) = ⊥
IsSpelling (At ReadFault file) = ⊥
IsSpelling (At (Spelling wrong place) file) = Unit {0}
IsSpelling Memory = Unit {0}

-- The bytes of a file are too many, or wrong, or no memory was found.
abbrev pub IsOfBytes : LoadFault → Type 0
IsOfBytes (At Missing file) = ⊥
IsOfBytes (At TooLong file) = Unit {0}
IsOfBytes (At ReadFault file) = ⊥
IsOfBytes (At (Spelling wrong place) file) = Unit {0}
IsOfBytes Memory = Unit {0}

-- ---- one file

-- The fault is the file's own. A file that couldn't be read is there, and want of memory says nothing.
abbrev pub TellsFileFault : ℕ → Option (List ℕ) → LoadFault → Type 0
TellsFileFault k text (At Missing file) = read_file k text ≡ refused (At Missing file)
TellsFileFault k text (At TooLong file) = read_file k text ≡ refused (At TooLong file)
TellsFileFault k text (At ReadFault file) = (file ≡ k) × IsSome text
TellsFileFault k text (At (Spelling wrong place) file) = read_file k text ≡ refused (At (Spelling wrong place) file)
TellsFileFault k text Memory = Unit {0}

-- The answer says what the file is read as.
abbrev pub TellsFile : ℕ → Option (List ℕ) → Result Source LoadFault → Type 0
TellsFile k text (Ok source) = read_file k text ≡ spells (unit_of source.unit) source.marks
TellsFile k text (Err fault) = TellsFileFault k text fault

-- The fault is that of a file of this text. One that couldn't be read and want of memory say nothing.
abbrev pub IsFaultOf : ℕ → Option (List ℕ) → LoadFault → Type 0
IsFaultOf k text (At Missing file) = read_file k text ≡ refused (At Missing file)
IsFaultOf k text (At TooLong file) = read_file k text ≡ refused (At TooLong file)
IsFaultOf k text (At ReadFault file) = Unit {0}
IsFaultOf k text (At (Spelling wrong place) file) = read_file k text ≡ refused (At (Spelling wrong place) file)
IsFaultOf k text Memory = Unit {0}

-- There is a text of which the fault is that of a file.
abbrev pub IsOfSomeText : ℕ → LoadFault → Type 0
IsOfSomeText k fault = (text : Option (List ℕ)) × IsFaultOf k text fault

-- The unit and its places are those of some source, of file k.
abbrev pub IsRead : ℕ → p.SourceUnit → List Place → Type 0
IsRead k unit places = (source : List ℕ) × (length source ≤ 1048576) × (read k source ≡ spells unit places)

-- ---- all files

-- The files are units of a program.
abbrev pub AreUnits : Loading → Type 0
AreUnits (units trees places) = Unit {0}
AreUnits (stopped fault) = ⊥

-- The file of that number is there, and those before it are units.
abbrev pub IsReached : List (List ℕ) → Files → ℕ → Type 0
IsReached names files k = IsSomeAnd (slice_get names k) (λ name. IsSome (files name)) × AreUnits (load_from 0 (map files (take k names)))

-- The fault is that of the first file that is refused. A file that couldn't be read is there, and those before it are units.
abbrev pub TellsFault : List (List ℕ) → Bool → Files → LoadFault → Type 0
TellsFault names lib files (At Missing k) = loaded names lib files ≡ stopped (At Missing k)
TellsFault names lib files (At TooLong k) = loaded names lib files ≡ stopped (At TooLong k)
TellsFault names lib files (At ReadFault k) = IsReached names files k
TellsFault names lib files (At (Spelling wrong place) k) = loaded names lib files ≡ stopped (At (Spelling wrong place) k)
TellsFault names lib files Memory = Unit {0}

-- The answer says what the files are loaded as.
abbrev pub AnswerTells : List (List ℕ) → Bool → Files → Result Program LoadFault → Type 0
AnswerTells names lib files (Ok program) = loaded names lib files ≡ units (map unit_of program.units) program.marks
AnswerTells names lib files (Err fault) = TellsFault names lib files fault

-- The fault is that of the first of these texts that is refused. A file that couldn't be read and want of memory say nothing.
abbrev pub IsFaultOfTexts : List (Option (List ℕ)) → Bool → LoadFault → Type 0
IsFaultOfTexts texts lib (At Missing k) = loaded_texts texts lib ≡ stopped (At Missing k)
IsFaultOfTexts texts lib (At TooLong k) = loaded_texts texts lib ≡ stopped (At TooLong k)
IsFaultOfTexts texts lib (At ReadFault k) = Unit {0}
IsFaultOfTexts texts lib (At (Spelling wrong place) k) = loaded_texts texts lib ≡ stopped (At (Spelling wrong place) k)
IsFaultOfTexts texts lib Memory = Unit {0}

-- The answer says what these texts are loaded as.
abbrev pub IsOfTexts : List (Option (List ℕ)) → Bool → Result Program LoadFault → Type 0
IsOfTexts texts lib (Ok program) = loaded_texts texts lib ≡ units (map unit_of program.units) program.marks
IsOfTexts texts lib (Err fault) = IsFaultOfTexts texts lib fault

-- There is a text, or none, for each name, and the answer says what these are loaded as.
abbrev pub HasTexts : List (List ℕ) → Bool → Result Program LoadFault → Type 0
HasTexts names lib result = (texts : List (Option (List ℕ))) × (length texts ≡ length names) × IsOfTexts texts lib result

-- There is a text, or none, for each name, and the fault is that of the first that is refused, whether the library is asked for or not.
abbrev pub HasRefusedTexts : List (List ℕ) → LoadFault → Type 0
HasRefusedTexts names fault = (texts : List (Option (List ℕ))) × (length texts ≡ length names) × ((lib : Bool) → IsFaultOfTexts texts lib fault)

-- The files of these names, without the library, are these units; or the fault is theirs, whether the library is asked for or not.
abbrev pub TellsParts : List (List ℕ) → Files → List p.SourceUnit → List (List Place) → Result (Unit {0}) LoadFault → Type 0
TellsParts names files trees places (Ok _) = load_from 0 (map files names) ≡ units trees places
TellsParts names files trees places (Err fault) = (lib : Bool) → TellsFault names lib files fault

-- Each unit and its places are those of some source. The first is that of file k.
abbrev pub AreRead : ℕ → List p.SourceUnit → List (List Place) → Type 0
AreRead k [] [] = Unit {0}
AreRead k [] (places ∷ others) = ⊥
AreRead k (unit ∷ more) [] = ⊥
AreRead k (unit ∷ more) (places ∷ others) = IsRead k unit places × AreRead (k + 1) more others
