-- What a command's words and files say of its outcome.
use Rattle.std.specs.Prelude.{ℕ, List, Option, IsSome}
use Rattle.ns_base.specs.Files.{Files}
use Rattle.ns_run_outcome.specs.Outcome.{IsMissing, Wrote, missing_line}
use Rattle.ns_run_outcome.specs.declared.report.Report.{Report}
use Rattle.ns_run.specs.Meaning.{files_read, meaning_of_texts}
use Rattle.ns_run_words.specs.Words.{LineReading, says, bad, reading_of}
use Rattle.ns_run_words.specs.declared.form.Verb.{Verb}
use Rattle.ns_run_words.specs.declared.form.Verb.TheVariants as verb
use Rattle.ns_run_words.specs.Named.{OfSomeTexts, OfSomeName}

-- The command isn't one of those that store an image or a snapshot.
abbrev pub StoresNoFile : Verb → Type 0
StoresNoFile verb.Check = Unit {0}
StoresNoFile verb.Show = Unit {0}
StoresNoFile verb.Format = Unit {0}
StoresNoFile verb.Run = Unit {0}
StoresNoFile verb.Eval = Unit {0}
StoresNoFile verb.Build = ⊥
StoresNoFile verb.Exec = Unit {0}
StoresNoFile verb.Listing = Unit {0}
StoresNoFile verb.Session = Unit {0}
StoresNoFile verb.Sample = Unit {0}
StoresNoFile verb.Actors = Unit {0}
StoresNoFile verb.Audit = Unit {0}
StoresNoFile verb.Test = Unit {0}
StoresNoFile verb.Snap = ⊥
StoresNoFile verb.Resume = Unit {0}
StoresNoFile verb.Replay = Unit {0}
StoresNoFile verb.Library = Unit {0}
StoresNoFile verb.Help = Unit {0}
StoresNoFile verb.Explain = Unit {0}
StoresNoFile verb.Version = Unit {0}

-- The command of a line that was read so stores nothing.
abbrev pub StoresNothing : LineReading → Type 0
StoresNothing (says line) = StoresNoFile line.verb
StoresNothing (bad word) = Unit {0}

-- There is a text, or none, for each file of the command of these words, and over these its meaning is so.
abbrev pub OverTexts : List (List ℕ) → (Report → Type 0) → Type 0
OverTexts words P = OfSomeTexts (files_read (reading_of words)) (λ texts. P (meaning_of_texts words texts))

-- Some file of the command is there.
abbrev pub HasAFile : LineReading → Files → Type 0
HasAFile reading files = OfSomeName (files_read reading) (λ file. IsSome (files file))

-- The report refuses some file of the command as one that isn't there.
abbrev pub NamesMissing : LineReading → Report → Type 0
NamesMissing reading report = OfSomeName (files_read reading) (λ file. IsMissing file report)

-- The line was written that tells of some file of the command that it isn't there.
abbrev pub TellsMissing : LineReading → (err err' : Option (List ℕ)) → Type 0
TellsMissing reading err err' = OfSomeName (files_read reading) (λ file. Wrote (missing_line file) err err')
