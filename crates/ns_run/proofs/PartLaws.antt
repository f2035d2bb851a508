-- The reports of commands, in other words.
use Rattle.std.proofs.Common.{◌≡◌, ◌∙◌, ℕ, Bool, List, [], ◌∷◌, drop, length, map, take, ◌-◌, Option, Some, None, Result, ap, arith, subst, sym}
use Rattle.std.proofs.lemmas.List.{take_all}
use Rattle.std.specs.Prelude.{get_or}
use Rattle.ns_base.specs.Files.{Files}
use Rattle.ns_base.specs.declared.limits.Limits.{Limits}
use Rattle.ns_help.specs.Topics.{text_of}
use Rattle.ns_run.specs.Meaning.{behind_first, files_of, files_read, first_of, meaning_of_texts, of_behind_first, of_line, of_reading, of_replaying, of_topic, text_told}
use Rattle.ns_run_files.specs.Programs.{of_texts}
use Rattle.ns_run_files.specs.Task.{Task, Replays}
use Rattle.ns_run_outcome.specs.Outcome.{IsEnding}
use Rattle.ns_run_outcome.specs.Stated.{Reports}
use Rattle.ns_run_outcome.specs.declared.report.Report.{Report}
use Rattle.ns_run_outcome.specs.declared.stop.Stop.{Stop}
use Rattle.ns_run_words.specs.Forms.{AreFiles}
use Rattle.ns_run_words.specs.Words.{CommandLine, LineReading, limits_of, move_of, reading_of}
use Rattle.ns_run_words.specs.declared.form.Verb.{Verb}
use Rattle.ns_run_words.specs.declared.words.Given.{Given}

-- Of a command that was read, its words mean the report.
pub reading_reports : {S : Type 0} (holds : S → Option Files) (misses faults store_faults : S → ℕ) (old new : S) (reading : LineReading) (words : List (List ℕ)) (result : Result Report Stop)
    → reading ≡ reading_of words → Reports holds misses faults store_faults old new (files_read reading) (of_reading reading) result
    → Reports holds misses faults store_faults old new (files_read (reading_of words)) (meaning_of_texts words) result
reading_reports holds misses faults store_faults old new reading words result e h =
    subst (λ k. Reports holds misses faults store_faults old new (files_read k) (of_reading k) result) e h

-- Of a line with that command, the line means it.
pub verb_reports : {S : Type 0} (holds : S → Option Files) (misses faults store_faults : S → ℕ) (old new : S) (line : CommandLine) (verb : Verb) (result : Result Report Stop)
    → line.verb ≡ verb → Reports holds misses faults store_faults old new (files_of verb line.options line.names) (of_line verb line) result
    → Reports holds misses faults store_faults old new (files_of line.verb line.options line.names) (of_line line.verb line) result
verb_reports holds misses faults store_faults old new line verb result e h =
    subst (λ v. Reports holds misses faults store_faults old new (files_of v line.options line.names) (of_line v line) result) (sym e) h

-- What the program tells of itself is told, or refused.
pub topic_ends : (names : List (List ℕ)) → IsEnding (of_topic names).status
topic_ends [] = tt
topic_ends (topic ∷ more) = ends (text_of topic)
  where
    ends : (text : Option (List ℕ)) → IsEnding (text_told text).status
    ends None = tt
    ends (Some text) = tt

-- What is reported of the program of all files but the first, is reported of the line whose first name says where it is stored.
pub behind_reports :
    {S A : Type 0} (holds : S → Option Files) (misses faults store_faults : S → ℕ) (old new : S) (task : List ℕ → Task) (shown : A → List ℕ) (lib : Bool) (names : List A) (first : A) (image : List ℕ) (result : Result Report Stop) →
    AreFiles (behind_first (map shown names)) → first ≡ get_or names 0 first → image ≡ shown first →
    Reports holds misses faults store_faults old new (map shown (take (length names - 1) (drop 1 names)))
    (of_texts (task image) (map shown (take (length names - 1) (drop 1 names))) lib) result →
    Reports holds misses faults store_faults old new (behind_first (map shown names)) (of_behind_first task lib (map shown names)) result
behind_reports holds misses faults store_faults old new task shown lib [] first image result files e c h = absurd (omega (arith, files.0))
behind_reports holds misses faults store_faults old new task shown lib (x ∷ xs) first image result files e c h =
    let is : image ≡ shown x = c ∙ ap shown e in
    let all : take (length (x ∷ xs) - 1) xs ≡ xs = take_all (length (x ∷ xs) - 1) xs (omega arith) in
    subst (λ name. Reports holds misses faults store_faults old new (map shown xs) (of_texts (task name) (map shown xs) lib) result) is
    (subst (λ rest. Reports holds misses faults store_faults old new (map shown rest) (of_texts (task image) (map shown rest) lib) result) all h)

-- What is reported of the program of the first file, which is gone through by the moves behind it, is reported of the line.
pub replay_reports :
    {S A : Type 0} (holds : S → Option Files) (misses faults store_faults : S → ℕ) (old new : S) (shown : A → List ℕ) (given : Given) (limits : Limits) (names file moves : List A) (result : Result Report Stop) →
    AreFiles (first_of (map shown names)) → limits ≡ limits_of given → file ≡ take 1 names → moves ≡ drop 1 names →
    Reports holds misses faults store_faults old new (map shown file) (of_texts (Replays limits (map move_of (map shown moves))) (map shown file) given.lib) result →
    Reports holds misses faults store_faults old new (first_of (map shown names)) (of_replaying given (map shown names)) result
replay_reports holds misses faults store_faults old new shown given limits [] file moves result files l f m h = absurd (omega (arith, files.0))
replay_reports holds misses faults store_faults old new shown given limits (x ∷ xs) file moves result files l f m h =
    let name = shown x ∷ [] in
    subst (λ within. Reports holds misses faults store_faults old new name (of_texts (Replays within (map move_of (map shown xs))) name given.lib) result) l
    (subst (λ words. Reports holds misses faults store_faults old new name (of_texts (Replays limits (map move_of (map shown words))) name given.lib) result) m
    (subst (λ one. Reports holds misses faults store_faults old new (map shown one) (of_texts (Replays limits (map move_of (map shown moves))) (map shown one) given.lib) result) f h))
