-- What a host asks for, as it is read.
use Rattle.std.proofs.Common.{◌≡◌, ℕ, Bool, List, [], ◌∷◌, Some, length, map, ap, refl, subst, true, false}
use Rattle.std.specs.Prelude.{◌&&◌, ◌==◌, ◌-◌, ◌%◌, if◌then◌else◌, nat_le, sum}
use Rattle.std.specs.Global.{Vec}
use Rattle.std.specs.List.{list_all}
use Rattle.std.specs.Str.{bytes_eq, is_utf8}
use Rattle.std.proofs.lemmas.Bool.{false≢true}
use Rattle.ns_base.specs.Files.{Files}
use Rattle.ns_base.specs.Stored.{file_at}
use Rattle.ns_host.specs.Host.{is_call, named, pair_of, words_in}
use Rattle.ns_run.specs.Meaning.{files_read, meaning, meaning_of_texts}
use Rattle.ns_run_words.specs.Words.{reading_of}

last_of : (a b c d : Bool) → (a && b && c && d) ≡ true → d ≡ true
last_of true true true d h = h
last_of true true false d h = absurd (false≢true h)
last_of true false c d h = absurd (false≢true h)
last_of false b c d h = absurd (false≢true h)

-- The words of a well-formed call are texts.
pub are_texts : (words : ℕ) (lengths bytes : List ℕ) → is_call words lengths bytes ≡ true → list_all is_utf8 (words_in words lengths bytes) ≡ true
are_texts words lengths bytes h = last_of (nat_le words (length lengths)) ((length lengths - words) % 2 == 0) (sum lengths == length bytes) (list_all is_utf8 (words_in words lengths bytes)) h

-- Files that are kept so are those of their names and texts.
pub are_named : (files : List (List ℕ × Vec ℕ)) (name : List ℕ) → file_at files name ≡ named (map pair_of files) name
are_named [] name = refl
are_named (file ∷ files) name = ap (λ rest. if bytes_eq file.0 name then Some file.1.items else rest) (are_named files name)

-- Two files that are the same by each name give the same texts.
pub same_texts : (files others : Files) → ((name : List ℕ) → files name ≡ others name) → (names : List (List ℕ)) → map files names ≡ map others names
same_texts files others same [] = refl
same_texts files others same (name ∷ names) = cc (same name, same_texts files others same names)

-- A command means the same over files that are kept so and over those of their names and texts.
pub same_meaning : (words others : List (List ℕ)) (files : List (List ℕ × Vec ℕ)) (asked : List (List ℕ × List ℕ))
    → words ≡ others → map pair_of files ≡ asked → meaning words (file_at files) ≡ meaning others (named asked)
same_meaning words others files asked same_words same_files =
    subst (λ w. meaning words (file_at files) ≡ meaning w (named asked)) same_words
    (subst (λ a. meaning words (file_at files) ≡ meaning words (named a)) same_files
    (ap (meaning_of_texts words) (same_texts (file_at files) (named (map pair_of files)) (are_named files) (files_read (reading_of words)))))
