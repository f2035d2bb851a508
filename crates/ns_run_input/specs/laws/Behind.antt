-- Inputs that are read behind other files.
use Rattle.std.proofs.Common.{◌≡◌, ◌≤◌, ◌+◌, ◌-◌, ◌^◌, min, ℕ, zero, suc, List, [], ◌∷◌, ◌++◌, length, map, take, drop, Option, Some, Result, Ok, Err, IfOk, IsErrOf, MatchResult, refl, sym, ap, ◌∙◌, arith}
use Rattle.std.proofs.Math.Nat.{le-min, min-le_left, min-le_right}
use Rattle.std.proofs.Math.Seq.{drop-append_seam, take-append_seam}
use Rattle.std.proofs.lemmas.List.{length-append, length-map, map-append}
use Rattle.std.specs.Prelude.{IsSome}
use Rattle.ns_base.specs.Count.{Rose}
use Rattle.ns_base.specs.Files.{Files}
use Rattle.ns_base.specs.Shelf.{OnlyRead}
use Rattle.ns_base.specs.declared.no_memory.NoMemory.{NoMemory}
use Rattle.ns_run_input.specs.Input.{in_parts}
use Rattle.ns_run_outcome.specs.Outcome.{IsEnding, IsMissing}
use Rattle.ns_run_outcome.specs.Stated.{Reports}
use Rattle.ns_run_outcome.specs.declared.report.Report.{Report}
use Rattle.ns_run_outcome.specs.declared.stop.Stop.{Stop}
use Rattle.ns_run_outcome.specs.declared.stop.Stop.TheVariants as stop
use Rattle.ns_run_outcome.specs.laws.Parts.{any_missing, empty_texts, never_unread}
use Rattle.ns_run_outcome.specs.laws.Plain.{IsPlain, made_so}
use Rattle.ns_run_words.specs.Named.{OfSomeName, OfSomeTexts}

-- ---- counts

-- A count that rose, and didn't fall then, rose.
pub rose_on : (a b c : ℕ) → Rose a b → b ≤ c → Rose a c
rose_on a b c r l = omega (arith, r, l)

-- A count that didn't fall, and rose then, rose.
pub rose_late : (a b c : ℕ) → a ≤ b → Rose b c → Rose a c
rose_late a b c l r = omega (arith, no_less (2 ^ 64 - 1), r)
  where
    no_less : (m : ℕ) → min (a + 1) m ≤ min (b + 1) m
    no_less m = le-min (omega (arith, min-le_left (a + 1) m, l)) (min-le_right (a + 1) m)

-- ---- lists of two parts

front_of : (n : ℕ) (xs ys : List (Option (List ℕ))) → length xs ≡ n → take n (xs ++ ys) ≡ xs
front_of n xs ys e = ap (λ k. take k (xs ++ ys)) (sym e) ∙ take-append_seam xs ys

rest_of : (n : ℕ) (xs ys : List (Option (List ℕ))) → length xs ≡ n → drop n (xs ++ ys) ≡ ys
rest_of n xs ys e = ap (λ k. drop k (xs ++ ys)) (sym e) ∙ drop-append_seam xs ys

name_in_front : (names more : List (List ℕ)) (P : List ℕ → Type 0) → OfSomeName names P → OfSomeName (names ++ more) P
name_in_front [] more P (k, s) = absurd s
name_in_front (name ∷ names) more P (zero, s) = (zero, s)
name_in_front (name ∷ names) more P (suc k, s) = let r : OfSomeName (names ++ more) P = name_in_front names more P (k, s) in (suc r.0, r.1)

name_behind : (names more : List (List ℕ)) (P : List ℕ → Type 0) → OfSomeName more P → OfSomeName (names ++ more) P
name_behind [] more P s = s
name_behind (name ∷ names) more P s = let r : OfSomeName (names ++ more) P = name_behind names more P s in (suc r.0, r.1)

parts_are : (meant : List (Option (List ℕ)) → List (Option (List ℕ)) → Report) (n : ℕ) (texts more : List (Option (List ℕ))) → length texts ≡ n →
    meant texts more ≡ in_parts n meant (texts ++ more)
parts_are meant n texts more e =
    ap (λ front. meant front more) (sym (front_of n texts more e)) ∙ ap (meant (take n (texts ++ more))) (sym (rest_of n texts more e))

-- the same of the files of names
files_are : (meant : List (Option (List ℕ)) → List (Option (List ℕ)) → Report) (names more : List (List ℕ)) (files : Files) →
    meant (map files names) (map files more) ≡ in_parts (length names) meant (map files (names ++ more))
files_are meant names more files =
    parts_are meant (length names) (map files names) (map files more) (length-map names files)
    ∙ ap (in_parts (length names) meant) (sym (map-append files names more))

-- ---- reports

module _ {S : Type 0} (holds : S → Option Files) (misses faults store_faults : S → ℕ) where
  -- Some files were read, and decide what is meant by the inputs behind them, of which that is reported.
  pub behind_reports :
      (old mid new : S) (names inputs : List (List ℕ)) (meant : List (Option (List ℕ)) → List (Option (List ℕ)) → Report) (rest : List (Option (List ℕ)) → Report) (result : Result Report Stop) →
      OnlyRead holds misses faults store_faults old mid → ((files : Files) → holds old ≡ Some files → (more : List (Option (List ℕ))) → rest more ≡ meant (map files names) more)
      → OfSomeTexts names (λ texts. (more : List (Option (List ℕ))) → rest more ≡ meant texts more) → Reports holds misses faults store_faults mid new inputs rest result
      → IfOk result (λ r. (name : List ℕ) → IsMissing name r → Rose (misses mid) (misses new))
      → Reports holds misses faults store_faults old new (names ++ inputs) (in_parts (length names) meant) result
  behind_reports old mid new names inputs meant rest (Ok r) read told texts h missing = record {
    told = λ files e. h.told files (read.0 ∙ e) ∙ told files e (map files inputs) ∙ files_are meant names inputs files;
    texts = (
      texts.0 ++ h.texts.0,
      length-append texts.0 h.texts.0 ∙ omega (arith, texts.1, h.texts.1, length-append names inputs),
      h.texts.2 ∙ texts.2 h.texts.0 ∙ parts_are meant (length names) texts.0 h.texts.0 texts.1,
    );
    ending = h.ending;
    only_read = (h.only_read.0 ∙ read.0, h.only_read.1 ∙ read.1, omega (arith, read.2, h.only_read.2), omega (arith, read.3, h.only_read.3));
    read_fault = λ e. rose_late (faults old) (faults mid) (faults new) read.3 (h.read_fault e);
    read_fault_there = λ files e f. name_behind names inputs (λ file. IsSome (files file)) (h.read_fault_there files (read.0 ∙ e) f);
    missing = any_missing (names ++ inputs) _ (Ok r) (λ name m. rose_late (misses old) (misses mid) (misses new) read.2 (missing name m));
  }
  behind_reports old mid new names inputs meant rest (Err why) read told texts h missing = record {
    told = λ files e. tt;
    texts = empty_texts (names ++ inputs);
    ending = tt;
    only_read = (h.only_read.0 ∙ read.0, h.only_read.1 ∙ read.1, omega (arith, read.2, h.only_read.2), omega (arith, read.3, h.only_read.3));
    read_fault = λ e. rose_late (faults old) (faults mid) (faults new) read.3 (h.read_fault e);
    read_fault_there = λ files e f. name_behind names inputs (λ file. IsSome (files file)) (h.read_fault_there files (read.0 ∙ e) f);
    missing = tt;
  }

  -- So a file is said to be missing only where the count of such files rose.
  pub behind_missing : (old mid new : S) (result : Result Report Stop) → OnlyRead holds misses faults store_faults old mid
      → IfOk result (λ r. (name : List ℕ) → IsMissing name r → Rose (misses mid) (misses new)) → IfOk result (λ r. (name : List ℕ) → IsMissing name r → Rose (misses old) (misses new))
  behind_missing old mid new (Ok r) read missing = λ name m. rose_late (misses old) (misses mid) (misses new) read.2 (missing name m)
  behind_missing old mid new (Err why) read missing = tt

  -- Of a part that doesn't come to its inputs: the files decide on the report, or that there is none.
  pub front_reports :
      (old new : S) (names inputs : List (List ℕ)) (meant : List (Option (List ℕ)) → List (Option (List ℕ)) → Report) (result : Result Report Stop) →
      OnlyRead holds misses faults store_faults old new → ((files : Files) → holds old ≡ Some files → IfOk result (λ r. (more : List (Option (List ℕ))) → r ≡ meant (map files names) more))
      → OfSomeTexts names (λ texts. IfOk result (λ r. (more : List (Option (List ℕ))) → r ≡ meant texts more)) → IfOk result (λ r. IsEnding r.status)
      → (IsErrOf result stop.ReadFault → Rose (faults old) (faults new))
      → ((files : Files) → holds old ≡ Some files → IsErrOf result stop.ReadFault → OfSomeName names (λ file. IsSome (files file)))
      → IfOk result (λ r. (name : List ℕ) → IsMissing name r → Rose (misses old) (misses new))
      → Reports holds misses faults store_faults old new (names ++ inputs) (in_parts (length names) meant) result
  front_reports old new names inputs meant (Ok r) read told texts ending fault there missing = record {
    told = λ files e. told files e (map files inputs) ∙ files_are meant names inputs files;
    texts = front_texts texts (empty_texts inputs);
    ending = ending;
    only_read = read;
    read_fault = fault;
    read_fault_there = λ files e f. name_in_front names inputs (λ file. IsSome (files file)) (there files e f);
    missing = any_missing (names ++ inputs) _ (Ok r) missing;
  }
    where
      front_texts : OfSomeTexts names (λ texts. (more : List (Option (List ℕ))) → r ≡ meant texts more) → OfSomeTexts inputs (λ texts. Unit {0})
          → OfSomeTexts (names ++ inputs) (λ texts. r ≡ in_parts (length names) meant texts)
      front_texts t m = (
        t.0 ++ m.0,
        length-append t.0 m.0 ∙ omega (arith, t.1, m.1, length-append names inputs),
        t.2 m.0 ∙ parts_are meant (length names) t.0 m.0 t.1,
      )
  front_reports old new names inputs meant (Err why) read told texts ending fault there missing = record {
    told = λ files e. tt;
    texts = empty_texts (names ++ inputs);
    ending = tt;
    only_read = read;
    read_fault = fault;
    read_fault_there = λ files e f. name_in_front names inputs (λ file. IsSome (files file)) (there files e f);
    missing = tt;
  }

  -- Of a part that comes to no input: the report is what is meant, whatever their texts are.
  pub whatever_reports :
      (same : S) (inputs : List (List ℕ)) (meant : List (Option (List ℕ)) → Report) (result : Result Report Stop) →
      IfOk result (λ r. (texts : List (Option (List ℕ))) → r ≡ meant texts) → IfOk result (λ r. IsEnding r.status) → (IsErrOf result stop.ReadFault → ⊥)
      → IfOk result (λ r. (name : List ℕ) → IsMissing name r → ⊥) → Reports holds misses faults store_faults same same inputs meant result
  whatever_reports same inputs meant (Ok r) is ends no_fault says =
      let empty : OfSomeTexts inputs (λ texts. Unit {0}) = empty_texts inputs in
      record {
        told = λ files e. is (map files inputs);
        texts = (empty.0, empty.1, is empty.0);
        ending = ends;
        only_read = (refl, refl, omega arith, omega arith);
        read_fault = λ e. absurd (no_fault e);
        read_fault_there = λ files e f. absurd (no_fault f);
        missing = any_missing inputs _ (Ok r) (λ name m. absurd (says name m));
      }
  whatever_reports same inputs meant (Err why) is ends no_fault says = record {
    told = λ files e. tt;
    texts = empty_texts inputs;
    ending = tt;
    only_read = (refl, refl, omega arith, omega arith);
    read_fault = λ e. absurd (no_fault e);
    read_fault_there = λ files e f. absurd (no_fault f);
    missing = tt;
  }

  -- So it is of a report that takes no more than memory.
  pub plain_reports :
      (same : S) (inputs : List (List ℕ)) (meant : List (Option (List ℕ)) → Report) (report : Report) (made : Result Report NoMemory) (result : Result Report Stop) →
      MatchResult made (λ r. result ≡ Ok r) (λ _. result ≡ Err stop.Memory) → IfOk made (λ r. r ≡ report) → IsPlain report
      → ((texts : List (Option (List ℕ))) → report ≡ meant texts) → Reports holds misses faults store_faults same same inputs meant result
  plain_reports same inputs meant report made result kept is plain means =
      whatever_reports same inputs meant result (made_so made result (λ r. (texts : List (Option (List ℕ))) → r ≡ meant texts) report kept is means)
      (made_so made result (λ r. IsEnding r.status) report kept is plain.ends) (never_unread made result kept)
      (made_so made result (λ r. (name : List ℕ) → IsMissing name r → ⊥) report kept is plain.says)

-- A plain report doesn't say that a file is missing.
pub plain_missing : (P : Type 0) (report : Report) (made : Result Report NoMemory) (result : Result Report Stop) →
    MatchResult made (λ r. result ≡ Ok r) (λ _. result ≡ Err stop.Memory) → IfOk made (λ r. r ≡ report) → IsPlain report
    → IfOk result (λ r. (name : List ℕ) → IsMissing name r → P)
plain_missing P report made result kept is plain =
    made_so made result (λ r. (name : List ℕ) → IsMissing name r → P) report kept is (λ name m. absurd (plain.says name m))
