-- What parts of a command say of the reports that they give.
use Rattle.std.proofs.Common.{◌≡◌, ℕ, zero, suc, List, [], ◌∷◌, length, Option, Some, None, Result, Ok, Err, IfOk, IsErrOf, MatchResult, ap, map, refl, sym, subst, arith}
use Rattle.std.specs.Option.{IfSome}
use Rattle.std.specs.Prelude.{IsSome, get_or}
use Rattle.ns_base.specs.Count.{Rose}
use Rattle.ns_base.specs.Files.{Files}
use Rattle.ns_base.specs.Shelf.{AnswersLoad, OnlyRead}
use Rattle.ns_base.specs.declared.no_memory.NoMemory.{NoMemory}
use Rattle.ns_base.specs.declared.shelf.ShelfFault.{ShelfFault}
use Rattle.ns_base.specs.declared.shelf.ShelfFault.TheVariants as shelf
use Rattle.ns_run_outcome.specs.Outcome.{IsEnding, IsMissing}
use Rattle.ns_run_outcome.specs.Stated.{Reports}
use Rattle.ns_run_outcome.specs.declared.report.Report.{Report}
use Rattle.ns_run_outcome.specs.declared.stop.Stop.{Stop}
use Rattle.ns_run_outcome.specs.declared.stop.Stop.TheVariants as stop
use Rattle.ns_run_outcome.specs.laws.Plain.{made_so, some_of, stop_keeps}
use Rattle.ns_run_words.specs.Named.{OfSomeName, OfSomeTexts}

-- What is so of what is there.
pub of_answer : {X : Type 0} (o : Option X) (x : X) (P : X → Type 0) → o ≡ Some x → IfSome o P → P x
of_answer o x P e h = subst (λ q. IfSome q P) e h

-- ---- texts that decide nothing

-- No text for each name.
pub empty_texts : (names : List (List ℕ)) → OfSomeTexts names (λ texts. Unit {0})
empty_texts [] = ([], refl, tt)
empty_texts (name ∷ names) = let t : OfSomeTexts names (λ texts. Unit {0}) = empty_texts names in (None ∷ t.0, omega (arith, t.1), tt)

-- Where the texts decide nothing, none need be there.
pub whatever_texts : (names : List (List ℕ)) (P : Type 0) → P → OfSomeTexts names (λ texts. P)
whatever_texts names P h = let t : OfSomeTexts names (λ texts. Unit {0}) = empty_texts names in (t.0, t.1, h)

-- ---- parts without a report

-- Want of memory says nothing of the files.
pub no_memory_reports : {S : Type 0} (holds : S → Option Files) (misses faults store_faults : S → ℕ) (old new : S) (names : List (List ℕ)) (meant : List (Option (List ℕ)) → Report)
    → OnlyRead holds misses faults store_faults old new → Reports holds misses faults store_faults old new names meant (Err stop.Memory)
no_memory_reports holds misses faults store_faults old new names meant read = record {
  told = λ files e. tt;
  texts = whatever_texts names (Unit {0}) tt;
  ending = tt;
  only_read = read;
  read_fault = λ e. absurd (cc (e));
  read_fault_there = λ files e f. absurd (cc (f));
  missing = tt;
}

-- A file couldn't be read.
pub unread_reports : {S : Type 0} (holds : S → Option Files) (misses faults store_faults : S → ℕ) (old new : S) (names : List (List ℕ)) (meant : List (Option (List ℕ)) → Report)
    → OnlyRead holds misses faults store_faults old new → Rose (faults old) (faults new) → ((files : Files) → holds old ≡ Some files → OfSomeName names (λ file. IsSome (files file)))
    → Reports holds misses faults store_faults old new names meant (Err stop.ReadFault)
unread_reports holds misses faults store_faults old new names meant read rose there = record {
  told = λ files e. tt;
  texts = whatever_texts names (Unit {0}) tt;
  ending = tt;
  only_read = read;
  read_fault = λ e. rose;
  read_fault_there = λ files e f. there files e;
  missing = tt;
}

-- ---- parts that read no file

no_name : {X : Type 0} (P : List ℕ → Type 0) → OfSomeName [] P → X
no_name P (k, s) = absurd s

-- The report is this one, whatever the files are.
pub fixed_reports : {S : Type 0} (holds : S → Option Files) (misses faults store_faults : S → ℕ) (same : S) (report : Report) (result : Result Report Stop)
    → IfOk result (λ r. r ≡ report) → IfOk result (λ r. IsEnding r.status) → (IsErrOf result stop.ReadFault → ⊥)
    → Reports holds misses faults store_faults same same [] (λ texts. report) result
fixed_reports holds misses faults store_faults same report (Ok r) is ends no_fault = record {
  told = λ files e. is;
  texts = ([], refl, is);
  ending = ends;
  only_read = (refl, refl, omega arith, omega arith);
  read_fault = λ e. absurd (no_fault e);
  read_fault_there = λ files e f. absurd (no_fault f);
  missing = λ some. no_name (λ file. IsMissing file r) some;
}
fixed_reports holds misses faults store_faults same report (Err why) is ends no_fault = record {
  told = λ files e. tt;
  texts = ([], refl, tt);
  ending = tt;
  only_read = (refl, refl, omega arith, omega arith);
  read_fault = λ e. absurd (no_fault e);
  read_fault_there = λ files e f. absurd (no_fault f);
  missing = tt;
}

-- What takes no more than memory isn't stopped by a file that couldn't be read.
pub never_unread : (made : Result Report NoMemory) (result : Result Report Stop) → MatchResult made (λ r. result ≡ Ok r) (λ _. result ≡ Err stop.Memory)
    → IsErrOf result stop.ReadFault → ⊥
never_unread (Ok r) result kept f = cc (kept, f)
never_unread (Err why) result kept f = cc (kept, f)

-- So it is of a report that takes no more than memory.
pub made_reports : {S : Type 0} (holds : S → Option Files) (misses faults store_faults : S → ℕ) (same : S) (report : Report) (made : Result Report NoMemory) (result : Result Report Stop)
    → MatchResult made (λ r. result ≡ Ok r) (λ _. result ≡ Err stop.Memory) → IfOk made (λ r. r ≡ report) → IsEnding report.status
    → Reports holds misses faults store_faults same same [] (λ texts. report) result
made_reports holds misses faults store_faults same report made result kept is ends =
    fixed_reports holds misses faults store_faults same report result (stop_keeps made result (λ r. r ≡ report) kept is)
    (stop_keeps made result (λ r. IsEnding r.status) kept (each made is)) (never_unread made result kept)
  where
    each : (made : Result Report NoMemory) → IfOk made (λ r. r ≡ report) → IfOk made (λ r. IsEnding r.status)
    each (Ok r) e = subst (λ (q : Report). IsEnding q.status) (sym e) ends
    each (Err why) e = tt

-- ---- parts that read one file

-- The one file isn't there, and the report says what is done without it.
pub missing_reports :
    {S : Type 0} (holds : S → Option Files) (misses faults store_faults : S → ℕ) (old new : S) (name : List ℕ) (meant : List (Option (List ℕ)) → Report) (made : Result Report NoMemory) (result : Result Report Stop) →
    OnlyRead holds misses faults store_faults old new → MatchResult made (λ r. result ≡ Ok r) (λ _. result ≡ Err stop.Memory) → IfOk made (λ r. r ≡ meant (None ∷ []))
    → IsEnding (meant (None ∷ [])).status → ((files : Files) → holds old ≡ Some files → files name ≡ None) → Rose (misses old) (misses new)
    → Reports holds misses faults store_faults old new (name ∷ []) meant result
missing_reports holds misses faults store_faults old new name meant made result read kept is ends none rose = record {
  told = λ files e. made_so made result (λ r. r ≡ meant (files name ∷ [])) (meant (None ∷ [])) kept is (ap (λ text. meant (text ∷ [])) (sym (none files e)));
  texts = (None ∷ [], refl, made_so made result (λ r. r ≡ meant (None ∷ [])) (meant (None ∷ [])) kept is refl);
  ending = made_so made result (λ r. IsEnding r.status) (meant (None ∷ [])) kept is ends;
  only_read = read;
  read_fault = λ e. absurd (never_unread made result kept e);
  read_fault_there = λ files e f. absurd (never_unread made result kept f);
  missing = made_so made result (λ r. OfSomeName (name ∷ []) (λ file. IsMissing file r) → Rose (misses old) (misses new)) (meant (None ∷ [])) kept is (λ some. rose);
}

-- What a load answers of a file that isn't there, and of one that couldn't be read.
pub load_misses : (files : Files) (name : List ℕ) (most : ℕ) (fault : ShelfFault) → fault ≡ shelf.Missing → AnswersLoad files name most (Err fault) → files name ≡ None
load_misses files name most fault is told = subst (λ (f : ShelfFault). AnswersLoad files name most (Err f)) is told

pub load_fails : (files : Files) (name : List ℕ) (most : ℕ) (fault : ShelfFault) → fault ≡ shelf.Failed → AnswersLoad files name most (Err fault) →
    OfSomeName (name ∷ []) (λ file. IsSome (files file))
load_fails files name most fault is told = (zero, subst (λ (f : ShelfFault). AnswersLoad files name most (Err f)) is told)

-- What follows where any file is said to be missing, follows where one of these is.
pub any_missing : (names : List (List ℕ)) (P : Type 0) (result : Result Report Stop) → IfOk result (λ r. (name : List ℕ) → IsMissing name r → P)
    → IfOk result (λ r. OfSomeName names (λ file. IsMissing file r) → P)
any_missing names P (Ok r) h = λ some. some_of names (λ file. IsMissing file r) some h
any_missing names P (Err why) h = tt

-- What is so of some of one name is so of that.
pub one_name : {X : Type 0} (name : List ℕ) (P : List ℕ → Type 0) → OfSomeName (name ∷ []) P → (P name → X) → X
one_name name P (zero, s) f = f s
one_name name P (suc k, s) f = absurd s

-- The one name of a list.
pub one_of : {A : Type 0} (shown : A → List ℕ) (names : List A) (name : A) → length names ≡ 1 → name ≡ get_or names 0 name → shown name ∷ [] ≡ map shown names
one_of shown [] name one e = absurd (omega (arith, one))
one_of shown (x ∷ []) name one e = ap (λ n. shown n ∷ []) e
one_of shown (x ∷ y ∷ ys) name one e = absurd (omega (arith, one))

-- ---- the same, in other words

-- The same names and the same meaning.
pub same_reports : {S A : Type 0} (holds : S → Option Files) (misses faults store_faults : S → ℕ) (old new : S) (names : A → List (List ℕ)) (meant : A → List (Option (List ℕ)) → Report) (one other : A)
    (result : Result Report Stop) → one ≡ other → Reports holds misses faults store_faults old new (names one) (meant one) result → Reports holds misses faults store_faults old new (names other) (meant other) result
same_reports holds misses faults store_faults old new names meant one other result e h =
    subst (λ x. Reports holds misses faults store_faults old new (names x) (meant x) result) e h
