-- An image that is stored only where no other file stands.
use Rattle.std.proofs.Common.{◌≡◌, ◌≤◌, ◌+◌, ◌-◌, ◌^◌, min, ℕ, zero, suc, List, [], ◌∷◌, length, map, take, Bool, true, false, Option, Some, None, option_map, Result, Ok, Err, IfOk, IsErrOf, MatchResult, codes, cond, refl, sym, ap, subst, ◌∙◌, arith}
use Rattle.std.proofs.Math.Nat.{le-min, min-le_left, min-le_right}
use Rattle.std.specs.Option.{is_some}
use Rattle.std.specs.Prelude.{IsSome}
use Rattle.std.specs.Str.{bytes_eq}
use Rattle.ns_base.specs.Count.{Rose}
use Rattle.ns_base.specs.Files.{Files}
use Rattle.ns_base.specs.Shelf.{OnlyRead}
use Rattle.ns_base.specs.declared.no_memory.NoMemory.{NoMemory}
use Rattle.ns_run_files.specs.Guard.{Guards, guarded, of_built_to, of_front, of_storing, of_text_over}
use Rattle.ns_run_files.specs.Programs.{of_texts}
use Rattle.ns_run_files.specs.Task.{Builds}
use Rattle.ns_run_outcome.specs.Outcome.{IsEnding, IsMissing}
use Rattle.ns_run_outcome.specs.Report.{refused_file}
use Rattle.ns_run_outcome.specs.Stated.{Reports}
use Rattle.ns_run_outcome.specs.Store.{FileStored}
use Rattle.ns_run_outcome.specs.declared.report.Report.{Report}
use Rattle.ns_run_outcome.specs.declared.stop.Stop.{Stop}
use Rattle.ns_run_outcome.specs.declared.stop.Stop.TheVariants as stop
use Rattle.ns_run_outcome.specs.laws.Parts.{never_unread, whatever_texts}
use Rattle.ns_run_outcome.specs.laws.Plain.{file_plain, made_so, some_of}

-- ---- what is guarded

-- What stores nothing needs no guard.
pub stores_none : (name : List ℕ) (text : Option (List ℕ)) (report : Report) (o : Option FileStored) → is_some o ≡ false →
    report ≡ of_storing name text report o
stores_none name text report None h = refl
stores_none name text report (Some stored) h = absurd (cc (h))

pub stores_some : (name : List ℕ) (text : Option (List ℕ)) (report : Report) (o : Option FileStored) → is_some o ≡ true →
    of_text_over name text report ≡ of_storing name text report o
stores_some name text report None h = absurd (cc (h))
stores_some name text report (Some stored) h = refl

-- The first bytes that were loaded are those of the file.
pub front_over : (name : List ℕ) (text : Option (List ℕ)) (front : List ℕ) (report : Report) → option_map (take 4) text ≡ Some front →
    of_front name front report ≡ of_text_over name text report
front_over name None front report h = absurd (cc (h))
front_over name (Some bytes) front report h =
    let e : take 4 bytes ≡ front = cc (h) in ap (λ x. of_front name x report) (sym e)

pub front_ends : (name front : List ℕ) (report : Report) → IsEnding report.status → IsEnding (of_front name front report).status
front_ends name front report i =
    elim (bytes_eq front (codes "NSPK")) as (λ q. IsEnding (cond q report (refused_file name (codes "Exists"))).status) [
      | true ↦ i
      | false ↦ tt
    ]

pub front_says : (name front : List ℕ) (report : Report) (file : List ℕ) → IsMissing file (of_front name front report) → IsMissing file report
front_says name front report file =
    elim (bytes_eq front (codes "NSPK")) as (λ q. IsMissing file (cond q report (refused_file name (codes "Exists"))) → IsMissing file report) [
      | true ↦ λ m. m
      | false ↦ λ m. absurd ((file_plain name (codes "Exists") (λ front. refl)).says file m)
    ]

-- ---- what guards

module _ {S : Type 0} (holds : S → Option Files) (misses faults store_faults : S → ℕ) where
  -- Nothing is read, and the report stands.
  pub same_guards : (same : S) (name : List ℕ) (report : Report) → is_some report.stored ≡ false → Guards holds misses faults store_faults same same name report (Ok report)
  same_guards same name report none = record {
    told = λ files e. stores_none name (files name) report report.stored none;
    texts = (None, stores_none name None report report.stored none);
    ending = λ i. i;
    only_read = (refl, refl, omega arith, omega arith);
    read_fault = λ e. absurd (cc (e));
    read_fault_there = λ files e f. absurd (cc (f));
    missing = λ file m. m;
  }

  -- There is no such file, and the report stands.
  pub missing_guards : (old new : S) (name : List ℕ) (report : Report) → OnlyRead holds misses faults store_faults old new → is_some report.stored ≡ true
      → ((files : Files) → holds old ≡ Some files → files name ≡ None) → Guards holds misses faults store_faults old new name report (Ok report)
  missing_guards old new name report read some none = record {
    told = λ files e. ap (λ text. of_text_over name text report) (sym (none files e)) ∙ stores_some name (files name) report report.stored some;
    texts = (None, stores_some name None report report.stored some);
    ending = λ i. i;
    only_read = read;
    read_fault = λ e. absurd (cc (e));
    read_fault_there = λ files e f. absurd (cc (f));
    missing = λ file m. m;
  }

  -- The file couldn't be read.
  pub unread_guards : (old new : S) (name : List ℕ) (report : Report) → OnlyRead holds misses faults store_faults old new → Rose (faults old) (faults new)
      → ((files : Files) → holds old ≡ Some files → IsSome (files name)) → Guards holds misses faults store_faults old new name report (Err stop.ReadFault)
  unread_guards old new name report read rose there = record {
    told = λ files e. tt;
    texts = (None, tt);
    ending = λ i. tt;
    only_read = read;
    read_fault = λ e. rose;
    read_fault_there = λ files e f. there files e;
    missing = tt;
  }

  pub no_memory_guards : (old new : S) (name : List ℕ) (report : Report) → OnlyRead holds misses faults store_faults old new
      → Guards holds misses faults store_faults old new name report (Err stop.Memory)
  no_memory_guards old new name report read = record {
    told = λ files e. tt;
    texts = (None, tt);
    ending = λ i. tt;
    only_read = read;
    read_fault = λ e. absurd (cc (e));
    read_fault_there = λ files e f. absurd (cc (f));
    missing = tt;
  }

  -- The file begins so.
  pub front_guards : (old new : S) (name front : List ℕ) (report : Report) (made : Result Report NoMemory) (result : Result Report Stop)
      → OnlyRead holds misses faults store_faults old new → is_some report.stored ≡ true → MatchResult made (λ r. result ≡ Ok r) (λ _. result ≡ Err stop.Memory)
      → IfOk made (λ r. r ≡ of_front name front report) → take 4 front ≡ front
      → ((files : Files) → holds old ≡ Some files → option_map (take 4) (files name) ≡ Some front) → Guards holds misses faults store_faults old new name report result
  front_guards old new name front report made result read some kept is whole told = record {
    told = λ files e.
        made_so made result (λ r. r ≡ guarded name (files name) report) (of_front name front report) kept is
        (front_over name (files name) front report (told files e) ∙ stores_some name (files name) report report.stored some);
    texts = (
      Some front,
      made_so made result (λ r. r ≡ guarded name (Some front) report) (of_front name front report) kept is
          (front_over name (Some front) front report (ap Some whole) ∙ stores_some name (Some front) report report.stored some),
    );
    ending = λ i. made_so made result (λ r. IsEnding r.status) (of_front name front report) kept is (front_ends name front report i);
    only_read = read;
    read_fault = λ e. absurd (never_unread made result kept e);
    read_fault_there = λ files e f. absurd (never_unread made result kept f);
    missing = made_so made result (λ r. (file : List ℕ) → IsMissing file r → IsMissing file report) (of_front name front report) kept is (front_says name front report);
  }

  -- ---- a program that is built behind a guard

  -- A count that rose, and didn't fall then, rose.
  rose_on : (a b c : ℕ) → Rose a b → b ≤ c → Rose a c
  rose_on a b c r l = omega (arith, r, l)

  rose_late : (a b c : ℕ) → a ≤ b → Rose b c → Rose a c
  rose_late a b c l r = omega (arith, no_less (2 ^ 64 - 1), r)
    where
      no_less : (m : ℕ) → min (a + 1) m ≤ min (b + 1) m
      no_less m = le-min (omega (arith, min-le_left (a + 1) m, l)) (min-le_right (a + 1) m)

  -- The program has a report, which is guarded.
  pub guarded_reports : (lib : Bool) (image : List ℕ) (names : List (List ℕ)) (old mid new : S) (report : Report) (result : Result Report Stop)
      → Reports holds misses faults store_faults old mid names (of_texts (Builds image) names lib) (Ok report)
      → ((name : List ℕ) → IsMissing name report → Rose (misses old) (misses mid))
      → Guards holds misses faults store_faults mid new image report result
      → Reports holds misses faults store_faults old new (image ∷ names) (of_built_to lib image names) result
  guarded_reports lib image names old mid new report (Ok made) r m g = record {
    told = λ files e. g.told files (r.only_read.0 ∙ e) ∙ ap (guarded image (files image)) (r.told files e);
    texts = (g.texts.0 ∷ r.texts.0, omega (arith, r.texts.1), g.texts.1 ∙ ap (guarded image g.texts.0) r.texts.2);
    ending = g.ending r.ending;
    only_read = (g.only_read.0 ∙ r.only_read.0, g.only_read.1 ∙ r.only_read.1, omega (arith, r.only_read.2, g.only_read.2), omega (arith, r.only_read.3, g.only_read.3));
    read_fault = λ e. rose_late (faults old) (faults mid) (faults new) r.only_read.3 (g.read_fault e);
    read_fault_there = λ files e f. (zero, g.read_fault_there files (r.only_read.0 ∙ e) f);
    missing = λ some. some_of (image ∷ names) (λ file. IsMissing file made) some (λ name i. rose_on (misses old) (misses mid) (misses new) (m name (g.missing name i)) g.only_read.2);
  }
  guarded_reports lib image names old mid new report (Err why) r m g = record {
    told = λ files e. tt;
    texts = whatever_texts (image ∷ names) (Unit {0}) tt;
    ending = tt;
    only_read = (g.only_read.0 ∙ r.only_read.0, g.only_read.1 ∙ r.only_read.1, omega (arith, r.only_read.2, g.only_read.2), omega (arith, r.only_read.3, g.only_read.3));
    read_fault = λ e. rose_late (faults old) (faults mid) (faults new) r.only_read.3 (g.read_fault e);
    read_fault_there = λ files e f. (zero, g.read_fault_there files (r.only_read.0 ∙ e) f);
    missing = tt;
  }

  -- The program has no report.
  pub stopped_reports : (lib : Bool) (image : List ℕ) (names : List (List ℕ)) (old new : S) (why : Stop)
      → Reports holds misses faults store_faults old new names (of_texts (Builds image) names lib) (Err why)
      → Reports holds misses faults store_faults old new (image ∷ names) (of_built_to lib image names) (Err why)
  stopped_reports lib image names old new why r = record {
    told = λ files e. tt;
    texts = whatever_texts (image ∷ names) (Unit {0}) tt;
    ending = tt;
    only_read = r.only_read;
    read_fault = r.read_fault;
    read_fault_there = λ files e f. let some = r.read_fault_there files e f in (suc some.0, some.1);
    missing = tt;
  }
