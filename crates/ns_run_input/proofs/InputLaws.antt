-- Code that is run with inputs.
use Rattle.std.proofs.Common.{Bool, ◌≡◌, ◌≤◌, ◌<◌, ◌+◌, ◌-◌, ℕ, zero, suc, List, [], ◌∷◌, ◌++◌, drop, length, map, take, nat_lt, cond, true, false, Option, Some, None, option_map, Result, Ok, Err, IfOk, IfSome, IsErrOf, MatchResult, codes, refl, sym, ap, subst, ◌∙◌, arith}
use Rattle.std.proofs.lemmas.List.{take_all}
use Rattle.std.specs.Prelude.{IsSome, get_or}
use Rattle.ns_base.specs.Count.{Rose}
use Rattle.ns_base.specs.Files.{Files}
use Rattle.ns_base.specs.Shelf.{OnlyRead}
use Rattle.ns_base.specs.declared.limits.Limits.{Limits}
use Rattle.ns_base.specs.declared.no_memory.NoMemory.{NoMemory}
use Rattle.ns_code.specs.declared.program.CodeProgram.{CodeProgram}
use Rattle.ns_json.specs.declared.saying.Run.{Run}
use Rattle.ns_json.specs.declared.saying.Trace.{Trace}
use Rattle.ns_moves.specs.State.{ending_of}
use Rattle.ns_run_code.specs.Machine.{begins_with, end_of, machine_run, rested}
use Rattle.ns_run_code.specs.declared.run.Ran.{Ran}
use Rattle.ns_run_input.specs.Input.{InputRead, asked, code_report, input_of, kept_for, measured, parts_of, read_then, reads, refuses, seen, lines_of, trace_of, traced_report, with_inputs}
use Rattle.ns_run_input.specs.Stated.{MayRefuse, ReadsInput}
use Rattle.ns_run_input.specs.declared.task.Input as inputs
use Rattle.ns_run_input.specs.declared.task.Input.TheVariants as input
use Rattle.ns_run_input.specs.laws.Behind.{rose_late}
use Rattle.ns_run_outcome.specs.Outcome.{IsMissing}
use Rattle.ns_run_outcome.specs.Report.{refused_file}
use Rattle.ns_run_outcome.specs.Run.{run_report}
use Rattle.ns_run_outcome.specs.Stated.{Reports}
use Rattle.ns_run_outcome.specs.declared.report.Report.{Report}
use Rattle.ns_run_outcome.specs.declared.run.Telling.{Telling}
use Rattle.ns_run_outcome.specs.declared.stop.Stop.{Stop}
use Rattle.ns_run_outcome.specs.declared.stop.Stop.TheVariants as stop
use Rattle.ns_run_outcome.specs.laws.Cut.{cut_same}
use Rattle.ns_run_outcome.specs.laws.Parts.{any_missing, empty_texts}
use Rattle.ns_run_outcome.specs.laws.Plain.{IsPlain, file_plain, run_plain, some_of}
use Rattle.ns_run_words.specs.Options.{onto_names, texts_among, value_behind}
use Rattle.ns_run_told.specs.Told.{code_told}
use Rattle.ns_run_trace.specs.Trace.{code_trace}
use Rattle.ns_run_words.specs.Named.{OfSomeTexts}

-- ---- options

pub no_options : {A : Type 0} (shown : A → List ℕ) (options : List A) → length options < 1 → [] ≡ texts_among (map shown options)
no_options shown [] none = refl
no_options shown (x ∷ xs) none = absurd (omega (arith, none))

-- What the first option names, in front of what the others name.
pub texts_of :
    {A : Type 0} (shown : A → List ℕ) (options : List A) (first : A) (word : List ℕ) (named : Option (List ℕ)) → 1 ≤ length options → first ≡ get_or options 0 first → word ≡ shown first →
    named ≡ value_behind (codes "--text=") word → onto_names named (texts_among (map shown (take (length options - 1) (drop 1 options)))) ≡ texts_among (map shown options)
texts_of shown [] first word named some is called value = absurd (omega (arith, some))
texts_of shown (x ∷ xs) first word named some is called value =
    let all : take (length (x ∷ xs) - 1) xs ≡ xs = take_all (length (x ∷ xs) - 1) xs (omega arith) in
    ap (λ rest. onto_names named (texts_among (map shown rest))) all
    ∙ ap (λ name. onto_names name (texts_among (map shown xs))) (value ∙ ap (value_behind (codes "--text=")) (called ∙ ap shown is))

-- ---- the run

-- The report of a run ends as one may, and doesn't say that a file isn't there.
pub code_plain : (telling : Telling) (limits : Limits) (code : CodeProgram) (arguments : List (List ℕ)) → IsPlain (code_report telling limits code arguments)
code_plain telling limits code arguments =
    run_plain telling limits (machine_run code limits arguments) (lines_of (trace_of telling code limits arguments))
    (trace_of telling code limits arguments) (parts_of telling code limits arguments) (end_of (ending_of (rested code (begins_with code limits arguments)))) refl

-- What holds of the code holds of the code that is kept.
pub kept_so : (traced : Bool) (code : CodeProgram) (kept : Option CodeProgram) (P : CodeProgram → Type 0) → kept ≡ kept_for traced code → P code → IfSome kept P
kept_so false code kept P is holds = subst (λ (q : Option CodeProgram). IfSome q P) (sym is) tt
kept_so true code kept P is holds = subst (λ (q : Option CodeProgram). IfSome q P) (sym is) holds

-- The report that is made of a run, of its trace and of its parts.
pub report_made :
    (telling : Telling) (limits : Limits) (code : CodeProgram) (arguments : List (List ℕ)) (ran : Ran) (parts : Run) (again : Option CodeProgram)
    (trace : Option Trace) (lines : List ℕ) (told : Option Run) → ran ≡ machine_run code limits arguments → parts ≡ code_told code limits arguments →
    again ≡ kept_for telling.trace code → trace ≡ option_map (λ (each : CodeProgram). code_trace each limits arguments) again →
    lines ≡ lines_of trace → told ≡ asked telling.json parts → run_report telling limits ran lines trace told ≡ code_report telling limits code arguments
report_made telling limits code arguments ran parts again trace lines told is same kept traced lined asks =
    ap (λ each. run_report telling limits ran each trace told) lined
    ∙ ap (λ each. traced_report telling limits each trace told) is
    ∙ ap (λ each. traced_report telling limits (machine_run code limits arguments) each told)
    (traced ∙ ap (option_map (λ (each : CodeProgram). code_trace each limits arguments)) kept)
    ∙ ap (λ each. traced_report telling limits (machine_run code limits arguments) (trace_of telling code limits arguments) each)
    (asks ∙ ap (asked telling.json) same)

-- ---- one input

-- What is read of the bytes that were loaded is read of the file.
pub input_cut : (name : List ℕ) (text : Option (List ℕ)) (bytes : List ℕ) → option_map (take 1048577) text ≡ Some bytes → measured name bytes ≡ input_of name text
input_cut name None bytes h = absurd (cc (h))
input_cut name (Some whole) bytes h =
    let e : take 1048577 whole ≡ bytes = cc (h) in
    ap (measured name) (sym e) ∙ cut_same 1048576 whole (refuses (refused_file name (codes "TooLong"))) reads

pub may_be_long : (P : Type 0) (name bytes : List ℕ) → MayRefuse P (measured name bytes)
may_be_long P name bytes =
    elim (nat_lt 1048576 (length bytes)) as (λ q. MayRefuse P (cond q (refuses (refused_file name (codes "TooLong"))) (reads bytes))) [
      | true ↦ (tt, λ file m. absurd ((file_plain name (codes "TooLong") (λ front. refl)).says file m))
      | false ↦ tt
    ]

pub refused_so : (made : Result Report NoMemory) (result : Result inputs.Input Stop) (report : Report) →
    MatchResult made (λ r. result ≡ Ok (input.Refused r)) (λ _. result ≡ Err stop.Memory) → IfOk made (λ r. r ≡ report)
    → IfOk result (λ input. seen input ≡ refuses report)
refused_so (Ok r) result report kept is =
    subst (λ (q : Result inputs.Input Stop). IfOk q (λ input. seen input ≡ refuses report)) (sym kept) (ap refuses is)
refused_so (Err why) result report kept is =
    subst (λ (q : Result inputs.Input Stop). IfOk q (λ input. seen input ≡ refuses report)) (sym kept) tt

pub never_unread : (made : Result Report NoMemory) (result : Result inputs.Input Stop) →
    MatchResult made (λ r. result ≡ Ok (input.Refused r)) (λ _. result ≡ Err stop.Memory) → IsErrOf result stop.ReadFault → ⊥
never_unread (Ok r) result kept f = cc (kept, f)
never_unread (Err why) result kept f = cc (kept, f)

module _ {S : Type 0} (holds : S → Option Files) (misses faults store_faults : S → ℕ) where
  -- This is read of the file, if memory is found.
  pub input_reads :
      (old new : S) (name : List ℕ) (text : Option (List ℕ)) (is : InputRead) (result : Result inputs.Input Stop) → OnlyRead holds misses faults store_faults old new →
      (IsErrOf result stop.ReadFault → ⊥) → IfOk result (λ input. seen input ≡ is) → MayRefuse (Rose (misses old) (misses new)) is
      → ((files : Files) → holds old ≡ Some files → is ≡ input_of name (files name)) → is ≡ input_of name text → ReadsInput holds misses faults store_faults old new name result
  input_reads old new name text is (Ok one) read no_fault same may told whole = record {
    told = λ files e. same ∙ told files e;
    texts = (text, same ∙ whole);
    refusal = subst (MayRefuse (Rose (misses old) (misses new))) (sym same) may;
    only_read = read;
    read_fault = λ e. absurd (no_fault e);
    read_fault_there = λ files e f. absurd (no_fault f);
  }
  input_reads old new name text is (Err why) read no_fault same may told whole = record {
    told = λ files e. tt;
    texts = (text, tt);
    refusal = tt;
    only_read = read;
    read_fault = λ e. absurd (no_fault e);
    read_fault_there = λ files e f. absurd (no_fault f);
  }

  -- The file couldn't be read.
  pub unread_input : (old new : S) (name : List ℕ) → OnlyRead holds misses faults store_faults old new → Rose (faults old) (faults new)
      → ((files : Files) → holds old ≡ Some files → IsSome (files name)) → ReadsInput holds misses faults store_faults old new name (Err stop.ReadFault)
  unread_input old new name read rose there = record {
    told = λ files e. tt;
    texts = (None, tt);
    refusal = tt;
    only_read = read;
    read_fault = λ e. rose;
    read_fault_there = λ files e f. there files e;
  }

  -- Want of memory says nothing of the file.
  pub no_memory_input : (old new : S) (name : List ℕ) → OnlyRead holds misses faults store_faults old new
      → ReadsInput holds misses faults store_faults old new name (Err stop.Memory)
  no_memory_input old new name read = record {
    told = λ files e. tt;
    texts = (None, tt);
    refusal = tt;
    only_read = read;
    read_fault = λ e. absurd (cc (e));
    read_fault_there = λ files e f. absurd (cc (f));
  }

  -- ---- all inputs

  -- An input was read, and what is behind it is reported.
  pub read_reports :
      (old mid new : S) (run : List (List ℕ) → Report) (arguments names : List (List ℕ)) (name text : List ℕ) (one : inputs.Input) (result : Result Report Stop) → seen one ≡ reads text →
      ReadsInput holds misses faults store_faults old mid name (Ok one) → Reports holds misses faults store_faults mid new names (with_inputs run (arguments ++ text ∷ []) names) result
      → IfOk result (λ r. (file : List ℕ) → IsMissing file r → Rose (misses mid) (misses new))
      → Reports holds misses faults store_faults old new (name ∷ names) (with_inputs run arguments (name ∷ names)) result
  read_reports old mid new run arguments names name text one (Ok r) is read h missing = record {
    told = λ files e. h.told files (read.only_read.0 ∙ e)
        ∙ ap (read_then (λ each. with_inputs run (arguments ++ each ∷ []) names (map files names))) (sym is ∙ read.told files e);
    texts = (
      read.texts.0 ∷ h.texts.0,
      omega (arith, h.texts.1),
      h.texts.2 ∙ ap (read_then (λ each. with_inputs run (arguments ++ each ∷ []) names h.texts.0)) (sym is ∙ read.texts.1),
    );
    ending = h.ending;
    only_read = (h.only_read.0 ∙ read.only_read.0, h.only_read.1 ∙ read.only_read.1, omega (arith, read.only_read.2, h.only_read.2), omega (arith, read.only_read.3, h.only_read.3));
    read_fault = λ e. rose_late (faults old) (faults mid) (faults new) read.only_read.3 (h.read_fault e);
    read_fault_there = λ files e f. let some = h.read_fault_there files (read.only_read.0 ∙ e) f in (suc some.0, some.1);
    missing = any_missing (name ∷ names) _ (Ok r) (λ file m. rose_late (misses old) (misses mid) (misses new) read.only_read.2 (missing file m));
  }
  read_reports old mid new run arguments names name text one (Err why) is read h missing = record {
    told = λ files e. tt;
    texts = empty_texts (name ∷ names);
    ending = tt;
    only_read = (h.only_read.0 ∙ read.only_read.0, h.only_read.1 ∙ read.only_read.1, omega (arith, read.only_read.2, h.only_read.2), omega (arith, read.only_read.3, h.only_read.3));
    read_fault = λ e. rose_late (faults old) (faults mid) (faults new) read.only_read.3 (h.read_fault e);
    read_fault_there = λ files e f. let some = h.read_fault_there files (read.only_read.0 ∙ e) f in (suc some.0, some.1);
    missing = tt;
  }

  -- An input was refused.
  pub refusal_reports :
      (old new : S) (run : List (List ℕ) → Report) (arguments names : List (List ℕ)) (name : List ℕ) (one : inputs.Input) (report : Report) → seen one ≡ refuses report →
      ReadsInput holds misses faults store_faults old new name (Ok one)
      → Reports holds misses faults store_faults old new (name ∷ names) (with_inputs run arguments (name ∷ names)) (Ok report)
  refusal_reports old new run arguments names name one report is read =
      let may : MayRefuse (Rose (misses old) (misses new)) (refuses report) = subst (MayRefuse (Rose (misses old) (misses new))) is read.refusal in
      let empty : OfSomeTexts names (λ texts. Unit {0}) = empty_texts names in
      record {
        told = λ files e. ap (read_then (λ each. with_inputs run (arguments ++ each ∷ []) names (map files names))) (sym is ∙ read.told files e);
        texts = (
          read.texts.0 ∷ empty.0,
          omega (arith, empty.1),
          ap (read_then (λ each. with_inputs run (arguments ++ each ∷ []) names empty.0)) (sym is ∙ read.texts.1),
        );
        ending = may.0;
        only_read = read.only_read;
        read_fault = λ e. absurd (cc (e));
        read_fault_there = λ files e f. absurd (cc (f));
        missing = λ some. some_of (name ∷ names) (λ file. IsMissing file report) some may.1;
      }

  -- So a file is said to be missing only where the count of such files rose.
  pub refusal_missing : (old new : S) (name : List ℕ) (one : inputs.Input) (report : Report) → seen one ≡ refuses report →
      ReadsInput holds misses faults store_faults old new name (Ok one) → (file : List ℕ) → IsMissing file report → Rose (misses old) (misses new)
  refusal_missing old new name one report is read =
      let may : MayRefuse (Rose (misses old) (misses new)) (refuses report) = subst (MayRefuse (Rose (misses old) (misses new))) is read.refusal in may.1

  -- There is nothing of an input.
  pub stop_reports : (old new : S) (run : List (List ℕ) → Report) (arguments names : List (List ℕ)) (name : List ℕ) (why : Stop)
      → ReadsInput holds misses faults store_faults old new name (Err why)
      → Reports holds misses faults store_faults old new (name ∷ names) (with_inputs run arguments (name ∷ names)) (Err why)
  stop_reports old new run arguments names name why read = record {
    told = λ files e. tt;
    texts = empty_texts (name ∷ names);
    ending = tt;
    only_read = read.only_read;
    read_fault = λ e. read.read_fault (unread e);
    read_fault_there = λ files e f. (zero, read.read_fault_there files e (unread f));
    missing = tt;
  }
    where
      unread : IsErrOf {T = Report} (Err why) stop.ReadFault → IsErrOf {T = inputs.Input} (Err why) stop.ReadFault
      unread e = let is : why ≡ stop.ReadFault = cc (e) in ap Err is
