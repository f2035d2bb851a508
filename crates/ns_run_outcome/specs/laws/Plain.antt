-- What tells one report from another.
use Rattle.std.proofs.Common.{◌≡◌, ℕ, nat_eq, cond, List, [], ◌∷◌, ◌++◌, take, Bool, true, false, Option, Some, None, Result, Ok, Err, refl, sym, ap, subst, ◌∙◌, codes, IfOk, MatchResult, append_assoc, reverse}
use Rattle.std.specs.Prelude.{IsSomeAnd, slice_get}
use Rattle.std.specs.Fmt.{decimal}
use Rattle.std.specs.Str.{bytes_eq}
use Rattle.std.proofs.lemmas.List.{append_cancel_left, reverse-append}
use Rattle.ns_base.specs.declared.limits.Limits.{Limits}
use Rattle.ns_base.specs.declared.no_memory.NoMemory.{NoMemory}
use Rattle.ns_base.specs.declared.place.Place.{Place}
use Rattle.ns_base.specs.declared.status.Status.{Status}
use Rattle.ns_base.specs.declared.status.Status.TheVariants.{Refused}
use Rattle.ns_gen_code.specs.declared.size.SizeKind.{SizeKind}
use Rattle.ns_gen_code.specs.declared.size.SizeKind.TheVariants as size
use Rattle.ns_json.specs.declared.saying.Refused.TheVariants as what
use Rattle.ns_json.specs.declared.saying.Run.{Run}
use Rattle.ns_json.specs.declared.saying.Saying.{Saying}
use Rattle.ns_json.specs.declared.saying.Trace.{Trace}
use Rattle.ns_load.specs.declared.fault.SpellingCause.{SpellingCause}
use Rattle.ns_load.specs.declared.fault.SpellingCause.TheVariants as spelling
use Rattle.ns_model.specs.Whole.{status_of}
use Rattle.ns_run_code.specs.declared.run.Ran.{Ran}
use Rattle.ns_run_outcome.specs.Outcome.{IsEnding, IsMissing, missing_line}
use Rattle.ns_run_outcome.specs.Report.{checked, many_name, refusal, refusal_line, refused, refused_file, refused_size, refused_text, spelling_name, size_name, static_name, told}
use Rattle.ns_run_outcome.specs.Run.{run_report, status_told, true_line, untrue}
use Rattle.ns_run_outcome.specs.declared.report.Report.{Report}
use Rattle.ns_run_outcome.specs.declared.run.Telling.{Telling}
use Rattle.ns_run_outcome.specs.declared.stop.Stop.{Stop}
use Rattle.ns_run_outcome.specs.declared.stop.Stop.TheVariants as stop
use Rattle.ns_static_rules.specs.declared.fault.Many.{Many}
use Rattle.ns_static_rules.specs.declared.fault.Many.TheVariants as many
use Rattle.ns_static_rules.specs.declared.fault.StaticCause.{StaticCause}
use Rattle.ns_static_rules.specs.declared.fault.StaticCause.TheVariants as static
use Rattle.ns_run_words.specs.Named.{OfSomeName}
use Rattle.ns_world.specs.declared.ending.Ending.{Ending}
use Rattle.ns_world.specs.declared.ending.Ending.TheVariants as ending

-- What holds of a report holds of it behind `or_stop`.
pub stop_keeps : (made : Result Report NoMemory) (res : Result Report Stop) (P : Report → Type 0) →
    MatchResult made (λ r. res ≡ Ok r) (λ _. res ≡ Err stop.Memory) → IfOk made P → IfOk res P
stop_keeps (Ok r) res P h p = subst (λ q. IfOk q P) (sym h) p
stop_keeps (Err e) res P h p = subst (λ q. IfOk q P) (sym h) tt

-- ---- what no report but one says

-- the last five bytes of the line of a file that isn't there: `sing` and a line feed
abbrev pub missing_end : List ℕ
missing_end = 10 ∷ 103 ∷ 110 ∷ 105 ∷ 115 ∷ []

-- A line with another end is another line.
pub other_end : (front end_of line : List ℕ) → bytes_eq (take 5 (reverse end_of ++ reverse front)) missing_end ≡ false →
    line ≡ front ++ end_of → bytes_eq (take 5 (reverse line)) missing_end ≡ true → ⊥
other_end front end_of line d e t =
    let f : true ≡ false = sym t ∙ ap (λ x. bytes_eq (take 5 x) missing_end) (ap reverse e ∙ reverse-append front end_of) ∙ d in cc

pub missing_ends : (file : List ℕ) → bytes_eq (take 5 (reverse (missing_line file))) missing_end ≡ true
missing_ends file =
    ap (λ x. bytes_eq (take 5 (reverse x)) missing_end) (append_assoc (file ++ codes ": ") (codes "Missing") (10 ∷ []))
    ∙ ap (λ x. bytes_eq (take 5 x) missing_end) (reverse-append (file ++ codes ": ") (codes "Missing" ++ 10 ∷ []))

-- A refusal whose line ends otherwise doesn't say that the file isn't there.
pub not_this : (file front name : List ℕ) → bytes_eq (take 5 (reverse (name ++ 10 ∷ []) ++ reverse front)) missing_end ≡ false →
    (front ++ name) ++ 10 ∷ [] ≡ missing_line file → ⊥
not_this file front name d h =
    other_end front (name ++ 10 ∷ []) ((front ++ name) ++ 10 ∷ []) d (append_assoc front name (10 ∷ []))
    (ap (λ x. bytes_eq (take 5 (reverse x)) missing_end) h ∙ missing_ends file)

-- No line that ends with this name is that of a file that isn't there.
abbrev pub EndsOtherwise : List ℕ → Type 0
EndsOtherwise name = (front : List ℕ) → bytes_eq (take 5 (reverse (name ++ 10 ∷ []) ++ reverse front)) missing_end ≡ false

pub spelling_ends : (cause : SpellingCause) → EndsOtherwise (spelling_name cause)
spelling_ends spelling.BadByte = λ front. refl
spelling_ends spelling.UnclosedComment = λ front. refl
spelling_ends spelling.UnclosedString = λ front. refl
spelling_ends spelling.BigNumber = λ front. refl
spelling_ends spelling.TooDeep = λ front. refl
spelling_ends spelling.Syntax = λ front. refl

pub many_ends : (kind : Many) → EndsOtherwise (many_name kind)
many_ends many.Parameters = λ front. refl
many_ends many.Locals = λ front. refl
many_ends many.Elements = λ front. refl
many_ends many.Members = λ front. refl
many_ends many.Classes = λ front. refl

pub static_ends : (cause : StaticCause) → EndsOtherwise (static_name cause)
static_ends static.DuplicateMember = λ front. refl
static_ends static.DuplicateLocal = λ front. refl
static_ends static.FixedLocal = λ front. refl
static_ends static.BadReturn = λ front. refl
static_ends static.BareReceiver = λ front. refl
static_ends static.NoSuchOuter = λ front. refl
static_ends static.BadCascade = λ front. refl
static_ends static.PlainTooLarge = λ front. refl
static_ends (static.TooMany kind) = many_ends kind
static_ends static.TopSuper = λ front. refl
static_ends static.DuplicateTop = λ front. refl

-- ---- reports that end as one may, and don't say that a file isn't there

pub record IsPlain (report : Report) : Type 0 where
  pub ends : IsEnding report.status
  pub says : (name : List ℕ) → IsMissing name report → ⊥

pub told_plain : (text : List ℕ) → IsPlain (told text)
told_plain text = record { ends = tt; says = λ name m. cc (m.0) }

pub checked_plain : IsPlain checked
checked_plain = record { ends = tt; says = λ name m. cc (m.0) }

pub line_plain : (parts : Option Saying) (of cause : List ℕ) → EndsOtherwise cause → IsPlain (refused parts (refusal_line of cause))
line_plain parts of cause e = record { ends = tt; says = λ name m. not_this name (of ++ codes ": ") cause (e (of ++ codes ": ")) m.1 }

pub file_plain : (file cause : List ℕ) → EndsOtherwise cause → IsPlain (refused_file file cause)
file_plain file cause e = line_plain (refusal cause (what.File file)) file cause e

pub size_plain : (cause : List ℕ) → EndsOtherwise cause → IsPlain (refused_size cause)
size_plain cause e = line_plain (refusal cause what.Program) (codes "nspk") cause e

pub text_plain : (file : List ℕ) (place : Place) (cause : List ℕ) → EndsOtherwise cause → IsPlain (refused_text file place cause)
text_plain file place cause e =
    let front = file ++ codes ":" ++ decimal place.line ++ codes ":" ++ decimal place.col ++ codes ": " in
    record { ends = tt; says = λ name m. not_this name front cause (e front) m.1 }

pub size_ends : (kind : SizeKind) → EndsOtherwise (size_name kind)
size_ends size.Names = λ front. refl
size_ends size.Bodies = λ front. refl
size_ends size.Code = λ front. refl
size_ends size.Height = λ front. refl

-- A report with such a status is plain.
pub status_plain : (report : Report) → IsEnding report.status → (report.status ≡ Refused → ⊥) → IsPlain report
status_plain report ends refuses = record { ends = ends; says = λ name m. refuses m.0 }

-- ---- runs

-- A status that isn't that of a refusal.
pub record Ended (status : Status) : Type 0 where
  pub ends : IsEnding status
  pub refuses_none : status ≡ Refused → ⊥

untrue_ended : (e : Ending) → Ended (untrue (status_of e))
untrue_ended (ending.Done value) = record { ends = tt; refuses_none = λ h. cc (h) }
untrue_ended (ending.Error error) = record { ends = tt; refuses_none = λ h. cc (h) }
untrue_ended (ending.Limit limit) = record { ends = tt; refuses_none = λ h. cc (h) }

ending_ended : (e : Ending) → Ended (status_of e)
ending_ended (ending.Done value) = record { ends = tt; refuses_none = λ h. cc (h) }
ending_ended (ending.Error error) = record { ends = tt; refuses_none = λ h. cc (h) }
ending_ended (ending.Limit limit) = record { ends = tt; refuses_none = λ h. cc (h) }

told_ended : (truth : Bool) (line : List ℕ) (e : Ending) → Ended (status_told truth line (status_of e))
told_ended false line e = ending_ended e
told_ended true line e =
    elim (bytes_eq line true_line) as (λ q. Ended (cond q (status_of e) (untrue (status_of e)))) [
      | true ↦ ending_ended e
      | false ↦ untrue_ended e
    ]

-- A report with the status of an ending refuses nothing.
pub ending_plain : (report : Report) (e : Ending) → report.status ≡ status_of e → IsPlain report
ending_plain report e h =
    let ended : Ended report.status = subst Ended (sym h) (ending_ended e) in status_plain report ended.ends ended.refuses_none

-- Nor does the report of a run.
pub run_plain : (telling : Telling) (limits : Limits) (ran : Ran) (lines : List ℕ) (trace : Option Trace) (parts : Option Run) (e : Ending) →
    ran.status ≡ status_of e → IsPlain (run_report telling limits ran lines trace parts)
run_plain telling limits ran lines trace parts e h =
    let ended : Ended (status_told telling.truth ran.line ran.status) =
    subst (λ s. Ended (status_told telling.truth ran.line s)) (sym h) (told_ended telling.truth ran.line e)
    in
    status_plain (run_report telling limits ran lines trace parts) ended.ends ended.refuses_none

-- ---- a report that ends as one may, and doesn't say that this file isn't there

pub record IsPlainFor (name : List ℕ) (report : Report) : Type 0 where
  pub ends : IsEnding report.status
  pub says : IsMissing name report → ⊥

-- Whether a text begins as the cause of a file that isn't there.
abbrev pub begins_so : List ℕ → Bool
begins_so [] = false
begins_so (b ∷ bs) = nat_eq b 77

-- Behind one name, equal lines have equal causes.
pub same_cause : (file one other : List ℕ) → (refused_file file one).err ≡ (refused_file file other).err → one ++ 10 ∷ [] ≡ other ++ 10 ∷ []
same_cause file one other h =
    let front = file ++ codes ": " in
    append_cancel_left front (one ++ 10 ∷ []) (other ++ 10 ∷ []) (sym (append_assoc front one (10 ∷ [])) ∙ h ∙ append_assoc front other (10 ∷ []))

pub line_plain_for : (parts : Option Saying) (file why : List ℕ) → begins_so (why ++ 10 ∷ []) ≡ false
    → IsPlainFor file (refused parts (refusal_line file why))
line_plain_for parts file why b = record {
  ends = tt;
  says = λ m.
      let f : false ≡ true = sym b ∙ ap begins_so (same_cause file why (codes "Missing") m.1) in
      absurd (cc (f));
}

pub refused_plain : (file why : List ℕ) → begins_so (why ++ 10 ∷ []) ≡ false → IsPlainFor file (refused_file file why)
refused_plain file why b = line_plain_for (refusal why (what.File file)) file why b

pub told_plain_for : (file text : List ℕ) → IsPlainFor file (told text)
told_plain_for file text = record { ends = tt; says = λ m. cc (m.0) }

-- ---- what is answered

-- What holds of a report holds of the one that was made so.
pub made_so : (made : Result Report NoMemory) (result : Result Report Stop) (P : Report → Type 0) (report : Report) →
    MatchResult made (λ r. result ≡ Ok r) (λ _. result ≡ Err stop.Memory) → IfOk made (λ r. r ≡ report) → P report
    → IfOk result P
made_so made result P report kept is holds = stop_keeps made result P kept (each made is)
  where
    each : (made : Result Report NoMemory) → IfOk made (λ r. r ≡ report) → IfOk made P
    each (Ok r) is = subst P (sym is) holds
    each (Err e) is = tt

-- ---- names of files

-- What holds of some name of a list.
pub some_of : {X : Type 0} (names : List (List ℕ)) (P : List ℕ → Type 0) → OfSomeName names P → ((name : List ℕ) → P name → X) → X
some_of {X = X} names P (k, s) f = some_at (slice_get names k) s
  where
    some_at : (o : Option (List ℕ)) → IsSomeAnd o P → X
    some_at None s = absurd s
    some_at (Some name) s = f name s
