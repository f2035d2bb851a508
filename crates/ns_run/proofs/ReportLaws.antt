-- How a command ends that has a report.
use Rattle.std.proofs.Common.{◌≡◌, List, ℕ, ◌++◌, Bool, true, false, Option, Some, None, sym, ap, ◌∙◌}
use Rattle.std.specs.Prelude.{IsSomeAnd, slice_get}
use Rattle.std.specs.Bool.{OnFalse, OnTrue}
use Rattle.std.proofs.lemmas.List.{append_cancel_left}
use Rattle.ns_base.specs.Sink.{with_bytes}
use Rattle.ns_base.specs.declared.status.Status.{Status}
use Rattle.ns_base.specs.declared.status.Status.TheVariants.{Done, ProgramError, Limit, Refused, ReadFault, WriteFault, Memory}
use Rattle.ns_run.specs.Meaning.{files_read}
use Rattle.ns_run.specs.Outcome.{NamesMissing, TellsMissing}
use Rattle.ns_run_outcome.specs.Outcome.{IsReported, IsEnding, IsMissing, LeavesStreams, Wrote, missing_line}
use Rattle.ns_run_outcome.specs.declared.report.Report.{Report}
use Rattle.ns_run_words.specs.Words.{LineReading}
use Rattle.ns_run_words.specs.Named.{OfSomeName}

-- With a status that a report may have, all is written.
pub leaves_delivered : (r : Report) (s : Status) (o o' e e' : Option (List ℕ)) → IsEnding s → IsReported r s o o' e e' →
    LeavesStreams r s o o' e e'
leaves_delivered r Done o o' e e' i d = d
leaves_delivered r ProgramError o o' e e' i d = d
leaves_delivered r Refused o o' e e' i d = d
leaves_delivered r Limit o o' e e' i d = d
leaves_delivered r ReadFault o o' e e' i d = absurd i
leaves_delivered r WriteFault o o' e e' i d = absurd i
leaves_delivered r Memory o o' e e' i d = absurd i

pub no_read_fault : (s : Status) → IsEnding s → s ≡ ReadFault → ⊥
no_read_fault Done i h = cc
no_read_fault ProgramError i h = cc
no_read_fault Refused i h = cc
no_read_fault Limit i h = cc
no_read_fault ReadFault i h = i
no_read_fault WriteFault i h = i
no_read_fault Memory i h = i

pub no_write_fault : (s : Status) → IsEnding s → s ≡ WriteFault → ⊥
no_write_fault Done i h = cc
no_write_fault ProgramError i h = cc
no_write_fault Refused i h = cc
no_write_fault Limit i h = cc
no_write_fault ReadFault i h = i
no_write_fault WriteFault i h = i
no_write_fault Memory i h = i

pub on_true : (b : Bool) (P : Type 0) → b ≡ true → OnTrue b P → P
on_true true P e h = h
on_true false P e h = absurd (cc)

pub on_false : (b : Bool) (P : Type 0) → b ≡ false → OnFalse b P → P
on_false false P e h = h
on_false true P e h = absurd (cc)

-- Behind one front, equal texts have equal ends.
pub names_file : (file : List ℕ) (r : Report) (old new : Option (List ℕ)) → r.status ≡ Refused → new ≡ with_bytes r.err old →
    Wrote (missing_line file) old new → IsMissing file r
names_file file r old new s d (before, o, n) =
    let line = missing_line file in
    let e : with_bytes r.err (Some before) ≡ Some (before ++ line) = ap (with_bytes r.err) (sym o) ∙ sym d ∙ n in
    let f : before ++ r.err ≡ before ++ line = cc (e) in
    (s, append_cancel_left before r.err line f)

-- What follows of each name, follows of some name of a list.
pub some_other : (names : List (List ℕ)) (P Q : List ℕ → Type 0) → ((name : List ℕ) → P name → Q name) → OfSomeName names P →
    OfSomeName names Q
some_other names P Q f (k, s) = (k, some_at (slice_get names k) s)
  where
    some_at : (o : Option (List ℕ)) → IsSomeAnd o P → IsSomeAnd o Q
    some_at None s = absurd s
    some_at (Some name) s = f name s

-- Where a refusal was written, and what was written says that a file isn't there, the refusal says so.
pub names_missing : (reading : LineReading) (r : Report) (old new : Option (List ℕ)) → r.status ≡ Refused → new ≡ with_bytes r.err old →
    TellsMissing reading old new → NamesMissing reading r
names_missing reading r old new s d t =
    some_other (files_read reading) (λ file. Wrote (missing_line file) old new) (λ file. IsMissing file r) (λ file w. names_file file r old new s d w) t
