-- The report of a session.
use Rattle.std.proofs.Common.{◌≡◌, ℕ, List, Result, Ok, Err, IfOk, ap, sym, subst, ◌∙◌, codes, map}
use Rattle.ns_base.specs.declared.status.Status.{Status}
use Rattle.ns_base.specs.declared.status.Status.TheVariants.{Done, ProgramError, Refused, Limit, ReadFault, WriteFault, Memory}
use Rattle.ns_run_words.specs.Named.{OfSomeName}
use Rattle.ns_session_files.specs.Answer.{IsMissingFile, IfRefusal, RefusesAs, TellsOfAll}
use Rattle.ns_session_files.specs.Joint.{Joint, stopped_for}
use Rattle.ns_session_files.specs.declared.fault.JointFault.{JointFault}
use Rattle.ns_session_files.specs.declared.fault.JointFault.TheVariants as fault
use Rattle.ns_session_files.specs.declared.joint.ToldSession.{ToldSession}
use Rattle.ns_run_code.specs.Running.{IsRunStatus}
use Rattle.ns_run_outcome.specs.Outcome.{IsEnding, IsMissing}
use Rattle.ns_run_outcome.specs.Report.{size_name}
use Rattle.ns_run_outcome.specs.declared.report.Report.{Report}
use Rattle.ns_run_outcome.specs.declared.stop.Stop.{Stop}
use Rattle.ns_run.specs.Meaning.{of_joint, of_refusal, told_jointly}
use Rattle.ns_run_files.specs.Programs.{name_of}
use Rattle.ns_run_files.specs.laws.Faults.{cause_ends, cause_says}
use Rattle.ns_run_files.specs.laws.Programs.{check_plain}
use Rattle.ns_run_outcome.specs.laws.Plain.{size_ends, size_plain, some_of}
use Rattle.std.specs.Prelude.{string_bytes, Some}

-- The report of a refusal is what the session means.
pub refusal_means : (joint : Joint) (why : JointFault) (report : Report) → IfRefusal (λ refusal. joint ≡ stopped_for refusal) why →
    RefusesAs (λ refusal. report ≡ of_refusal refusal) why → report ≡ of_joint joint
refusal_means joint fault.Unread report i r = absurd r
refusal_means joint (fault.Unloaded names cause file) report i r = r ∙ ap of_joint (sym i)
refusal_means joint (fault.Unchecked names place cause) report i r = r ∙ ap of_joint (sym i)
refusal_means joint (fault.TooLarge kind) report i r = r ∙ ap of_joint (sym i)
refusal_means joint fault.Memory report i r = absurd r

pub refusals_mean : (joint : Joint) (why : JointFault) (result : Result Report Stop) → TellsOfAll joint (Err why) →
    IfOk result (λ r. RefusesAs (λ refusal. r ≡ of_refusal refusal) why) → IfOk result (λ r. r ≡ of_joint joint)
refusals_mean joint why (Ok r) i h = refusal_means joint why r i h
refusals_mean joint why (Err e) i h = tt

pub run_means : (joint : Joint) (told : ToldSession) (report : Report) → TellsOfAll joint (Ok told) → report ≡ told_jointly told →
    report ≡ of_joint joint
run_means joint told report t r = r ∙ ap of_joint (sym t)

-- Such a report ends as one may, and says that a file isn't there only where it is refused for that.
pub refusal_ends : (why : JointFault) (report : Report) → RefusesAs (λ refusal. report ≡ of_refusal refusal) why → IsEnding report.status
refusal_ends fault.Unread report r = absurd r
refusal_ends (fault.Unloaded names cause file) report r =
    subst (λ (each : Report). IsEnding each.status) (sym r) (cause_ends (name_of (map string_bytes names.items) file) cause)
refusal_ends (fault.Unchecked names place cause) report r =
    subst (λ (each : Report). IsEnding each.status) (sym r) (check_plain (map string_bytes names.items) (Some (record { place = place; cause = cause }))).ends
refusal_ends (fault.TooLarge kind) report r = subst (λ (each : Report). IsEnding each.status) (sym r) (size_plain (size_name kind) (size_ends kind)).ends
refusal_ends fault.Memory report r = absurd r

pub refusals_end : (why : JointFault) (result : Result Report Stop) → IfOk result (λ r. RefusesAs (λ refusal. r ≡ of_refusal refusal) why) →
    IfOk result (λ r. IsEnding r.status)
refusals_end why (Ok r) h = refusal_ends why r h
refusals_end why (Err e) h = tt

pub refusal_says : (why : JointFault) (report : Report) → RefusesAs (λ refusal. report ≡ of_refusal refusal) why → (name : List ℕ) →
    IsMissing name report → IsMissingFile why
refusal_says fault.Unread report r name m = absurd r
refusal_says (fault.Unloaded names cause file) report r name m =
    cause_says (name_of (map string_bytes names.items) file) cause (λ e. e) name (subst (IsMissing name) r m)
refusal_says (fault.Unchecked names place cause) report r name m =
    absurd ((check_plain (map string_bytes names.items) (Some (record { place = place; cause = cause }))).says name (subst (IsMissing name) r m))
refusal_says (fault.TooLarge kind) report r name m = absurd ((size_plain (size_name kind) (size_ends kind)).says name (subst (IsMissing name) r m))
refusal_says fault.Memory report r name m = absurd r

pub refusals_say : {X : Type 0} (why : JointFault) (result : Result Report Stop) (names : List (List ℕ)) →
    IfOk result (λ r. RefusesAs (λ refusal. r ≡ of_refusal refusal) why) → (IsMissingFile why → X) →
    IfOk result (λ r. OfSomeName names (λ file. IsMissing file r) → X)
refusals_say why (Ok r) names h missing =
    λ some. some_of names (λ file. IsMissing file r) some (λ name m. missing (refusal_says why r h name m))
refusals_say why (Err e) names h missing = tt

pub run_ends : (status : Status) → IsRunStatus status → IsEnding status
run_ends Done i = tt
run_ends ProgramError i = tt
run_ends Refused i = absurd i
run_ends Limit i = tt
run_ends ReadFault i = absurd i
run_ends WriteFault i = absurd i
run_ends Memory i = absurd i

pub run_refuses_none : (status : Status) → IsRunStatus status → status ≡ Refused → ⊥
run_refuses_none Done i e = cc
run_refuses_none ProgramError i e = cc
run_refuses_none Refused i e = i
run_refuses_none Limit i e = cc
run_refuses_none ReadFault i e = i
run_refuses_none WriteFault i e = i
run_refuses_none Memory i e = i
