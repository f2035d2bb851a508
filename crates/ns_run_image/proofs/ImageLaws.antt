-- What is told of images.
use Rattle.std.proofs.Common.{◌≡◌, ℕ, ◌+◌, List, [], ◌∷◌, ◌++◌, length, take, nat_lt, cond, Bool, true, false, Option, Some, None, option_map, codes, refl, ap, sym, ◌∙◌, append_assoc, Ok, Err, ◌≤◌}
use Rattle.std.specs.Fmt.{decimal}
use Rattle.std.proofs.lemmas.List.{take_all}
use Rattle.ns_audit.specs.Audit.{audited}
use Rattle.ns_audit.specs.Image.{answer_line, answer_part, answer_status, audited_image, called_from, denied_in}
use Rattle.ns_audit.specs.Image as audits
use Rattle.ns_audit.specs.declared.answer.Audit.{Audit}
use Rattle.ns_audit.specs.declared.answer.Audit.TheVariants.{Yes, Sends, Performs}
use Rattle.ns_code.specs.declared.program.CodeProgram.{CodeProgram}
use Rattle.ns_run_code.specs.Listing.{listed}
use Rattle.ns_run_code.specs.Listing as listing
use Rattle.ns_image.specs.Reading.{read_image}
use Rattle.ns_image.specs.declared.fault.ImageFault.{ImageFault}
use Rattle.ns_image.specs.declared.fault.ImageFault.TheVariants as fault
use Rattle.ns_json.specs.declared.saying.Refused.TheVariants as what
use Rattle.ns_run_outcome.specs.Report.{place_in, place_text, refusal, refused_file, unsound, verify_name}
use Rattle.ns_run_outcome.specs.laws.Cut.{cut_same}
use Rattle.ns_run_code.specs.Machine.{end_of, rested}
use Rattle.ns_moves.specs.Starts.{started}
use Rattle.ns_moves.specs.State.{State, ending_of}
use Rattle.ns_run_outcome.specs.Run.{run_report}
use Rattle.ns_run_outcome.specs.laws.Plain.{IsPlainFor, begins_so, line_plain_for, refused_plain, run_plain, told_plain_for}
use Rattle.ns_run_image.specs.Image.{ImageWork, Lists, Audits, Resumes, audit_report, listing_asked, of_audited, of_image_bytes, of_image_fault, of_image_file, of_listed, of_members, of_resumed, of_short, of_snap_fault, plain_telling}
use Rattle.ns_run_snap.specs.Resumed.{of_read as of_snap_read, resumed, run_on}
use Rattle.ns_run_words.specs.Words.{limits_of, nothing_given}
use Rattle.ns_frozen.specs.Thawing.{thawed}
use Rattle.ns_snapshot.specs.Snapshot.{read_snapshot}
use Rattle.ns_snapshot.specs.declared.fault.SnapFault.{SnapFault}
use Rattle.ns_snapshot.specs.declared.fault.SnapFault.TheVariants as snap
use Rattle.ns_verify.specs.Verify.{fault_of}
use Rattle.ns_verify.specs.declared.fault.Fault.{Fault}
use Rattle.ns_verify.specs.declared.fault.VerifyCause.{VerifyCause}
use Rattle.ns_verify.specs.declared.fault.VerifyCause.TheVariants as cause
use Rattle.ns_verify.specs.declared.fault.Where.{Where}

-- ---- the bytes that were loaded

-- What is done with the bytes that were loaded is done with the file.
pub image_cut : (work : ImageWork) (name : List ℕ) (text : Option (List ℕ)) (bytes : List ℕ) →
    option_map (take 134217729) text ≡ Some bytes → of_short work name bytes ≡ of_image_file work name text
image_cut work name None bytes h = cc
image_cut work name (Some whole) bytes h =
    let e : take 134217729 whole ≡ bytes = cc in
    ap (of_short work name) (sym e) ∙ cut_same 134217728 whole (refused_file name (codes "TooLong")) (of_image_bytes work name)

-- ---- a report that ends as one may, and doesn't say that this file isn't there

pub image_plain : (file : List ℕ) (why : ImageFault) → IsPlainFor file (of_image_fault file why)
image_plain file fault.NotAnImage = refused_plain file (codes "NotAnImage") refl
image_plain file fault.BadVersion = refused_plain file (codes "BadVersion") refl
image_plain file fault.Truncated = refused_plain file (codes "Truncated") refl
image_plain file (fault.BadField at) =
    line_plain_for (refusal (codes "BadField") (what.Byte file at)) file (codes "BadField " ++ decimal at) refl
image_plain file fault.Trailing = refused_plain file (codes "Trailing") refl
image_plain file fault.Memory = told_plain_for file []

verify_begins : (why : VerifyCause) (rest : List ℕ) → begins_so (verify_name why ++ rest) ≡ false
verify_begins cause.BadJump rest = refl
verify_begins cause.BadHeight rest = refl
verify_begins cause.BadSlot rest = refl
verify_begins cause.BadScope rest = refl
verify_begins cause.BadLiteral rest = refl
verify_begins cause.NoReturn rest = refl

pub unsound_plain : (file : List ℕ) (why : VerifyCause) (at : Where) → IsPlainFor file (unsound file why at)
unsound_plain file why at =
    line_plain_for (refusal (verify_name why) (place_in file at)) file (verify_name why ++ place_text at)
    (ap begins_so (append_assoc (verify_name why) (place_text at) (10 ∷ [])) ∙ verify_begins why (place_text at ++ 10 ∷ []))

pub list_plain : (file bytes : List ℕ) → IsPlainFor file (of_listed file (listed bytes))
list_plain file bytes =
    elim (read_image bytes) as (λ r. IsPlainFor file (of_listed file (listing.of_read r))) [
      | Ok code ↦ told_plain_for file _
      | Err why ↦ image_plain file why
    ]

members_plain : (file bytes : List ℕ) → IsPlainFor file (of_listed file (of_members (read_image bytes)))
members_plain file bytes =
    elim (read_image bytes) as (λ r. IsPlainFor file (of_listed file (of_members r))) [
      | Ok code ↦ told_plain_for file _
      | Err why ↦ image_plain file why
    ]

asked_plain : (members : Bool) (file bytes : List ℕ) → IsPlainFor file (of_listed file (listing_asked members bytes))
asked_plain true file bytes = members_plain file bytes
asked_plain false file bytes = list_plain file bytes

answer_plain : (file : List ℕ) (code : CodeProgram) (answer : Audit) →
    IsPlainFor file (audit_report (answer_line code answer) (answer_status answer) (answer_part code answer))
answer_plain file code Yes = record { ends = tt; says = λ m. cc (m.0) }
answer_plain file code (Sends body at) = record { ends = tt; says = λ m. cc (m.0) }
answer_plain file code (Performs body at) = record { ends = tt; says = λ m. cc (m.0) }

class_plain : (file : List ℕ) (code : CodeProgram) (denied : List (List ℕ)) (class : Option ℕ) →
    IsPlainFor file (of_audited file (audits.of_class code denied class))
class_plain file code denied None = refused_plain file (codes "NoClass") refl
class_plain file code denied (Some class) = answer_plain file code (audited code class (denied_in code denied))

audited_plain : (file : List ℕ) (denied : List (List ℕ)) (class : List ℕ) (code : CodeProgram) (why : Option Fault) →
    IsPlainFor file (of_audited file (audits.of_code denied class code why))
audited_plain file denied class code (Some why) = unsound_plain file why.cause why.at
audited_plain file denied class code None = class_plain file code denied (called_from code class 0 code.classes)

pub audit_plain : (file bytes : List ℕ) (denied : List (List ℕ)) (class : List ℕ) →
    IsPlainFor file (of_audited file (audited_image bytes denied class))
audit_plain file bytes denied class =
    elim (read_image bytes) as (λ r. IsPlainFor file (of_audited file (audits.of_read denied class r))) [
      | Ok code ↦ audited_plain file denied class code (fault_of code)
      | Err why ↦ image_plain file why
    ]

pub snap_plain : (file : List ℕ) (why : SnapFault) → IsPlainFor file (of_snap_fault file why)
snap_plain file snap.NotASnapshot = refused_plain file (codes "NotASnapshot") refl
snap_plain file snap.BadVersion = refused_plain file (codes "BadVersion") refl
snap_plain file snap.Truncated = refused_plain file (codes "Truncated") refl
snap_plain file (snap.BadField at) =
    line_plain_for (refusal (codes "BadField") (what.Byte file at)) file (codes "BadField " ++ decimal at) refl
snap_plain file snap.Trailing = refused_plain file (codes "Trailing") refl
snap_plain file snap.BadImage = refused_plain file (codes "BadImage") refl
snap_plain file (snap.BadCell k) = refused_plain file (codes "BadCell" ++ codes " " ++ decimal k) refl
snap_plain file (snap.BadFrame k) = refused_plain file (codes "BadFrame" ++ codes " " ++ decimal k) refl
snap_plain file snap.BadRest = refused_plain file (codes "BadRest") refl
snap_plain file snap.Memory = told_plain_for file []

on_plain : (file : List ℕ) (code : CodeProgram) (state : State) →
    IsPlainFor file (run_report plain_telling (limits_of nothing_given) (run_on code state) [] None None)
on_plain file code state =
    let how = end_of (ending_of (rested code (started code state))) in
    let plain = run_plain plain_telling (limits_of nothing_given) (run_on code state) [] None None how refl in
    record { ends = plain.ends; says = plain.says file }

pub resume_plain : (file bytes : List ℕ) → IsPlainFor file (of_resumed file (resumed bytes))
resume_plain file bytes =
    elim (read_snapshot bytes) as (λ r. IsPlainFor file (of_resumed file (of_snap_read r))) [
      | Ok read ↦ on_plain file read.code (thawed read.code read.frozen)
      | Err why ↦ snap_plain file why
    ]

pub bytes_plain : (work : ImageWork) (file bytes : List ℕ) → IsPlainFor file (of_image_bytes work file bytes)
bytes_plain (Lists members) file bytes = asked_plain members file bytes
bytes_plain (Audits denied class) file bytes = audit_plain file bytes denied class
bytes_plain Resumes file bytes = resume_plain file bytes

pub short_plain : (work : ImageWork) (file bytes : List ℕ) → IsPlainFor file (of_short work file bytes)
short_plain work file bytes =
    elim (nat_lt 134217728 (length bytes)) as (λ q. IsPlainFor file (cond q (refused_file file (codes "TooLong")) (of_image_bytes work file bytes))) [
      | true ↦ refused_plain file (codes "TooLong") refl
      | false ↦ bytes_plain work file bytes
    ]

-- ---- what is answered

-- One byte more than an image has at most is all of it.
pub whole_image : (bytes : List ℕ) → length bytes ≤ 134217729 → option_map (take 134217729) (Some bytes) ≡ Some bytes
whole_image bytes l = ap Some (take_all 134217729 bytes l)
