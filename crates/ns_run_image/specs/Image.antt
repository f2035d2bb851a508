-- What a command does with an image.
use Rattle.std.specs.Fmt.{decimal}
use Rattle.std.specs.Prelude.{ℕ, Bool, false, List, [], ◌∷◌, ◌++◌, Option, Some, None, Result, Ok, Err, codes, length, nat_lt, map, string_bytes, if◌then◌else◌}
use Rattle.ns_audit.specs.Image.{AuditedImage, audited_image, answers, no_class, unadmitted, unread}
use Rattle.ns_base.specs.declared.status.Status.{Status}
use Rattle.ns_code.specs.declared.program.CodeProgram.{CodeProgram}
use Rattle.ns_image.specs.Reading.{read_image}
use Rattle.ns_image_members.specs.Members.{members_listing}
use Rattle.ns_run_code.specs.Exec.{ImageCode, admitted, image_code, refused_code, refused_image}
use Rattle.ns_run_code.specs.Listing.{ListedCode, listed, lines, unlisted}
use Rattle.ns_image.specs.declared.fault.ImageFault.{ImageFault}
use Rattle.ns_json.specs.declared.saying.Audit.{Audit}
use Rattle.ns_json.specs.declared.saying.Saying.TheVariants.{Audited}
use Rattle.ns_image.specs.declared.fault.ImageFault.TheVariants.{NotAnImage, BadVersion, Truncated, BadField, Trailing, Memory}
use Rattle.ns_run_outcome.specs.Report.{bad_field, bad_word, never_told, refused_file, told, unsound}
use Rattle.ns_run_outcome.specs.Run.{run_report}
use Rattle.ns_run_outcome.specs.declared.report.Report.{Report}
use Rattle.ns_run_outcome.specs.declared.run.Telling.{Telling}
use Rattle.ns_run_input.specs.Input.{RunWork, code_run}
use Rattle.ns_run_image.specs.declared.task.ImageTask as tasks
use Rattle.ns_run_image.specs.declared.task.ImageTask.TheVariants.{Listing, Resume}
use Rattle.ns_run_image.specs.declared.task.ImageTask.TheVariants as task
use Rattle.ns_run_snap.specs.Resumed.{Resumed, refused, resumed}
use Rattle.ns_run_snap.specs.Resumed as resumes
use Rattle.ns_run_words.specs.Options.{denied_by}
use Rattle.ns_run_words.specs.Words.{limits_of, nothing_given}
use Rattle.ns_snapshot.specs.declared.fault.SnapFault.{SnapFault}
use Rattle.ns_snapshot.specs.declared.fault.SnapFault.TheVariants as snap

-- An image is listed, with the members of its classes or without; or the module of a class in it is audited for selectors. Or it is a
-- snapshot, from which the run goes on.
pub data ImageWork : Type 0 where
  Lists : (members : Bool) → ImageWork
  Audits : (denied : List (List ℕ)) (class : List ℕ) → ImageWork
  Resumes : ImageWork

-- the work that the code's stands for
abbrev pub work_of : tasks.ImageTask → ImageWork
work_of (Listing members) = Lists members
work_of (task.Audit options class) = Audits (denied_by (map string_bytes options.now)) class.now
work_of Resume = Resumes

-- the refusal of bytes that are no image: why, and at which byte where a field is bad (no image wants memory)
abbrev pub of_image_fault : List ℕ → ImageFault → Report
of_image_fault file NotAnImage = refused_file file (codes "NotAnImage")
of_image_fault file BadVersion = refused_file file (codes "BadVersion")
of_image_fault file Truncated = refused_file file (codes "Truncated")
of_image_fault file (BadField at) = bad_field file at
of_image_fault file Trailing = refused_file file (codes "Trailing")
of_image_fault file Memory = never_told

-- the run of the code of the image of that name, over the texts of its inputs; or why there is none
abbrev pub of_code : RunWork → List ℕ → ImageCode → List (Option (List ℕ)) → Report
of_code run file (refused_image fault) inputs = of_image_fault file fault
of_code run file (refused_code cause at) inputs = unsound file cause at
of_code run file (admitted code) inputs = code_run run code inputs

-- the run of an image of these bytes, if they aren't too many
abbrev pub of_exec_bytes : RunWork → List ℕ → List ℕ → List (Option (List ℕ)) → Report
of_exec_bytes run file bytes inputs =
    if nat_lt 134217728 (length bytes) then refused_file file (codes "TooLong") else of_code run file (image_code bytes) inputs

-- the run of the image of that name, of which this is the file
abbrev pub of_exec_file : RunWork → List ℕ → Option (List ℕ) → List (Option (List ℕ)) → Report
of_exec_file run file None inputs = refused_file file (codes "Missing")
of_exec_file run file (Some bytes) inputs = of_exec_bytes run file bytes inputs

-- the run of the first of these images (there is always one), over the texts of its inputs
abbrev pub of_exec : RunWork → List (List ℕ) → List (Option (List ℕ)) → List (Option (List ℕ)) → Report
of_exec run [] texts inputs = bad_word 1
of_exec run (name ∷ names) [] inputs = bad_word 1
of_exec run (name ∷ names) (text ∷ texts) inputs = of_exec_file run name text inputs

-- An audit writes its line.
abbrev pub audit_report : List ℕ → Status → Audit → Report
audit_report line status part = record { out = line; err = []; status = status; stored = None; said = Some (Audited part) }

abbrev pub of_listed : List ℕ → ListedCode → Report
of_listed file (unlisted fault) = of_image_fault file fault
of_listed file (lines text) = told text

-- the listing, with members, of what was read
abbrev pub of_members : Result CodeProgram ImageFault → ListedCode
of_members (Err fault) = unlisted fault
of_members (Ok code) = lines (members_listing code)

-- the listing of the code of an image, admitted or not, with the members of its classes or without
abbrev pub listing_asked : Bool → List ℕ → ListedCode
listing_asked members bytes = if members then of_members (read_image bytes) else listed bytes

abbrev pub of_audited : List ℕ → AuditedImage → Report
of_audited file (unread fault) = of_image_fault file fault
of_audited file (unadmitted cause at) = unsound file cause at
of_audited file no_class = refused_file file (codes "NoClass")
of_audited file (answers line status part) = audit_report line status part

-- the line of the refusal of a part of a snapshot, by its number
abbrev pub of_part : List ℕ → List ℕ → ℕ → Report
of_part file cause k = refused_file file (cause ++ codes " " ++ decimal k)

-- the refusal of bytes that are no snapshot: why, and at which byte, cell or frame (no snapshot wants memory)
abbrev pub of_snap_fault : List ℕ → SnapFault → Report
of_snap_fault file snap.NotASnapshot = refused_file file (codes "NotASnapshot")
of_snap_fault file snap.BadVersion = refused_file file (codes "BadVersion")
of_snap_fault file snap.Truncated = refused_file file (codes "Truncated")
of_snap_fault file (snap.BadField at) = bad_field file at
of_snap_fault file snap.Trailing = refused_file file (codes "Trailing")
of_snap_fault file snap.BadImage = refused_file file (codes "BadImage")
of_snap_fault file (snap.BadCell k) = of_part file (codes "BadCell") k
of_snap_fault file (snap.BadFrame k) = of_part file (codes "BadFrame") k
of_snap_fault file snap.BadRest = refused_file file (codes "BadRest")
of_snap_fault file snap.Memory = never_told

-- what a line asks to be told of a run that goes on: its line alone
abbrev pub plain_telling : Telling
plain_telling = record { classes = None; stats = false; trace = false; truth = false; json = false }

-- a run that went on from a snapshot, or why there is none
abbrev pub of_resumed : List ℕ → Resumed → Report
of_resumed file (refused fault) = of_snap_fault file fault
of_resumed file (resumes.has_run ran) = run_report plain_telling (limits_of nothing_given) ran [] None None

-- what is done with these bytes of the image of that name
abbrev pub of_image_bytes : ImageWork → List ℕ → List ℕ → Report
of_image_bytes (Lists members) file bytes = of_listed file (listing_asked members bytes)
of_image_bytes (Audits denied class) file bytes = of_audited file (audited_image bytes denied class)
of_image_bytes Resumes file bytes = of_resumed file (resumed bytes)

-- what is done with bytes that aren't too many
abbrev pub of_short : ImageWork → List ℕ → List ℕ → Report
of_short work file bytes =
    if nat_lt 134217728 (length bytes) then refused_file file (codes "TooLong") else of_image_bytes work file bytes

-- what is done with the image of that name, of which this is the file
abbrev pub of_image_file : ImageWork → List ℕ → Option (List ℕ) → Report
of_image_file work file None = refused_file file (codes "Missing")
of_image_file work file (Some bytes) = of_short work file bytes

-- what is done with the first of these files (there is always one)
abbrev pub of_image : ImageWork → List (List ℕ) → List (Option (List ℕ)) → Report
of_image work [] texts = bad_word 1
of_image work (name ∷ names) [] = bad_word 1
of_image work (name ∷ names) (text ∷ texts) = of_image_file work name text
