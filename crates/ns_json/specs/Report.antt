-- Which value of JSON tells what a command says (this profile). Each object but those in arrays begins with its status.
use Rattle.std.specs.Prelude.{ℕ, zero, suc, List, [], ◌∷◌, ◌++◌, codes, Option, Some, None}
use Rattle.ns_base.specs.declared.limits.Limits.{Limits}
use Rattle.ns_world.specs.declared.ending.Counters.{Counters}
use Rattle.ns_json.specs.Json.{Value, Member, object_of, texted, numbered, number_text, value_text}
use Rattle.ns_json.specs.Objects.{listed, objects}
use Rattle.ns_json.specs.declared.saying.Actor.{Actor}
use Rattle.ns_json.specs.declared.saying.Audit.{Audit}
use Rattle.ns_json.specs.declared.saying.Audit.TheVariants.{Yes, Sends, Performs}
use Rattle.ns_json.specs.declared.saying.End.{End}
use Rattle.ns_json.specs.declared.saying.End.TheVariants.{Done, Error, Limit}
use Rattle.ns_json.specs.declared.saying.Fault.{Fault}
use Rattle.ns_json.specs.declared.saying.FilePlace.{FilePlace}
use Rattle.ns_json.specs.declared.saying.Outcome.{Outcome}
use Rattle.ns_json.specs.declared.saying.Outcome.TheVariants.{Passed, Failed, Erred}
use Rattle.ns_json.specs.declared.saying.Refusal.{Refusal}
use Rattle.ns_json.specs.declared.saying.Refused.TheVariants as refused
use Rattle.ns_json.specs.declared.saying.Refused.{Refused}
use Rattle.ns_json.specs.declared.saying.Run.{Run}
use Rattle.ns_json.specs.declared.saying.Saying.TheVariants as saying
use Rattle.ns_json.specs.declared.saying.Saying.{Saying}
use Rattle.ns_json.specs.declared.saying.Site.{Site}
use Rattle.ns_json.specs.declared.saying.Stage.{Stage}
use Rattle.ns_json.specs.declared.saying.Stage.TheVariants.{Rests, Stopped, BadOutbox}
use Rattle.ns_json.specs.declared.saying.Test.{Test}
use Rattle.ns_json.specs.declared.saying.Tests.{Tests}
use Rattle.ns_json.specs.declared.saying.Trace.{Trace}
use Rattle.ns_json.specs.declared.saying.Unanswered.{Unanswered}

-- the status of an object
abbrev pub status : List ℕ → Member
status word = texted (codes "status") word

-- ---- places and sends

abbrev pub place_members : FilePlace → List Member
place_members place = texted (codes "file") place.file ∷ numbered (codes "line") place.line ∷ numbered (codes "col") place.col ∷ []

-- a place, where there is one
abbrev pub place_members_of : Option FilePlace → List Member
place_members_of (Some place) = place_members place
place_members_of None = []

-- the send of an error
abbrev pub send_members : Site → List Member
send_members site = texted (codes "class") site.class ∷ texted (codes "selector") site.selector ∷ []

-- what stands behind the class of a send that was open
abbrev pub behind_class : Site → List Member
behind_class site = texted (codes "selector") site.selector ∷ place_members_of site.place

-- a send that was open
abbrev pub site_members : Site → List Member
site_members site = texted (codes "class") site.class ∷ behind_class site

-- ---- runs

-- how a run ended, in a word
abbrev pub end_status : End → List ℕ
end_status (Done answer) = codes "done"
end_status (Error kind site) = codes "error"
end_status (Limit limit) = codes "limit"

-- the kind of an error, and its send
abbrev pub error_members : List ℕ → Site → List Member
error_members kind site = texted (codes "kind") kind ∷ place_members_of site.place ++ send_members site

-- the rest of how it ended
abbrev pub end_members : End → List Member
end_members (Done answer) = texted (codes "answer") answer ∷ []
end_members (Error kind site) = error_members kind site
end_members (Limit limit) = texted (codes "limit") limit ∷ []

abbrev pub used_members : Counters → List Member
used_members used =
    numbered (codes "steps") used.steps ∷ numbered (codes "cells") used.cells ∷ numbered (codes "depth") used.depth
    ∷ numbered (codes "out") used.out ∷ []

-- how many sends are left out, where some are
abbrev pub more_members_of : ℕ → List Member
more_members_of zero = []
more_members_of (suc n) = numbered (codes "more") (suc n) ∷ []

-- the trace, where it is asked for
abbrev pub trace_members : Option Trace → List Member
trace_members (Some trace) = listed (codes "trace") site_members trace.sites ∷ more_members_of trace.left_out
trace_members None = []

abbrev pub four_limits : Limits → List Member
four_limits limits =
    numbered (codes "steps") limits.steps ∷ numbered (codes "cells") limits.cells ∷ numbered (codes "depth") limits.depth
    ∷ numbered (codes "out") limits.out ∷ []

-- the limits, where they are asked for
abbrev pub limits_members : Option Limits → List Member
limits_members (Some limits) = record { name = codes "limits"; value = object_of (four_limits limits) } ∷ []
limits_members None = []

-- what is told besides where it is asked for
abbrev pub asked_members : Option Trace → Option Limits → List Member
asked_members trace limits = trace_members trace ++ limits_members limits

abbrev pub run_members : Run → List Member
run_members run =
    status (end_status run.end) ∷ (end_members run.end
    ++ (texted (codes "output") run.output ∷ (used_members run.used ++ asked_members run.trace run.limits)))

-- ---- refusals

-- where in an image code is refused
abbrev pub class_text : ℕ → List ℕ
class_text class = codes "class " ++ number_text class

abbrev pub body_text : ℕ → ℕ → List ℕ
body_text body at = codes "body " ++ (number_text body ++ (codes " at " ++ number_text at))

abbrev pub refused_members : Refused → List Member
refused_members refused.Program = []
refused_members (refused.File file) = texted (codes "file") file ∷ []
refused_members (refused.Byte file offset) = texted (codes "file") file ∷ numbered (codes "offset") offset ∷ []
refused_members (refused.Class file class) = texted (codes "file") file ∷ texted (codes "in") (class_text class) ∷ []
refused_members (refused.Body file body at) = texted (codes "file") file ∷ texted (codes "in") (body_text body at) ∷ []
refused_members (refused.Source place) = place_members place

abbrev pub refusal_members : Refusal → List Member
refusal_members refusal = status (codes "refused") ∷ texted (codes "cause") refusal.cause ∷ refused_members refusal.refused

-- ---- checks

abbrev pub fault_members : Fault → List Member
fault_members fault = texted (codes "cause") fault.cause ∷ place_members fault.place

abbrev pub unanswered_members : Unanswered → List Member
unanswered_members sent = texted (codes "selector") sent.selector ∷ place_members sent.place

-- ---- tests, audits and actors

abbrev pub outcome_members : Outcome → List Member
outcome_members Passed = status (codes "passed") ∷ []
outcome_members Failed = status (codes "failed") ∷ []
outcome_members (Erred end) = status (end_status end) ∷ end_members end

abbrev pub test_members : Test → List Member
test_members test = texted (codes "test") test.name ∷ outcome_members test.outcome

abbrev pub count_members : Tests → List Member
count_members tests =
    numbered (codes "passed") tests.passed ∷ numbered (codes "failed") tests.failed ∷ numbered (codes "errors") tests.errors ∷ []

abbrev pub tests_members : Tests → List Member
tests_members tests = status (codes "tested") ∷ listed (codes "tests") test_members tests.tests ∷ count_members tests

-- the numbers of a body and of an instruction in it
abbrev pub instruction_members : ℕ → ℕ → List Member
instruction_members body at = numbered (codes "body") body ∷ numbered (codes "at") at ∷ []

abbrev pub audit_members : Audit → List Member
audit_members Yes = texted (codes "audit") (codes "yes") ∷ []
audit_members (Sends selector body at) =
    texted (codes "audit") (codes "sends") ∷ texted (codes "selector") selector ∷ instruction_members body at
audit_members (Performs body at) = texted (codes "audit") (codes "performs") ∷ instruction_members body at

abbrev pub audited_members : Audit → List Member
audited_members audit = status (codes "audited") ∷ audit_members audit

-- where an actor is, in a word
abbrev pub stage_status : Stage → List ℕ
stage_status Rests = codes "rests"
stage_status (Stopped end) = end_status end
stage_status BadOutbox = codes "outbox"

-- the end of its run, where it stopped in one
abbrev pub stage_members : Stage → List Member
stage_members Rests = []
stage_members (Stopped end) = end_members end
stage_members BadOutbox = []

abbrev pub actor_members : Actor → List Member
actor_members actor =
    status (stage_status actor.stage) ∷ (stage_members actor.stage
    ++ (texted (codes "output") actor.output ∷ numbered (codes "taken") actor.taken ∷ []))

-- ---- all of it

-- the files are a program
abbrev pub ok_members : List Member
ok_members = status (codes "ok") ∷ []

-- they are one in which nothing can answer these sends
abbrev pub searched_members : List Unanswered → List Member
searched_members unanswered = status (codes "ok") ∷ listed (codes "unanswered") unanswered_members unanswered ∷ []

-- they have these static faults
abbrev pub faulty_members : List Fault → List Member
faulty_members faults = status (codes "refused") ∷ listed (codes "faults") fault_members faults ∷ []

-- so many bytes were stored as an image
abbrev pub stored_members : List ℕ → ℕ → List Member
stored_members image bytes = status (codes "stored") ∷ texted (codes "image") image ∷ numbered (codes "bytes") bytes ∷ []

abbrev pub acted_members : List Actor → List Member
acted_members actors = status (codes "acted") ∷ listed (codes "actors") actor_members actors ∷ []

-- the value that tells what a command says
abbrev pub report : Saying → Value
report (saying.Ran run) = object_of (run_members run)
report (saying.Session runs) = objects run_members runs
report saying.Checked = object_of ok_members
report (saying.Searched unanswered) = object_of (searched_members unanswered)
report (saying.Faulty faults) = object_of (faulty_members faults)
report (saying.Stored image bytes) = object_of (stored_members image bytes)
report (saying.Refused refusal) = object_of (refusal_members refusal)
report (saying.Tested tests) = object_of (tests_members tests)
report (saying.Audited audit) = object_of (audited_members audit)
report (saying.Acted actors) = object_of (acted_members actors)

-- the line of JSON that tells it
abbrev pub json_of : Saying → List ℕ
json_of saying = value_text (report saying) ++ 10 ∷ []
