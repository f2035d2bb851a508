-- What applications tell in parts.
use Rattle.std.proofs.Common.{◌≡◌, ℕ, Bool, ◌+◌, ◌<◌, ◌≤◌, List, [], ◌∷◌, ◌++◌, length, map, drop, Option, Some, None, option_map, Result, Ok, Err, IfOk, refl, ap, sym, subst, ◌∙◌, append_assoc}
use Rattle.std.specs.Prelude.{IsSome, slice_get}
use Rattle.std.proofs.lemmas.List.{append-nil}
use Rattle.std.proofs.lemmas.Option.{same_Some}
use Rattle.ns_base.specs.declared.no_memory.NoMemory.{NoMemory}
use Rattle.ns_base.specs.declared.limits.Limits.{Limits}
use Rattle.ns_json.specs.declared.saying.Run.{Run}
use Rattle.ns_machine.specs.Machine.{MachineView}
use Rattle.ns_moves.specs.State.{ending_of}
use Rattle.ns_run_code.specs.Running.{HasAnEnd}
use Rattle.ns_run_told.specs.Told.{run_told}
use Rattle.ns_session.specs.Kept.{machine_of}
use Rattle.ns_session.specs.Member.{MemberView}
use Rattle.ns_session.specs.Robin.{session_run}
use Rattle.ns_session.specs.Session.{SessionView, ending_in}
use Rattle.ns_session_files.specs.Joint.{part_of, parts_of, runs, session_told, told_of}
use Rattle.ns_session_files.specs.Making.{Source, application_of}
use Rattle.ns_session_files.specs.declared.fault.JointFault.{JointFault}
use Rattle.ns_session_files.specs.declared.joint.Told.{Told}
use Rattle.ns_session_files.specs.declared.joint.ToldSession.{ToldSession}
use Rattle.ns_session_files.proofs.TellingLaws.{next_there, none_there, some_there}
use Rattle.ns_world.specs.declared.ending.Ending.{Ending}

-- ---- one application

an_end : (ending : Option Ending) → IsSome ending → (e : Ending) × (ending ≡ Some e)
an_end (Some e) s = (e, refl)
an_end None s = absurd (cc (s))

-- The machine of an application that has ended has an end.
pub machine_ended : (machine : MachineView) (member : Option MemberView) → Some machine ≡ option_map machine_of member →
    IsSome (ending_in member) → HasAnEnd machine.state
machine_ended machine None e s = absurd (cc (s))
machine_ended machine (Some member) e s =
    subst (λ (m : MachineView). HasAnEnd m.state) (sym (same_Some machine (machine_of member) e)) (an_end (ending_of member.state) s)

-- What it tells is what the application tells.
pub part_is : (machine : MachineView) (found : Option MemberView) (member : MemberView) (result : Result Run NoMemory) →
    Some machine ≡ option_map machine_of found → found ≡ Some member → IfOk result (λ part. part ≡ run_told machine.code machine.state)
    → IfOk result (λ part. part ≡ part_of member)
part_is machine found member (Err e) is here told = tt
part_is machine found member (Ok part) is here told =
    let same : machine ≡ machine_of member = same_Some machine (machine_of member) (is ∙ ap (option_map machine_of) here) in
    told ∙ ap (λ (m : MachineView). run_told m.code m.state) same

-- ---- all of them

-- Those so far, one more, and those that are left are all.
pub next_part : (members : List MemberView) (number : ℕ) (so_far : List Run) (part : Run) → number < length members →
    ((member : MemberView) → slice_get members number ≡ Some member → part ≡ part_of member)
    → so_far ++ map part_of (drop number members) ≡ map part_of members
    → (so_far ++ part ∷ []) ++ map part_of (drop (number + 1) members) ≡ map part_of members
next_part members number so_far part less one all =
    some_there members number less (λ member e.
    append_assoc so_far (part ∷ []) (map part_of (drop (number + 1) members))
    ∙ ap (λ p. so_far ++ p ∷ map part_of (drop (number + 1) members)) (one member e)
    ∙ ap (λ (ms : List MemberView). so_far ++ map part_of ms) (sym (next_there members number member e))
    ∙ all)

-- Behind the last none is left.
pub last_part : (members : List MemberView) (number : ℕ) (so_far : List Run) → length members ≤ number →
    so_far ++ map part_of (drop number members) ≡ map part_of members → so_far ≡ map part_of members
last_part members number so_far over all =
    sym (append-nil so_far) ∙ ap (λ (ms : List MemberView). so_far ++ map part_of ms) (sym (none_there members number over)) ∙ all

-- ---- the session

abbrev with_parts : Told → Option (List Run) → ToldSession
with_parts told parts = record { told = told; parts = parts }

-- What is told of the session of some sources, and of its members in parts, is all that it tells.
session_is : (in_parts : Bool) (limits : Limits) (quantum : ℕ) (sources : List Source) (new : SessionView) (told : Told) →
    told ≡ told_of (runs limits quantum sources) → new ≡ session_run quantum (map (application_of limits) sources)
    → with_parts told (parts_of in_parts new.members) ≡ session_told in_parts limits quantum sources
session_is in_parts limits quantum sources new told lines is =
    ap (λ (t : Told). with_parts t (parts_of in_parts new.members)) lines
    ∙ ap (λ (s : SessionView). with_parts (told_of (runs limits quantum sources)) (parts_of in_parts s.members)) is

-- So it is of an answer.
pub session_tells : (in_parts : Bool) (limits : Limits) (quantum : ℕ) (sources : List Source) (new : SessionView) (told : Told)
    (result : Result ToldSession JointFault) → told ≡ told_of (runs limits quantum sources)
    → new ≡ session_run quantum (map (application_of limits) sources)
    → IfOk result (λ all. all ≡ with_parts told (parts_of in_parts new.members))
    → IfOk result (λ all. all ≡ session_told in_parts limits quantum sources)
session_tells in_parts limits quantum sources new told (Ok all) lines is made =
    made ∙ session_is in_parts limits quantum sources new told lines is
session_tells in_parts limits quantum sources new told (Err why) lines is made = tt
