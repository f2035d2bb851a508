-- The round robin keeps the applications of a session.
use Rattle.std.proofs.Common.{◌≡◌, ℕ, zero, suc, ◌+◌, List, [], ◌∷◌, length, map, refl, ap, sym, ◌∙◌, true, false, Option, Some, None, cond}
use Rattle.std.specs.Prelude.{slice_get, slice_set}
use Rattle.std.proofs.lemmas.Option.{same_Some}
use Rattle.ns_moves.specs.State.{State, ending_of}
use Rattle.ns_session.specs.Member.{Application, MemberView, starting}
use Rattle.ns_session.specs.Play.{opened}
use Rattle.ns_session.specs.Reached.{left_of}
use Rattle.ns_session.specs.Session.{SessionView}
use Rattle.ns_world.specs.declared.ending.Ending.{Ending}
use Rattle.ns_session.specs.Robin.{have_ended, round_from, round_of, rounds_in, turn_for, turn_unless}
use Rattle.ns_session.specs.Turned.{turned_beside}
use Rattle.ns_session_files.specs.Laws.{KeepsApplications, application_in}

-- the applications of a session
abbrev pub those : SessionView → List Application
those session = map application_in session.members

-- another state of one of them
set_keeps : (members : List MemberView) (number : ℕ) (member : MemberView) (state : State) → slice_get members number ≡ Some member
    → map application_in (slice_set members number (record member { state = state })) ≡ map application_in members
set_keeps [] number member state e = absurd (cc)
set_keeps (first ∷ members) zero member state e =
    let same : first ≡ member = same_Some first member e in
    ap (λ (each : MemberView). each.application ∷ map application_in members) (sym same)
set_keeps (first ∷ members) (suc number) member state e =
    ap (λ (rest : List Application). first.application ∷ rest) (set_keeps members number member state e)

unless_keeps : (quantum number : ℕ) (member : MemberView) (session : SessionView) (ending : Option Ending) →
    slice_get session.members number ≡ Some member → those (turn_unless ending quantum number member session) ≡ those session
unless_keeps quantum number member session (Some ending) e = refl
unless_keeps quantum number member session None e =
    set_keeps session.members number member (turned_beside member.application.grants.board member.application.code quantum member.state session.board).state e

for_keeps : (quantum number : ℕ) (session : SessionView) (member : Option MemberView) → slice_get session.members number ≡ member →
    those (turn_for member quantum number session) ≡ those session
for_keeps quantum number session None e = refl
for_keeps quantum number session (Some member) e = unless_keeps quantum number member session (ending_of member.state) e

round_keeps : (quantum count number : ℕ) (session : SessionView) → those (round_from quantum count number session) ≡ those session
round_keeps quantum zero number session = refl
round_keeps quantum (suc more) number session =
    round_keeps quantum more (number + 1) (turn_for (slice_get session.members number) quantum number session)
    ∙ for_keeps quantum number session (slice_get session.members number) refl

rounds_keep : (quantum enough : ℕ) (session : SessionView) → those (rounds_in quantum enough session) ≡ those session
rounds_keep quantum zero session = refl
rounds_keep quantum (suc enough) session =
    elim (have_ended session.members) as (λ q. those (cond q session (rounds_in quantum enough (round_of quantum session))) ≡ those session) [
      | true ↦ refl
      | false ↦ rounds_keep quantum enough (round_of quantum session) ∙ round_keeps quantum (length session.members) 0 session
    ]

starts_keep : (applications : List Application) → map application_in (map starting applications) ≡ applications
starts_keep [] = refl
starts_keep (application ∷ applications) = ap (λ (rest : List Application). application ∷ rest) (starts_keep applications)

pub keeps_applications : (quantum : ℕ) → KeepsApplications quantum
keeps_applications quantum applications =
    rounds_keep quantum (left_of (opened applications).members) (opened applications) ∙ starts_keep applications
