-- What is told of applications one after another.
use Rattle.std.proofs.Common.{◌≡◌, ℕ, zero, suc, ◌+◌, ◌<◌, ◌≤◌, List, [], ◌∷◌, ◌++◌, drop, length, map, refl, ap, sym, subst, ◌∙◌, arith, Some, IsSome, append_assoc}
use Rattle.std.specs.Prelude.{slice_get}
use Rattle.std.proofs.lemmas.List.{append-nil}
use Rattle.std.proofs.lemmas.Option.{same_Some}
use Rattle.ns_base.specs.Limits.{InRange}
use Rattle.ns_base.specs.declared.limits.Limits.{Limits}
use Rattle.ns_base.specs.declared.status.Status.{Status}
use Rattle.ns_base.specs.declared.status.Status.TheVariants.{Done, ProgramError, Refused, Limit, ReadFault, WriteFault, Memory}
use Rattle.ns_moves.specs.State.{ending_of}
use Rattle.ns_session.specs.Member.{MayStart, MemberView, StandsAlone}
use Rattle.ns_session.specs.Rounds.{HaveEnded}
use Rattle.ns_session.specs.Session.{SessionView, ending_in}
use Rattle.ns_session.specs.RobinLaws.{MayAllStart}
use Rattle.ns_session.specs.Robin.{session_run}
use Rattle.ns_session_files.specs.Answer.{AreAdmitted}
use Rattle.ns_session_files.specs.Joint.{run_of, run_text, runs, runs_of, status_of_all, status_then, text_from, told_of}
use Rattle.ns_session_files.specs.Laws.{AppliesAsMeant, KeepsApplications, application_in}
use Rattle.ns_session_files.specs.Making.{Source, application_of}
use Rattle.ns_session_files.specs.Stood.{AllStandAlone, run_at, runs_at, with_run}
use Rattle.ns_session_files.specs.declared.joint.Told.{Told}

-- ---- statuses

pub then_then : (a b c : Status) → status_then (status_then a b) c ≡ status_then a (status_then b c)
then_then Done b c = refl
then_then ProgramError b c = refl
then_then Refused b c = refl
then_then Limit b c = refl
then_then ReadFault b c = refl
then_then WriteFault b c = refl
then_then Memory b c = refl

pub then_done : (a : Status) → status_then a Done ≡ a
then_done Done = refl
then_done ProgramError = refl
then_done Refused = refl
then_done Limit = refl
then_done ReadFault = refl
then_done WriteFault = refl
then_done Memory = refl

-- ---- from one number on

pub next_there : {A : Type 0} (xs : List A) (number : ℕ) (x : A) → slice_get xs number ≡ Some x → drop number xs ≡ x ∷ drop (number + 1) xs
next_there [] number x e = absurd (cc)
next_there (y ∷ xs) zero x e = ap (λ (z : _). z ∷ xs) (same_Some y x e)
next_there (y ∷ xs) (suc number) x e =
    let n : suc (number + 1) ≡ suc number + 1 = omega arith in next_there xs number x e ∙ ap (λ (k : ℕ). x ∷ drop k (y ∷ xs)) n

pub some_there : {A : Type 0} {P : Type 0} (xs : List A) (number : ℕ) → number < length xs → ((x : A) → slice_get xs number ≡ Some x → P) →
    P
some_there [] number l f = absurd (omega (arith, l))
some_there (y ∷ xs) zero l f = f y refl
some_there (y ∷ xs) (suc number) l f = some_there xs number (omega (arith, l)) f

pub none_there : {A : Type 0} (xs : List A) (number : ℕ) → length xs ≤ number → drop number xs ≡ []
none_there [] zero l = refl
none_there [] (suc number) l = refl
none_there (y ∷ xs) zero l = absurd (omega (arith, l))
none_there (y ∷ xs) (suc number) l = none_there xs number (omega (arith, l))

-- ---- as the sources mean

-- All have ended.
abbrev pub AllEnded : List MemberView → Type 0
AllEnded [] = Unit {0}
AllEnded (member ∷ members) = IsSome (ending_of member.state) × AllEnded members

pub all_as_meant : (limits : Limits) → AppliesAsMeant limits → (sources : List Source) (members : List MemberView) →
    map application_in members ≡ map (application_of limits) sources → AreAdmitted sources → AllStandAlone members
    → AllEnded members → runs_at members ≡ runs_of limits sources members
all_as_meant limits meant [] [] same admitted alone ended = refl
all_as_meant limits meant [] (member ∷ members) same admitted alone ended = absurd (cc (same))
all_as_meant limits meant (source ∷ sources) [] same admitted alone ended = absurd (cc (same))
all_as_meant limits meant (source ∷ sources) (member ∷ members) same admitted alone ended =
    let first : member.application ≡ application_of limits source = cc (same) in
    let rest : map application_in members ≡ map (application_of limits) sources = cc (same) in
    let one : run_at member ≡ run_of limits source member = meant source member (record { application = first; admitted = admitted.0; alone = alone.0; ended = ended.0 }) in
    ap (λ ran. ran ∷ runs_at members) one ∙ ap (λ rans. run_of limits source member ∷ rans) (all_as_meant limits meant sources members rest admitted.1 alone.1 ended.1)

pub all_ended : (members : List MemberView) → ((number : ℕ) → number < length members → IsSome (ending_in (slice_get members number))) →
    AllEnded members
all_ended [] h = tt
all_ended (member ∷ members) h = (h 0 (omega arith), all_ended members (λ number l. h (suc number) (omega (arith, l))))

pub all_may_start : (limits : Limits) → InRange limits → (sources : List Source) → AreAdmitted sources →
    MayAllStart (map (application_of limits) sources)
all_may_start limits range [] a number application e = absurd (cc)
all_may_start limits range (source ∷ sources) a zero application e =
    subst MayStart (same_Some (application_of limits source) application e) (record { sound = a.0.sound; fits = a.0.fits; range = range })
all_may_start limits range (source ∷ sources) a (suc number) application e = all_may_start limits range sources a.1 number application e

-- What is told of all, from the first on, is what is told of the session of their sources.
pub told_of_all : (limits : Limits) (quantum : ℕ) (sources : List Source) (new : SessionView) (told : Told) → KeepsApplications quantum →
    AppliesAsMeant limits → AreAdmitted sources → new ≡ session_run quantum (map (application_of limits) sources)
    → HaveEnded new → AllStandAlone new.members → told.out ≡ text_from 0 (runs_at new.members) → told.status ≡ status_of_all (runs_at new.members) → told ≡ told_of (runs limits quantum sources)
told_of_all limits quantum sources new told keeps meant admitted is ended alone out status =
    let same : map application_in new.members ≡ map (application_of limits) sources = ap (λ (s : SessionView). map application_in s.members) is ∙ keeps (map (application_of limits) sources) in
    let rans : runs_at new.members ≡ runs limits quantum sources =
    all_as_meant limits meant sources new.members same admitted alone (all_ended new.members ended) ∙ ap (λ (s : SessionView). runs_of limits sources s.members) is
    in
    ap (λ (o : List ℕ). record told { out = o }) (out ∙ ap (text_from 0) rans) ∙ ap (λ (s : Status). record { out = text_from 0 (runs limits quantum sources); status = s }) (status ∙ ap status_of_all rans)

-- ---- one more

-- What is told of one application, and then of those behind it.
pub told_next : (number : ℕ) (members : List MemberView) (told more all : Told) → number < length members →
    ((member : MemberView) → slice_get members number ≡ Some member → more ≡ with_run number (run_at member) told)
    → all.out ≡ more.out ++ text_from (number + 1) (runs_at (drop (number + 1) members)) → all.out ≡ told.out ++ text_from number (runs_at (drop number members))
told_next number members told more all l one out =
    some_there members number l (λ member e.
    out
    ∙ ap (λ (t : Told). t.out ++ text_from (number + 1) (runs_at (drop (number + 1) members))) (one member e)
    ∙ append_assoc told.out (run_text number (run_at member)) (text_from (number + 1) (runs_at (drop (number + 1) members)))
    ∙ ap (λ (ms : List MemberView). told.out ++ text_from number (runs_at ms)) (sym (next_there members number member e)))

pub status_next : (number : ℕ) (members : List MemberView) (told more all : Told) → number < length members →
    ((member : MemberView) → slice_get members number ≡ Some member → more ≡ with_run number (run_at member) told)
    → all.status ≡ status_then more.status (status_of_all (runs_at (drop (number + 1) members))) → all.status ≡ status_then told.status (status_of_all (runs_at (drop number members)))
status_next number members told more all l one status =
    some_there members number l (λ member e.
    status
    ∙ ap (λ (t : Told). status_then t.status (status_of_all (runs_at (drop (number + 1) members)))) (one member e)
    ∙ then_then told.status (run_at member).status (status_of_all (runs_at (drop (number + 1) members)))
    ∙ ap (λ (ms : List MemberView). status_then told.status (status_of_all (runs_at ms))) (sym (next_there members number member e)))

pub alone_next : (number : ℕ) (members : List MemberView) → number < length members →
    ((member : MemberView) → slice_get members number ≡ Some member → StandsAlone member) → AllStandAlone (drop (number + 1) members) →
    AllStandAlone (drop number members)
alone_next number members l one rest =
    some_there members number l (λ member e. subst AllStandAlone (sym (next_there members number member e)) (one member e, rest))

-- Behind the last nothing is told.
pub told_last : (number : ℕ) (members : List MemberView) (told : List ℕ) → length members ≤ number →
    told ≡ told ++ text_from number (runs_at (drop number members))
told_last number members told l =
    sym (append-nil told) ∙ ap (λ (ms : List MemberView). told ++ text_from number (runs_at ms)) (sym (none_there members number l))

pub status_last : (number : ℕ) (members : List MemberView) (status : Status) → length members ≤ number →
    status ≡ status_then status (status_of_all (runs_at (drop number members)))
status_last number members status l =
    sym (then_done status) ∙ ap (λ (ms : List MemberView). status_then status (status_of_all (runs_at ms))) (sym (none_there members number l))

pub alone_last : (number : ℕ) (members : List MemberView) → length members ≤ number → AllStandAlone (drop number members)
alone_last number members l = subst AllStandAlone (sym (none_there members number l)) tt
