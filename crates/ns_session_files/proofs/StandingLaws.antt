-- An application that stands alone and has ended has come to what its source means.
use Rattle.std.proofs.Common.{◌≡◌, [], refl, ap, sym, subst, ◌∙◌, Bool, true, false, IsSome, cond}
use Rattle.ns_base.specs.declared.limits.Limits.{Limits}
use Rattle.ns_gen_code.specs.Code.{code_of}
use Rattle.ns_run_code.specs.Machine.{told_at}
use Rattle.ns_run_code.specs.Run.{ran_of}
use Rattle.ns_link.specs.Stated.{IsOnTheWay, ReportedAsMeant}
use Rattle.ns_resolved.specs.Tables.{tables}
use Rattle.ns_model.specs.Whole.{RunEnd, meaning_of_run, ran}
use Rattle.ns_moves.specs.State.{State, Ended, Unbegun, Going, Pends, Stuck, ending_of}
use Rattle.ns_moves.specs.Turn.{is_still}
use Rattle.ns_session.specs.Laws.{SourceLeads}
use Rattle.ns_session.specs.Member.{KeepsAlone, MemberView}
use Rattle.ns_session_files.specs.Joint.{run_of}
use Rattle.ns_session_files.specs.Laws.{HasStood}
use Rattle.ns_session_files.specs.Making.{Source, application_of}
use Rattle.ns_session_files.specs.Stood.{run_at}

-- A run that has ended moves no more.
ended_still : (state : State) → IsSome (ending_of state) → is_still state ≡ true
ended_still (Unbegun arguments progress) e = refl
ended_still (Going phase frames progress) e = absurd (cc (e))
ended_still (Pends phase pending frames progress) e = absurd (cc (e))
ended_still (Ended ending phase progress) e = refl
ended_still (Stuck progress) e = absurd (cc (e))

pub as_meant : (limits : Limits) (source : Source) (member : MemberView) → SourceLeads source.meant → ReportedAsMeant source.meant →
    HasStood limits source member → run_at member ≡ run_of limits source member
as_meant limits source member leads reported stood =
    ap (λ (application : _). told_at application.code member.state) stood.application ∙ by source.grants.board refl
  where
    -- the run of its own comes to this end
    end : RunEnd
    end = ran source.meant (tables source.meant) source.grants [] limits

    alone : source.grants.board ≡ false → told_at (code_of source.meant) member.state ≡ ran_of (meaning_of_run source.meant [] source.grants limits)
    alone e =
        let kept : KeepsAlone false (application_of limits source) member.state =
        subst (λ q. KeepsAlone q (application_of limits source) member.state) e (subst (λ application. KeepsAlone application.grants.board application member.state) stood.application stood.alone)
        in
        let way : IsOnTheWay (code_of source.meant) member.state end = leads stood.admitted.first (application_of limits source) member.state refl kept in
        let is : member.state ≡ Ended end.ending way.goes_on.phase end.progress = way.at_rest (ended_still member.state stood.ended) in
        ap (told_at (code_of source.meant)) is ∙ ap ran_of (reported [] source.grants limits)

    either : {q : Bool} → q ≡ source.grants.board → told_at (code_of source.meant) member.state ≡ cond q (told_at (code_of source.meant) member.state) (ran_of (meaning_of_run source.meant [] source.grants limits))
        → told_at (code_of source.meant) member.state ≡ run_of limits source member
    either e h = subst (λ p. told_at (code_of source.meant) member.state ≡ cond p (told_at (code_of source.meant) member.state) (ran_of (meaning_of_run source.meant [] source.grants limits))) e h

    by : (q : Bool) → source.grants.board ≡ q → told_at (code_of source.meant) member.state ≡ run_of limits source member
    by true e = either (sym e) refl
    by false e = either (sym e) (alone e)
