use Rattle.std.proofs.Common.{◌<◌, List, length, refl, ap, sym, subst}
use Rattle.std.proofs.lemmas.Option.{slice_get_read}
use Rattle.ns_session.specs.Member.{MemberView}
use Rattle.ns_session.specs.Session.{SessionView}
use Rattle.ns_session.proofs.Rounding.{session_lowers}
use Rattle.ns_session.proofs.session.Session.turn.Goals as goal

pub returns-clause-less : goal.returns-clause-less
returns-clause-less c some can =
    let items = c.self.inside.members.items in
    let same = ap (λ (s : SessionView). s.members) c.self.view_is in
    let within = subst (λ (xs : List MemberView). c.args.k < length xs) (sym same) can.0 in
    session_lowers c.args.self.now items c.args.k c.index_mut-member.result.now c.turn.new.self same
    (slice_get_read items (length items) c.args.k c.index_mut-member.result.now refl within c.index_mut-member.ensures.value) can
    (c.turn.ensures.less some)
