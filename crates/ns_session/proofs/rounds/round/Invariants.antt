use Rattle.std.proofs.Common.{◌≡◌, ◌-◌, length}
use Rattle.ns_session.specs.Session.{SessionView}
use Rattle.ns_session.specs.Rounds.{RoundFrom}
use Rattle.ns_session.proofs.Rounding.{Found}
use Rattle.ns_session.proofs.rounds.round.Given as goal

-- the turns so far and those that are left are the round
abbrev pub invariant-members : goal.invariant-members
invariant-members l = record {
  rest :
      (last : SessionView) → RoundFrom l.quantum (length l.fn.session.members - l.number) l.number l.session last
      → RoundFrom l.quantum (length l.fn.session.members) 0 l.fn.session last;
  count : length l.session.members ≡ length l.fn.session.members;
  all : l.number-end ≡ length l.fn.session.members;
  found : Found l.some l.number l.fn.session l.session;
}
