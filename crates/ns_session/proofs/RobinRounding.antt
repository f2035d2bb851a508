-- The round robin is a function: each round of runs of which some go on uses up some of what is left.
use Rattle.std.proofs.Common.{◌≡◌, ℕ, zero, suc, ◌+◌, ◌<◌, ◌≤◌, ◌⊎◌, ◌&&◌, inl, inr, List, [], ◌∷◌, length, refl, ap, sym, ◌∙◌, subst, arith, Bool, true, false, Option, Some, None, IsSome, if◌then◌else◌}
use Rattle.std.specs.Prelude.{slice_get, slice_set}
use Rattle.std.specs.Option.{is_some}
use Rattle.std.proofs.lemmas.List.{length-set}
use Rattle.std.proofs.lemmas.Option.{same_Some, slice_get_within}
use Rattle.ns_facets.specs.declared.board.Board.{Board}
use Rattle.ns_moves.specs.State.{State, ending_of}
use Rattle.ns_session.specs.Laws.{StartsReached, TurnsLower, TurnsReach}
use Rattle.ns_session.specs.Member.{Application, MemberView, starting}
use Rattle.ns_session.specs.Play.{opened}
use Rattle.ns_session.specs.Reached.{StateIsReached, left_for, left_of}
use Rattle.ns_session.specs.Rounds.{GivenTo, RoundFrom, Rounds, RoundRobin, HaveEnded}
use Rattle.ns_session.specs.Session.{SessionView, HasTurn, PlaysAt, ending_in}
use Rattle.ns_world.specs.declared.ending.Ending.{Ending}
use Rattle.ns_session.specs.RobinLaws.{TurnsAreTurnedBeside, AreReached, MayAllStart}
use Rattle.ns_session.specs.Robin.{with_turn, turn_unless, turn_for, round_from, round_of, have_ended, rounds_in, robin}

-- What is known of turns.
pub record Known : Type 0 where
  pub turns : (application : Application) → TurnsAreTurnedBeside application
  pub reach : (application : Application) → TurnsReach application
  pub lower : (application : Application) → TurnsLower application

-- ---- one item of a list

-- an item of a list in which one was written is that one, or another as it was
abbrev Other : {A : Type 0} (xs : List A) (k j : ℕ) (y z : A) → Type 0
Other xs k j y z = (y ≡ z) ⊎ (slice_get xs j ≡ Some z)

set_or : {A : Type 0} (xs : List A) (k j : ℕ) (y z : A) → slice_get (slice_set xs k y) j ≡ Some z → Other xs k j y z
set_or [] k j y z e = inr e
set_or (x ∷ xs) zero zero y z e = inl (same_Some y z e)
set_or (x ∷ xs) zero (suc j) y z e = inr e
set_or (x ∷ xs) (suc k) zero y z e = inr e
set_or (x ∷ xs) (suc k) (suc j) y z e = set_or xs k j y z e

-- an item that isn't the one that was written is as it was
set_there : {A : Type 0} (xs : List A) (k j : ℕ) (y : A) → k < j → slice_get (slice_set xs k y) j ≡ slice_get xs j
set_there [] k j y less = refl
set_there (x ∷ xs) zero zero y less = absurd (omega (arith, less))
set_there (x ∷ xs) zero (suc j) y less = refl
set_there (x ∷ xs) (suc k) zero y less = absurd (omega (arith, less))
set_there (x ∷ xs) (suc k) (suc j) y less = set_there xs k j y (omega (arith, less))

one_lowers : (members : List MemberView) (k : ℕ) (old new : MemberView) → slice_get members k ≡ Some old → left_for new < left_for old
    → left_of (slice_set members k new) < left_of members
one_lowers [] k old new e less = absurd (cc)
one_lowers (member ∷ members) zero old new e less =
    let same = ap left_for (same_Some member old e) in omega (arith, less, same)
one_lowers (member ∷ members) (suc k) old new e less = let rest = one_lowers members k old new e less in omega (arith, rest)

-- ---- runs that have ended

-- Each of these runs has ended.
abbrev Ended : List MemberView → Type 0
Ended members = (k : ℕ) (member : MemberView) → slice_get members k ≡ Some member → is_some (ending_of member.state) ≡ true

have_ended_is : (members : List MemberView) → Ended members → have_ended members ≡ true
have_ended_is [] ended = refl
have_ended_is (member ∷ members) ended =
    rw (ended 0 member refl, have_ended_is members (λ k other e. ended (suc k) other e)) refl

both_first : (b c : Bool) → (b && c) ≡ true → b ≡ true
both_first true c e = refl
both_first false c e = absurd (cc)

both_second : (b c : Bool) → (b && c) ≡ true → c ≡ true
both_second true c e = e
both_second false c e = absurd (cc)

ended_each : (members : List MemberView) → have_ended members ≡ true → Ended members
ended_each [] all k member e = absurd (cc)
ended_each (first ∷ members) all zero member e =
    ap (λ (m : MemberView). is_some (ending_of m.state)) (sym (same_Some first member e))
    ∙ both_first (is_some (ending_of first.state)) (have_ended members) all
ended_each (first ∷ members) all (suc k) member e =
    ended_each members (both_second (is_some (ending_of first.state)) (have_ended members) all) k member e

is_some_of : (o : Option Ending) → IsSome o → is_some o ≡ true
is_some_of None some = absurd (cc (some))
is_some_of (Some e) some = refl

ended_of : (session : SessionView) → HaveEnded session → Ended session.members
ended_of session ended k member e =
    is_some_of (ending_of member.state)
    (subst (λ (o : Option MemberView). IsSome (ending_in o)) e (ended k (slice_get_within session.members k member e)))

-- ---- one turn

-- What a turn for the application of a number does.
record Turn (quantum k : ℕ) (o : Option MemberView) (old next : SessionView) : Type 0 where
  is : next ≡ turn_for o quantum k old
  reached : AreReached next.members
  less : left_of next.members ≤ left_of old.members
  over : left_of old.members ≤ left_of next.members → (member : MemberView) → o ≡ Some member → is_some (ending_of member.state) ≡ true
  same : (j : ℕ) → k < j → slice_get next.members j ≡ slice_get old.members j
  count : length next.members ≡ length old.members

stays : (quantum k : ℕ) (o : Option MemberView) (old next : SessionView) → next ≡ old → turn_for o quantum k old ≡ old →
    AreReached old.members
    → ((member : MemberView) → o ≡ Some member → is_some (ending_of member.state) ≡ true) → Turn quantum k o old next
stays quantum k o old next e same reached over =
    subst (λ (s : SessionView). Turn quantum k o old s) (sym e)
    (record { is = sym same; reached = reached; less = omega arith; over = λ more. over; same = λ j less. refl; count = refl })

abbrev session_of : List MemberView → Board → SessionView
session_of members board = record { members = members; board = board }

session_is : (session : SessionView) (members : List MemberView) (board : Board) → session.members ≡ members → session.board ≡ board
    → session ≡ session_of members board
session_is session members board e f =
    ap (λ (xs : List MemberView). session_of xs session.board) e ∙ ap (session_of members) f

-- the application that has its turn is reached again, and the others are as they were
reached_with : (members : List MemberView) (k : ℕ) (member : MemberView) (state : State) → AreReached members →
    StateIsReached member.application state
    → AreReached (slice_set members k (record member { state = state }))
reached_with members k member state reached is j other e = by (set_or members k j (record member { state = state }) other e)
  where
    by : Other members k j (record member { state = state }) other → StateIsReached other.application other.state
    by (inl same) = subst (λ (m : MemberView). StateIsReached m.application m.state) same is
    by (inr there) = reached j other there

module _ (known : Known) (quantum : ℕ) (some : 1 ≤ quantum) where
  has_turn : (k : ℕ) (member : MemberView) (old next : SessionView) → slice_get old.members k ≡ Some member → ending_of member.state ≡ None
      → AreReached old.members → HasTurn member (record { number = k; steps = quantum }) old next → Turn quantum k (Some member) old next
  has_turn k member old next there goes reached turn =
      let application = member.application in
      let is = reached k member there in
      let after = known.turns application application.grants.board quantum member.state old.board turn.state next.board is turn.turn in
      let now = known.reach application application.grants.board quantum member.state old.board turn.state next.board turn.turn is in
      let low = known.lower application application.grants.board quantum member.state old.board turn.state next.board turn.turn is some goes in
      let fewer = one_lowers old.members k member (record member { state = turn.state }) there low in
      let left : left_of next.members ≡ left_of (slice_set old.members k (record member { state = turn.state })) = ap left_of turn.members in
      record {
        is = session_is next (slice_set old.members k (record member { state = turn.state })) next.board turn.members refl
            ∙ (ap (with_turn k member old) after ∙ sym (ap (λ (o : Option Ending). turn_unless o quantum k member old) goes));
        reached = subst AreReached (sym turn.members) (reached_with old.members k member turn.state reached now);
        less = omega (arith, fewer, left);
        over = λ more other e. absurd (omega (arith, fewer, left, more));
        same = λ j less. ap (λ (xs : List MemberView). slice_get xs j) turn.members ∙ set_there old.members k j (record member { state = turn.state }) less;
        count = ap (λ (xs : List MemberView). length xs) turn.members ∙ length-set old.members k (record member { state = turn.state });
      }

  gives : (e : Option Ending) (k : ℕ) (member : MemberView) (old next : SessionView) → slice_get old.members k ≡ Some member → ending_of member.state ≡ e
      → AreReached old.members → GivenTo e (record { number = k; steps = quantum }) old next → Turn quantum k (Some member) old next
  gives (Some ending) k member old next there goes reached given =
      stays quantum k (Some member) old next given (ap (λ (o : Option Ending). turn_unless o quantum k member old) goes) reached
      (λ other e. ap (λ (m : MemberView). is_some (ending_of m.state)) (sym (same_Some member other e)) ∙ ap is_some goes)
  gives None k member old next there goes reached given =
      has_turn k member old next there goes reached
      (subst (λ (o : Option MemberView). PlaysAt o (record { number = k; steps = quantum }) old next) there given)

  turn_is : (o : Option MemberView) (k : ℕ) (old next : SessionView) → slice_get old.members k ≡ o → AreReached old.members
      → GivenTo (ending_in o) (record { number = k; steps = quantum }) old next → Turn quantum k o old next
  turn_is None k old next none reached given =
      let same = subst (λ (o : Option MemberView). PlaysAt o (record { number = k; steps = quantum }) old next) none given in
      stays quantum k None old next same refl reached (λ member e. absurd (cc (e)))
  turn_is (Some member) k old next there reached given = gives (ending_of member.state) k member old next there refl reached given

  -- ---- one round

  -- What a round from a number on does.
  record Round (more k : ℕ) (old last : SessionView) : Type 0 where
    is : last ≡ round_from quantum more k old
    reached : AreReached last.members
    less : left_of last.members ≤ left_of old.members
    over : left_of old.members ≤ left_of last.members → (j : ℕ) (member : MemberView) → k ≤ j → j < k + more
        → slice_get old.members j ≡ Some member → is_some (ending_of member.state) ≡ true

  then_round : (more k : ℕ) (old next last : SessionView) → Turn quantum k (slice_get old.members k) old next → Round more (k + 1) next last
      → Round (suc more) k old last
  then_round more k old next last turn rest =
      let first = turn.less in
      let others = rest.less in
      record {
        is = rest.is ∙ ap (round_from quantum more (k + 1)) turn.is;
        reached = rest.reached;
        less = omega (arith, first, others);
        over = λ all j member from to e. at all j member to e (split k j from);
      }
    where
      split : (k j : ℕ) → k ≤ j → (k ≡ j) ⊎ (k < j)
      split k j from = grind (arith, from)

      at : left_of old.members ≤ left_of last.members → (j : ℕ) (member : MemberView) → j < k + suc more → slice_get old.members j ≡ Some member
          → (k ≡ j) ⊎ (k < j) → is_some (ending_of member.state) ≡ true
      at all j member to e (inl here) =
          let others = rest.less in
          turn.over (omega (arith, all, others)) member (ap (slice_get old.members) here ∙ e)
      at all j member to e (inr past) =
          let first = turn.less in
          rest.over (omega (arith, all, first)) j member (omega (arith, past)) (omega (arith, to)) (turn.same j past ∙ e)

  round_is : (more k : ℕ) (old last : SessionView) → AreReached old.members → RoundFrom quantum more k old last → Round more k old last
  round_is zero k old last reached e =
      subst (λ (s : SessionView). Round zero k old s) (sym e)
      (record { is = refl; reached = reached; less = omega arith; over = λ all j member from to there. absurd (omega (arith, from, to)) })
  round_is (suc more) k old last reached round =
      let turn = turn_is (slice_get old.members k) k old round.0 refl reached round.1.0 in
      then_round more k old round.0 last turn (round_is more (k + 1) round.0 last turn.reached round.1.1)

  -- a round of runs that have all ended changes nothing
  passed : (o : Option MemberView) (k : ℕ) (s : SessionView) → ((member : MemberView) → o ≡ Some member → is_some (ending_of member.state) ≡ true)
      → turn_for o quantum k s ≡ s
  passed None k s ended = refl
  passed (Some member) k s ended = by (ending_of member.state) (ended member refl)
    where
      by : (e : Option Ending) → is_some e ≡ true → turn_unless e quantum k member s ≡ s
      by (Some ending) some = refl
      by None some = absurd (cc)

  idle : (more k : ℕ) (s : SessionView) → Ended s.members → round_from quantum more k s ≡ s
  idle zero k s ended = refl
  idle (suc more) k s ended =
      ap (round_from quantum more (k + 1)) (passed (slice_get s.members k) k s (λ member e. ended k member e)) ∙ idle more (k + 1) s ended

  -- ---- all rounds

  enough_of : (enough : ℕ) (s : SessionView) → have_ended s.members ≡ true → rounds_in quantum enough s ≡ s
  enough_of zero s ended = refl
  enough_of (suc enough) s ended = ap (λ (b : Bool). if b then s else rounds_in quantum enough (round_of quantum s)) ended

  -- Where a round of runs that haven't all ended is followed by the rest, which enough rounds give, so do as many and one.
  goes_on : (enough : ℕ) (old next new : SessionView) → have_ended old.members ≡ false → left_of old.members ≤ enough
      → Round (length old.members) 0 old next → ((fewer : ℕ) → left_of next.members ≤ fewer → new ≡ rounds_in quantum fewer next)
      → new ≡ rounds_in quantum enough old
  goes_on enough old next new on few round rest = by enough few (fell (tested (left_of old.members) (left_of next.members)))
    where
      tested : (m n : ℕ) → (m ≤ n) ⊎ (n < m)
      tested m n = grind arith

      fell : (left_of old.members ≤ left_of next.members) ⊎ (left_of next.members < left_of old.members) → left_of next.members < left_of old.members
      fell (inr less) = less
      fell (inl all) =
          let ended : have_ended old.members ≡ true =
          have_ended_is old.members
          (λ j member e.
          let within = slice_get_within old.members j member e in
          round.over all j member (omega arith) (omega (arith, within)) e)
          in absurd (cc)

      by : (enough : ℕ) → left_of old.members ≤ enough → left_of next.members < left_of old.members → new ≡ rounds_in quantum enough old
      by zero few less = absurd (omega (arith, few, less))
      by (suc fewer) few less =
          rest fewer (omega (arith, few, less))
          ∙ (ap (rounds_in quantum fewer) round.is
          ∙ sym (ap (λ (b : Bool). if b then old else rounds_in quantum fewer (round_of quantum old)) on))

  rounds_are : (count enough : ℕ) (old new : SessionView) → AreReached old.members → left_of old.members ≤ enough → Rounds quantum count old new
      → HaveEnded new → new ≡ rounds_in quantum enough old
  rounds_are zero enough old new reached few same ended =
      same ∙ sym (enough_of enough old (ap (λ (s : SessionView). have_ended s.members) (sym same) ∙ have_ended_is new.members (ended_of new ended)))
  rounds_are (suc count) enough old new reached few rounds ended =
      let next = rounds.0 in
      let round = round_is (length old.members) 0 old next reached rounds.1.0 in
      let rest : (fewer : ℕ) → left_of next.members ≤ fewer → new ≡ rounds_in quantum fewer next =
      λ fewer less. rounds_are count fewer next new round.reached less rounds.1.1 ended
      in by (have_ended old.members) refl next round rest
    where
      by : (b : Bool) → have_ended old.members ≡ b → (next : SessionView) → Round (length old.members) 0 old next
          → ((fewer : ℕ) → left_of next.members ≤ fewer → new ≡ rounds_in quantum fewer next) → new ≡ rounds_in quantum enough old
      by false e next round rest = goes_on enough old next new e few round rest
      by true e next round rest =
          let same : next ≡ old = round.is ∙ idle (length old.members) 0 old (ended_each old.members e) in
          rest enough (subst (λ (s : SessionView). left_of s.members ≤ enough) (sym same) few) ∙ ap (rounds_in quantum enough) same

  pub robin_is : (old new : SessionView) → AreReached old.members → RoundRobin quantum old new → new ≡ robin quantum old
  robin_is old new reached made =
      let few : left_of old.members ≤ left_of old.members = omega arith in
      rounds_are made.count (left_of old.members) old new reached few made.rounds made.ended

-- ---- applications that have started

pub opened_reached : ((application : Application) → StartsReached application) → (applications : List Application) →
    MayAllStart applications
    → AreReached (opened applications).members
opened_reached starts [] may k member e = absurd (cc)
opened_reached starts (first ∷ more) may zero member e =
    subst (λ (m : MemberView). StateIsReached m.application m.state) (same_Some (starting first) member e) (starts first (may 0 first refl))
opened_reached starts (first ∷ more) may (suc k) member e =
    opened_reached starts more (λ j application there. may (suc j) application there) k member e
