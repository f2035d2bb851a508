-- Schedules, pair by pair.
use Rattle.std.proofs.Common.{◌≡◌, ℕ, ◌+◌, ◌<◌, ◌==◌, List, [], ◌∷◌, ◌++◌, length, map, refl, ap, sym, ◌∙◌, subst, inl, inr, arith}
use Rattle.std.proofs.Common.{Bool, true, false, Option, Some, None, if◌then◌else◌}
use Rattle.std.specs.Prelude.{slice_get, slice_set, option_map}
use Rattle.std.proofs.lemmas.Bool.{eqb-true, eqb-false}
use Rattle.std.proofs.lemmas.List.{length-set, length-append, map-append, length-map}
use Rattle.std.proofs.lemmas.Option.{slice_get-map, same_Some}
use Rattle.ns_code.specs.declared.program.CodeProgram.{CodeProgram}
use Rattle.ns_facets.specs.declared.board.Board.{Board}
use Rattle.ns_moves.specs.State.{State}
use Rattle.ns_moves.specs.Turn.{Turns}
use Rattle.ns_moves.specs.StatedMoves.{TurnsAdd, TurnsLeaveOne}
use Rattle.ns_session.specs.Member.{Application, MemberView, start_of, starting, taken, IsAlone, TurnOf}
use Rattle.ns_session.specs.Session.{SessionView, Pair, PlaysAt, Plays, added}
use Rattle.ns_session.specs.Play.{opened, Played, steps_for, given}
use Rattle.ns_session.specs.Laws.{NameApplications, IsPlayed, WasGiven}
use Rattle.ns_session.proofs.Lists.{set_here, set_there, get_before, set_before}

-- ---- an application that comes later

-- as many applications are there after a pair
played_length : (o : Option MemberView) (pair : Pair) (old new : SessionView) → PlaysAt o pair old new →
    length new.members ≡ length old.members
played_length None pair old new is = ap (λ (s : SessionView). length s.members) is
played_length (Some member) pair old new turn =
    ap (λ (xs : List MemberView). length xs) turn.members ∙ length-set old.members pair.number (record member { state = turn.state })

-- a pair of those that were there plays the same
added_at : (application : Application) (o : Option MemberView) (pair : Pair) (old new : SessionView) → pair.number < length old.members
    → PlaysAt o pair old new → PlaysAt o pair (added application old) (added application new)
added_at application None pair old new within is = ap (added application) is
added_at application (Some member) pair old new within turn = record {
  state = turn.state;
  turn = turn.turn;
  members = ap (λ (xs : List MemberView). xs ++ starting application ∷ []) turn.members
      ∙ sym (set_before old.members (starting application ∷ []) pair.number (record member { state = turn.state }) within);
}

added_plays : (application : Application) (pair : Pair) (old new : SessionView) → pair.number < length old.members → Plays pair old new
    → Plays pair (added application old) (added application new)
added_plays application pair old new within plays =
    subst (λ (o : Option MemberView). PlaysAt o pair (added application old) (added application new))
    (sym (get_before old.members (starting application ∷ []) pair.number within))
    (added_at application (slice_get old.members pair.number) pair old new within plays)

added_played : (application : Application) (pairs : List Pair) (old new : SessionView) → NameApplications (length old.members) pairs →
    Played pairs old new
    → Played pairs (added application old) (added application new)
added_played application [] old new within is = ap (added application) is
added_played application (pair ∷ pairs) old new within played =
    let next = played.0 in
    let same = played_length (slice_get old.members pair.number) pair old next played.1.0 in (
      added application next,
      (
        added_plays application pair old next within.0 played.1.0,
        added_played application pairs next new (subst (λ n. NameApplications n pairs) (sym same) within.1) played.1.1,
      ),
    )

more_within : (count more : ℕ) (pairs : List Pair) → count < more → NameApplications count pairs → NameApplications more pairs
more_within count more [] less within = tt
more_within count more (pair ∷ pairs) less within =
    let before = within.0 in
    (omega (arith, before, less), more_within count more pairs less within.1)

opened_length : (applications : List Application) → length (opened applications).members ≡ length applications
opened_length applications = length-map applications starting

opened_added : (applications : List Application) (application : Application) →
    opened (applications ++ application ∷ []) ≡ added application (opened applications)
opened_added applications application =
    ap (λ (xs : List MemberView). record (opened applications) { members = xs }) (map-append starting applications (application ∷ []))

pub adding_plays : (application : Application) (applications : List Application) (pairs : List Pair) (session : SessionView) →
    IsPlayed applications pairs session
    → IsPlayed (applications ++ application ∷ []) pairs (added application session)
adding_plays application applications pairs session is =
    let longer = length-append applications (application ∷ []) in
    let one : length (application ∷ []) ≡ 1 = refl in
    let more : length applications < length (applications ++ application ∷ []) = omega (arith, longer, one) in
    record {
      within = more_within (length applications) (length (applications ++ application ∷ [])) pairs more is.within;
      played = subst (λ (s : SessionView). Played pairs s (added application session)) (sym (opened_added applications application))
          (added_played application pairs (opened applications) session
          (subst (λ n. NameApplications n pairs) (sym (opened_length applications)) is.within) is.played);
    }

-- ---- one more pair

then_plays : (pair : Pair) (pairs : List Pair) (first old new : SessionView) → Played pairs first old → Plays pair old new →
    Played (pairs ++ pair ∷ []) first new
then_plays pair [] first old new is plays = (new, (subst (λ (s : SessionView). Plays pair s new) is plays, refl))
then_plays pair (each ∷ pairs) first old new played plays =
    (played.0, (played.1.0, then_plays pair pairs played.0 old new played.1.1 plays))

then_within : (count : ℕ) (pair : Pair) (pairs : List Pair) → NameApplications count pairs → pair.number < count →
    NameApplications count (pairs ++ pair ∷ [])
then_within count pair [] within is = (is, tt)
then_within count pair (each ∷ pairs) within is = (within.0, then_within count pair pairs within.1 is)

pub turns_play : (pair : Pair) (applications : List Application) (pairs : List Pair) (old new : SessionView) →
    IsPlayed applications pairs old
    → pair.number < length applications → Plays pair old new → IsPlayed applications (pairs ++ pair ∷ []) new
turns_play pair applications pairs old new is within plays = record {
  within = then_within (length applications) pair pairs is.within within;
  played = then_plays pair pairs (opened applications) old new is.played plays;
}

-- ---- one application in a schedule

-- a state that a turn leaves is one where a turn begins
pub stands : (code : CodeProgram) (steps : ℕ) (old new : State) → Turns code steps old new → Turns code 0 new new
stands code steps old new (inl turn) = inl (record { count = 0; is = refl; charged = refl; next = turn.next })
stands code steps old new (inr turn) =
    let none : 0 + 0 ≡ 0 = refl in
    inr (record { count = 0; spared = 0; is = refl; charged = none; still = turn.still })

-- An application without the board has come to that state with so many steps.
pub record HasCome (member : MemberView) (number steps : ℕ) (session : SessionView) : Type 0 where
  pub state : State
  pub there : slice_get session.members number ≡ Some (record member { state = state })
  pub turns : Turns member.application.code steps member.state state

own : (granted : Bool) (code : CodeProgram) (steps : ℕ) (old : State) (board : Board) (new : State) (left : Board) → granted ≡ false
    → TurnOf granted code steps old board new left → Turns code steps old new
own true code steps old board new left e turn = absurd (cc)
own false code steps old board new left e turn = turn.turns

-- a pair gives it its steps, or changes nothing of it
one_pair : (o : Option MemberView) (pair : Pair) (number : ℕ) (old new : SessionView) (member : MemberView) →
    slice_get old.members pair.number ≡ o
    → slice_get old.members number ≡ Some member → member.application.grants.board ≡ false → Turns member.application.code 0 member.state member.state
    → PlaysAt o pair old new → HasCome member number (steps_for number pair) new
one_pair o pair number old new member at here alone rests plays = by_number (pair.number == number) refl o at plays
  where
    same : (o : Option MemberView) → slice_get old.members pair.number ≡ o → pair.number ≡ number → PlaysAt o pair old new → HasCome member number pair.steps new
    same None at e plays = absurd (let f = sym at ∙ (ap (slice_get old.members) e ∙ here) in cc)
    same (Some other) at e turn =
        let is : other ≡ member = same_Some other member (sym at ∙ (ap (slice_get old.members) e ∙ here)) in
        let own_turn = own other.application.grants.board other.application.code pair.steps other.state old.board turn.state new.board
        (ap (λ (m : MemberView). m.application.grants.board) is ∙ alone) turn.turn in
        record {
          state = turn.state;
          there = ap (λ (xs : List MemberView). slice_get xs number) turn.members
              ∙ (subst (λ n. slice_get (slice_set old.members n (record other { state = turn.state })) number ≡ Some (record other { state = turn.state })) (sym e)
              (set_here old.members number member (record other { state = turn.state }) here)
              ∙ ap (λ (m : MemberView). Some (record m { state = turn.state })) is);
          turns = subst (λ (m : MemberView). Turns m.application.code pair.steps m.state turn.state) is own_turn;
        }

    not_same : (o : Option MemberView) → (pair.number ≡ number → ⊥) → PlaysAt o pair old new → HasCome member number 0 new
    not_same None e plays = record { state = member.state; there = ap (λ (s : SessionView). slice_get s.members number) plays ∙ here; turns = rests }
    not_same (Some other) e turn = record {
      state = member.state;
      there = ap (λ (xs : List MemberView). slice_get xs number) turn.members
          ∙ (set_there old.members pair.number number (record other { state = turn.state }) (λ f. e (sym f)) ∙ here);
      turns = rests;
    }

    by_number : (b : Bool) → (pair.number == number) ≡ b → (o : Option MemberView) → slice_get old.members pair.number ≡ o → PlaysAt o pair old new
        → HasCome member number (steps_for number pair) new
    by_number true e o at plays =
        subst (λ n. HasCome member number n new) (sym (ap (λ b. if b then pair.steps else 0) e)) (same o at (eqb-true pair.number number e) plays)
    by_number false e o at plays =
        subst (λ n. HasCome member number n new) (sym (ap (λ b. if b then pair.steps else 0) e)) (not_same o (eqb-false pair.number number e) plays)

-- a whole schedule gives it one turn of all its steps
pub all_pairs : (pairs : List Pair) (number : ℕ) (old new : SessionView) (member : MemberView) → TurnsAdd member.application.code
    → slice_get old.members number ≡ Some member → member.application.grants.board ≡ false → Turns member.application.code 0 member.state member.state
    → Played pairs old new → HasCome member number (given number pairs) new
all_pairs [] number old new member add here alone rests is =
    record { state = member.state; there = ap (λ (s : SessionView). slice_get s.members number) is ∙ here; turns = rests }
all_pairs (pair ∷ pairs) number old new member add here alone rests played =
    let next = played.0 in
    let first = one_pair (slice_get old.members pair.number) pair number old next member refl here alone rests played.1.0 in
    let others = all_pairs pairs number next new (record member { state = first.state }) add first.there alone
    (stands member.application.code (steps_for number pair) member.state first.state first.turns) played.1.1 in
    record {
      state = others.state;
      there = others.there;
      turns = add (steps_for number pair) (given number pairs) member.state first.state others.state first.turns others.turns;
    }

from_opened : (application : Application) → TurnsAdd application.code → IsAlone application (start_of application) →
    application.grants.board ≡ false → (steps number : ℕ)
    (session : SessionView) → WasGiven application steps number session → HasCome (starting application) number steps session
from_opened application add alone granted steps number session was =
    subst (λ n. HasCome (starting application) number n session) was.steps_are
    (all_pairs was.pairs number (opened was.applications) session (starting application) add
    (slice_get-map starting was.applications number ∙ ap (option_map starting) was.there) granted
    (stands application.code (taken (start_of application)) (start_of application) (start_of application) alone) was.played)

pub agree : (application : Application) → TurnsAdd application.code → TurnsLeaveOne application.code →
    IsAlone application (start_of application)
    → application.grants.board ≡ false → (steps here there : ℕ) (one other : SessionView) → WasGiven application steps here one → WasGiven application steps there other
    → slice_get one.members here ≡ slice_get other.members there
agree application add leaves alone granted steps here there one other was were =
    let a = from_opened application add alone granted steps here one was in
    let b = from_opened application add alone granted steps there other were in
    a.there ∙ (ap (λ (s : State). Some (record { application = application; state = s })) (leaves steps (start_of application) a.state b.state a.turns b.turns)
    ∙ sym b.there)
