-- The round robin: rounds of turns, until all runs have ended.
use Rattle.std.specs.Prelude.{◌≡◌, ◌<◌, ◌+◌, ℕ, zero, suc, length, slice_get, Option, Some, None, IsSome}
use Rattle.ns_world.specs.declared.ending.Ending.{Ending}
use Rattle.ns_session.specs.Session.{SessionView, Pair, Plays, ending_in}

-- There is an application of that number, and it hasn't ended.
abbrev pub CanGoOn : ℕ → SessionView → Type 0
CanGoOn number session = (number < length session.members) × (ending_in (slice_get session.members number) ≡ None)

-- An application that has ended is passed over, and any other has its turn.
abbrev pub GivenTo : Option Ending → Pair → SessionView → SessionView → Type 0
GivenTo (Some ending) pair old new = new ≡ old
GivenTo None pair old new = Plays pair old new

-- So many applications have theirs in order, from a number on, each with the quantum.
abbrev pub RoundFrom : ℕ → ℕ → ℕ → SessionView → SessionView → Type 0
RoundFrom quantum zero number old new = new ≡ old
RoundFrom quantum (suc more) number old new =
    (next : SessionView) × (GivenTo (ending_in (slice_get old.members number)) (record { number = number; steps = quantum }) old next
    × RoundFrom quantum more (number + 1) next new)

-- so many rounds, one after another
abbrev pub Rounds : ℕ → ℕ → SessionView → SessionView → Type 0
Rounds quantum zero old new = new ≡ old
Rounds quantum (suc count) old new =
    (next : SessionView) × (RoundFrom quantum (length old.members) 0 old next × Rounds quantum count next new)

-- Every run has ended.
abbrev pub HaveEnded : SessionView → Type 0
HaveEnded session = (number : ℕ) → number < length session.members → IsSome (ending_in (slice_get session.members number))

-- Rounds were made until every run had ended.
pub record RoundRobin (quantum : ℕ) (old new : SessionView) : Type 0 where
  pub count : ℕ
  pub rounds : Rounds quantum count old new
  pub ended : HaveEnded new
