-- What is kept, after a state more is.
use Rattle.std.proofs.Common.{◌≡◌, ◌⊎◌, ◌∙◌, ℕ, true, false, sym, ap, subst, inl, inr, List, Option, Some, None, Result, Ok, Err, IfOk, OnErr}
use Rattle.std.specs.Prelude.{slice_index_or}
use Rattle.std.proofs.lemmas.Bool.{cases_eq}
use Rattle.slab.specs.Slab.{Slab, Updates, get}
use Rattle.ns_code.specs.declared.program.CodeProgram.{CodeProgram}
use Rattle.ns_facets.specs.declared.row.Grants.{Grants}
use Rattle.ns_moves.specs.State.{Phase, Start, First, Second, Hosted, State, Unbegun, Going, Pends, Ended, Stuck, ending_of}
use Rattle.ns_frozen.specs.Laws.{IsTold}
use Rattle.ns_moves.specs.Valid.{Valid}
use Rattle.ns_replay.specs.Replay.{AreKept, AreLeft, CanBegin, IsEndedAtStart, IsKept}
use Rattle.ns_replay.specs.declared.kept.Kept.{Kept}

-- A state in which a run goes on is told whole, and so is one that its start ended.
pub going_told : (code : CodeProgram) (grants : Grants) (state : State) → Valid code grants state → ending_of state ≡ None → IsTold state
going_told code grants (Unbegun arguments progress) valid goes = tt
going_told code grants (Going phase frames progress) valid goes = tt
going_told code grants (Pends phase pending frames progress) valid goes = tt
going_told code grants (Ended ending phase progress) valid goes = absurd (cc (goes))
going_told code grants (Stuck progress) valid goes = absurd valid

-- So is one from which a run can be replayed.
pub begin_told : (code : CodeProgram) (grants : Grants) (state : State) → Valid code grants state → CanBegin state → IsTold state
begin_told code grants (Unbegun arguments progress) valid begins = tt
begin_told code grants (Going phase frames progress) valid begins = tt
begin_told code grants (Pends phase pending frames progress) valid begins = tt
begin_told code grants (Ended ending phase progress) valid begins = ended phase begins.goes
  where
    ended : (p : Phase) → (true ≡ false) ⊎ IsEndedAtStart (Ended ending p progress) → IsTold (Ended ending p progress)
    ended Start goes = tt
    ended (First arguments) (inl goes) = absurd (cc (goes))
    ended (First arguments) (inr none) = absurd none
    ended Second goes = tt
    ended Hosted goes = tt
begin_told code grants (Stuck progress) valid begins = absurd valid

-- ---- under keys

-- What is left of kept states is kept.
pub left_kept : (code : CodeProgram) (grants : Grants) (start : State) (old new : Slab Kept) → AreKept code grants start old → AreLeft old new
    → AreKept code grants start new
left_kept code grants start old new are left key kept is = are key kept (left key kept is)

-- So it is with one more.
pub one_more_kept : (code : CodeProgram) (grants : Grants) (start : State) (old new : Slab Kept) (key : ℕ) (one : Kept) → AreKept code grants start old
    → IsKept code grants start one → Updates old new key (Some one) → AreKept code grants start new
one_more_kept code grants start old new key one are kept updates other each is =
    elim (cases_eq other key) [
      | inl same ↦
          let there : Some one ≡ Some each = sym updates.changed ∙ (sym (ap (get new) same) ∙ is) in
          let is_one : one ≡ each = cc (there) in
          subst (IsKept code grants start) is_one kept
      | inr apart ↦ are other each (sym (updates.others other apart) ∙ is)
    ]

-- One that is dropped leaves the others.
pub dropped_leaves : (old new : Slab Kept) (key : ℕ) → Updates old new key None → AreLeft old new
dropped_leaves old new key updates other each is =
    elim (cases_eq other key) [
      | inl same ↦ let none : None ≡ Some each = sym updates.changed ∙ (sym (ap (get new) same) ∙ is) in absurd (cc (none))
      | inr apart ↦ sym (updates.others other apart) ∙ is
    ]

-- What is kept after a state was put in, or found no room.
pub inserted_kept :
    {E : Type 0} (code : CodeProgram) (grants : Grants) (start : State) (old mid new : Slab Kept) (one : Kept) (result : Result ℕ E) → AreKept code grants start old
    → AreLeft old mid → IsKept code grants start one → IfOk result (λ key. Updates mid new key (Some one))
    → OnErr result (new ≡ record mid { capacity = new.capacity }) → AreKept code grants start new
inserted_kept code grants start old mid new one (Ok key) are left kept updates failed =
    one_more_kept code grants start mid new key one (left_kept code grants start old mid are left) kept updates
inserted_kept code grants start old mid new one (Err error) are left kept updates failed =
    λ key each is.
    let same : new.slots ≡ mid.slots = ap (λ (s : Slab Kept). s.slots) failed in
    are key each (left key each (sym (ap (λ (slots : List (Option Kept)). slice_index_or slots key None) same) ∙ is))
