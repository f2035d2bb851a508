-- Of two alike sends each move charges where the other's does, and so they come through the same turns to states that are alike.
use Rattle.std.proofs.Common.{◌≡◌, ℕ, zero, suc, ◌+◌, List, [], ◌∷◌, Option, Some, None, Bool, false, cond, refl, sym, ap, ◌∙◌, subst, arith, inl, inr}
use Rattle.std.specs.Prelude.{nat_lt, ◌||◌}
use Rattle.ns_code.specs.declared.program.CodeProgram.{CodeProgram}
use Rattle.ns_facets.specs.declared.row.Grants.{Grants}
use Rattle.ns_world.specs.declared.value.Value.{Value}
use Rattle.ns_world.specs.declared.ending.Ending.{Ending}
use Rattle.ns_world.specs.declared.ending.Ending.TheVariants.{Done, Error, Limit}
use Rattle.ns_world.specs.Alike.{Renaming, Alike}
use Rattle.ns_moves.specs.State.{State, Unbegun, Going, Pends, Ended, Stuck, world_of, ending_of}
use Rattle.ns_moves.specs.Move.{move, moves}
use Rattle.ns_moves.specs.Turn.{is_step_limit, ends_with_steps, is_still, was_charged, charges, one_if, charged_in, Turns}
use Rattle.ns_moves.specs.Starts.{begun}
use Rattle.ns_moves.specs.StatedMoves.{MovesAdd, TurnsLeaveOne}
use Rattle.ns_machine_alike.specs.Renamed.{renamed_on}
use Rattle.ns_machine_alike.specs.Isolated.{MaybeEndingAlike, RunsAlike, SendsAreAlike, RenamingsGoOn}
use Rattle.ns_machine_alike.specs.Underway.{TurnsLead, SendIsUnderway, TurnsAreAlike, TurnsComeToTheSame, TurnsGoOnAlike}
use Rattle.ns_machine_alike.proofs.Charging.{same_lt}
use Rattle.ns_machine_alike.proofs.Beginning.{may_begin_too}

-- ---- the limit on steps

-- whether an ending, if there is one, is the limit on steps
abbrev told : Option Ending → Bool
told None = false
told (Some ending) = is_step_limit ending

ends_told : (state : State) → ends_with_steps state ≡ told (ending_of state)
ends_told (Unbegun arguments progress) = refl
ends_told (Going phase frames progress) = refl
ends_told (Pends phase pending frames progress) = refl
ends_told (Ended ending phase progress) = refl
ends_told (Stuck progress) = refl

same_told : (after : Renaming) (ending other : Option Ending) → MaybeEndingAlike after ending other → told ending ≡ told other
same_told after None None e = refl
same_told after (Some (Done value)) (Some (Done other)) e = refl
same_told after (Some (Error error)) (Some (Error error')) e = refl
same_told after (Some (Limit limit)) (Some (Limit limit')) e = ap (λ l. is_step_limit (Limit l)) e
same_told after ending other e = absurd e

-- ---- two sends, move by move

module _ (code : CodeProgram) (adds : (state : State) → MovesAdd code state) (renamings : RenamingsGoOn) (pairs : Renaming) (firsts seconds : List Value) (first second start other : State) (starts : Alike pairs (world_of first) (world_of second) firsts seconds)
    (runs : (count : ℕ) → RunsAlike pairs firsts seconds first second (moves code count start) (moves code count other)) where
  abbrev one : ℕ → State
  one count = moves code count start

  abbrev two : ℕ → State
  two count = moves code count other

  next_one : (count : ℕ) → move code (one count) ≡ one (count + 1)
  next_one count = sym (adds start count 1)

  next_two : (count : ℕ) → move code (two count) ≡ two (count + 1)
  next_two count = sym (adds other count 1)

  same_ends : (count : ℕ) → ends_with_steps (one count) ≡ ends_with_steps (two count)
  same_ends count =
      let run = runs count in
      let after = renamed_on pairs (world_of first) (world_of second) (world_of (one count)).cells in
      let ends = run.ends after (renamings pairs (world_of first) (world_of second) firsts seconds (world_of (one count)).cells starts run.grows) in
      ends_told (one count) ∙ (same_told after (ending_of (one count)) (ending_of (two count)) ends ∙ sym (ends_told (two count)))

  same_charge : (count : ℕ) → was_charged (one count) (one (count + 1)) ≡ was_charged (two count) (two (count + 1))
  same_charge count =
      let steps = (runs count).uses.steps in
      let more = (runs (count + 1)).uses.steps in
      ap (λ b. b || ends_with_steps (one (count + 1))) (same_lt (world_of (one count)).steps (world_of (one (count + 1))).steps (world_of (two count)).steps (world_of (two (count + 1))).steps (omega (arith, steps, more)))
      ∙ ap (λ b. nat_lt (world_of (two count)).steps (world_of (two (count + 1))).steps || b) (same_ends (count + 1))

  same_charges : (count : ℕ) → charges code (one count) ≡ charges code (two count)
  same_charges count =
      ap (λ s. cond (is_still (one count)) false (was_charged (one count) s)) (next_one count)
      ∙ (ap (λ b. cond b false (was_charged (one count) (one (count + 1)))) (runs count).still
      ∙ (ap (λ b. cond (is_still (two count)) false b) (same_charge count)
      ∙ sym (ap (λ s. cond (is_still (two count)) false (was_charged (two count) s)) (next_two count))))

  same_charged : (more count : ℕ) → charged_in code more (one count) ≡ charged_in code more (two count)
  same_charged zero count = refl
  same_charged (suc more) count =
      ap (λ b. one_if b (charged_in code more (move code (one count)))) (same_charges count)
      ∙ ap (one_if (charges code (two count))) (ap (charged_in code more) (next_one count) ∙ (same_charged more (count + 1) ∙ sym (ap (charged_in code more) (next_two count))))

  -- ---- turn by turn

  -- a turn of the one, and of the other
  record TurnToo (steps count : ℕ) (new : State) : Type 0 where
    more : ℕ
    is : one (count + more) ≡ new
    turns : Turns code steps (two count) (two (count + more))

  turn_too : (steps count : ℕ) (new : State) → Turns code steps (one count) new → TurnToo steps count new
  turn_too steps count new (inl p) =
      let is = adds start count p.count ∙ p.is in
      record {
        more = p.count;
        is = is;
        turns = inl (record {
          count = p.count;
          is = sym (adds other count p.count);
          charged = sym (same_charged p.count count) ∙ p.charged;
          next = sym (same_charges (count + p.count)) ∙ (ap (charges code) is ∙ p.next);
        });
      }
  turn_too steps count new (inr p) =
      let is = adds start count p.count ∙ p.is in
      record {
        more = p.count;
        is = is;
        turns = inr (record {
          count = p.count;
          spared = p.spared;
          is = sym (adds other count p.count);
          charged = ap (λ k. k + p.spared) (sym (same_charged p.count count)) ∙ p.charged;
          still = sym (runs (count + p.count)).still ∙ (ap is_still is ∙ p.still);
        });
      }

  pub record LeadToo (turns : List ℕ) (now : State) : Type 0 where
    pub count : ℕ
    pub is : one count ≡ now
    pub leads : TurnsLead code turns other (two count)

  pub lead_too : (turns : List ℕ) (now : State) → TurnsLead code turns start now → LeadToo turns now
  lead_too [] now e = record { count = 0; is = e; leads = refl }
  lead_too (steps ∷ earlier) now (between, leads, turn) =
      let below = lead_too earlier between leads in
      let further = turn_too steps below.count now (subst (λ s. Turns code steps s now) (sym below.is) turn) in
      record { count = below.count + further.more; is = further.is; leads = (two below.count, below.leads, further.turns) }

-- ---- the laws

-- the same turns lead to one state
leads_one : (code : CodeProgram) (turns : List ℕ) (start one two : State) → TurnsLeaveOne code → TurnsLead code turns start one →
    TurnsLead code turns start two → one ≡ two
leads_one code [] start one two only e f = sym e ∙ f
leads_one code (steps ∷ earlier) start one two only (between, leads, turn) (between', leads', turn') =
    let same = leads_one code earlier start between between' only leads leads' in
    only steps between one two turn (subst (λ s. Turns code steps s two) (sym same) turn')

pub turns_to_the_same : (code : CodeProgram) (grants grants' : Grants) → SendsAreAlike code grants grants' → RenamingsGoOn →
    ((state : State) → MovesAdd code state) → TurnsComeToTheSame code grants grants'
turns_to_the_same code grants grants' sends renamings adds receiver sel arguments turns first one under pairs other others second valid idle alike =
    let runs : (count : ℕ) → RunsAlike pairs (receiver ∷ arguments) (other ∷ others) first second (moves code count (begun receiver sel arguments first)) (moves code count (begun other sel others second))
    = λ count. sends pairs receiver other sel arguments others count first second under.valid valid under.may idle alike in
    let too = lead_too code adds renamings pairs (receiver ∷ arguments) (other ∷ others) first second (begun receiver sel arguments first) (begun other sel others second) alike.0 runs turns one under.leads in
    let two = moves code too.count (begun other sel others second) in (
      two,
      record { valid = valid; may = may_begin_too code pairs receiver other sel arguments others first second under.may idle alike.0; leads = too.leads },
      subst (λ s. RunsAlike pairs (receiver ∷ arguments) (other ∷ others) first second s two) too.is (runs too.count),
    )

pub turns_alike : (code : CodeProgram) (grants grants' : Grants) → TurnsComeToTheSame code grants grants' → TurnsLeaveOne code →
    TurnsAreAlike code grants grants'
turns_alike code grants grants' comes only pairs receiver other sel arguments others turns first second one two under under' alike =
    let too = comes receiver sel arguments turns first one under pairs other others second under'.valid under'.may.idle alike in
    subst (λ s. RunsAlike pairs (receiver ∷ arguments) (other ∷ others) first second one s) (leads_one code turns (begun other sel others second) too.0 two only too.1.leads under'.leads) too.2

pub turns_go_on : (code : CodeProgram) (grants : Grants) → ((grants' : Grants) → TurnsComeToTheSame code grants grants') →
    TurnsGoOnAlike code grants
turns_go_on code grants comes steps old new turn receiver sel arguments turns idle under =
    let on : SendIsUnderway code grants receiver sel arguments idle (steps ∷ turns) new = record { valid = under.valid; may = under.may; leads = (old, under.leads, turn) } in
    (on, λ grants'. comes grants' receiver sel arguments (steps ∷ turns) idle new on)
