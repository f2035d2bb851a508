-- Runs on their own.
use Rattle.std.proofs.Common.{◌≡◌, ℕ, ◌+◌, ◌≤◌, ◌<◌, [], ap, sym, ◌∙◌, subst, inl, inr, arith, true, false}
use Rattle.ns_base.specs.declared.limits.Limits.{Limits}
use Rattle.ns_code.specs.declared.program.CodeProgram.{CodeProgram}
use Rattle.ns_facets.specs.declared.row.Grants.{Grants}
use Rattle.ns_resolved.specs.Program.{Meant}
use Rattle.ns_resolved.specs.Tables.{tables}
use Rattle.ns_model.specs.Whole.{ran}
use Rattle.ns_moves.specs.State.{State, Unbegun, Going, Pends, Ended, Stuck, world_of}
use Rattle.ns_moves.specs.Move.{moves}
use Rattle.ns_moves.specs.Starts.{new_machine, started}
use Rattle.ns_moves.specs.Turn.{is_still, charged_in, one_if, Turns}
use Rattle.ns_moves.specs.StatedMoves.{MovesAdd, StaysStill, TurnsAdd}
use Rattle.ns_moves.specs.MovesOnward.{MovesGoOnward}
use Rattle.ns_moves.specs.Valid.{Valid}
use Rattle.ns_moves.specs.laws.Still.{moves_on}
use Rattle.ns_link.specs.Stated.{IsOnTheWay, TurnsAreOnTheWay}
use Rattle.ns_session.specs.Member.{Application, start_of, taken, IsAlone}
use Rattle.ns_session.specs.Laws.{ComesToRest, ComesToLast, SourceLeads}
use Rattle.ns_session.proofs.Counting.{Known, used, counted, turned_alone, charges_going}
use Rattle.ns_session.proofs.Starting.{start_unused}

-- a turn leads on in the run
pub turns_on : (application : Application) → Known application.code application.grants → TurnsAdd application.code
    → Valid application.code application.grants (start_of application) → (steps : ℕ) (old new : State) → IsAlone application old → Turns application.code steps old new
    → IsAlone application new
turns_on application known add valid steps old new alone turns =
    turned_alone application.code application.grants known (taken old + steps) (start_of application) new valid (start_unused application).none
    (add (taken old) steps (start_of application) old new alone turns)

-- ---- the last state

abbrev count_of : (code : CodeProgram) (steps : ℕ) (old new : State) → Turns code steps old new → ℕ
count_of code steps old new (inl turn) = turn.count
count_of code steps old new (inr turn) = turn.count

moved : (code : CodeProgram) (steps : ℕ) (old new : State) (turns : Turns code steps old new) →
    moves code (count_of code steps old new turns) old ≡ new
moved code steps old new (inl turn) = turn.is
moved code steps old new (inr turn) = turn.is

-- two counts of moves in either order
swapped : (a b : ℕ) → a + b ≡ b + a
swapped a b = omega arith

-- from any state of a run so many moves lead to the last one
comes : (code : CodeProgram) → ((s : State) → MovesAdd code s) → ((s : State) → StaysStill code s) →
    (start state last : State) (one all : ℕ)
    → moves code one start ≡ state → moves code all start ≡ last → is_still last ≡ true → moves code all state ≡ last
comes code add stay start state last one all is end still =
    ap (moves code all) (sym is) ∙ (sym (add start one all) ∙ (ap (λ n. moves code n start) (swapped one all)
    ∙ (add start all one ∙ (ap (moves code one) end ∙ stay last one still))))

pub leads : (application : Application) → ((s : State) → MovesAdd application.code s) → ((s : State) → StaysStill application.code s) →
    MovesGoOnward application.code
    → (state last : State) → IsAlone application state → ComesToRest application last → ComesToLast state last
leads application add stay onward state last alone rests =
    let count = count_of application.code (taken state) (start_of application) state alone in
    let there = comes application.code add stay (start_of application) state last count rests.count
    (moved application.code (taken state) (start_of application) state alone) rests.is rests.still in
    let later = (onward rests.count state).later in
    record {
      more = later.more;
      printed = ap (λ (s : State). (world_of s).output) (sym there) ∙ later.printed;
      at_rest = λ still. sym (stay state rests.count still) ∙ there;
    }

-- ---- long turns

within_steps : (code : CodeProgram) (grants : Grants) (s : State) → Valid code grants s → is_still s ≡ false →
    used s ≤ (world_of s).limits.steps
within_steps code grants (Unbegun arguments p) valid e = absurd (cc)
within_steps code grants (Ended ending phase p) valid e = absurd (cc)
within_steps code grants (Stuck p) valid e = absurd (cc)
within_steps code grants (Going phase frames p) valid e = valid.0.world.lawful.within.steps
within_steps code grants (Pends phase pending frames p) valid e = valid.0.world.lawful.within.steps

-- a state of a run that goes on has used no more steps than the limit
pub few_used : (application : Application) → Known application.code application.grants → MovesGoOnward application.code
    → Valid application.code application.grants (start_of application) → (count : ℕ) (s : State) → moves application.code count (start_of application) ≡ s
    → is_still s ≡ false → used s ≤ application.limits.steps
few_used application known onward valid count s is going =
    let there = subst (Valid application.code application.grants) is (known.keeps count (start_of application) valid) in
    let few = within_steps application.code application.grants s there going in
    let same : (world_of s).limits ≡ application.limits =
    ap (λ (t : State). (world_of t).limits) (sym is) ∙ ((onward count (start_of application)).later.limits ∙ (start_unused application).limits_are) in
    let at = ap (λ (l : Limits). l.steps) same in
    omega (arith, few, at)

pub long_rests : (application : Application) → Known application.code application.grants → MovesGoOnward application.code
    → Valid application.code application.grants (start_of application) → (steps : ℕ) (state : State) → application.limits.steps < steps
    → Turns application.code steps (start_of application) state → is_still state ≡ true
long_rests application known onward valid steps state long (inr turn) = turn.still
long_rests application known onward valid steps state long (inl turn) =
    let going = charges_going application.code state turn.next in
    let few = few_used application known onward valid turn.count state turn.is going in
    let all = (counted application.code application.grants known turn.count (start_of application) valid).most in
    let most = subst (λ (s : State). charged_in application.code turn.count (start_of application) + used (start_of application) ≤ taken s) turn.is all in
    let same = ap (λ b. used state + one_if b 0) (moves_on state going) in
    let charged = turn.charged in
    absurd (omega (arith, few, most, same, charged, long))

-- ---- sources

pub source_leads : (meant : Meant) → TurnsAreOnTheWay meant → SourceLeads meant
source_leads meant law first application state is alone =
    subst (λ (code : CodeProgram). IsOnTheWay code state (ran meant (tables meant) application.grants [] application.limits)) (sym is)
    (law first application.grants [] application.limits (taken state) state
    (subst (λ (code : CodeProgram). Turns code (taken state) (started code (new_machine code application.limits application.grants [])) state) is alone))
