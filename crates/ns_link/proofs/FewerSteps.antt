-- With fewer steps a run ends in the same way, or on the way there.
use Rattle.std.proofs.Common.{◌≡◌, ◌≤◌, ◌+◌, ℕ, List, [], ◌∷◌, Bool, true, false, cond, Some, None, refl, sym, ap, ◌∙◌, subst, arith, inl, inr}
use Rattle.std.specs.Prelude.{◌⊎◌, nat_le}
use Rattle.ns_base.specs.declared.limits.Limits.{Limits}
use Rattle.ns_code.specs.declared.program.CodeProgram.{CodeProgram}
use Rattle.ns_world.specs.declared.ending.Ending.{Ending}
use Rattle.ns_world.specs.declared.ending.Ending.TheVariants.{Limit}
use Rattle.ns_world.specs.declared.ending.LimitKind.TheVariants.{Steps, Cells}
use Rattle.ns_world.specs.declared.value.Value.{Value}
use Rattle.ns_world.specs.declared.value.Value.TheVariants.{Nil, Ref}
use Rattle.ns_world.specs.Cell.{Cell, cell_size}
use Rattle.ns_world.specs.Heap.{heap_size}
use Rattle.ns_world.specs.World.{World, made}
use Rattle.ns_moves.specs.Control.{Progress, in_world, After, Gives, Halts, charged}
use Rattle.ns_moves.specs.Start.{start_cells, nothing_done, all_made}
use Rattle.ns_resolved.specs.Program.{Meant}
use Rattle.ns_resolved.specs.Tables.{tables}
use Rattle.ns_gen_code.specs.Code.{code_of}
use Rattle.ns_model.specs.Whole.{RunEnd, ran}
use Rattle.ns_moves.specs.State.{Phase, State, Ended, progress_of, world_of}
use Rattle.ns_moves.specs.Move.{moves}
use Rattle.ns_moves.specs.Starts.{unbegun, started}
use Rattle.ns_link.specs.Fewer.{limits_to, to_steps, state_to}
use Rattle.ns_link.specs.Stated.{EndsAs, begins, SameEnd, EndsOnTheWay, FewerStepsBegin, RunsAsMeant}
use Rattle.ns_link.proofs.OnTheWay.{MovesKnown, way}
use Rattle.ns_link.proofs.FewerMoves.{SpentAfter, moves_follow, begins_to}

-- how a state has ended
abbrev end_of : State → Ending
end_of (Ended ending phase progress) = ending
end_of state = Limit Steps

module _ (code : CodeProgram) (known : MovesKnown code) where
  -- a run ends in one way
  one_end : (s : State) (m n : ℕ) (e f : Ending) (a b : Phase) (p q : Progress) → moves code m s ≡ Ended e a p → moves code n s ≡ Ended f b q
      → Ended e a p ≡ Ended f b q
  one_end s m n e f a b p q first second =
      sym (known.stay (Ended e a p) n refl) ∙ ap (moves code n) (sym first) ∙ sym (known.add s m n) ∙ ap (λ count. moves code count s) swapped
      ∙ known.add s n m ∙ ap (moves code m) second ∙ known.stay (Ended f b q) m refl
    where
      swapped : m + n ≡ n + m
      swapped = omega arith

  module _ (k : ℕ) (first : State) (few all : RunEnd) (small : EndsAs code (state_to k first) few) (big : EndsAs code first all) where
    by_way : (moves code big.count (state_to k first) ≡ state_to k (moves code big.count first)) ⊎ SpentAfter k code big.count first
        → SameEnd k few all ⊎ EndsOnTheWay code first k few all
    by_way (inl same) =
        let there : moves code big.count (state_to k first) ≡ Ended all.ending big.phase (to_steps k all.progress) = same ∙ ap (state_to k) big.is in
        let one = one_end (state_to k first) small.count big.count few.ending all.ending small.phase big.phase few.progress (to_steps k all.progress) small.is there in
        inl (record { ending = ap end_of one; progress = ap progress_of one })
    by_way (inr spent) =
        let stood = progress_of (moves code spent.done first) in
        let one = one_end (state_to k first) small.count big.count few.ending (Limit Steps) small.phase spent.phase few.progress (to_steps k stood) small.is
        spent.is in
        inr (record {
          ending = ap end_of one;
          moved = spent.done;
          there = ap progress_of one;
          way = way code known all first big spent.done (moves code spent.done first) refl;
        })

-- ---- the limits of a run that begins

-- all that an action leaves has these limits
abbrev HasLimits : Limits → After → Type 0
HasLimits limits (Gives value p) = p.world.limits ≡ limits
HasLimits limits (Halts ending p) = p.world.limits ≡ limits

made_limits : (limits : Limits) (world : World) (cell : Cell) (p : Progress) (go : Progress → After) → p.world ≡ world →
    world.limits ≡ limits
    → ((q : Progress) → q.world.limits ≡ limits → HasLimits limits (go q)) → HasLimits limits (charged Halts Cells (made world cell) p go)
made_limits limits world cell p go same e goes = tested (nat_le (heap_size world.cells + cell_size cell) world.limits.cells)
  where
    next : World
    next = record world { cells = cell ∷ world.cells }

    tested : (b : Bool) → HasLimits limits (charged Halts Cells (cond b (Some next) None) p go)
    tested true = goes (in_world p next) e
    tested false = ap (λ (w : World). w.limits) same ∙ e

pub all_limits : (limits : Limits) (cells : List Cell) (last : Value) (p : Progress) → p.world.limits ≡ limits →
    HasLimits limits (all_made cells last p)
all_limits limits [] last p e = e
all_limits limits (cell ∷ cells) last p e =
    made_limits limits p.world cell p (all_made cells (Ref (heap_size p.world.cells))) refl e
    (λ q f. all_limits limits cells (Ref (heap_size p.world.cells)) q f)

pub started_limits : (limits : Limits) (code : CodeProgram) (after : After) → HasLimits limits after →
    (world_of (started code (unbegun after))).limits ≡ limits
started_limits limits code (Gives array p) e = e
started_limits limits code (Halts ending p) e = e

pub fewer_begin : (meant : Meant) → MovesKnown (code_of meant) → RunsAsMeant meant → FewerStepsBegin meant
fewer_begin meant known runs first grants arguments limits k le =
    let code = code_of meant in
    let start = begins meant grants arguments limits in
    let few = ran meant (tables meant) grants arguments (limits_to k limits) in
    let small : EndsAs code (state_to k start) few = subst (λ s. EndsAs code s few) (begins_to k code limits grants arguments)
    (runs first grants arguments (limits_to k limits)) in
    let big = runs first grants arguments limits in
    by_way code known k start few (ran meant (tables meant) grants arguments limits) small big
    (moves_follow k code known big.count start (subst (λ (l : Limits). k ≤ l.steps) (sym (started_limits limits code _ (all_limits limits (start_cells code grants arguments) Nil (nothing_done limits) refl))) le))
