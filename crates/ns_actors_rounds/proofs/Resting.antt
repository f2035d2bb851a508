-- A round of actors that don't all rest leaves less to do, so actors come to rest; and where rounds have led to rest is where they lead.
use Rattle.std.proofs.Common.{◌≡◌, ◌<◌, ◌≤◌, ℕ, zero, suc, ◌+◌, List, [], ◌∷◌, refl, sym, ap, ◌∙◌, arith, Option, Some, None, Bool, true, false, slice_get, length, eqb, eqb-true, ◌&&◌}
use Rattle.std.proofs.lemmas.Bool.{eqb-false}
use Rattle.std.proofs.lemmas.Option.{same_Some}
use Rattle.ns_base.specs.declared.limits.Limits.{Limits}
use Rattle.ns_moves.specs.Doubling.{times}
use Rattle.ns_moves.specs.laws.Doubling.{leads}
use Rattle.ns_actors.specs.Actor.{ActorView}
use Rattle.ns_actors.specs.Laws.{EndsAreShort, RestingRoundsStay, RestingTurnsStay, RoundsEnd, RoundsLower, SendsBegin, StepsAreWithin, TurnsKeepActors}
use Rattle.ns_actors.specs.Rounds.{all_rest, at_rest, power_of_rounds, rests_at, round_from, round_of, rounds}
use Rattle.ns_actors.specs.Stated.{AreActors}
use Rattle.ns_actors.specs.Turn.{ActorsView, turn_for, turn_of}
use Rattle.ns_actors_rounds.specs.Laws.{ActorsRest, IsWithinRounds, RoundsKeepActors, RoundsLeaveLess}
use Rattle.ns_actors_rounds.specs.Left.{left}
use Rattle.ns_actors_rounds.specs.Stated.{RestsAfter}
use Rattle.ns_actors_rounds.proofs.Falling.{Known}
use Rattle.ns_actors_rounds.proofs.Lowering.{turn_lowers}

-- What is known of turns.
pub record TurnsKnown : Type 0 where
  pub runs : Known
  pub begin : SendsBegin
  pub short : EndsAreShort
  pub within : StepsAreWithin
  pub keep : TurnsKeepActors
  pub stay : RestingTurnsStay

-- ---- they stay actors

module _ (keep : TurnsKeepActors) where
  from_keeps : (steps more k : ℕ) (view : ActorsView) → AreActors view → AreActors (round_from steps more k view)
  from_keeps steps zero k view are = are
  from_keeps steps (suc more) k view are = from_keeps steps more (k + 1) (turn_of k steps view).view (keep k steps view are)

  pub round_keeps : RoundsKeepActors
  round_keeps steps view are = from_keeps steps (length view.actors) 0 view are

-- ---- lists

got_within : {A : Type 0} (xs : List A) (k : ℕ) → slice_get xs k ≡ None → k < length xs → ⊥
got_within [] k e within = absurd (omega (arith, within))
got_within (x ∷ xs) zero e within = absurd (cc (e))
got_within (x ∷ xs) (suc k) e within = got_within xs k e (omega (arith, within))

within_got : {A : Type 0} (xs : List A) (k : ℕ) (x : A) → slice_get xs k ≡ Some x → k < length xs
within_got [] k x e = absurd (cc (e))
within_got (y ∷ xs) zero x e = omega arith
within_got (y ∷ xs) (suc k) x e = let rest = within_got xs k x e in omega (arith, rest)

-- where each rests, all do
each_rests : (actors : List ActorView) → ((k : ℕ) (actor : ActorView) → slice_get actors k ≡ Some actor → rests_at actor.stage actor ≡ true)
    → all_rest actors ≡ true
each_rests [] each = refl
each_rests (actor ∷ actors) each =
    ap (λ (b : Bool). b && all_rest actors) (each 0 actor refl) ∙ each_rests actors (λ k. each (suc k))

-- ---- each other round leaves less

-- Those before a number rest.
abbrev RestBefore : ℕ → ActorsView → Type 0
RestBefore k view = (i : ℕ) (actor : ActorView) → i < k → slice_get view.actors i ≡ Some actor → rests_at actor.stage actor ≡ true

-- one more of the first ones rests
and_this : (view : ActorsView) (k : ℕ) (actor : ActorView) → slice_get view.actors k ≡ Some actor → rests_at actor.stage actor ≡ true → RestBefore k view
    → RestBefore (k + 1) view
and_this view k actor got rest before i one less here = by (eqb i k) refl
  where
    by : (b : Bool) → eqb i k ≡ b → rests_at one.stage one ≡ true
    by true e =
        let same = eqb-true i k e in
        ap (λ (a : ActorView). rests_at a.stage a) (same_Some one actor (sym here ∙ (ap (λ n. slice_get view.actors n) same ∙ got))) ∙ rest
    by false e = let differ = eqb-false i k e in before i one (omega (arith, less, differ)) here

module _ (known : TurnsKnown) where
  -- a turn leaves no more to do
  turn_leaves : (k steps : ℕ) (view : ActorsView) → AreActors view → 1 ≤ steps → left (turn_of k steps view).view ≤ left view
  turn_leaves k steps view are some = by (slice_get view.actors k) refl
    where
      at : (b : Bool) (actor : ActorView) → slice_get view.actors k ≡ Some actor → rests_at actor.stage actor ≡ b
          → left (turn_of k steps view).view ≤ left view
      at true actor got rest = let same = ap left (known.stay k steps view actor got rest) in omega (arith, same)
      at false actor got on =
          let less = turn_lowers known.runs known.begin known.short known.within k steps view are some actor got on in omega (arith, less)

      by : (o : Option ActorView) → slice_get view.actors k ≡ o → left (turn_of k steps view).view ≤ left view
      by None got = let same = ap (λ (o : Option ActorView). left (turn_for o k steps view).view) got in omega (arith, same)
      by (Some actor) got = at (rests_at actor.stage actor) actor got refl

  from_leaves : (steps more k : ℕ) (view : ActorsView) → AreActors view → 1 ≤ steps → left (round_from steps more k view) ≤ left view
  from_leaves steps zero k view are some = omega arith
  from_leaves steps (suc more) k view are some =
      let rest = from_leaves steps more (k + 1) (turn_of k steps view).view (known.keep k steps view are) some in
      let own = turn_leaves k steps view are some in
      omega (arith, rest, own)

  lowers_by : (steps more k : ℕ) (view : ActorsView) → AreActors view → 1 ≤ steps → k < length view.actors → RestBefore k view
      → (o : Option ActorView) → slice_get view.actors k ≡ o → (RestBefore (k + 1) view → left (round_from steps more (k + 1) view) < left view)
      → left (round_from steps more (k + 1) (turn_of k steps view).view) < left view
  lowers_by steps more k view are some inside before None got go = absurd (got_within view.actors k got inside)
  lowers_by steps more k view are some inside before (Some actor) got go = at (rests_at actor.stage actor) refl
    where
      at : (b : Bool) → rests_at actor.stage actor ≡ b → left (round_from steps more (k + 1) (turn_of k steps view).view) < left view
      at true rest =
          let same = ap (λ (v : ActorsView). left (round_from steps more (k + 1) v)) (known.stay k steps view actor got rest) in
          let less = go (and_this view k actor got rest before) in
          omega (arith, same, less)
      at false off =
          let less = turn_lowers known.runs known.begin known.short known.within k steps view are some actor got off in
          let rest = from_leaves steps more (k + 1) (turn_of k steps view).view (known.keep k steps view are) some in
          omega (arith, less, rest)

  -- where those before a number rest, and not all do, the turns from there on leave less
  from_lowers : (steps more k : ℕ) (view : ActorsView) → AreActors view → 1 ≤ steps → k + more ≡ length view.actors → RestBefore k view → at_rest view ≡ false
      → left (round_from steps more k view) < left view
  from_lowers steps zero k view are some all before on =
      let rest : at_rest view ≡ true
      = each_rests view.actors (λ i actor got. let there = within_got view.actors i actor got in before i actor (omega (arith, all, there)) got) in
      absurd (cc (sym rest ∙ on))
  from_lowers steps (suc more) k view are some all before on =
      let next : (k + 1) + more ≡ length view.actors = omega (arith, all) in
      lowers_by steps more k view are some (omega (arith, all)) before (slice_get view.actors k) refl
      (λ others. from_lowers steps more (k + 1) view are some next others on)

  pub round_lowers : RoundsLeaveLess
  round_lowers steps view are some on =
      from_lowers steps (length view.actors) 0 view are some (omega arith) (λ i actor less got. absurd (omega (arith, less))) on

-- ---- rounds end

times_next : (count : ℕ) (view : ActorsView) → times (round_of 1000) (suc count) view ≡ round_of 1000 (times (round_of 1000) count view)
times_next zero view = refl
times_next (suc count) view = times_next count (round_of 1000 view)

module _ (lower : RoundsLeaveLess) (kept : RoundsKeepActors) where
  times_keeps : (count : ℕ) (view : ActorsView) → AreActors view → AreActors (times (round_of 1000) count view)
  times_keeps zero view are = are
  times_keeps (suc count) view are = times_keeps count (round_of 1000 view) (kept 1000 view are)

  times_lower : (view : ActorsView) → AreActors view → RoundsLower left view
  times_lower view are count on =
      let less = lower 1000 (times (round_of 1000) count view) (times_keeps count view are) (omega arith) on in
      let same = ap left (times_next count view) in
      omega (arith, less, same)

  pub actors_rest : RoundsEnd → ActorsRest
  actors_rest ends limits view are within = ends limits view left (times_lower view are) within

-- ---- rounds that were made

-- So many rounds lead there.
pub record HavePlayed (old now : ActorsView) : Type 0 where
  pub count : ℕ
  pub is : times (round_of 1000) count old ≡ now

pub none_played : (view : ActorsView) → HavePlayed view view
none_played view = record { count = 0; is = refl }

pub one_more_played : (old now new : ActorsView) → new ≡ round_of 1000 now → HavePlayed old now → HavePlayed old new
one_more_played old now new e played =
    record { count = suc played.count; is = times_next played.count old ∙ (ap (round_of 1000) played.is ∙ sym e) }

module _ (stay : RestingRoundsStay) where
  times_rest : (count : ℕ) (view : ActorsView) → at_rest view ≡ true → times (round_of 1000) count view ≡ view
  times_rest zero view rest = refl
  times_rest (suc count) view rest = ap (times (round_of 1000) count) (stay 1000 view rest) ∙ times_rest count view rest

  -- two of them at rest are the same
  rest_agree : (first second : ℕ) (view : ActorsView) → at_rest (times (round_of 1000) first view) ≡ true → at_rest (times (round_of 1000) second view) ≡ true
      → times (round_of 1000) first view ≡ times (round_of 1000) second view
  rest_agree zero second view e f = sym (times_rest second view e)
  rest_agree (suc first) zero view e f = times_rest (suc first) view f
  rest_agree (suc first) (suc second) view e f = rest_agree first second (round_of 1000 view) e f

  pub played_out : ActorsRest → (old now : ActorsView) → AreActors old → HavePlayed old now → at_rest now ≡ true → RestsAfter old now
  played_out ends old now are played rest limits enough =
      let led = leads at_rest (round_of 1000) 0 (power_of_rounds (length old.actors) limits) old in
      sym played.is
      ∙ (rest_agree played.count led.count old (ap at_rest played.is ∙ rest) (ap at_rest led.is ∙ ends limits old are enough)
      ∙ led.is)
