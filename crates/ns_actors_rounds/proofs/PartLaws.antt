-- What is told in parts of one actor, and of all.
use Rattle.std.proofs.Common.{◌≡◌, ◌<◌, ◌≤◌, ℕ, ◌+◌, List, [], ◌∷◌, ◌++◌, refl, sym, ap, ◌∙◌, subst, arith, Option, Some, None, Result, Ok, Err, IfOk, slice_get, length, drop, map, append_assoc}
use Rattle.std.specs.Prelude.{option_and_then, option_map}
use Rattle.std.specs.Option.{ForSome, unwrap_or}
use Rattle.std.proofs.lemmas.List.{append-nil, drop_all}
use Rattle.std.proofs.lemmas.Option.{same_Some}
use Rattle.ns_base.specs.declared.no_memory.NoMemory.{NoMemory}
use Rattle.ns_code.specs.declared.program.CodeProgram.{CodeProgram}
use Rattle.ns_json.specs.declared.saying.Actor.{Actor}
use Rattle.ns_machine.specs.Machine.{MachineView}
use Rattle.ns_json.specs.declared.saying.Stage as parts
use Rattle.ns_moves.specs.State.{State, world_of}
use Rattle.ns_actors.specs.Actor.{ActorView, Stage, Opening, Between, Sending, Holding, Stopped}
use Rattle.ns_actors.specs.Stated.{AreActors, IsActor, StandsAt}
use Rattle.ns_actors.specs.Turn.{ActorsView}
use Rattle.ns_actors.specs.declared.turn.Stop.{Stop}
use Rattle.ns_actors.specs.declared.turn.Stop.TheVariants.{Ended, BadOutbox}
use Rattle.ns_actors_calls.specs.Shown.{stop_at, stop_of}
use Rattle.ns_actors_calls.specs.Seen.{machine_of}
use Rattle.ns_actors_rounds.specs.Parts.{part_of, stage_told}
use Rattle.ns_actors_rounds.specs.Stops.{StopsIn, stage_for, told_so}
use Rattle.ns_actors_rounds.proofs.Lists.{IsThere, drop_there, there_is}

-- ---- one actor

-- one that stopped in an end of its run has ended so
stage_stops : (stage : Stage) (k count : ℕ) (actor : ActorView) → StandsAt stage k count actor → StopsIn actor.state (stop_at stage)
stage_stops Opening k count actor at = tt
stage_stops (Between behaviour) k count actor at = tt
stage_stops (Sending behaviour) k count actor at = tt
stage_stops (Holding behaviour letters) k count actor at = tt
stage_stops (Stopped (Ended ending)) k count actor at = at.1
stage_stops (Stopped BadOutbox) k count actor at = tt

pub stops_so : (view : ActorsView) (k : ℕ) (machine : MachineView) (why : Option Stop) → AreActors view
    → Some machine ≡ option_map machine_of (slice_get view.actors k) → why ≡ option_and_then stop_of (slice_get view.actors k)
    → StopsIn machine.state why
stops_so view k machine why are is for = by (slice_get view.actors k) (are.each k) is for
  where
    by : (o : Option ActorView) → ForSome o (λ (actor : ActorView). IsActor k (length view.actors) actor) → Some machine ≡ option_map machine_of o
        → why ≡ option_and_then stop_of o → StopsIn machine.state why
    by None each is for = subst (StopsIn machine.state) (sym for) tt
    by (Some actor) each is for =
        let own = each actor refl in
        let same = same_Some machine (machine_of actor) is in
        subst (StopsIn machine.state) (sym for)
        (subst (λ (m : MachineView). StopsIn m.state (stop_of actor)) (sym same) (stage_stops actor.stage k (length view.actors) actor own.stage))

stage_same : (stage : Stage) (code : CodeProgram) (state : State) → stage_for code state (stop_at stage) ≡ stage_told stage code state
stage_same Opening code state = refl
stage_same (Between behaviour) code state = refl
stage_same (Sending behaviour) code state = refl
stage_same (Holding behaviour letters) code state = refl
stage_same (Stopped (Ended ending)) code state = refl
stage_same (Stopped BadOutbox) code state = refl

told_same : (actor : ActorView) → told_so actor.application.code actor.state (stop_of actor) actor.taken ≡ part_of actor
told_same actor =
    ap (λ (stage : parts.Stage). record { stage = stage; output = (world_of actor.state).output; taken = actor.taken })
    (stage_same actor.stage actor.application.code actor.state)

pub part_told : (view : ActorsView) (k : ℕ) (machine : MachineView) (why : Option Stop) (taken : ℕ) (result : Result Actor NoMemory)
    → Some machine ≡ option_map machine_of (slice_get view.actors k) → why ≡ option_and_then stop_of (slice_get view.actors k)
    → taken ≡ unwrap_or (option_map (λ (a : ActorView). a.taken) (slice_get view.actors k)) 0
    → IfOk result (λ part. part ≡ told_so machine.code machine.state why taken)
    → (actor : ActorView) → slice_get view.actors k ≡ Some actor → IfOk result (λ part. part ≡ part_of actor)
part_told view k machine why taken (Err e) is for all told actor got = tt
part_told view k machine why taken (Ok part) is for all told actor got =
    let same = same_Some machine (machine_of actor) (is ∙ ap (option_map machine_of) got) in
    let stop = for ∙ ap (option_and_then stop_of) got in
    let count = all ∙ ap (λ (o : Option ActorView). unwrap_or (option_map (λ (a : ActorView). a.taken) o) 0) got in
    told
    ∙ (ap (λ (m : MachineView). told_so m.code m.state why taken) same
    ∙ (ap (λ (o : Option Stop). told_so actor.application.code actor.state o taken) stop
    ∙ (ap (told_so actor.application.code actor.state (stop_of actor)) count ∙ told_same actor)))

pub machine_there : (actors : List ActorView) (k : ℕ) → k < length actors → None ≡ option_map machine_of (slice_get actors k) → ⊥
machine_there actors k within none =
    let one = there_is actors k within in absurd (cc (none ∙ ap (option_map machine_of) one.is))

-- ---- all of them

pub next_part : (actors : List ActorView) (number : ℕ) (so_far new : List Actor) (part : Actor) → number < length actors
    → ((actor : ActorView) → slice_get actors number ≡ Some actor → part ≡ part_of actor) → new ≡ so_far ++ part ∷ []
    → so_far ++ map part_of (drop number actors) ≡ map part_of actors → new ++ map part_of (drop (number + 1) actors) ≡ map part_of actors
next_part actors number so_far new part within told pushed all =
    let one = there_is actors number within in
    ap (λ (parts : List Actor). parts ++ map part_of (drop (number + 1) actors)) pushed
    ∙ (append_assoc so_far (part ∷ []) (map part_of (drop (number + 1) actors))
    ∙ (ap (λ (p : Actor). so_far ++ p ∷ map part_of (drop (number + 1) actors)) (told one.element one.is)
    ∙ (ap (λ (rest : List ActorView). so_far ++ map part_of rest) (sym (drop_there actors number one.element within one.is)) ∙ all)))

pub all_parts : (actors : List ActorView) (number : ℕ) (so_far : List Actor) → number ≡ length actors
    → so_far ++ map part_of (drop number actors) ≡ map part_of actors → so_far ≡ map part_of actors
all_parts actors number so_far past all =
    let none : drop number actors ≡ [] = drop_all number actors (omega (arith, past)) in
    sym (append-nil so_far) ∙ (ap (λ (rest : List ActorView). so_far ++ map part_of rest) (sym none) ∙ all)
