-- How much actors can still do: it falls with each turn of an actor that doesn't rest.
use Rattle.std.specs.Prelude.{ℕ, ◌+◌, ◌-◌, ◌*◌, List, [], ◌∷◌, length}
use Rattle.ns_base.specs.declared.limits.Limits.{Limits}
use Rattle.ns_moves.specs.State.{world_of}
use Rattle.ns_actors.specs.Actor.{ActorView, Stage, Opening, Between, Sending, Holding, Stopped}
use Rattle.ns_actors.specs.Turn.{ActorsView}

-- what a stage can still do: an opening comes to its end; a send, or an outbox that is held, posts at most as many letters as there
-- are cells
abbrev pub stage_left : Stage → Limits → ℕ
stage_left Opening limits = 1
stage_left (Between behaviour) limits = 0
stage_left (Sending behaviour) limits = limits.cells + 1
stage_left (Holding behaviour outbox) limits = limits.cells + 1
stage_left (Stopped why) limits = 0

-- the steps that its run has left
abbrev pub steps_left : ActorView → ℕ
steps_left actor = actor.application.limits.steps - (world_of actor.state).steps

-- the letters of its box that it hasn't taken
abbrev pub letters_left : ActorView → ℕ
letters_left actor = length actor.box - actor.taken

-- an actor: each step of its run may be the first of a send, which weighs more than all letters that the send can post
abbrev pub actor_left : ActorView → ℕ
actor_left actor =
    steps_left actor * (actor.application.limits.cells + 2) + stage_left actor.stage actor.application.limits + letters_left actor

-- all actors
abbrev pub all_left : List ActorView → ℕ
all_left [] = 0
all_left (actor ∷ actors) = actor_left actor + all_left actors

abbrev pub left : ActorsView → ℕ
left view = all_left view.actors
