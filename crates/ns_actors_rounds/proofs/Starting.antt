-- So many actors that have started.
use Rattle.std.proofs.Common.{◌≡◌, ℕ, zero, suc, ◌+◌, List, [], ◌∷◌, ◌++◌, refl, ap, ◌∙◌, arith, length, replicate}
use Rattle.ns_base.specs.declared.limits.Limits.{Limits}
use Rattle.ns_code.specs.declared.program.CodeProgram.{CodeProgram}
use Rattle.ns_actors.specs.Actor.{ActorView, starting}
use Rattle.ns_actors.specs.Rounds.{actor_of, started}
use Rattle.ns_actors.specs.Turn.{ActorsView, added}

replicate_more : {A : Type 0} (n : ℕ) (x : A) → replicate n x ++ x ∷ [] ≡ replicate (n + 1) x
replicate_more zero x = refl
replicate_more (suc n) x =
    let next : suc (n + 1) ≡ suc n + 1 = omega arith in
    ap (λ xs. x ∷ xs) (replicate_more n x) ∙ ap (λ (m : ℕ). replicate m x) next

-- one more has started
pub started_more : (code : CodeProgram) (limits : Limits) (n : ℕ) → added (actor_of code limits) (started code limits n) ≡ started code limits (n + 1)
started_more code limits n =
    ap (λ (actors : List ActorView). record { actors = actors; host = [] }) (replicate_more n (starting (actor_of code limits)))

-- with a copy of the code
pub one_started : (code own : CodeProgram) (limits : Limits) (n : ℕ) (old new : ActorsView) → own ≡ code → new ≡ added (actor_of own limits) old
    → old ≡ started code limits n → new ≡ started code limits (n + 1)
one_started code own limits n old new same one so_far =
    one
    ∙ (ap (λ (p : CodeProgram). added (actor_of p limits) old) same ∙ (ap (added (actor_of code limits)) so_far ∙ started_more code limits n))

length_replicated : {A : Type 0} (n : ℕ) (x : A) → length (replicate n x) ≡ n
length_replicated zero x = refl
length_replicated (suc n) x = ap suc (length_replicated n x)

-- how many have
pub started_count : (code : CodeProgram) (limits : Limits) (n : ℕ) (view : ActorsView) → view ≡ started code limits n → length view.actors ≡ n
started_count code limits n view e =
    ap (λ (v : ActorsView). length v.actors) e ∙ length_replicated n (starting (actor_of code limits))
