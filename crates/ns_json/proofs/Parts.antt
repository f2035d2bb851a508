-- The text of an object, from the texts of its members.
use Rattle.std.proofs.Common.{◌≡◌, ◌<◌, ℕ, zero, suc, List, [], ◌∷◌, ◌++◌, codes, refl, ap, sym, ◌∙◌, arith}
use Rattle.std.proofs.lemmas.List.{append_assoc}
use Rattle.ns_json.specs.Json.{Member, behind, behind_comma, opened, members, members_behind, numbered, object_text, texted}
use Rattle.ns_json.specs.Report as spec
use Rattle.ns_json.specs.Report.{more_members_of}
use Rattle.ns_json.specs.declared.saying.Actor.{Actor}
use Rattle.ns_json.specs.declared.saying.Run.{Run}

behind_is : (all : List Member) → members_behind (members all) ≡ behind all
unfolding behind_comma
behind_is [] = refl
behind_is (member ∷ more) = ap (λ rest. behind_comma member ++ rest) (behind_is more)

pub behind_append : (xs ys : List Member) → behind (xs ++ ys) ≡ behind xs ++ behind ys
behind_append [] ys = refl
behind_append (x ∷ xs) ys =
    ap (λ rest. behind_comma x ++ rest) (behind_append xs ys) ∙ sym (append_assoc (behind_comma x) (behind xs) (behind ys))

pub object_parts : (first : Member) (more : List Member) → object_text (first ∷ more) ≡ opened first ++ behind more ++ 125 ∷ []
unfolding object_text opened
object_parts first more = ap (λ rest. opened first ++ rest ++ 125 ∷ []) (behind_is more)

pub more_where_some : (n : ℕ) → 0 < n → more_members_of n ≡ numbered (codes "more") n ∷ []
more_where_some zero h = absurd (omega (arith, h))
more_where_some (suc n) h = refl

-- ---- objects of which a part is left

pub run_parts : (run : Run) →
    object_text (spec.run_members run)
    ≡ opened (spec.status (spec.end_status run.end)) ++ (behind (spec.end_members run.end)
    ++ behind (texted (codes "output") run.output ∷ (spec.used_members run.used ++ spec.asked_members run.trace run.limits))) ++ 125 ∷ []
run_parts run =
    object_parts (spec.status (spec.end_status run.end)) (spec.end_members run.end ++ rest)
    ∙ ap (λ back. opened (spec.status (spec.end_status run.end)) ++ back ++ 125 ∷ []) (behind_append (spec.end_members run.end) rest)
  where
    rest : List Member
    rest = texted (codes "output") run.output ∷ (spec.used_members run.used ++ spec.asked_members run.trace run.limits)

pub actor_parts : (actor : Actor) →
    object_text (spec.actor_members actor)
    ≡ opened (spec.status (spec.stage_status actor.stage)) ++ (behind (spec.stage_members actor.stage)
    ++ behind (texted (codes "output") actor.output ∷ numbered (codes "taken") actor.taken ∷ [])) ++ 125 ∷ []
actor_parts actor =
    object_parts (spec.status (spec.stage_status actor.stage)) (spec.stage_members actor.stage ++ rest)
    ∙ ap (λ back. opened (spec.status (spec.stage_status actor.stage)) ++ back ++ 125 ∷ [])
    (behind_append (spec.stage_members actor.stage) rest)
  where
    rest : List Member
    rest = texted (codes "output") actor.output ∷ numbered (codes "taken") actor.taken ∷ []
