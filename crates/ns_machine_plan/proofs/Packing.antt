-- Packed steps stand for the same steps over tables that keep what they had.
use Rattle.std.proofs.Common.{◌≡◌, List, [], ◌∷◌, ◌++◌, map, All, refl, sym, ap, subst, ◌∙◌}
use Rattle.std.proofs.lemmas.List.{map_push}
use Rattle.std.proofs.lemmas.List.Elements.{All-head, All-tail, All-weaker, All-push}
use Rattle.ns_machine_plan.specs.declared.packed.Packed.{Packed}
use Rattle.ns_machine_plan.specs.declared.step.Step.{Step}
use Rattle.ns_machine_plan.specs.declared.tables.Tables.{Tables}
use Rattle.ns_machine_plan.specs.Packed.{unpacked, EntryIsThere, StandsFor, StandsForSame, AllStandFor, IsPut}

pub same_steps : (old new : Tables) → StandsForSame old new → (packed : List Packed) → All (EntryIsThere old) packed →
    map (unpacked new) packed ≡ map (unpacked old) packed
same_steps old new kept [] all = refl
same_steps old new kept (one ∷ more) all =
    cc (kept.is one (All-head (EntryIsThere old) one more all), same_steps old new kept more (All-tail (EntryIsThere old) one more all))

-- one more step
pub one_more_step : (old new : Tables) → StandsForSame old new → (packed : List Packed) → All (EntryIsThere old) packed →
    (step : Step) (one : Packed) → StandsFor new step one → map (unpacked new) (packed ++ one ∷ []) ≡ map (unpacked old) packed ++ step ∷ []
one_more_step old new kept packed all step one stands =
    map_push (unpacked new) packed one
    ∙ (ap (λ steps. steps ++ unpacked new one ∷ []) (same_steps old new kept packed all) ∙ ap (λ s. map (unpacked old) packed ++ s ∷ []) stands.is)

pub one_more_within : (old new : Tables) → StandsForSame old new → (packed : List Packed) → All (EntryIsThere old) packed →
    (step : Step) (one : Packed) → StandsFor new step one → All (EntryIsThere new) (packed ++ one ∷ [])
one_more_within old new kept packed all step one stands =
    All-push (EntryIsThere new) packed one (All-weaker (EntryIsThere old) (EntryIsThere new) kept.within packed all) stands.within

-- so it stands behind others
pub put_one : (old new : Tables) → StandsForSame old new → (packed longer : List Packed) (step : Step) (one : Packed) → StandsFor new step one →
    longer ≡ packed ++ one ∷ [] → IsPut old new packed longer step
put_one old new kept packed longer step one stands is = λ steps all. record {
  within = subst (All (EntryIsThere new)) (sym is) (one_more_within old new kept packed all.within step one stands);
  are =
      ap (map (unpacked new)) is
      ∙ (one_more_step old new kept packed all.within step one stands ∙ ap (λ (before : List Step). before ++ step ∷ []) all.are);
}

-- what is kept twice is kept
pub kept_on : (old between new : Tables) → StandsForSame old between → StandsForSame between new → StandsForSame old new
kept_on old between new first second = record {
  within = λ packed there. second.within packed (first.within packed there);
  is = λ packed there. second.is packed (first.within packed there) ∙ first.is packed there;
}

-- ---- the steps of bodies

pub same_bodies : (old new : Tables) → StandsForSame old new → (bodies : List (List Packed)) → All (All (EntryIsThere old)) bodies →
    map (map (unpacked new)) bodies ≡ map (map (unpacked old)) bodies
same_bodies old new kept [] all = refl
same_bodies old new kept (body ∷ bodies) all = cc (
  same_steps old new kept body (All-head (All (EntryIsThere old)) body bodies all),
  same_bodies old new kept bodies (All-tail (All (EntryIsThere old)) body bodies all),
)

pub bodies_within : (old new : Tables) → StandsForSame old new → (bodies : List (List Packed)) → All (All (EntryIsThere old)) bodies →
    All (All (EntryIsThere new)) bodies
bodies_within old new kept bodies all =
    All-weaker (All (EntryIsThere old)) (All (EntryIsThere new))
    (λ body there. All-weaker (EntryIsThere old) (EntryIsThere new) kept.within body there) bodies all

-- one more body
pub one_more_body : (old new : Tables) → StandsForSame old new → (bodies longer : List (List Packed)) → All (All (EntryIsThere old)) bodies →
    (steps : List Step) (packed : List Packed) → AllStandFor new steps packed → longer ≡ bodies ++ packed ∷ [] →
    map (map (unpacked new)) longer ≡ map (map (unpacked old)) bodies ++ steps ∷ []
one_more_body old new kept bodies longer all steps packed stand is =
    ap (map (map (unpacked new))) is
    ∙ (map_push (map (unpacked new)) bodies packed
    ∙ (ap (λ (before : List (List Step)). before ++ map (unpacked new) packed ∷ []) (same_bodies old new kept bodies all)
    ∙ ap (λ (last : List Step). map (map (unpacked old)) bodies ++ last ∷ []) stand.are))

pub one_more_body_within : (old new : Tables) → StandsForSame old new → (bodies longer : List (List Packed)) → All (All (EntryIsThere old)) bodies →
    (packed : List Packed) → All (EntryIsThere new) packed → longer ≡ bodies ++ packed ∷ [] → All (All (EntryIsThere new)) longer
one_more_body_within old new kept bodies longer all packed within is =
    subst (All (All (EntryIsThere new))) (sym is)
    (All-push (All (EntryIsThere new)) bodies packed (bodies_within old new kept bodies all) within)
