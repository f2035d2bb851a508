-- The places of sites are written one after another.
use Rattle.std.proofs.Common.{◌≡◌, ℕ, zero, suc, ◌+◌, ◌<◌, ◌≤◌, List, [], ◌∷◌, length, refl, ap, sym, ◌∙◌, subst, arith, ◌⊎◌, inl, inr, slice_get, slice_set, length-set, Option, Some, None}
use Rattle.std.proofs.lemmas.Bool.{cases_lt}
use Rattle.std.proofs.lemmas.Option.{slice_get_past, slice_get_within, same_Some}
use Rattle.ns_base.specs.declared.place.Place.{Place as SourcePlace}
use Rattle.ns_moves.specs.declared.site.Site.{Site}
use Rattle.ns_machine_plan.specs.Steps.{no_place}
use Rattle.ns_frozen.specs.declared.frame.FrozenFrame.{FrozenFrame}
use Rattle.ns_machine_thaw.specs.Frames.{site_number, SiteIsPlaced, SitesArePlaced, SiteIsWritten}

-- ---- lists

get_set_same : {A : Type 0} (xs : List A) (i : ℕ) (y : A) → i < length xs → slice_get (slice_set xs i y) i ≡ Some y
get_set_same [] i y within = absurd (omega (arith, within))
get_set_same (x ∷ xs) zero y within = refl
get_set_same (x ∷ xs) (suc i) y within = get_set_same xs i y (omega (arith, within))

get_set_other : {A : Type 0} (xs : List A) (i k : ℕ) (y : A) → (k ≡ i → ⊥) → slice_get (slice_set xs i y) k ≡ slice_get xs k
get_set_other [] i k y other = refl
get_set_other (x ∷ xs) zero zero y other = absurd (other refl)
get_set_other (x ∷ xs) zero (suc k) y other = refl
get_set_other (x ∷ xs) (suc i) zero y other = refl
get_set_other (x ∷ xs) (suc i) (suc k) y other = get_set_other xs i k y (λ e. other (ap suc e))

-- ---- one site

pub site_written : (places : List SourcePlace) (number : ℕ) (site : Site) (place : SourcePlace) → number < length places → site.place ≡ Some place
    → SiteIsWritten number site places (slice_set places number place)
site_written places number site place there is = record {
  placed =
      ap (λ (o : Option SourcePlace). slice_get (slice_set places number place) (site_number number o)) is
      ∙ (get_set_same places number place there ∙ sym is);
  others = λ k other. get_set_other places number k place other;
  count = length-set places number place;
}

pub site_spared : (places : List SourcePlace) (number : ℕ) (site : Site) → length places ≤ no_place → site.place ≡ None → SiteIsWritten number site places places
site_spared places number site few is = record {
  placed = ap (λ (o : Option SourcePlace). slice_get places (site_number number o)) is ∙ (slice_get_past places no_place few ∙ sym is);
  others = λ k other. refl;
  count = refl;
}

-- ---- all sites

-- So many sites have their places.
pub record Writing (first : ℕ) (frames : List FrozenFrame) (done : ℕ) (old new : List SourcePlace) : Type 0 where
  pub placed : (k : ℕ) (frame : FrozenFrame) → k < done → slice_get frames k ≡ Some frame → SiteIsPlaced new (first + k) frame.site
  pub below : (k : ℕ) → k < first → slice_get new k ≡ slice_get old k
  pub count : length new ≡ length old

pub sites_start : (first : ℕ) (frames : List FrozenFrame) (places : List SourcePlace) → Writing first frames 0 places places
sites_start first frames places = record {
  placed = λ k frame less there. absurd (omega (arith, less));
  below = λ k less. refl;
  count = refl;
}

-- a site stays placed where another number is written, if its own is in use or past the end
pub stays_placed : (old new : List SourcePlace) (number other : ℕ) (site : Site) → length old ≤ no_place → other < length old
    → ((k : ℕ) → (k ≡ other → ⊥) → slice_get new k ≡ slice_get old k) → (number ≡ other → ⊥) → SiteIsPlaced old number site → SiteIsPlaced new number site
stays_placed old new number other site few there others apart placed = others (site_number number site.place) (by_place site.place) ∙ placed
  where
    by_place : (o : Option SourcePlace) → site_number number o ≡ other → ⊥
    by_place (Some place) e = apart e
    by_place None e = omega (arith, e, few, there)

pub sites_go_on : (first : ℕ) (frames : List FrozenFrame) (done : ℕ) (old new after : List SourcePlace) (frame : FrozenFrame) → length old ≤ no_place
    → first + length frames ≤ length old → done < length frames → slice_get frames done ≡ Some frame → Writing first frames done old new
    → SiteIsWritten (first + done) frame.site new after → Writing first frames (done + 1) old after
sites_go_on first frames done old new after frame few numbers more at is write = record {
  placed = λ k one less there. by_number k one (cases_lt k done) less there;
  below = λ k less. write.others k (λ e. omega (arith, e, less)) ∙ is.below k less;
  count = write.count ∙ is.count;
}
  where
    by_number : (k : ℕ) (one : FrozenFrame) → (k < done) ⊎ (done ≤ k) → k < done + 1 → slice_get frames k ≡ Some one → SiteIsPlaced after (first + k) one.site
    by_number k one (inl earlier) less there =
        let count = is.count in
        stays_placed new after (first + k) (first + done) one.site (omega (arith, few, count)) (omega (arith, numbers, more, count)) write.others
        (λ e. omega (arith, e, earlier)) (is.placed k one earlier there)
    by_number k one (inr last) less there =
        let same : done ≡ k = omega (arith, last, less) in
        let frame_is : frame ≡ one = same_Some frame one (sym at ∙ (ap (slice_get frames) same ∙ there)) in
        subst (λ (n : ℕ). SiteIsPlaced after (first + n) one.site) same (subst (λ (f : FrozenFrame). SiteIsPlaced after (first + done) f.site) frame_is write.placed)

pub sites_end : (first : ℕ) (frames : List FrozenFrame) (done : ℕ) (old new : List SourcePlace) → length frames ≤ done → Writing first frames done old new
    → SitesArePlaced new first frames
sites_end first frames done old new all is = λ k frame there.
    let within = slice_get_within frames k frame there in
    is.placed k frame (omega (arith, within, all)) there
