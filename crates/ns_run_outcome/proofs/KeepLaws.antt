-- The files before and after what is to be stored.
use Rattle.std.proofs.Common.{◌≡◌, cond, true, false, Option, Some, None, refl, ap, sym, subst, ◌∙◌}
use Rattle.std.specs.Str.{bytes_eq}
use Rattle.std.proofs.lemmas.Slice.Eq.{bytes_eq-Decides}
use Rattle.ns_base.specs.Files.{AllStand, Files, OthersStand}
use Rattle.ns_run_outcome.specs.Outcome.{AreStored, OfFiles}
use Rattle.ns_run_outcome.specs.Store.{FileStored}
use Rattle.ns_run_outcome.specs.laws.Told.{of_files_so, same_files}

-- Where nothing is stored, each file is as it was.
pub nothing_stored : (stored : Option FileStored) (a b : Option Files) → stored ≡ None → b ≡ a → OfFiles (AreStored stored) a b
nothing_stored stored a b n e =
    subst (λ s. OfFiles (AreStored s) a b) (sym n) (of_files_so AllStand (AreStored None) (λ old new h. h) a b (same_files a b e))

-- A file that was stored stands among the others.
pub stored_so : (stored : FileStored) (old new : Files) → (new stored.name ≡ Some stored.bytes) × OthersStand old new stored.name →
    AreStored (Some stored) old new
stored_so stored old new (here, others) name =
    elim (bytes_eq name stored.name) as (λ q. bytes_eq name stored.name ≡ q → new name ≡ cond q (Some stored.bytes) (old name)) [
      | true ↦ λ e. ap new ((bytes_eq-Decides name stored.name).0 e) ∙ here
      | false ↦ λ e. others name (λ same. let t : true ≡ false = sym ((bytes_eq-Decides name stored.name).1 same) ∙ e in absurd (cc (t)))
    ] refl
