-- The names of an image, and of a class in it.
use Rattle.std.proofs.Common.{◌≡◌, ℕ, List, [], ◌∷◌, length, map, take, Option, Result, ap, arith, subst, ◌∙◌}
use Rattle.std.specs.Prelude.{get_or}
use Rattle.ns_base.specs.Files.{Files}
use Rattle.ns_run.specs.Meaning.{first_of, of_audit}
use Rattle.ns_run_image.specs.Image.{Audits, of_image}
use Rattle.ns_run_outcome.specs.Stated.{Reports}
use Rattle.ns_run_outcome.specs.declared.report.Report.{Report}
use Rattle.ns_run_outcome.specs.declared.stop.Stop.{Stop}

-- What is reported of the image that is the first of two names, is reported of the audit.
pub audit_reports :
    {S A : Type 0} (holds : S → Option Files) (misses faults store_faults : S → ℕ) (old new : S) (shown : A → List ℕ) (names : List A) (class : A) (called : List ℕ) (denied : List (List ℕ)) (result : Result Report Stop) →
    length names ≡ 2 → class ≡ get_or names 1 class → called ≡ shown class →
    Reports holds misses faults store_faults old new (map shown (take 1 names)) (of_image (Audits denied called) (map shown (take 1 names))) result →
    Reports holds misses faults store_faults old new (first_of (map shown names)) (of_audit denied (map shown names)) result
audit_reports holds misses faults store_faults old new shown [] class called denied result two e c h = absurd (omega (arith, two))
audit_reports holds misses faults store_faults old new shown (x ∷ []) class called denied result two e c h = absurd (omega (arith, two))
audit_reports holds misses faults store_faults old new shown (x ∷ y ∷ []) class called denied result two e c h =
    let is : called ≡ shown y = c ∙ ap shown e in
    subst (λ name. Reports holds misses faults store_faults old new (shown x ∷ []) (λ texts. of_image (Audits denied name) (shown x ∷ []) texts) result) is h
audit_reports holds misses faults store_faults old new shown (x ∷ y ∷ z ∷ zs) class called denied result two e c h = absurd (omega (arith, two))
