-- A drive that tells what it has holds nothing but files.
use Rattle.std.proofs.Common.{◌≡◌, Option, Some, None, Result, Ok, Err, IfOk, IfSome, IsNone, refl, sym, subst, arith}
use Rattle.std.specs.Fs.{IsFile, file_type}
use Rattle.std.specs.declared.fs.Metadata.{Metadata}
use Rattle.std.specs.declared.io.Error.{Error}
use Rattle.ns_system.specs.Drive.{Kept}
use Rattle.ns_system.specs.Standing.{Finds}
use Rattle.ns_system.specs.Store.{OfDrive}
use Rattle.ns_system.specs.declared.store.Standing.TheVariants.{Link, Other}

pub no_link : (old : Option Kept) (found : Result Metadata Error) → IfSome old (λ _. IfOk found (λ m. IsFile (file_type m))) → Finds found Link → IfSome old (λ _. ⊥)
no_link None found t f = tt
no_link (Some kept) (Ok m) t f = omega (arith, t, f)
no_link (Some kept) (Err e) t f = f

pub only_files : (old : Option Kept) (found : Result Metadata Error) → IfSome old (λ _. IfOk found (λ m. IsFile (file_type m))) → Finds found Other → IfSome old (λ _. ⊥)
only_files None found t f = tt
only_files (Some kept) (Ok m) t f = f.0 t
only_files (Some kept) (Err e) t f = f

pub only_untold : (P : Kept → Kept → Type 0) (old mid new : Option Kept) → mid ≡ old → IfSome old (λ _. ⊥) → (mid ≡ None → new ≡ None) → OfDrive P old new
only_untold P None mid new e t untold = subst IsNone (sym (untold e)) refl
only_untold P (Some kept) mid new e t untold = absurd t
