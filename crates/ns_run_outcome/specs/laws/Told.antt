-- What is so of files that are told.
use Rattle.std.proofs.Common.{◌≡◌, Option, Some, None, refl, sym, subst}
use Rattle.ns_base.specs.Files.{AllStand, Files}
use Rattle.ns_run_outcome.specs.Outcome.{OfFiles}

-- What holds of the files, holds of them otherwise.
pub of_files_so : (P Q : Files → Files → Type 0) → ((old new : Files) → P old new → Q old new) → (a b : Option Files) → OfFiles P a b →
    OfFiles Q a b
of_files_so P Q f None b h = h
of_files_so P Q f (Some old) None h = absurd h
of_files_so P Q f (Some old) (Some new) h = f old new h

-- Files that are the same all stand.
pub same_files : (a b : Option Files) → b ≡ a → OfFiles AllStand a b
same_files a b e = subst (OfFiles AllStand a) (sym e) (stand a)
  where
    stand : (a : Option Files) → OfFiles AllStand a a
    stand None = refl
    stand (Some files) = λ name. refl
