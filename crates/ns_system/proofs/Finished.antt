-- What a drive has once a draft was begun and has ended.
use Rattle.std.proofs.Common.{◌≡◌, ℕ, List, [], ◌∷◌, Option, Some, None, option_map, IfSome, IsNone, IsSomeAnd, refl, sym, subst}
use Rattle.ns_base.specs.Files.{Files}
use Rattle.ns_system.specs.Drive.{Kept, begun}
use Rattle.ns_system.specs.Store.{OfDrive}

-- a draft was begun, and its end left what P says beside the earlier drafts
pub finished : (P : Kept → Kept → Type 0) (old mid new : Option Kept) (name : List ℕ) (written : Option (List ℕ)) → mid ≡ option_map (begun name) old → IfSome old (λ _. written ≡ Some []) → (mid ≡ None → new ≡ None) → ((files : Files) → (drafts : List (List ℕ)) → mid ≡ Some (record { files = files; drafts = name ∷ drafts }) → written ≡ Some [] → IsSomeAnd new (P (record { files = files; drafts = drafts }))) → OfDrive P old new
finished P None mid new name written e fresh untold told = subst IsNone (sym (untold e)) refl
finished P (Some kept) mid new name written e fresh untold told = told kept.files kept.drafts e fresh
