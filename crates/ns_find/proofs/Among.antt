-- Whether a name is among members.
use Rattle.std.proofs.Common.{◌≡◌, ℕ, List, [], ◌∷◌, ◌++◌, refl, Some, None, Bool, true, false, ◌||◌, ◌&&◌, if◌then◌else◌}
use Rattle.ns_code.specs.declared.program.CodeProgram.{CodeProgram}
use Rattle.ns_find.specs.declared.found.Sending.{Sending}
use Rattle.ns_find.specs.Members.{Member, is_named, allowed, search}

module _ (code : CodeProgram) (sel : ℕ) where
  -- whether one of some members has the name
  abbrev pub is_among : List Member → Bool
  is_among [] = false
  is_among (member ∷ members) = (is_named code sel member.name && member.there) || is_among members

  none_among : (kind : Sending) (members : List Member) → search code sel kind members ≡ None → is_among members ≡ false
  none_among kind [] e = refl
  none_among kind (member ∷ members) e = tested (is_named code sel member.name && member.there) e (none_among kind members)
    where
      tested : (b : Bool) → (if b then Some (allowed kind member.access member.found) else search code sel kind members) ≡ None
          → (search code sel kind members ≡ None → is_among members ≡ false) → (b || is_among members) ≡ false
      tested true e below = absurd (cc)
      tested false e below = below e

  pub among_none : (kind : Sending) (members : List Member) → is_among members ≡ false → search code sel kind members ≡ None
  among_none kind [] e = refl
  among_none kind (member ∷ members) e = tested (is_named code sel member.name && member.there) e (among_none kind members)
    where
      tested : (b : Bool) → (b || is_among members) ≡ false → (is_among members ≡ false → search code sel kind members ≡ None)
          → (if b then Some (allowed kind member.access member.found) else search code sel kind members) ≡ None
      tested true e below = absurd (cc)
      tested false e below = below e

  pub among_both : (first later : List Member) → is_among (first ++ later) ≡ (is_among first || is_among later)
  among_both [] later = refl
  among_both (member ∷ first) later = tested (is_named code sel member.name && member.there) (among_both first later)
    where
      tested : (b : Bool) → is_among (first ++ later) ≡ (is_among first || is_among later)
          → (b || is_among (first ++ later)) ≡ ((b || is_among first) || is_among later)
      tested true e = refl
      tested false e = e
