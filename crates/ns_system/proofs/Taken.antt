-- What a loop over a reader takes.
use Rattle.std.proofs.Common.{◌≡◌, ℕ, zero, suc, ◌≤◌, List, [], ◌∷◌, ◌++◌, length, take, Option, Some, None, Result, option_map, IfSome, refl, sym, ap, ◌∙◌, append_assoc, append-nil, arith}
use Rattle.std.specs.declared.io.Error.{Error}
use Rattle.ns_base.specs.Files.{Files}
use Rattle.ns_base.specs.Shelf.{AnswersLoad}
use Rattle.ns_base.specs.declared.shelf.ShelfFault.{ShelfFault}
use Rattle.ns_system.specs.Drive.{AnswersOpen, Kept}
use Rattle.std.specs.Global.{Vec}
use Rattle.std.specs.Io.KnownBytes.{Consumes, IsAtEnd, Keeps}

pub nothing_taken : (old : Option (List ℕ)) → Consumes old old []
nothing_taken None = tt
nothing_taken (Some xs) = refl

pub more_taken : (old mid new : Option (List ℕ)) (xs ys : List ℕ) → Consumes old mid xs → Consumes mid new ys → Consumes old new (xs ++ ys)
more_taken None mid new xs ys a b = tt
more_taken (Some v) None new xs ys a b = absurd a
more_taken (Some v) (Some w) None xs ys a b = absurd b
more_taken (Some v) (Some w) (Some z) xs ys a b = a ∙ ap (λ u. xs ++ u) b ∙ sym (append_assoc xs ys z)

pub still_taken : (old mid new : Option (List ℕ)) (xs : List ℕ) → Consumes old mid xs → Keeps mid new → Consumes old new xs
still_taken None mid new xs a k = tt
still_taken (Some v) None new xs a k = absurd a
still_taken (Some v) (Some w) None xs a k = absurd k
still_taken (Some v) (Some w) (Some z) xs a k = a ∙ ap (λ u. xs ++ u) (sym k)

-- what was taken is the first bytes of what there was, where as many were taken as are wanted
pub taken_most : (old new : Option (List ℕ)) (xs : List ℕ) (most : ℕ) → Consumes old new xs → length xs ≡ most →
    IfSome old (λ all. xs ≡ take most all)
taken_most None new xs most a e = tt
taken_most (Some v) None xs most a e = absurd a
taken_most (Some v) (Some w) xs most a e = sym (ap (take most) a ∙ ap (λ k. take k (xs ++ w)) (sym e) ∙ front xs w)
  where
    front : (xs w : List ℕ) → take (length xs) (xs ++ w) ≡ xs
    front [] w = refl
    front (x ∷ xs) w = ap (λ ys. x ∷ ys) (front xs w)

-- or where nothing is left
pub taken_all : (old new : Option (List ℕ)) (xs : List ℕ) (most : ℕ) → Consumes old new xs → IsAtEnd new → length xs ≤ most →
    IfSome old (λ all. xs ≡ take most all)
taken_all None new xs most a e h = tt
taken_all (Some v) None xs most a e h = absurd a
taken_all (Some v) (Some w) xs most a e h = sym (ap (take most) (a ∙ ap (λ u. xs ++ u) e ∙ append-nil xs) ∙ whole most xs h)
  where
    whole : (n : ℕ) (xs : List ℕ) → length xs ≤ n → take n xs ≡ xs
    whole zero [] h = refl
    whole (suc n) [] h = refl
    whole zero (x ∷ xs) h = absurd (omega (arith, h))
    whole (suc n) (x ∷ xs) h = ap (λ ys. x ∷ ys) (whole n xs (omega (arith, h)))

-- what was read of the opened file is what the drive's file answers
pub loaded : {R : Type 0} (remaining : R → Option (List ℕ)) (kept : Option Kept) (name : List ℕ) (most : ℕ) (opened : Result R Error) (result : Result (Vec ℕ) ShelfFault) → IfSome kept (λ told. AnswersOpen remaining told.files name opened) → ((files : Files) → (name : List ℕ) → AnswersOpen remaining files name opened → AnswersLoad files name most result) → IfSome (option_map (λ k. k.files) kept) (λ files. AnswersLoad files name most result)
loaded remaining None name most opened result o a = tt
loaded remaining (Some k) name most opened result o a = a k.files name o
