-- A search for a home, from the topmost frame down.
use Rattle.std.proofs.Common.{◌≡◌, ℕ, ◌+◌, ◌-◌, ◌<◌, ◌≤◌, List, ◌∷◌, length, drop, get_or, reverse, Option, Some, None, Bool, true, false, if◌then◌else◌, ap, sym, ◌∙◌, refl, arith}
use Rattle.std.proofs.lemmas.List.{drop_more, drop_all, get_or-reverse, length-reverse}
use Rattle.ns_machine_frames.specs.declared.frame.Frame.{Frame}
use Rattle.ns_machine_frames.specs.Leaving.{is_home, one_more, frames_to}
use Rattle.ns_machine_frames.proofs.Searching.{behind}

-- none is behind none
pub none_behind : (found : Option ℕ) → found ≡ behind 0 found
none_behind None = refl
none_behind (Some count) = ap (λ n. Some n) (omega arith)

-- one frame that isn't the home is one more behind which it stands
one_behind : (number : ℕ) (found : Option ℕ) → behind number (one_more found) ≡ behind (number + 1) found
one_behind number None = refl
one_behind number (Some count) = ap (λ n. Some n) (omega arith)

tested : (home : ℕ) (frame : Frame) (frames : List Frame) (test : Bool) → is_home home frame ≡ test
    → frames_to home (frame ∷ frames) ≡ (if test then Some 1 else one_more (frames_to home frames))
tested home frame frames test is = ap (λ (b : Bool). if b then Some 1 else one_more (frames_to home frames)) is

-- the frame of a number, and those below it
pub at_number : (items : List Frame) (number : ℕ) (other : Frame) → number < length items
    → drop number (reverse items) ≡ get_or items (length items - 1 - number) other ∷ drop (number + 1) (reverse items)
at_number items number other within =
    drop_more (reverse items) number other (omega (arith, within, length-reverse items))
    ∙ ap (λ first. first ∷ drop (number + 1) (reverse items)) (get_or-reverse items number other within)

-- what is said of the frame of a number tells the search of it
is_told : (home number : ℕ) (items : List Frame) (other : Frame) (test : Bool) → number < length items
    → is_home home (get_or items (length items - 1 - number) other) ≡ test
    → frames_to home (reverse items) ≡ behind number (frames_to home (drop number (reverse items)))
    → frames_to home (reverse items) ≡ behind number (if test then Some 1 else one_more (frames_to home (drop (number + 1) (reverse items))))
is_told home number items other test within is so_far =
    so_far
    ∙ (ap (λ rest. behind number (frames_to home rest)) (at_number items number other within)
    ∙ ap (λ found. behind number found) (tested home (get_or items (length items - 1 - number) other) (drop (number + 1) (reverse items)) test is))

pub is_further : (home number : ℕ) (items : List Frame) (other : Frame) (test : Bool) → number < length items
    → test ≡ is_home home (get_or items (length items - 1 - number) other) → test ≡ false
    → frames_to home (reverse items) ≡ behind number (frames_to home (drop number (reverse items)))
    → frames_to home (reverse items) ≡ behind (number + 1) (frames_to home (drop (number + 1) (reverse items)))
is_further home number items other test within is fails so_far =
    is_told home number items other false within (sym is ∙ fails) so_far ∙ one_behind number (frames_to home (drop (number + 1) (reverse items)))

pub is_found : (home number : ℕ) (items : List Frame) (other : Frame) (test : Bool) → number < length items
    → test ≡ is_home home (get_or items (length items - 1 - number) other) → test ≡ true
    → frames_to home (reverse items) ≡ behind number (frames_to home (drop number (reverse items)))
    → Some (number + 1) ≡ frames_to home (reverse items)
is_found home number items other test within is found so_far = sym (is_told home number items other true within (sym is ∙ found) so_far)

pub is_absent : (home number : ℕ) (items : List Frame) → length items ≤ number
    → frames_to home (reverse items) ≡ behind number (frames_to home (drop number (reverse items))) → frames_to home (reverse items) ≡ None
is_absent home number items all so_far =
    so_far ∙ ap (λ rest. behind number (frames_to home rest)) (drop_all number (reverse items) (omega (arith, all, length-reverse items)))
