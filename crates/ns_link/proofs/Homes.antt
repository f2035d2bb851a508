-- The homes of frames.
use Rattle.std.proofs.Common.{◌≡◌, ℕ, List, [], ◌∷◌, refl}
use Rattle.std.specs.Prelude.{Bool, true, false, cond, ◌==◌, ◌||◌}
use Rattle.ns_moves.specs.Control.{FromMethod, FromBody, FromClause}
use Rattle.ns_model.specs.Outcome.{is_live}
use Rattle.ns_moves.specs.State.{Loud, Silent, Frame, Running, Looping}
use Rattle.ns_moves.specs.Returns.{has_home}
use Rattle.ns_link.specs.Shown.{homes}

one_of : (b : Bool) (x y : Bool) → x ≡ y → cond b true x ≡ (b || y)
one_of true x y e = refl
one_of false x y e = e

pub has_live : (h : ℕ) (fs : List Frame) → has_home h fs ≡ is_live (homes fs) h
has_live h [] = refl
has_live h (Running (Loud FromMethod) a ls rest stack ∷ fs) = one_of (a.home == h) (has_home h fs) (is_live (homes fs) h) (has_live h fs)
has_live h (Running (Loud FromBody) a ls rest stack ∷ fs) = has_live h fs
has_live h (Running (Loud (FromClause o g c)) a ls rest stack ∷ fs) = has_live h fs
has_live h (Running Silent a ls rest stack ∷ fs) = has_live h fs
has_live h (Looping m s t ∷ fs) = has_live h fs
