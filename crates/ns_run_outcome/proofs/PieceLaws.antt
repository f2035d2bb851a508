-- Bytes that are written piece by piece.
use Rattle.std.proofs.Common.{◌≡◌, ℕ, zero, suc, ◌+◌, List, [], ◌∷◌, ◌++◌, Option, Some, None, take, drop, refl, ap, sym, ◌∙◌, append_assoc}
use Rattle.std.proofs.Math.Seq.{take-add}
use Rattle.ns_base.specs.Sink.{WrotePrefix, with_bytes}

-- a front, and then a piece of what is left
pub with_piece : (bytes : List ℕ) (done n : ℕ) (w : Option (List ℕ)) →
    with_bytes (take n (drop done bytes)) (with_bytes (take done bytes) w) ≡ with_bytes (take (done + n) bytes) w
with_piece bytes done n None = refl
with_piece bytes done n (Some w) =
    ap Some (append_assoc w (take done bytes) (take n (drop done bytes)) ∙ ap (λ t. w ++ t) (sym (take-add done n bytes)))

-- A prefix of a front is a prefix.
pub front_of_front : (x m : ℕ) (xs : List ℕ) → (n : ℕ) × (take x (take m xs) ≡ take n xs)
front_of_front zero m xs = (0, refl)
front_of_front (suc x) zero xs = (0, refl)
front_of_front (suc x) (suc m) [] = (0, refl)
front_of_front (suc x) (suc m) (y ∷ ys) = let r = front_of_front x m ys in (suc r.0, ap (λ zs. y ∷ zs) r.1)

-- After a front, a prefix of the next piece makes a prefix of all bytes.
pub prefix_so_far : (bytes : List ℕ) (done m : ℕ) (w o v : Option (List ℕ)) → o ≡ with_bytes (take done bytes) w →
    WrotePrefix (take m (drop done bytes)) o v → WrotePrefix bytes w v
prefix_so_far bytes done m w o v h p =
    let r = front_of_front p.0 m (drop done bytes) in
    (done + r.0, p.1 ∙ ap (with_bytes (take p.0 (take m (drop done bytes)))) h ∙ ap (λ t. with_bytes t (with_bytes (take done bytes) w)) r.1 ∙ with_piece bytes done r.0 w)
