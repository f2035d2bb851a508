-- The cells of the start, one after another.
use Rattle.std.proofs.Common.{◌≡◌, ℕ, ◌+◌, List, ◌∷◌, ◌++◌, ap, ◌∙◌, append_assoc}
use Rattle.ns_code.specs.declared.class.ClassCode.{ClassCode}
use Rattle.ns_world.specs.Cell.{Cell}
use Rattle.ns_moves.specs.Start.{top_if, tops_of}

-- one more top-level class, where there is one
pub tops_on : (decl : ℕ) (class : ClassCode) (rest : List ClassCode) (before after whole : List Cell) → after ≡ before ++ top_if class.outer decl
    → before ++ tops_of decl (class ∷ rest) ≡ whole → after ++ tops_of (decl + 1) rest ≡ whole
tops_on decl class rest before after whole e all =
    ap (λ (xs : List Cell). xs ++ tops_of (decl + 1) rest) e ∙ (append_assoc before (top_if class.outer decl) (tops_of (decl + 1) rest) ∙ all)
