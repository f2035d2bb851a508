-- The place at which tokens go wrong, by the grammar alone.
use Rattle.std.specs.Prelude.{◌≡◌, ℕ, List, [], ◌∷◌, ◌++◌, length}
use Rattle.ns_tree.specs.declared.token.Kind.{Kind}
use Rattle.ns_tree.specs.Plain as p
use Rattle.ns_tree.specs.Tree.{Spells, Front}

-- With the next token no file goes on; or there is none, and what is there is no file yet.
abbrev pub Stuck : List Kind → List Kind → Type 0
Stuck before [] = (unit : p.SourceUnit) → Spells before unit → ⊥
Stuck before (kind ∷ rest) = Front (before ++ kind ∷ []) → ⊥

-- What stands before token k begins a file, and what goes up to that token begins none.
pub record TokensStopAt (kinds : List Kind) (k : ℕ) : Type 0 where
  pub before : List Kind
  pub rest : List Kind
  pub cut : kinds ≡ before ++ rest
  pub place : k ≡ length before
  pub front : Front before
  pub stuck : Stuck before rest
