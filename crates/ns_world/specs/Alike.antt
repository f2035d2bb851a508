-- When two worlds are alike from some roots on, after a renaming of their cells.
use Rattle.std.specs.Prelude.{◌≡◌, ◌≢◌, ℕ, ◌-◌, List, [], ◌∷◌, Option, Some, None, Contains, length, ◌⊎◌}
use Rattle.std.specs.List.{AllPairs}
use Rattle.ns_world.specs.declared.value.Value.{Value}
use Rattle.ns_world.specs.declared.value.Value.TheVariants.{Ref}
use Rattle.ns_world.specs.declared.cell.FacetKind.{FacetKind}
use Rattle.ns_world.specs.declared.cell.FacetKind.TheVariants.{Manifest, Platform}
use Rattle.ns_world.specs.Cell.{Cell, ObjectCell, ClassCell, BlockCell, EnvironmentCell, ArrayCell, TextCell, FacetCell, MirrorCell, MessageCell}
use Rattle.ns_world.specs.Heap.{Heap, heap_size, find_cell, no_class}
use Rattle.ns_world.specs.Seek.{first_such, is_facet, is_top}
use Rattle.ns_world.specs.Reach.{IsInReach, all_referred}
use Rattle.ns_world.specs.World.{World}

-- pairs of cells of two worlds
abbrev pub Renaming : Type 0
Renaming = List (ℕ × ℕ)

-- Two values are equal after renaming.
abbrev pub AlikeValue : Renaming → Value → Value → Type 0
AlikeValue pairs (Ref first) (Ref second) = Contains pairs (first, second)
AlikeValue pairs (Ref first) second = ⊥
AlikeValue pairs first second = first ≡ second

-- Two lists of values are equal after renaming.
abbrev pub AlikeValues : Renaming → List Value → List Value → Type 0
AlikeValues pairs [] [] = Unit {0}
AlikeValues pairs (first ∷ firsts) (second ∷ seconds) = AlikeValue pairs first second × AlikeValues pairs firsts seconds
AlikeValues pairs firsts seconds = ⊥

-- Two numbers of classes are paired, or both that of no class.
abbrev pub AlikeClass : Renaming → ℕ → ℕ → Type 0
AlikeClass pairs first second = AlikeValue pairs (Ref first) (Ref second) ⊎ ((first ≡ no_class) × (second ≡ no_class))

-- Two numbers that may be there are paired, or both aren't there.
abbrev pub AlikeNumber : Renaming → Option ℕ → Option ℕ → Type 0
AlikeNumber pairs None None = Unit {0}
AlikeNumber pairs (Some first) (Some second) = Contains pairs (first, second)
AlikeNumber pairs first second = ⊥

-- Two cells are equal after renaming; the homes of blocks aren't compared.
abbrev pub AlikeCell : Renaming → Cell → Cell → Type 0
AlikeCell pairs (ObjectCell class entries) (ObjectCell class' entries') = AlikeClass pairs class class' × AlikeValues pairs entries entries'
AlikeCell pairs (ClassCell decl base encl holder over) (ClassCell decl' base' encl' holder' over') =
    (decl ≡ decl') × AlikeValues pairs (encl ∷ holder ∷ over ∷ []) (encl' ∷ holder' ∷ over' ∷ [])
AlikeCell pairs (BlockCell body env home receiver holder) (BlockCell body' env' home' receiver' holder') =
    (body ≡ body') × AlikeValues pairs (env ∷ receiver ∷ []) (env' ∷ receiver' ∷ []) × AlikeClass pairs holder holder'
AlikeCell pairs (EnvironmentCell parent locals) (EnvironmentCell parent' locals') = AlikeValues pairs (parent ∷ locals) (parent' ∷ locals')
AlikeCell pairs (ArrayCell items) (ArrayCell items') = AlikeValues pairs items items'
AlikeCell pairs (TextCell bytes) (TextCell bytes') = bytes ≡ bytes'
AlikeCell pairs (FacetCell kind) (FacetCell kind') = kind ≡ kind'
AlikeCell pairs (MirrorCell mirrored) (MirrorCell mirrored') = AlikeValue pairs mirrored mirrored'
AlikeCell pairs (MessageCell sel args) (MessageCell sel' args') = (sel ≡ sel') × AlikeValue pairs args args'
AlikeCell pairs first second = ⊥

-- Two facets hold alike cells: Platform the facets that were granted, Manifest the top-level classes.
abbrev pub AlikeHeld : Renaming → Heap → Heap → Cell → Type 0
AlikeHeld pairs first second (FacetCell Platform) =
    (kind : FacetKind) → kind ≢ Manifest → kind ≢ Platform → AlikeNumber pairs (first_such (is_facet kind) first) (first_such (is_facet kind) second)
AlikeHeld pairs first second (FacetCell Manifest) =
    (decl : ℕ) → AlikeNumber pairs (first_such (is_top decl) first) (first_such (is_top decl) second)
AlikeHeld pairs first second cell = Unit {0}

-- The pairs of the first reach are cells that are equal after renaming.
pub record AlikePairs (pairs : Renaming) (first second : Heap) (number other : ℕ) : Type 0 where
  pub one : Cell
  pub two : Cell
  pub one_is : find_cell first number ≡ Some one
  pub two_is : find_cell second other ≡ Some two
  pub cells : AlikeCell pairs one two
  pub holds : AlikeHeld pairs first second one

-- Two worlds are alike from their roots on: the renaming pairs the two reaches one to one, cells that are
-- paired and the roots are equal after it, and of each limit equally much is left.
pub record Alike (pairs : Renaming) (first second : World) (firsts seconds : List Value) : Type 0 where
  pub once_first : AllPairs (λ p q. p.0 ≢ q.0) pairs
  pub once_second : AllPairs (λ p q. p.1 ≢ q.1) pairs
  pub onto : (number : ℕ) → IsInReach first.cells (all_referred firsts) number
      → (other : ℕ) × Contains pairs (number, other) × IsInReach second.cells (all_referred seconds) other
  pub back : (other : ℕ) → IsInReach second.cells (all_referred seconds) other
      → (number : ℕ) × Contains pairs (number, other) × IsInReach first.cells (all_referred firsts) number
  pub cells : (number other : ℕ) → Contains pairs (number, other) → IsInReach first.cells (all_referred firsts) number
      → AlikePairs pairs first.cells second.cells number other
  pub roots : AlikeValues pairs firsts seconds
  pub steps : first.limits.steps - first.steps ≡ second.limits.steps - second.steps
  pub room : first.limits.cells - heap_size first.cells ≡ second.limits.cells - heap_size second.cells
  pub depth : first.limits.depth - first.depth ≡ second.limits.depth - second.depth
  pub out : first.limits.out - length first.output ≡ second.limits.out - length second.output
