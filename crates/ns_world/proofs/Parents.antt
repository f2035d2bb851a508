-- The first word of an environment tells its parent.
use Rattle.std.proofs.Common.{◌≡◌, ℕ, ◌+◌, List, [], ◌∷◌, get_or, ap, sym, ◌∙◌, IsSome}
use Rattle.std.proofs.lemmas.List.{get_or_default}
use Rattle.ns_world.specs.declared.cell.NewCell.TheVariants as new
use Rattle.ns_world.specs.declared.value.Value.{Value}
use Rattle.ns_world.specs.declared.word.Word.{Word}
use Rattle.ns_world.specs.declared.word.Word.TheVariants as word
use Rattle.ns_world.specs.Heap.{Heap, find_cell, shape_at}
use Rattle.ns_world.specs.Words.{value_in, laid_out, shape_in}
use Rattle.ns_world.proofs.HeadTests.{reads_head}
use Rattle.ns_world.proofs.Shapes.{shape_told}

parent_in_head : (first : Word) (words : List Word) (parent : Value) (locals : ℕ) → shape_in first words ≡ new.Environment parent locals → value_in first ≡ parent
parent_in_head word.Nil words parent locals is = cc
parent_in_head word.True words parent locals is = cc
parent_in_head word.False words parent locals is = cc
parent_in_head (word.Int number) words parent locals is = cc
parent_in_head (word.Sym sel) words parent locals is = cc
parent_in_head (word.Kernel class) words parent locals is = cc
parent_in_head (word.Ref at) words parent locals is = cc
parent_in_head (word.NilWith beside) words parent locals is = cc
parent_in_head (word.TrueWith beside) words parent locals is = cc
parent_in_head (word.FalseWith beside) words parent locals is = cc
parent_in_head (word.IntWith beside number) words parent locals is = cc
parent_in_head (word.SymWith beside sel) words parent locals is = cc
parent_in_head (word.KernelWith beside class) words parent locals is = cc
parent_in_head (word.RefWith beside at) words parent locals is = cc
parent_in_head (word.Bytes bytes) words parent locals is = absurd (cc)
parent_in_head (word.Object class count) words parent locals is = absurd (cc)
parent_in_head (word.Class decl base) words parent locals is = absurd (cc)
parent_in_head (word.Block body home) words parent locals is = absurd (cc)
parent_in_head (word.Array size) words parent locals is = absurd (cc)
parent_in_head (word.Text bytes) words parent locals is = absurd (cc)
parent_in_head (word.Facet kind) words parent locals is = absurd (cc)
parent_in_head word.Mirror words parent locals is = absurd (cc)
parent_in_head (word.Message sel) words parent locals is = absurd (cc)

-- the words behind the head of a cell, nil past the end
abbrev behind : List Word → ℕ → List Word
behind words n = get_or words (n + 1) word.Nil ∷ get_or words (n + 2) word.Nil ∷ get_or words (n + 3) word.Nil ∷ []

-- the value of an environment's first word is its parent
pub parent_told : (heap : Heap) (words : List Word) (n : ℕ) → laid_out heap ≡ words → IsSome (find_cell heap n) → (first : Word) → get_or words n first ≡ first
    → (parent : Value) (locals : ℕ) → shape_at heap n ≡ new.Environment parent locals → value_in first ≡ parent
parent_told heap words n laid some first at parent locals is =
    parent_in_head first (behind words n) parent locals
    (sym (ap (λ w. shape_in w (behind words n)) (get_or_default words n word.Nil first (reads_head heap words n laid some).inside ∙ at))
    ∙ (shape_told heap words n laid some ∙ is))
