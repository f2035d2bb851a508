-- Heads stand for the same cells over pools that keep what they had.
use Rattle.std.proofs.Common.{◌≡◌, ℕ, ◌+◌, ◌≤◌, List, [], ◌∷◌, ◌++◌, length, drop, map, All, refl, ap, ◌∙◌, arith}
use Rattle.std.proofs.lemmas.List.{map_push, drop-append-le, drop_all}
use Rattle.std.proofs.lemmas.List.Elements.{All-head, All-tail, All-weaker, All-push}
use Rattle.ns_world.specs.declared.value.Value.{Value}
use Rattle.ns_frozen.specs.declared.cell.CellData.{CellData}
use Rattle.ns_frozen.specs.declared.pools.Head.{Head}
use Rattle.ns_frozen.specs.declared.pools.Head.TheVariants as head
use Rattle.ns_frozen.specs.declared.pools.NewData.{NewData}
use Rattle.ns_frozen.specs.declared.pools.Pools.{Pools}
use Rattle.ns_frozen.specs.Heads.{shown, IsThere, IsHeadOf, ShowsSame, MadeCells, data_of, with_word, with_cell}

pub same_cells : (old new : Pools) → ShowsSame old new → (heads : List Head) → All (IsThere old) heads → map (shown new) heads ≡ map (shown old) heads
same_cells old new kept [] all = refl
same_cells old new kept (one ∷ more) all =
    cc (kept.is one (All-head (IsThere old) one more all), same_cells old new kept more (All-tail (IsThere old) one more all))

pub all_there : (old new : Pools) → ShowsSame old new → (heads : List Head) → All (IsThere old) heads → All (IsThere new) heads
all_there old new kept heads all = All-weaker (IsThere old) (IsThere new) kept.there heads all

-- where words begin is among the words still
pub from_within : (old new : Pools) (from : ℕ) → ShowsSame old new → from ≤ length old.values.items → from ≤ length new.values.items
from_within old new from kept within = omega (arith, kept.there (head.Array from 0) (omega (arith, within)))

-- one more head is there too
pub one_more_there : (old new : Pools) → ShowsSame old new → (heads : List Head) → All (IsThere old) heads → (cell : CellData) (one : Head)
    → IsHeadOf new cell one → All (IsThere new) (heads ++ one ∷ [])
one_more_there old new kept heads all cell one stands = All-push (IsThere new) heads one (all_there old new kept heads all) stands.there

-- one more cell
one_more_cell : (old new : Pools) → ShowsSame old new → (heads : List Head) → All (IsThere old) heads → (cell : CellData) (one : Head)
    → IsHeadOf new cell one → map (shown new) (heads ++ one ∷ []) ≡ map (shown old) heads ++ cell ∷ []
one_more_cell old new kept heads all cell one stands =
    map_push (shown new) heads one
    ∙ (ap (λ cells. cells ++ shown new one ∷ []) (same_cells old new kept heads all) ∙ ap (λ c. map (shown old) heads ++ c ∷ []) stands.is)

-- what heads and pools make, where the words of the next cell begin at a place
abbrev pub made_of : Pools → List Head → ℕ → MadeCells
made_of pools heads from = record { cells = map (shown pools) heads; words = drop from pools.values.items }

-- one more word is put
pub word_put : (old new : Pools) (heads : List Head) (from : ℕ) (made : MadeCells) (word : Value) → ShowsSame old new → All (IsThere old) heads
    → from ≤ length old.values.items → new.values.items ≡ old.values.items ++ word ∷ [] → made_of old heads from ≡ made
    → made_of new heads from ≡ with_word word made
word_put old new heads from made word kept all within put is =
    ap (λ (cells : List CellData). record { cells = cells; words = drop from new.values.items }) (same_cells old new kept heads all)
    ∙ (ap (λ (words : List Value). record { cells = map (shown old) heads; words = words })
    (ap (drop from) put ∙ drop-append-le from old.values.items (word ∷ []) within)
    ∙ ap (with_word word) is)

-- one more cell is put
pub cell_put : (old new : Pools) (heads grown : List Head) (from end : ℕ) (made : MadeCells) (new_cell : NewData) (one : Head) → ShowsSame old new → All (IsThere old) heads
    → IsHeadOf new (data_of new_cell (drop from old.values.items)) one → grown ≡ heads ++ one ∷ [] → end ≡ length new.values.items → made_of old heads from ≡ made
    → made_of new grown end ≡ with_cell (data_of new_cell made.words) made
cell_put old new heads grown from end made new_cell one kept all stands put at is =
    ap (λ (cells : List CellData). record { cells = cells; words = drop end new.values.items })
    (ap (map (shown new)) put ∙ one_more_cell old new kept heads all (data_of new_cell (drop from old.values.items)) one stands)
    ∙ (ap (λ (words : List Value). record { cells = map (shown old) heads ++ data_of new_cell (drop from old.values.items) ∷ []; words = words })
    (drop_all end new.values.items (omega (arith, at)))
    ∙ ap (λ (m : MadeCells). with_cell (data_of new_cell m.words) m) is)
