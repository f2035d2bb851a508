-- What is kept of the chain of a class.
use Rattle.std.specs.Prelude.{◌≡◌, ℕ, ◌+◌, ◌<◌, ◌≤◌, nat_lt, nat_le, length, get_or, slice_get, Some, None, ◌==◌, ◌||◌, if◌then◌else◌}
use Rattle.ns_code.specs.declared.program.CodeProgram.{CodeProgram}
use Rattle.ns_world.specs.declared.value.Value.{Value}
use Rattle.ns_world.specs.declared.value.Value.TheVariants.{Ref}
use Rattle.ns_world.specs.Heap.{Heap, heap_size, chain_of}
use Rattle.ns_world.specs.Layout.{layout_of, entries_of}
use Rattle.ns_frozen.specs.Live.{has_chain, is_object_class}
use Rattle.ns_frozen_tables.specs.declared.chain.Chain.{Chain}
use Rattle.ns_frozen_tables.specs.declared.chain.Chains.{Chains}
use Rattle.ns_frozen_tables.specs.Numbers.{number_end, IsRising, IsPlaceOf}

-- of a cell that is no class
abbrev pub no_chain : Chain
no_chain = record { links = 0; layout = 0 }

-- how many classes a chain has; 0 where it isn't as it must be
abbrev pub links_of : CodeProgram → Heap → ℕ → ℕ
links_of code heap class = if has_chain code heap class then length (chain_of heap class) else 0

-- the chain of the class of that number
abbrev pub chain_at : CodeProgram → Heap → ℕ → Chain
chain_at code heap class = record { links = links_of code heap class; layout = layout_of heap code class }

-- the chain of a superclass
abbrev pub chain_over : CodeProgram → Heap → Value → Chain
chain_over code heap (Ref class) = chain_at code heap class
chain_over code heap value = no_chain

-- how many links the chain of a superclass has, where that was made before the class of a number
abbrev pub links_before : CodeProgram → Heap → ℕ → Value → ℕ
links_before code heap number (Ref class) = if nat_lt class number then links_of code heap class else 0
links_before code heap number value = 0

-- one more link, at most 256
abbrev pub more_links : ℕ → ℕ
more_links links = if links == 0 || nat_le 256 links then 0 else links + 1

-- how many links a class has by those of its superclass
abbrev pub next_links : CodeProgram → ℕ → Value → ℕ → ℕ
next_links code decl over links =
    if nat_lt decl (length code.classes) then (if is_object_class over then 1 else more_links links) else 0

-- the chain of a class by that of its superclass
abbrev pub next_chain : CodeProgram → ℕ → Value → Chain → Chain
next_chain code decl over above = record { links = next_links code decl over above.links; layout = entries_of code decl + above.layout }

-- Their numbers rise.
abbrev pub AreRising : Chains → Type 0
AreRising chains = IsRising chains.numbers.items

-- The chains of the classes of a heap, by their numbers as far as a reference can name them.
pub record AreChains (code : CodeProgram) (heap : Heap) (chains : Chains) : Type 0 where
  pub rising : AreRising chains
  pub as_many : length chains.chains.items ≡ length chains.numbers.items
  pub below : (place : ℕ) → place < length chains.numbers.items → get_or chains.numbers.items place 0 < heap_size heap
  pub few : (place : ℕ) → place < length chains.numbers.items → place ≤ get_or chains.numbers.items place 0
  pub there : (place : ℕ) → place < length chains.numbers.items
      → slice_get chains.chains.items place ≡ Some (chain_at code heap (get_or chains.numbers.items place 0))
  pub absent : (class : ℕ) → class < number_end → IsPlaceOf chains.numbers.items class None → chain_at code heap class ≡ no_chain

-- They are those of a heap with so many cells used.
pub record HasHeap (code : CodeProgram) (number : ℕ) (chains : Chains) : Type 0 where
  pub heap : Heap
  pub size : heap_size heap ≡ number
  pub are : AreChains code heap chains
