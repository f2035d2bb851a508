-- The fields of larger parts in groups of three or four, in which they are written.
use Rattle.std.specs.Prelude.{ℕ, List, [], ◌∷◌}
use Rattle.std.specs.List.{concat, flat_map}
use Rattle.ns_image.specs.Bytes.{byte, word, long, text, counted}
use Rattle.ns_kcode.specs.declared.state.KState.{KState}
use Rattle.ns_frozen.specs.declared.frame.FrozenFrame.{FrozenFrame}
use Rattle.ns_frozen.specs.declared.frozen.Frozen.{Frozen}
use Rattle.ns_snapshot.specs.Bytes as s

-- ---- the state of a method of the kernel

-- its receiver and its arguments
abbrev pub message : KState → List ℕ
message k = concat (s.value k.receiver ∷ s.value k.first ∷ s.value k.second ∷ [])

-- and what follows them
abbrev pub turns : KState → List ℕ
turns k = concat (long k.size ∷ long k.count ∷ s.option s.value k.last ∷ [])

-- ---- a frame

-- what it runs, the number of the instruction, and the receiver
abbrev pub running : FrozenFrame → List ℕ
running f = concat (s.frame_kind f.kind ∷ word f.instr ∷ s.value f.receiver ∷ [])

-- its holder, its home and its environment
abbrev pub home : FrozenFrame → List ℕ
home f = concat (word f.holder ∷ s.double f.home ∷ s.value f.env ∷ [])

-- both, which stand before the locals
abbrev pub head : FrozenFrame → List ℕ
head f = concat (s.frame_kind f.kind ∷ word f.instr ∷ s.value f.receiver ∷ word f.holder ∷ s.double f.home ∷ s.value f.env ∷ [])

-- its locals, its operands and its site
abbrev pub lists : FrozenFrame → List ℕ
lists f = concat (s.values f.locals ∷ s.values f.operands ∷ s.site f.site ∷ [])

-- ---- a state

-- its limits, what is used of them, and its grants
abbrev pub bounds : Frozen → List ℕ
bounds f = concat (s.limits f.limits ∷ s.counters f.used ∷ s.grants f.grants ∷ [])

-- its board, its output, and how far it has come
abbrev pub outside : Frozen → List ℕ
outside f = concat (flat_map s.plain f.board.places ∷ text f.output ∷ s.double f.homes ∷ byte f.phase ∷ [])

-- both, which stand before that which waits
abbrev pub before_pending : Frozen → List ℕ
before_pending f =
    concat
    (s.limits f.limits
    ∷ s.counters f.used
    ∷ s.grants f.grants
    ∷ flat_map s.plain f.board.places
    ∷ text f.output
    ∷ s.double f.homes
    ∷ byte f.phase
    ∷ [])

-- what waits, the ending, the cells and the frames
abbrev pub from_pending : Frozen → List ℕ
from_pending f =
    concat
    (s.option s.pending f.pending
    ∷ s.option s.ending f.ending
    ∷ counted s.cell f.cells
    ∷ counted s.frame f.frames
    ∷ [])
