-- A state whose bytes are fewer than 2 ^ 32 has counts that fit their fields, and so has one whose numbers fit theirs.
use Rattle.std.proofs.Common.{◌≡◌, ℕ, ◌+◌, ◌<◌, ◌≤◌, ◌^◌, List, [], ◌∷◌, ◌++◌, length, get_or, flat_map, Option, Some, None, length-append, zero, suc, subst, arith}
use Rattle.std.specs.List.{concat}
use Rattle.std.specs.Option.{ForSome}
use Rattle.ns_code.specs.Fits.{IsWord, IsShort}
use Rattle.ns_image.specs.Bytes as b
use Rattle.ns_world.specs.declared.value.Value.{Value}
use Rattle.ns_frozen.specs.declared.cell.CellData.{CellData}
use Rattle.ns_frozen.specs.declared.cell.CellData.TheVariants as held
use Rattle.ns_frozen.specs.declared.frame.FrozenFrame.{FrozenFrame}
use Rattle.ns_frozen.specs.declared.pending.Pending.{Pending}
use Rattle.ns_frozen.specs.declared.pending.Pending.TheVariants as waits
use Rattle.ns_frozen.specs.declared.frozen.Frozen.{Frozen}
use Rattle.ns_snapshot.specs.Bytes as s
use Rattle.ns_snapshot.specs.Fits.{CellFits, FrameFits, PendingFits, FrozenFits}
use Rattle.ns_snapshot_write.specs.Room.{CellHasRoom, FrameHasRoom, PendingHasRoom, StateHasRoom}
use Rattle.ns_snapshot_write.proofs.Lengths.{no_more_parts, all_within, some_value, some_cell, some_frame}

-- ---- parts of short bytes are short

abbrev AreFew : List ℕ → Type 0
AreFew bytes = length bytes < 2 ^ 32

front : (first rest : List ℕ) → AreFew (first ++ rest) → AreFew first
front first rest few = omega (arith, few, length-append first rest)

behind : (first rest : List ℕ) → AreFew (first ++ rest) → AreFew rest
behind first rest few = omega (arith, few, length-append first rest)

parts_few : {A : Type 0} (item : A → List ℕ) (xs : List A) → AreFew (b.counted item xs) → AreFew (flat_map item xs)
parts_few item xs few = behind (b.word (length xs)) (flat_map item xs) few

count_few : {A : Type 0} (item : A → List ℕ) → ((x : A) → 1 ≤ length (item x)) → (xs : List A) → AreFew (b.counted item xs) → IsWord (length xs)
count_few item some xs few = omega (arith, parts_few item xs few, no_more_parts item some xs)

values_few : (values : List Value) → AreFew (s.values values) → IsWord (length values)
values_few values few = count_few s.value some_value values few

text_few : (bytes : List ℕ) → AreFew (b.text bytes) → IsShort bytes
text_few bytes few = behind (b.word (length bytes)) bytes few

-- ---- cells, frames and what waits

cell_few : (cell : CellData) → AreFew (s.cell cell) → CellHasRoom cell
cell_few (held.Object class words) few =
    let one : AreFew (b.word class ++ (s.values words ++ [])) = behind (b.byte 0) (b.word class ++ (s.values words ++ [])) few in
    values_few words (front (s.values words) [] (behind (b.word class) (s.values words ++ []) one))
cell_few (held.Class decl encl holder over) few = tt
cell_few (held.Block body env receiver holder home) few = tt
cell_few (held.Environment parent locals) few =
    let one : AreFew (s.value parent ++ (s.values locals ++ [])) = behind (b.byte 3) (s.value parent ++ (s.values locals ++ [])) few in
    values_few locals (front (s.values locals) [] (behind (s.value parent) (s.values locals ++ []) one))
cell_few (held.Array items) few = values_few items (behind (b.byte 4) (s.values items) few)
cell_few (held.Text bytes) few = text_few bytes (behind (b.byte 5) (b.text bytes) few)
cell_few (held.Facet kind) few = tt
cell_few (held.Mirror mirrored) few = tt
cell_few (held.Message sel args) few = tt

-- the parts behind others that are put in one row
abbrev RowIsFew : List (List ℕ) → Type 0
RowIsFew parts = AreFew (concat parts)

tail_few : (part : List ℕ) (parts : List (List ℕ)) → RowIsFew (part ∷ parts) → RowIsFew parts
tail_few part parts few = behind part (concat parts) few

head_few : (part : List ℕ) (parts : List (List ℕ)) → RowIsFew (part ∷ parts) → AreFew part
head_few part parts few = front part (concat parts) few

-- the part of that place in a row
place_few : (place : ℕ) (parts : List (List ℕ)) → RowIsFew parts → AreFew (get_or parts place [])
place_few place [] few = omega arith
place_few zero (part ∷ parts) few = head_few part parts few
place_few (suc place) (part ∷ parts) few = place_few place parts (tail_few part parts few)

frame_row : FrozenFrame → List (List ℕ)
frame_row f =
    s.frame_kind f.kind
    ∷ b.word f.instr
    ∷ s.value f.receiver
    ∷ b.word f.holder
    ∷ s.double f.home
    ∷ s.value f.env
    ∷ s.values f.locals
    ∷ s.values f.operands
    ∷ s.site f.site
    ∷ []

frame_few : (frame : FrozenFrame) → AreFew (s.frame frame) → FrameHasRoom frame
unfolding frame_row
frame_few f few =
    let locals : AreFew (s.values f.locals) = place_few 6 (frame_row f) few in
    let operands : AreFew (s.values f.operands) = place_few 7 (frame_row f) few in
    record { locals = values_few f.locals locals; operands = values_few f.operands operands }

pending_few : (pending : Pending) → AreFew (s.pending pending) → PendingHasRoom pending
pending_few (waits.Send receiver sel arguments site) few =
    values_few arguments (place_few 3 (b.byte 0 ∷ s.value receiver ∷ b.word sel.0 ∷ s.values arguments ∷ s.site site ∷ []) few)
pending_few (waits.Perform receiver sel array site) few = tt
pending_few (waits.Evaluate block arguments site) few = values_few arguments (place_few 2 (b.byte 2 ∷ s.value block ∷ s.values arguments ∷ s.site site ∷ []) few)

some_few : (pending : Option Pending) → AreFew (s.option s.pending pending) → ForSome pending PendingHasRoom
some_few None few x e = absurd (cc (e))
some_few (Some pending) few x e =
    let same : pending ≡ x = cc (e) in
    subst PendingHasRoom same (pending_few pending (behind (b.byte 1) (s.pending pending) few))

-- ---- states

state_row : Frozen → List (List ℕ)
state_row f =
    s.limits f.limits
    ∷ s.counters f.used
    ∷ s.grants f.grants
    ∷ flat_map s.plain f.board.places
    ∷ b.text f.output
    ∷ s.double f.homes
    ∷ b.byte f.phase
    ∷ s.option s.pending f.pending
    ∷ s.option s.ending f.ending
    ∷ b.counted s.cell f.cells
    ∷ b.counted s.frame f.frames
    ∷ []

state_few : (frozen : Frozen) → AreFew (s.frozen frozen) → StateHasRoom frozen
unfolding state_row
state_few f few =
    let output : AreFew (b.text f.output) = place_few 4 (state_row f) few in
    let pending : AreFew (s.option s.pending f.pending) = place_few 7 (state_row f) few in
    let cells : AreFew (b.counted s.cell f.cells) = place_few 9 (state_row f) few in
    let frames : AreFew (b.counted s.frame f.frames) = place_few 10 (state_row f) few in
    record {
      output = text_few f.output output;
      pending = some_few f.pending pending;
      cell_count = count_few s.cell some_cell f.cells cells;
      cells = all_within s.cell CellHasRoom (2 ^ 32) cell_few f.cells (parts_few s.cell f.cells cells);
      frame_count = count_few s.frame some_frame f.frames frames;
      frames = all_within s.frame FrameHasRoom (2 ^ 32) frame_few f.frames (parts_few s.frame f.frames frames);
    }

behind_version : (image : List ℕ) (frozen : Frozen) → AreFew (s.with_image image frozen) → AreFew (b.text image ++ s.frozen frozen)
behind_version image frozen few =
    let one : AreFew (b.half 1 ++ (b.text image ++ s.frozen frozen)) = behind s.mark (b.half 1 ++ (b.text image ++ s.frozen frozen)) few in
    behind (b.half 1) (b.text image ++ s.frozen frozen) one

pub states_have_room : (image : List ℕ) (frozen : Frozen) (size most : ℕ) → most < 2 ^ 32 → size ≤ most → size ≡ length (s.with_image image frozen) → StateHasRoom frozen
states_have_room image frozen size most below within is =
    state_few frozen (behind (b.text image) (s.frozen frozen) (behind_version image frozen (omega (arith, below, within, is))))

pub images_are_short : (image : List ℕ) (frozen : Frozen) (size most : ℕ) → most < 2 ^ 32 → size ≤ most → size ≡ length (s.with_image image frozen) → IsShort image
images_are_short image frozen size most below within is =
    text_few image (front (b.text image) (s.frozen frozen) (behind_version image frozen (omega (arith, below, within, is))))

-- ---- states whose numbers fit

cell_fits : (cell : CellData) → CellFits cell → CellHasRoom cell
cell_fits (held.Object class words) fits = fits.1.0
cell_fits (held.Class decl encl holder over) fits = tt
cell_fits (held.Block body env receiver holder home) fits = tt
cell_fits (held.Environment parent locals) fits = fits.1.0
cell_fits (held.Array items) fits = fits.0
cell_fits (held.Text bytes) fits = fits
cell_fits (held.Facet kind) fits = tt
cell_fits (held.Mirror mirrored) fits = tt
cell_fits (held.Message sel args) fits = tt

frame_fits : (frame : FrozenFrame) → FrameFits frame → FrameHasRoom frame
frame_fits frame fits = record { locals = fits.locals.0; operands = fits.operands.0 }

pending_fits : (pending : Pending) → PendingFits pending → PendingHasRoom pending
pending_fits (waits.Send receiver sel arguments site) fits = fits.2.0
pending_fits (waits.Perform receiver sel array site) fits = tt
pending_fits (waits.Evaluate block arguments site) fits = fits.1.0

pub fitting_states_have_room : (frozen : Frozen) → FrozenFits frozen → StateHasRoom frozen
fitting_states_have_room frozen fits =
    let most : frozen.limits.cells ≤ 64000000 = fits.limits.1.1 in
    record {
      output = fits.output;
      pending = λ x e. pending_fits x (fits.pending x e);
      cell_count = omega (arith, most, fits.cell_count);
      cells = λ k d lt. cell_fits _ (fits.cells k d lt);
      frame_count = fits.frame_count;
      frames = λ k d lt. frame_fits _ (fits.frames k d lt);
    }
