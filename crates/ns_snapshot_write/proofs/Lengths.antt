-- Each part of a snapshot has a byte at least, so a list of parts has no more parts than bytes.
use Rattle.std.proofs.Common.{◌≡◌, ℕ, suc, ◌+◌, ◌<◌, ◌≤◌, List, [], ◌∷◌, ◌++◌, length, flat_map, All, length-append, arith}
use Rattle.std.proofs.lemmas.List.Elements.{All-nil, All-cons}
use Rattle.std.specs.List.{concat}
use Rattle.ns_image.specs.Bytes as b
use Rattle.ns_world.specs.declared.value.Value.{Value}
use Rattle.ns_world.specs.declared.value.Value.TheVariants as v
use Rattle.ns_frozen.specs.declared.cell.CellData.{CellData}
use Rattle.ns_frozen.specs.declared.cell.CellData.TheVariants as held
use Rattle.ns_frozen.specs.declared.frame.FrameKind.{FrameKind}
use Rattle.ns_frozen.specs.declared.frame.FrameKind.TheVariants as kinds
use Rattle.ns_frozen.specs.declared.frame.FrozenFrame.{FrozenFrame}
use Rattle.ns_snapshot.specs.Bytes as s

module _ {A : Type 0} (item : A → List ℕ) where
  pub no_more_parts : ((x : A) → 1 ≤ length (item x)) → (xs : List A) → length xs ≤ length (flat_map item xs)
  no_more_parts some [] = omega arith
  no_more_parts some (x ∷ xs) = omega (arith, some x, no_more_parts some xs, length-append (item x) (flat_map item xs))

  -- what holds of each part that is short enough holds of all parts that are so together
  pub all_within : (Has : A → Type 0) (most : ℕ) → ((x : A) → length (item x) < most → Has x) → (xs : List A) → length (flat_map item xs) < most → All Has xs
  all_within Has most each [] short = All-nil Has
  all_within Has most each (x ∷ xs) short =
      let both : length (item x ++ flat_map item xs) ≡ length (item x) + length (flat_map item xs) = length-append (item x) (flat_map item xs) in
      let one : length (item x) < most = omega (arith, both, short) in
      let others : length (flat_map item xs) < most = omega (arith, both, short) in
      All-cons Has x xs (each x one) (all_within Has most each xs others)

pub some_value : (value : Value) → 1 ≤ length (s.value value)
some_value v.Nil = omega arith
some_value v.True = omega arith
some_value v.False = omega arith
some_value (v.Int number) = omega arith
some_value (v.Sym sel) = omega arith
some_value (v.Kernel class) = omega arith
some_value (v.Ref at) = omega arith

pub some_cell : (cell : CellData) → 1 ≤ length (s.cell cell)
some_cell (held.Object class words) = omega arith
some_cell (held.Class decl encl holder over) = omega arith
some_cell (held.Block body env receiver holder home) = omega arith
some_cell (held.Environment parent locals) = omega arith
some_cell (held.Array items) = omega arith
some_cell (held.Text bytes) = omega arith
some_cell (held.Facet kind) = omega arith
some_cell (held.Mirror mirrored) = omega arith
some_cell (held.Message sel args) = omega arith

some_kind : (kind : FrameKind) → 1 ≤ length (s.frame_kind kind)
some_kind (kinds.Method body) = omega arith
some_kind (kinds.Block body) = omega arith
some_kind (kinds.Initialiser body) = omega arith
some_kind (kinds.Clause body object holder class) = omega arith
some_kind (kinds.Kernel method state) = omega arith

pub some_frame : (frame : FrozenFrame) → 1 ≤ length (s.frame frame)
some_frame frame = omega (arith, some_kind frame.kind, length-append (s.frame_kind frame.kind) (behind_kind frame))
  where
    behind_kind : FrozenFrame → List ℕ
    behind_kind f = concat (b.word f.instr ∷ s.value f.receiver ∷ b.word f.holder ∷ s.double f.home ∷ s.value f.env ∷ s.values f.locals ∷ s.values f.operands ∷ s.site f.site ∷ [])
