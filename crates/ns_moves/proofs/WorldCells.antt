-- What the invariant asks of the cells lasts while cells are added, since it rests on their shapes alone.
use Rattle.std.proofs.Common.{◌≡◌, ℕ, ◌+◌, ◌≤◌, List, [], ◌∷◌, ◌++◌, length, map, take, drop, reverse, refl, sym, ap, ◌∙◌, arith}
use Rattle.std.proofs.Common.{Option, Some, None, Bool, true, false, cond, eqb}
use Rattle.std.specs.Prelude.{◌&&◌, ◌==◌, nat_lt}
use Rattle.std.specs.List.{list_all}
use Rattle.std.proofs.lemmas.Bool.{eqb-true}
use Rattle.std.proofs.lemmas.List.{reverse-append, map-append, take-append-drop}
use Rattle.std.proofs.lemmas.List.Folds.{list_all-append}
use Rattle.ns_code.specs.declared.program.CodeProgram.{CodeProgram}
use Rattle.ns_world.specs.declared.value.Value.{Value}
use Rattle.ns_world.specs.declared.cell.FacetKind.{FacetKind}
use Rattle.ns_world.specs.declared.cell.NewCell.{NewCell}
use Rattle.ns_world.specs.declared.cell.NewCell.TheVariants as new
use Rattle.ns_world.specs.Cell.{Cell, ObjectCell, ClassCell, BlockCell, EnvironmentCell, ArrayCell, TextCell, FacetCell, MirrorCell, MessageCell}
use Rattle.ns_world.specs.Cell.{shape_of, text_words, cell_size}
use Rattle.ns_world.specs.Heap.{Heap}
use Rattle.ns_facets.specs.declared.row.Grants.{Grants}
use Rattle.ns_kdata.specs.Leading.{is_common}
use Rattle.ns_moves.specs.Bodies.{no_home}
use Rattle.ns_moves.specs.Start.{standing_cells, size_of_cells}
use Rattle.ns_moves.specs.Adding.{Adds, is_block_of}
use Rattle.ns_moves.specs.ValidFrames.{is_in_method, has_block_home}
use Rattle.ns_moves.specs.Valid.{BeginsWith, HasArgumentCells, is_no_facet, array_behind, blocks_have_homes}

pub first_of : (b c : Bool) → (b && c) ≡ true → b ≡ true
first_of true c e = refl
first_of false c e = absurd (cc)

pub second_of : (b c : Bool) → (b && c) ≡ true → c ≡ true
second_of true c e = e
second_of false c e = absurd (cc)

pub both_of : (b c : Bool) → b ≡ true → c ≡ true → (b && c) ≡ true
both_of true c e f = f
both_of false c e f = absurd (cc)

-- ---- lists of shapes

-- what holds of each shape that may be added holds of those that were
weaker : (p q : NewCell → Bool) (shapes : List NewCell) → ((shape : NewCell) → p shape ≡ true → q shape ≡ true) → list_all p shapes ≡ true
    → list_all q shapes ≡ true
weaker p q [] so e = refl
weaker p q (shape ∷ shapes) so e =
    both_of (q shape) (list_all q shapes) (so shape (first_of (p shape) (list_all p shapes) e)) (weaker p q shapes so (second_of (p shape) (list_all p shapes) e))

all_more : (p : NewCell → Bool) (first second : List NewCell) → list_all p first ≡ true → list_all p second ≡ true →
    list_all p (first ++ second) ≡ true
all_more p first second e f = list_all-append p first second ∙ both_of (list_all p first) (list_all p second) e f

all_reversed : (p : NewCell → Bool) (shapes : List NewCell) → list_all p shapes ≡ true → list_all p (reverse shapes) ≡ true
all_reversed p [] e = refl
all_reversed p (shape ∷ shapes) e =
    ap (list_all p) (reverse-append (shape ∷ []) shapes)
    ∙ all_more p (reverse shapes) (shape ∷ []) (all_reversed p shapes (second_of (p shape) (list_all p shapes) e))
    (both_of (p shape) true (first_of (p shape) (list_all p shapes) e) refl)

reverse_shapes : (cells : List Cell) → reverse (map shape_of cells) ≡ map shape_of (reverse cells)
reverse_shapes [] = refl
reverse_shapes (cell ∷ cells) =
    reverse-append (shape_of cell ∷ []) (map shape_of cells)
    ∙ (ap (λ shapes. shapes ++ shape_of cell ∷ []) (reverse_shapes cells)
    ∙ (sym (map-append shape_of (reverse cells) (cell ∷ [])) ∙ ap (map shape_of) (sym (reverse-append (cell ∷ []) cells))))

-- the cells from the first on
shapes_after : (may : NewCell → Bool) (old new : Heap) (a : Adds may old new)
    → map shape_of (reverse new) ≡ map shape_of (reverse old) ++ reverse a.added
shapes_after may old new a =
    sym (reverse_shapes new)
    ∙ (ap reverse a.shapes ∙ (reverse-append a.added (map shape_of old) ∙ ap (λ shapes. shapes ++ reverse a.added) (reverse_shapes old)))

-- ---- the first cells

-- whether a shape is all of its cell: that of a facet or a class
abbrev pub is_fixed : NewCell → Bool
is_fixed (new.Facet kind) = true
is_fixed (new.Class decl base encl holder over) = true
is_fixed shape = false

same_facet : (kind : FacetKind) (now : Cell) → shape_of now ≡ new.Facet kind → now ≡ FacetCell kind
same_facet kind (FacetCell other) s = cc
same_facet kind (ObjectCell class entries) s = absurd (cc)
same_facet kind (ClassCell decl base encl holder over) s = absurd (cc)
same_facet kind (BlockCell body env home receiver holder) s = absurd (cc)
same_facet kind (EnvironmentCell parent locals) s = absurd (cc)
same_facet kind (ArrayCell items) s = absurd (cc)
same_facet kind (TextCell bytes) s = absurd (cc)
same_facet kind (MirrorCell mirrored) s = absurd (cc)
same_facet kind (MessageCell sel args) s = absurd (cc)

same_class : (decl base : ℕ) (encl holder over : Value) (now : Cell) → shape_of now ≡ new.Class decl base encl holder over →
    now ≡ ClassCell decl base encl holder over
same_class decl base encl holder over (ClassCell decl' base' encl' holder' over') s = cc
same_class decl base encl holder over (FacetCell other) s = absurd (cc)
same_class decl base encl holder over (ObjectCell class entries) s = absurd (cc)
same_class decl base encl holder over (BlockCell body env home receiver holder') s = absurd (cc)
same_class decl base encl holder over (EnvironmentCell parent locals) s = absurd (cc)
same_class decl base encl holder over (ArrayCell items) s = absurd (cc)
same_class decl base encl holder over (TextCell bytes) s = absurd (cc)
same_class decl base encl holder over (MirrorCell mirrored) s = absurd (cc)
same_class decl base encl holder over (MessageCell sel args) s = absurd (cc)

same_fixed : (cell now : Cell) → is_fixed (shape_of cell) ≡ true → shape_of now ≡ shape_of cell → now ≡ cell
same_fixed (FacetCell kind) now f s = same_facet kind now s
same_fixed (ClassCell decl base encl holder over) now f s = same_class decl base encl holder over now s
same_fixed (ObjectCell class entries) now f s = absurd (cc)
same_fixed (BlockCell body env home receiver holder) now f s = absurd (cc)
same_fixed (EnvironmentCell parent locals) now f s = absurd (cc)
same_fixed (ArrayCell items) now f s = absurd (cc)
same_fixed (TextCell bytes) now f s = absurd (cc)
same_fixed (MirrorCell mirrored) now f s = absurd (cc)
same_fixed (MessageCell sel args) now f s = absurd (cc)

-- cells of the shapes of fixed ones and of others begin with these
record Starts (first cells : List Cell) (others : List NewCell) : Type 0 where
  start : take (length first) cells ≡ first
  shapes : map shape_of (drop (length first) cells) ≡ others

starts_with : (first cells : List Cell) (others : List NewCell) → list_all is_fixed (map shape_of first) ≡ true
    → map shape_of cells ≡ map shape_of first ++ others
    → Starts first cells others
starts_with [] cells others f e = record { start = refl; shapes = e }
starts_with (cell ∷ first) [] others f e = absurd (cc)
starts_with (cell ∷ first) (now ∷ cells) others f e =
    let head : shape_of now ≡ shape_of cell = cc in
    let below = starts_with first cells others (second_of (is_fixed (shape_of cell)) (list_all is_fixed (map shape_of first)) f) (cc) in
    let same : now ≡ cell = same_fixed cell now (first_of (is_fixed (shape_of cell)) (list_all is_fixed (map shape_of first)) f) head in
    record { start = ap (λ c. c ∷ take (length first) cells) same ∙ ap (λ cells. cell ∷ cells) below.start; shapes = below.shapes }

started_with : (first : List Cell) (may : NewCell → Bool) (old new : Heap) → list_all is_fixed (map shape_of first) ≡ true →
    (a : Adds may old new)
    → BeginsWith first old → Starts first (reverse new) (map shape_of (drop (length first) (reverse old)) ++ reverse a.added)
started_with first may old new fixed a b =
    let rest : List Cell = drop (length first) (reverse old) in
    let whole : reverse old ≡ first ++ rest = sym (take-append-drop (length first) (reverse old)) ∙ ap (λ cells. cells ++ rest) b.start in
    starts_with first (reverse new) (map shape_of rest ++ reverse a.added) fixed
    (shapes_after may old new a
    ∙ (ap (λ cells. map shape_of cells ++ reverse a.added) whole
    ∙ (ap (λ shapes. shapes ++ reverse a.added) (map-append shape_of first rest) ∙ assoc (map shape_of first) (map shape_of rest) (reverse a.added))))
  where
    assoc : (x y z : List NewCell) → (x ++ y) ++ z ≡ x ++ (y ++ z)
    assoc x y z = Rattle.std.proofs.Common.append_assoc x y z

-- ---- no other is a facet

abbrev pub no_facet : NewCell → Bool
no_facet (new.Facet kind) = false
no_facet shape = true

no_facet_told : (cells : List Cell) → list_all is_no_facet cells ≡ list_all no_facet (map shape_of cells)
no_facet_told [] = refl
no_facet_told (FacetCell kind ∷ cells) = refl
no_facet_told (ObjectCell class entries ∷ cells) = no_facet_told cells
no_facet_told (ClassCell decl base encl holder over ∷ cells) = no_facet_told cells
no_facet_told (BlockCell body env home receiver holder ∷ cells) = no_facet_told cells
no_facet_told (EnvironmentCell parent locals ∷ cells) = no_facet_told cells
no_facet_told (ArrayCell items ∷ cells) = no_facet_told cells
no_facet_told (TextCell bytes ∷ cells) = no_facet_told cells
no_facet_told (MirrorCell mirrored ∷ cells) = no_facet_told cells
no_facet_told (MessageCell sel args ∷ cells) = no_facet_told cells

pub begins_on : (first : List Cell) (may : NewCell → Bool) (old new : Heap) → list_all is_fixed (map shape_of first) ≡ true
    → ((shape : NewCell) → may shape ≡ true → no_facet shape ≡ true)
    → Adds may old new → BeginsWith first old → BeginsWith first new
begins_on first may old new fixed none a b =
    let s = started_with first may old new fixed a b in
    let rest : List Cell = drop (length first) (reverse old) in
    record {
      start = s.start;
      others = no_facet_told (drop (length first) (reverse new))
          ∙ (ap (list_all no_facet) s.shapes
          ∙ all_more no_facet (map shape_of rest) (reverse a.added) (sym (no_facet_told rest) ∙ b.others)
          (all_reversed no_facet a.added (weaker may no_facet a.added none a.each)));
    }

-- ---- the texts of the arguments and their array

abbrev behind : ℕ → List NewCell → Option ℕ
behind number (new.Text bytes ∷ shapes) = behind (number + (1 + text_words bytes)) shapes
behind number (new.Array size ∷ shapes) = Some number
behind number shapes = None

behind_told : (number : ℕ) (cells : List Cell) → array_behind number cells ≡ behind number (map shape_of cells)
behind_told number [] = refl
behind_told number (TextCell bytes ∷ cells) = behind_told (number + cell_size (TextCell bytes)) cells
behind_told number (ArrayCell items ∷ cells) = refl
behind_told number (FacetCell kind ∷ cells) = refl
behind_told number (ObjectCell class entries ∷ cells) = refl
behind_told number (ClassCell decl base encl holder over ∷ cells) = refl
behind_told number (BlockCell body env home receiver holder ∷ cells) = refl
behind_told number (EnvironmentCell parent locals ∷ cells) = refl
behind_told number (MirrorCell mirrored ∷ cells) = refl
behind_told number (MessageCell sel args ∷ cells) = refl

behind_more : (number at : ℕ) (shapes more : List NewCell) → behind number shapes ≡ Some at → behind number (shapes ++ more) ≡ Some at
behind_more number at [] more e = absurd (cc)
behind_more number at (new.Text bytes ∷ shapes) more e = behind_more (number + (1 + text_words bytes)) at shapes more e
behind_more number at (new.Array size ∷ shapes) more e = e
behind_more number at (new.Facet kind ∷ shapes) more e = absurd (cc)
behind_more number at (new.Object class words ∷ shapes) more e = absurd (cc)
behind_more number at (new.Class decl base encl holder over ∷ shapes) more e = absurd (cc)
behind_more number at (new.Block body env home receiver holder ∷ shapes) more e = absurd (cc)
behind_more number at (new.Environment parent locals ∷ shapes) more e = absurd (cc)
behind_more number at (new.Mirror mirrored ∷ shapes) more e = absurd (cc)
behind_more number at (new.Message sel args ∷ shapes) more e = absurd (cc)

pub arguments_on : (code : CodeProgram) (grants : Grants) (arguments : ℕ) (may : NewCell → Bool) (old new : Heap)
    → list_all is_fixed (map shape_of (standing_cells code grants)) ≡ true
    → Adds may old new → BeginsWith (standing_cells code grants) old → HasArgumentCells code grants arguments old → HasArgumentCells code grants arguments new
arguments_on code grants arguments may old new fixed a b has =
    let first : List Cell = standing_cells code grants in
    let s = started_with first may old new fixed a b in
    let rest : List Cell = drop (length first) (reverse old) in
    behind_told (size_of_cells first) (drop (length first) (reverse new))
    ∙ (ap (behind (size_of_cells first)) s.shapes
    ∙ behind_more (size_of_cells first) arguments (map shape_of rest) (reverse a.added) (sym (behind_told (size_of_cells first) rest) ∙ has))

-- ---- the homes of blocks

abbrev pub home_fits : CodeProgram → ℕ → NewCell → Bool
home_fits code begun (new.Block body env home receiver holder) = has_block_home code begun body home
home_fits code begun shape = true

homes_told : (code : CodeProgram) (begun : ℕ) (heap : Heap) →
    blocks_have_homes code begun heap ≡ list_all (home_fits code begun) (map shape_of heap)
homes_told code begun [] = refl
homes_told code begun (BlockCell body env home receiver holder ∷ cells) =
    ap (λ b. has_block_home code begun body home && b) (homes_told code begun cells)
homes_told code begun (TextCell bytes ∷ cells) = homes_told code begun cells
homes_told code begun (ArrayCell items ∷ cells) = homes_told code begun cells
homes_told code begun (FacetCell kind ∷ cells) = homes_told code begun cells
homes_told code begun (ObjectCell class entries ∷ cells) = homes_told code begun cells
homes_told code begun (ClassCell decl base encl holder over ∷ cells) = homes_told code begun cells
homes_told code begun (EnvironmentCell parent locals ∷ cells) = homes_told code begun cells
homes_told code begun (MirrorCell mirrored ∷ cells) = homes_told code begun cells
homes_told code begun (MessageCell sel args ∷ cells) = homes_told code begun cells

below_more : (home low high : ℕ) → low ≤ high → nat_lt home low ≡ true → nat_lt home high ≡ true
below_more home low high h e = grind (arith, h, e)

pub block_home_more : (code : CodeProgram) (low high body home : ℕ) → low ≤ high → has_block_home code low body home ≡ true
    → has_block_home code high body home ≡ true
block_home_more code low high body home h e = tested (is_in_method code body) e
  where
    tested : (b : Bool) → cond b (nat_lt home low) (home == no_home) ≡ true → cond b (nat_lt home high) (home == no_home) ≡ true
    tested true e = below_more home low high h e
    tested false e = e

home_more : (code : CodeProgram) (low high : ℕ) (shape : NewCell) → low ≤ high → home_fits code low shape ≡ true →
    home_fits code high shape ≡ true
home_more code low high (new.Block body env home receiver holder) h e = block_home_more code low high body home h e
home_more code low high (new.Text bytes) h e = refl
home_more code low high (new.Array size) h e = refl
home_more code low high (new.Facet kind) h e = refl
home_more code low high (new.Object class words) h e = refl
home_more code low high (new.Class decl base encl holder over) h e = refl
home_more code low high (new.Environment parent locals) h e = refl
home_more code low high (new.Mirror mirrored) h e = refl
home_more code low high (new.Message sel args) h e = refl

pub homes_on : (code : CodeProgram) (may : NewCell → Bool) (low high : ℕ) (old new : Heap) → low ≤ high
    → ((shape : NewCell) → may shape ≡ true → home_fits code high shape ≡ true) → Adds may old new → blocks_have_homes code low old ≡ true
    → blocks_have_homes code high new ≡ true
homes_on code may low high old new h fit a e =
    homes_told code high new
    ∙ (ap (list_all (home_fits code high)) a.shapes
    ∙ all_more (home_fits code high) a.added (map shape_of old) (weaker may (home_fits code high) a.added fit a.each)
    (weaker (home_fits code low) (home_fits code high) (map shape_of old) (λ shape f. home_more code low high shape h f) (sym (homes_told code low old) ∙ e)))

-- ---- what may be added

pub common_is_no_facet : (shape : NewCell) → is_common shape ≡ true → no_facet shape ≡ true
common_is_no_facet (new.Facet kind) e = absurd (cc)
common_is_no_facet (new.Block body env home receiver holder) e = refl
common_is_no_facet (new.Text bytes) e = refl
common_is_no_facet (new.Array size) e = refl
common_is_no_facet (new.Object class words) e = refl
common_is_no_facet (new.Class decl base encl holder over) e = refl
common_is_no_facet (new.Environment parent locals) e = refl
common_is_no_facet (new.Mirror mirrored) e = refl
common_is_no_facet (new.Message sel args) e = refl

pub common_has_home : (code : CodeProgram) (begun : ℕ) (shape : NewCell) → is_common shape ≡ true → home_fits code begun shape ≡ true
common_has_home code begun (new.Block body env home receiver holder) e = absurd (cc)
common_has_home code begun (new.Facet kind) e = refl
common_has_home code begun (new.Text bytes) e = refl
common_has_home code begun (new.Array size) e = refl
common_has_home code begun (new.Object class words) e = refl
common_has_home code begun (new.Class decl base encl holder over) e = refl
common_has_home code begun (new.Environment parent locals) e = refl
common_has_home code begun (new.Mirror mirrored) e = refl
common_has_home code begun (new.Message sel args) e = refl

pub block_is_no_facet : (body home : ℕ) (shape : NewCell) → is_block_of body home shape ≡ true → no_facet shape ≡ true
block_is_no_facet body home (new.Facet kind) e = absurd (cc)
block_is_no_facet body home (new.Block other env home' receiver holder) e = refl
block_is_no_facet body home (new.Text bytes) e = refl
block_is_no_facet body home (new.Array size) e = refl
block_is_no_facet body home (new.Object class words) e = refl
block_is_no_facet body home (new.Class decl base encl holder over) e = refl
block_is_no_facet body home (new.Environment parent locals) e = refl
block_is_no_facet body home (new.Mirror mirrored) e = refl
block_is_no_facet body home (new.Message sel args) e = refl

pub block_has_home : (code : CodeProgram) (begun body home : ℕ) (shape : NewCell) → has_block_home code begun body home ≡ true
    → is_block_of body home shape ≡ true → home_fits code begun shape ≡ true
block_has_home code begun body home (new.Block other env home' receiver holder) h e =
    let same : other ≡ body = eqb-true other body (first_of (other == body) (home' == home) e) in
    let at : home' ≡ home = eqb-true home' home (second_of (other == body) (home' == home) e) in
    rw (same, at) h
block_has_home code begun body home (new.Facet kind) h e = refl
block_has_home code begun body home (new.Text bytes) h e = refl
block_has_home code begun body home (new.Array size) h e = refl
block_has_home code begun body home (new.Object class words) h e = refl
block_has_home code begun body home (new.Class decl base encl holder over) h e = refl
block_has_home code begun body home (new.Environment parent locals) h e = refl
block_has_home code begun body home (new.Mirror mirrored) h e = refl
block_has_home code begun body home (new.Message sel args) h e = refl
