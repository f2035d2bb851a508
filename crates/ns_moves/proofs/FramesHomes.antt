-- The home of a block that is evaluated is as its body asks for.
use Rattle.std.proofs.Common.{◌≡◌, ℕ, ◌≤◌, [], ◌∷◌, refl, ap, sym, ◌∙◌, arith, Option, Some, None, Bool, true, false, cond}
use Rattle.std.specs.Prelude.{nat_lt, ◌==◌, ◌&&◌}
use Rattle.std.specs.Option.{option_map_or}
use Rattle.ns_code.specs.declared.program.CodeProgram.{CodeProgram}
use Rattle.ns_world.specs.declared.value.Value.{Value}
use Rattle.ns_world.specs.declared.value.Value.TheVariants.{Nil, True, False, Int, Sym, Kernel, Ref}
use Rattle.ns_world.specs.declared.cell.NewCell.TheVariants as new
use Rattle.ns_world.specs.Cell.{Cell, ObjectCell, ClassCell, BlockCell, EnvironmentCell, ArrayCell, TextCell, FacetCell, MirrorCell, MessageCell, shape_of}
use Rattle.ns_world.specs.Heap.{Heap, heap_size, find_cell}
use Rattle.ns_kdata.specs.Arguments.{shape_of_value}
use Rattle.ns_moves.specs.Bodies.{no_home}
use Rattle.ns_moves.specs.Blocks.{block_body_in, is_block, is_block_shape}
use Rattle.ns_moves.specs.Fitting.{home_in}
use Rattle.ns_moves.specs.ValidFrames.{is_in_method, has_block_home}
use Rattle.ns_moves.specs.Valid.{blocks_have_homes}

and_first : (b c : Bool) → (b && c) ≡ true → b ≡ true
and_first true c e = refl
and_first false c e = absurd (cc)

and_second : (b c : Bool) → (b && c) ≡ true → c ≡ true
and_second true c e = e
and_second false c e = absurd (cc)

others_have : (code : CodeProgram) (begun : ℕ) (cell : Cell) (cells : Heap) → blocks_have_homes code begun (cell ∷ cells) ≡ true →
    blocks_have_homes code begun cells ≡ true
others_have code begun (BlockCell body env home receiver holder) cells t =
    and_second (has_block_home code begun body home) (blocks_have_homes code begun cells) t
others_have code begun (ObjectCell class entries) cells t = t
others_have code begun (ClassCell decl base encl holder over) cells t = t
others_have code begun (EnvironmentCell parent locals) cells t = t
others_have code begun (ArrayCell items) cells t = t
others_have code begun (TextCell bytes) cells t = t
others_have code begun (FacetCell kind) cells t = t
others_have code begun (MirrorCell mirrored) cells t = t
others_have code begun (MessageCell sel args) cells t = t

found_home : (code : CodeProgram) (begun number body : ℕ) (env : Value) (home : ℕ) (receiver : Value) (holder : ℕ) (heap : Heap)
    → find_cell heap number ≡ Some (BlockCell body env home receiver holder) → blocks_have_homes code begun heap ≡ true → has_block_home code begun body home ≡ true
found_home code begun number body env home receiver holder [] e t = absurd (cc)
found_home code begun number body env home receiver holder (cell ∷ cells) e t =
    tested (number == heap_size cells) e (λ f. found_home code begun number body env home receiver holder cells f (others_have code begun cell cells t))
  where
    tested : (b : Bool) → cond b (Some cell) (find_cell cells number) ≡ Some (BlockCell body env home receiver holder)
        → (find_cell cells number ≡ Some (BlockCell body env home receiver holder) → has_block_home code begun body home ≡ true) → has_block_home code begun body home ≡ true
    tested true f further =
        let same : cell ≡ BlockCell body env home receiver holder = cc in
        and_first (has_block_home code begun body home) (blocks_have_homes code begun cells) (ap (λ c. blocks_have_homes code begun (c ∷ cells)) (sym same) ∙ t)
    tested false f further = further f

pub block_home : (code : CodeProgram) (begun : ℕ) (heap : Heap) (block : Value) → blocks_have_homes code begun heap ≡ true →
    is_block heap block ≡ true
    → has_block_home code begun (block_body_in (shape_of_value heap block)) (home_in (shape_of_value heap block)) ≡ true
block_home code begun heap (Ref at) t is = found (find_cell heap at) refl is
  where
    found : (o : Option Cell) → find_cell heap at ≡ o → is_block_shape (option_map_or shape_of o (new.Mirror Nil)) ≡ true
        → has_block_home code begun (block_body_in (option_map_or shape_of o (new.Mirror Nil))) (home_in (option_map_or shape_of o (new.Mirror Nil))) ≡ true
    found (Some (BlockCell body env home receiver holder)) e is = found_home code begun at body env home receiver holder heap e t
    found None e is = absurd (cc)
    found (Some (ObjectCell class entries)) e is = absurd (cc)
    found (Some (ClassCell decl base encl holder over)) e is = absurd (cc)
    found (Some (EnvironmentCell parent locals)) e is = absurd (cc)
    found (Some (ArrayCell items)) e is = absurd (cc)
    found (Some (TextCell bytes)) e is = absurd (cc)
    found (Some (FacetCell kind)) e is = absurd (cc)
    found (Some (MirrorCell mirrored)) e is = absurd (cc)
    found (Some (MessageCell sel args)) e is = absurd (cc)
block_home code begun heap Nil t is = absurd (cc)
block_home code begun heap True t is = absurd (cc)
block_home code begun heap False t is = absurd (cc)
block_home code begun heap (Int number) t is = absurd (cc)
block_home code begun heap (Sym sel) t is = absurd (cc)
block_home code begun heap (Kernel class) t is = absurd (cc)

below_more : (home low high : ℕ) → low ≤ high → nat_lt home low ≡ true → nat_lt home high ≡ true
below_more home low high h e = grind (arith, h, e)

pub home_more : (code : CodeProgram) (low high body home : ℕ) → low ≤ high → has_block_home code low body home ≡ true →
    has_block_home code high body home ≡ true
home_more code low high body home h t = tested (is_in_method code body) t
  where
    tested : (b : Bool) → cond b (nat_lt home low) (home == no_home) ≡ true → cond b (nat_lt home high) (home == no_home) ≡ true
    tested true t = below_more home low high h t
    tested false t = t
