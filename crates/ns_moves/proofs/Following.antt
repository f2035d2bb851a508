-- A world in which the Message of a send was made.
use Rattle.std.proofs.Common.{◌≡◌, ℕ, ◌<◌, List, [], length, refl, ap, arith, ◌∙◌, Option, Some, None, true}
use Rattle.ns_base.specs.declared.selector.Sel.{Sel}
use Rattle.ns_code.specs.declared.program.CodeProgram.{CodeProgram}
use Rattle.ns_world.specs.declared.value.Value.{Value}
use Rattle.ns_world.specs.declared.value.Value.TheVariants.{Ref}
use Rattle.std.specs.Option.{option_map_or}
use Rattle.ns_world.specs.Cell.{Cell, ArrayCell, MessageCell, open_words}
use Rattle.ns_world.specs.Heap.{heap_size, find_cell, is_class, open_words_at}
use Rattle.ns_world.specs.World.{World, made}
use Rattle.ns_world.specs.Lawful.{IsLawful}
use Rattle.ns_world.specs.laws.Chains.{found_below, found_in_more, class_below}
use Rattle.ns_kdata.specs.laws.Filled.{filled_keeps}
use Rattle.ns_moves.specs.Lawful.{FitsSelector}
use Rattle.ns_moves.specs.Suits.{Follows}
use Rattle.ns_world.specs.laws.Making.{made_cells}
use Rattle.ns_moves.specs.lemmas.LawfulBodies.{new_found}

-- what may be written of a cell may be written where another was made
words_more : (world after : World) (cell : Cell) → made world cell ≡ Some after → (at word : ℕ) →
    word < length (open_words_at world.cells at) → word < length (open_words_at after.cells at)
words_more world after cell e at word inside = told (find_cell world.cells at) refl inside
  where
    told : (o : Option Cell) → find_cell world.cells at ≡ o → word < length (option_map_or open_words o []) → word < length (open_words_at after.cells at)
    told (Some old) f h =
        let stays : find_cell after.cells at ≡ Some old = ap (λ heap. find_cell heap at) (made_cells world after cell e) ∙ (found_in_more cell world.cells at (found_below world.cells at old f) ∙ f) in
        rw stays h
    told None f h = absurd (omega (arith, h))

class_more : (world after : World) (cell : Cell) → made world cell ≡ Some after → (class : ℕ) →
    is_class (find_cell world.cells class) ≡ true → is_class (find_cell after.cells class) ≡ true
class_more world after cell e class is =
    ap is_class (ap (λ heap. find_cell heap class) (made_cells world after cell e) ∙ found_in_more cell world.cells class (class_below world.cells class is)) ∙ is

pub message_follows : (world mid after : World) (code : CodeProgram) (sel : Sel) (values : List Value) → IsLawful world code →
    FitsSelector world.cells code sel values → made world (ArrayCell values) ≡ Some mid
    → made mid (MessageCell sel (Ref (heap_size world.cells))) ≡ Some after → Follows code world after
message_follows world mid after code sel values lawful fits e m =
    let array : IsLawful mid code = filled_keeps world mid code (ArrayCell values) lawful refl tt fits.live e in
    let is = new_found world mid (ArrayCell values) e in
    record {
      lawful = filled_keeps mid after code (MessageCell sel (Ref (heap_size world.cells))) array refl (fits.selector, rw is fits.arity) tt m;
      classes = λ class h. class_more mid after (MessageCell sel (Ref (heap_size world.cells))) m class (class_more world mid (ArrayCell values) e class h);
      words = λ at word h. words_more mid after (MessageCell sel (Ref (heap_size world.cells))) m at word (words_more world mid (ArrayCell values) e at word h);
    }
