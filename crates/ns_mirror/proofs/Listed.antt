-- A new array that is filled is the array that was to be made.
use Rattle.std.proofs.Common.{◌≡◌, ℕ, ◌+◌, List, [], ◌∷◌, length, replicate, refl, ap, sym, ◌∙◌, Option, Some, None, Bool, true, false, cond}
use Rattle.std.specs.Prelude.{Ok, nat_le}
use Rattle.std.specs.Option.{option_map_or}
use Rattle.std.proofs.lemmas.List.{length-replicate}
use Rattle.ns_world.specs.declared.value.Value.{Value}
use Rattle.ns_world.specs.declared.value.Value.TheVariants.{Nil, Ref}
use Rattle.ns_world.specs.Cell.{ArrayCell, open_words}
use Rattle.ns_world.specs.Heap.{heap_size, open_words_at}
use Rattle.ns_world.specs.World.{World, WorldView, made}
use Rattle.ns_world.specs.laws.Changing.{found_new}
use Rattle.ns_kdata.specs.Outcome.{Gives, making}
use Rattle.ns_mirror.specs.Arrays.{listed, MakesArray}
use Rattle.ns_mirror.proofs.Listing.{with_cells, lists}

-- so many nils
abbrev nils : ℕ → List Value
nils count = replicate count Nil

-- the test whether an array of so many elements fits
abbrev fit : World → ℕ → Bool
fit world size = nat_le (heap_size world.cells + (1 + size)) world.limits.cells

abbrev whole : World → List Value → Option World
whole world items = Some (record world { cells = ArrayCell items ∷ world.cells })

nils_made : (world : World) (count : ℕ) → made world (ArrayCell (nils count)) ≡ cond (fit world count) (whole world (nils count)) None
nils_made world count = ap (λ n. cond (fit world n) (whole world (nils count)) None) (length-replicate {A = Value} count Nil)

-- filled with as many values as it has, the new array is the one that was to be made
pub array_finished : (old mid last : WorldView) (values : List Value) (count to : ℕ) → count ≡ length values →
    last ≡ listed mid to 0 values → MakesArray old count (Ok to) mid → Gives (making old.world (ArrayCell values)) old (Ok (Ref to)) last
array_finished old mid last values count to e f (m, number, room) = tested (fit old.world count) refl (sym (nils_made old.world count) ∙ m)
  where
    tested : (b : Bool) → fit old.world count ≡ b → cond (fit old.world count) (whole old.world (nils count)) None ≡ Some mid.world → Gives (making old.world (ArrayCell values)) old (Ok (Ref to)) last
    tested false t g = absurd (let h : None ≡ Some mid.world = ap (λ b. cond b (whole old.world (nils count)) None) (sym t) ∙ g in cc)
    tested true t g =
        let h : whole old.world (nils count) ≡ Some mid.world = ap (λ b. cond b (whole old.world (nils count)) None) (sym t) ∙ g in
        let is : record old.world { cells = ArrayCell (nils count) ∷ old.world.cells } ≡ mid.world = cc in
        let put : World → WorldView = λ world. record { world = world; cell_room = mid.cell_room; out_room = mid.out_room } in
        let same : fit old.world (length values) ≡ true = ap (fit old.world) (sym e) ∙ t in
        let all : last ≡ with_cells old.world mid.cell_room mid.out_room (ArrayCell values ∷ old.world.cells) =
        f
        ∙ (ap (λ world. listed (put world) to 0 values) (sym is)
        ∙ (ap (λ n. listed (with_cells old.world mid.cell_room mid.out_room (ArrayCell (nils count) ∷ old.world.cells)) n 0 values) number
        ∙ lists old.world mid.cell_room mid.out_room old.world.cells values [] (nils count) (length-replicate {A = Value} count Nil ∙ e))) in
        rw (all, same) (ap Ref number, refl, room)

-- What is known of a new array.
pub record IsNewArray (old mid : WorldView) (count to : ℕ) : Type 0 where
  pub number : to ≡ heap_size old.world.cells
  pub cells : mid.world.cells ≡ ArrayCell (replicate count Nil) ∷ old.world.cells
  pub size : length (open_words_at mid.world.cells to) ≡ count

pub new_array_is : (old mid : WorldView) (count to : ℕ) → MakesArray old count (Ok to) mid → IsNewArray old mid count to
new_array_is old mid count to (m, number, room) = tested (fit old.world count) (sym (nils_made old.world count) ∙ m)
  where
    newest : (n : ℕ) → n ≡ heap_size old.world.cells → length (open_words_at (ArrayCell (nils count) ∷ old.world.cells) n) ≡ count
    newest n is = ap (λ k. length (open_words_at (ArrayCell (nils count) ∷ old.world.cells) k)) is ∙ (ap (λ o. length (option_map_or open_words o [])) (found_new old.world.cells (ArrayCell (nils count))) ∙ length-replicate {A = Value} count Nil)

    tested : (b : Bool) → cond b (whole old.world (nils count)) None ≡ Some mid.world → IsNewArray old mid count to
    tested false g = absurd (cc)
    tested true g =
        let is : record old.world { cells = ArrayCell (nils count) ∷ old.world.cells } ≡ mid.world = cc in
        let cells : mid.world.cells ≡ ArrayCell (nils count) ∷ old.world.cells = ap (λ (w : World). w.cells) (sym is) in
        record { number = number; cells = cells; size = ap (λ cs. length (open_words_at cs to)) cells ∙ newest to number }
