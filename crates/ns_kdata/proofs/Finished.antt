-- A new text that is filled is the text that was to be made.
use Rattle.std.proofs.Common.{◌≡◌, ◌≢◌, ℕ, ◌+◌, ◌<◌, List, [], ◌∷◌, length, replicate, refl, ap, sym, ◌∙◌, arith, Option, Some, None, Bool, true, false, cond, subst}
use Rattle.std.specs.Prelude.{Ok, Err, nat_le}
use Rattle.std.specs.Option.{option_map_or}
use Rattle.std.proofs.lemmas.List.{length-replicate}
use Rattle.ns_world.specs.declared.value.Value.{Value}
use Rattle.ns_world.specs.declared.value.Value.TheVariants.{Ref}
use Rattle.ns_world.specs.declared.ending.Fault.{Fault}
use Rattle.ns_world.specs.Cell.{TextCell, cell_size, cell_bytes, text_words}
use Rattle.ns_world.specs.Heap.{Heap, heap_size, bytes_at}
use Rattle.ns_world.specs.World.{World, WorldView, IsWithin, made}
use Rattle.ns_kdata.specs.Outcome.{Gives, making}
use Rattle.ns_kdata.specs.Arguments.{CellIsThere, bytes_of}
use Rattle.ns_kdata.specs.Texts.{filled, MakesText}
use Rattle.ns_world.specs.laws.Changing.{found_new}
use Rattle.std.proofs.lemmas.Bool.{lt-leb}
use Rattle.ns_kdata.proofs.Filling.{with_cells, fills}
use Rattle.ns_kdata.proofs.Parts.{text_in_more, there_in_more, not_next_cell}

-- whether a text fits tells its size alone
same_test : (world : World) (bytes : List ℕ) →
    nat_le (heap_size world.cells + cell_size (TextCell (replicate (length bytes) 0))) world.limits.cells ≡ nat_le (heap_size world.cells + cell_size (TextCell bytes)) world.limits.cells
same_test world bytes =
    ap (λ n. nat_le (heap_size world.cells + (1 + text_words n)) world.limits.cells) (length-replicate {A = ℕ} (length bytes) 0)

-- filled with as many bytes as it has, the new text is the one that was to be made
pub text_made : (old mid : WorldView) (bytes : List ℕ) (to : ℕ) → MakesText old (length bytes) (Ok to) mid →
    Gives (making old.world (TextCell bytes)) old (Ok (Ref to)) (filled mid to 0 bytes)
text_made old mid bytes to (e, number, room) =
    tested (nat_le (heap_size old.world.cells + cell_size (TextCell (replicate (length bytes) 0))) old.world.limits.cells) refl (sym (same_test old.world bytes)) e
  where
    zeros : List ℕ
    zeros = replicate (length bytes) 0

    whole : World → Heap → Option World
    whole world cells = Some (record world { cells = cells })

    tested : (b : Bool) → nat_le (heap_size old.world.cells + cell_size (TextCell zeros)) old.world.limits.cells ≡ b → nat_le (heap_size old.world.cells + cell_size (TextCell bytes)) old.world.limits.cells ≡ nat_le (heap_size old.world.cells + cell_size (TextCell zeros)) old.world.limits.cells → cond (nat_le (heap_size old.world.cells + cell_size (TextCell zeros)) old.world.limits.cells) (whole old.world (TextCell zeros ∷ old.world.cells)) None ≡ Some mid.world → Gives (making old.world (TextCell bytes)) old (Ok (Ref to)) (filled mid to 0 bytes)
    tested false t same e = absurd (let f : None ≡ Some mid.world = ap (λ b. cond b (whole old.world (TextCell zeros ∷ old.world.cells)) None) (sym t) ∙ e in cc)
    tested true t same e =
        let f : Some (record old.world { cells = TextCell zeros ∷ old.world.cells }) ≡ Some mid.world = ap (λ b. cond b (whole old.world (TextCell zeros ∷ old.world.cells)) None) (sym t) ∙ e in
        let is : record old.world { cells = TextCell zeros ∷ old.world.cells } ≡ mid.world = cc in
        let put : World → WorldView = λ world. record { world = world; cell_room = mid.cell_room; out_room = mid.out_room } in
        let all : filled mid to 0 bytes ≡ with_cells old.world mid.cell_room mid.out_room (TextCell bytes ∷ old.world.cells) =
        ap (λ world. filled (put world) to 0 bytes) (sym is)
        ∙ (ap (λ n. filled (with_cells old.world mid.cell_room mid.out_room (TextCell zeros ∷ old.world.cells)) n 0 bytes) number
        ∙ fills old.world mid.cell_room mid.out_room old.world.cells bytes [] zeros (length-replicate {A = ℕ} (length bytes) 0)) in
        rw (all, same, t) (ap Ref number, refl, room)

-- where the new text doesn't fit, neither does the other
pub text_refused : (old mid : WorldView) (bytes : List ℕ) (fault : Fault) → MakesText old (length bytes) (Err fault) mid →
    Gives (making old.world (TextCell bytes)) old (Err fault) mid
text_refused old mid bytes fault (e, limit, same) =
    tested (nat_le (heap_size old.world.cells + cell_size (TextCell (replicate (length bytes) 0))) old.world.limits.cells) refl (sym (same_test old.world bytes)) e
  where
    zeros : List ℕ
    zeros = replicate (length bytes) 0

    whole : World → Heap → Option World
    whole world cells = Some (record world { cells = cells })

    tested : (b : Bool) → nat_le (heap_size old.world.cells + cell_size (TextCell zeros)) old.world.limits.cells ≡ b → nat_le (heap_size old.world.cells + cell_size (TextCell bytes)) old.world.limits.cells ≡ nat_le (heap_size old.world.cells + cell_size (TextCell zeros)) old.world.limits.cells → cond (nat_le (heap_size old.world.cells + cell_size (TextCell zeros)) old.world.limits.cells) (whole old.world (TextCell zeros ∷ old.world.cells)) None ≡ None → Gives (making old.world (TextCell bytes)) old (Err fault) mid
    tested true t other e = absurd (let f : whole old.world (TextCell zeros ∷ old.world.cells) ≡ None = ap (λ b. cond b (whole old.world (TextCell zeros ∷ old.world.cells)) None) (sym t) ∙ e in cc)
    tested false t other e = rw (other, t) (limit, same)

-- What is known of a new text.
pub record IsNewText (old mid : WorldView) (count to : ℕ) : Type 0 where
  pub number : to ≡ heap_size old.world.cells
  pub cells : mid.world.cells ≡ TextCell (replicate count 0) ∷ old.world.cells
  pub size : length (bytes_at mid.world.cells to) ≡ count

pub new_text_is : (old mid : WorldView) (count to : ℕ) → MakesText old count (Ok to) mid → IsNewText old mid count to
new_text_is old mid count to (e, number, room) =
    tested (nat_le (heap_size old.world.cells + cell_size (TextCell (replicate count 0))) old.world.limits.cells) e
  where
    newest : (n : ℕ) → n ≡ heap_size old.world.cells → length (bytes_at (TextCell (replicate count 0) ∷ old.world.cells) n) ≡ count
    newest n is = ap (λ k. length (bytes_at (TextCell (replicate count 0) ∷ old.world.cells) k)) is ∙ (ap (λ o. length (option_map_or cell_bytes o [])) (found_new old.world.cells (TextCell (replicate count 0))) ∙ length-replicate {A = ℕ} count 0)

    tested : (b : Bool) → cond b (Some (record old.world { cells = TextCell (replicate count 0) ∷ old.world.cells })) None ≡ Some mid.world → IsNewText old mid count to
    tested false e = absurd (cc)
    tested true e =
        let is : record old.world { cells = TextCell (replicate count 0) ∷ old.world.cells } ≡ mid.world = cc in
        let cells : mid.world.cells ≡ TextCell (replicate count 0) ∷ old.world.cells = ap (λ (w : World). w.cells) (sym is) in
        record { number = number; cells = cells; size = ap (λ cs. length (bytes_at cs to)) cells ∙ newest to number }

-- a String that was there has its bytes, is there, and isn't the new text
pub text_kept : (old mid : WorldView) (count to : ℕ) (value : Value) → CellIsThere old.world.cells value → IsNewText old mid count to →
    bytes_of mid.world.cells value ≡ bytes_of old.world.cells value
text_kept old mid count to value there new =
    ap (λ cells. bytes_of cells value) new.cells ∙ text_in_more old.world.cells (TextCell (replicate count 0)) value there

pub still_there : (old mid : WorldView) (count to : ℕ) (value : Value) → CellIsThere old.world.cells value → IsNewText old mid count to →
    CellIsThere mid.world.cells value
still_there old mid count to value there new =
    let e = new.cells in rw e (there_in_more old.world.cells (TextCell (replicate count 0)) value there)

pub text_apart : (old mid : WorldView) (count to : ℕ) (value : Value) → CellIsThere old.world.cells value → IsNewText old mid count to →
    value ≢ Ref to
text_apart old mid count to value there new = not_next_cell old.world.cells value to there new.number

-- a text that is filled is finished
pub text_finished : (old mid last : WorldView) (bytes : List ℕ) (count to : ℕ) → count ≡ length bytes → last ≡ filled mid to 0 bytes →
    MakesText old count (Ok to) mid → Gives (making old.world (TextCell bytes)) old (Ok (Ref to)) last
text_finished old mid last bytes count to e f m =
    let makes : MakesText old (length bytes) (Ok to) mid = subst (λ n. MakesText old n (Ok to) mid) e m in
    subst (λ v. Gives (making old.world (TextCell bytes)) old (Ok (Ref to)) v) (sym f) (text_made old mid bytes to makes)

-- a text that doesn't fit isn't made
pub text_unfit : (old mid : WorldView) (bytes : List ℕ) (count : ℕ) (fault : Fault) → count ≡ length bytes →
    MakesText old count (Err fault) mid → Gives (making old.world (TextCell bytes)) old (Err fault) mid
text_unfit old mid bytes count fault e m = text_refused old mid bytes fault (subst (λ n. MakesText old n (Err fault) mid) e m)

-- a text of so many bytes is too large for any world
pub too_large : (world : World) (count : ℕ) → IsWithin world → 4294967295 < count → made world (TextCell (replicate count 0)) ≡ None
too_large world count within h =
    let long : length (replicate count 0) ≡ count = length-replicate {A = ℕ} count 0 in
    let past : world.limits.cells < heap_size world.cells + cell_size (TextCell (replicate count 0)) = omega (arith, within.limits.1.1, long) in
    let no : nat_le (heap_size world.cells + cell_size (TextCell (replicate count 0))) world.limits.cells ≡ false = lt-leb _ _ past in
    ap (λ b. cond b (Some (record world { cells = TextCell (replicate count 0) ∷ world.cells })) None) no
