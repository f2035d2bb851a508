-- The classes of the top-level declarations, and the texts of the arguments, so far as they were made.
use Rattle.std.proofs.Common.{◌≡◌, ℕ, ◌+◌, List, [], ◌∷◌, ◌++◌, ◌<◌, length, get_or, take, drop, map, refl, ap, sym, subst, ◌∙◌, arith, append_assoc, Result, Ok, Err}
use Rattle.std.proofs.lemmas.List.{take_more, take-append-drop}
use Rattle.std.proofs.Common.{append-nil, length-take-le}
use Rattle.ns_code.specs.declared.class.ClassCode.{ClassCode}
use Rattle.ns_world.specs.declared.value.Value.TheVariants.{Ref}
use Rattle.ns_world.specs.declared.cell.CellLimit.{CellLimit}
use Rattle.ns_world.specs.Cell.{TextCell, cell_size}
use Rattle.ns_world.specs.World.{WorldView}
use Rattle.ns_moves.specs.Start.{top_if, tops_of, size_of_cells}
use Rattle.ns_machine_start.specs.Making.{CellsAreMade, referring}
use Rattle.ns_machine_start.proofs.Made.{both_made, both_stopped}

-- ---- classes

pub tops_of_both : (decl : ℕ) (first second : List ClassCode) →
    tops_of decl (first ++ second) ≡ tops_of decl first ++ tops_of (decl + length first) second
tops_of_both decl [] second = ap (λ number. tops_of number second) (omega arith)
tops_of_both decl (class ∷ first) second =
    let number : decl + 1 + length first ≡ decl + length (class ∷ first) = omega arith in
    ap (λ cells. top_if class.outer decl ++ cells) (tops_of_both (decl + 1) first second ∙ ap (λ n. tops_of (decl + 1) first ++ tops_of n second) number)
    ∙ sym (append_assoc (top_if class.outer decl) (tops_of (decl + 1) first) (tops_of (decl + length (class ∷ first)) second))

-- those up to a declaration, and that one
pub one_top_more : (classes : List ClassCode) (decl : ℕ) (class d : ClassCode) → decl < length classes → class ≡ get_or classes decl d
    → tops_of 0 (take (decl + 1) classes) ≡ tops_of 0 (take decl classes) ++ top_if class.outer decl
one_top_more classes decl class d inside is =
    let number : 0 + length (take decl classes) ≡ decl = omega (arith, length-take-le decl classes (omega (arith, inside))) in
    ap (tops_of 0) (take_more classes decl d inside)
    ∙ (tops_of_both 0 (take decl classes) (get_or classes decl d ∷ [])
    ∙ (ap (λ n. tops_of 0 (take decl classes) ++ tops_of n (get_or classes decl d ∷ [])) number
    ∙ (ap (λ (c : ClassCode). tops_of 0 (take decl classes) ++ (top_if c.outer decl ++ [])) (sym is)
    ∙ ap (λ cells. tops_of 0 (take decl classes) ++ cells) (append-nil (top_if class.outer decl)))))

-- one more of them was made
pub top_made : (classes : List ClassCode) (decl : ℕ) (class d : ClassCode) (old middle new : WorldView) → decl < length classes →
    class ≡ get_or classes decl d
    → CellsAreMade (tops_of 0 (take decl classes)) old (Ok tt) middle → CellsAreMade (top_if class.outer decl) middle (Ok tt) new
    → CellsAreMade (tops_of 0 (take (decl + 1) classes)) old (Ok tt) new
top_made classes decl class d old middle new inside is before this =
    subst (λ cells. CellsAreMade cells old (Ok tt) new) (sym (one_top_more classes decl class d inside is))
    (both_made (tops_of 0 (take decl classes)) (top_if class.outer decl) old middle new (Ok tt) before this)

-- one of them doesn't fit
pub top_stopped : (classes : List ClassCode) (decl : ℕ) (class d : ClassCode) (old middle new : WorldView) (limit other : CellLimit) →
    decl < length classes
    → class ≡ get_or classes decl d → CellsAreMade (tops_of 0 (take decl classes)) old (Ok tt) middle → CellsAreMade (top_if class.outer decl) middle (Err limit) new
    → CellsAreMade (tops_of 0 classes) old (Err other) new
top_stopped classes decl class d old middle new limit other inside is before this =
    let through : CellsAreMade (tops_of 0 (take (decl + 1) classes)) old (Err limit) new =
    subst (λ cells. CellsAreMade cells old (Err limit) new) (sym (one_top_more classes decl class d inside is))
    (both_made (tops_of 0 (take decl classes)) (top_if class.outer decl) old middle new (Err limit) before this) in
    let rest = drop (decl + 1) classes in
    let number = length (take (decl + 1) classes) in
    subst (λ cells. CellsAreMade cells old (Err other) new)
    (sym (tops_of_both 0 (take (decl + 1) classes) rest) ∙ ap (tops_of 0) (take-append-drop (decl + 1) classes))
    (both_stopped (tops_of 0 (take (decl + 1) classes)) (tops_of (0 + number) rest) old new limit other through)

-- ---- texts

pub texts_of_both : (first second : List (List ℕ)) → map TextCell (first ++ second) ≡ map TextCell first ++ map TextCell second
texts_of_both [] second = refl
texts_of_both (text ∷ first) second = ap (λ cells. TextCell text ∷ cells) (texts_of_both first second)

pub referring_of_both : (number : ℕ) (first second : List (List ℕ))
    → referring number (first ++ second) ≡ referring number first ++ referring (number + size_of_cells (map TextCell first)) second
referring_of_both number [] second = ap (λ n. referring n second) (omega arith)
referring_of_both number (text ∷ first) second =
    let size : number + cell_size (TextCell text) + size_of_cells (map TextCell first) ≡ number + size_of_cells (map TextCell (text ∷ first)) = omega arith in
    ap (λ values. Ref number ∷ values)
    (referring_of_both (number + cell_size (TextCell text)) first second
    ∙ ap (λ n. referring (number + cell_size (TextCell text)) first ++ referring n second) size)

-- those up to one, and that one
one_text_more : (texts : List (List ℕ)) (count : ℕ) (text : List ℕ) → count < length texts → text ≡ get_or texts count text
    → map TextCell (take (count + 1) texts) ≡ map TextCell (take count texts) ++ TextCell text ∷ []
one_text_more texts count text inside is =
    ap (map TextCell) (take_more texts count text inside)
    ∙ (texts_of_both (take count texts) (get_or texts count text ∷ []) ∙ ap (λ t. map TextCell (take count texts) ++ TextCell t ∷ []) (sym is))

pub text_made : (texts : List (List ℕ)) (count : ℕ) (text : List ℕ) (old middle new : WorldView) (result : Result (Unit {0}) CellLimit) →
    count < length texts
    → text ≡ get_or texts count text → CellsAreMade (map TextCell (take count texts)) old (Ok tt) middle → CellsAreMade (TextCell text ∷ []) middle result new
    → CellsAreMade (map TextCell (take (count + 1) texts)) old result new
text_made texts count text old middle new result inside is before this =
    subst (λ cells. CellsAreMade cells old result new) (sym (one_text_more texts count text inside is))
    (both_made (map TextCell (take count texts)) (TextCell text ∷ []) old middle new result before this)

-- one of them doesn't fit
pub text_stopped : (texts : List (List ℕ)) (count : ℕ) (text : List ℕ) (old middle new : WorldView) (limit other : CellLimit) →
    count < length texts
    → text ≡ get_or texts count text → CellsAreMade (map TextCell (take count texts)) old (Ok tt) middle → CellsAreMade (TextCell text ∷ []) middle (Err limit) new
    → CellsAreMade (map TextCell texts) old (Err other) new
text_stopped texts count text old middle new limit other inside is before this =
    let rest = drop (count + 1) texts in
    subst (λ cells. CellsAreMade cells old (Err other) new)
    (sym (texts_of_both (take (count + 1) texts) rest) ∙ ap (map TextCell) (take-append-drop (count + 1) texts))
    (both_stopped (map TextCell (take (count + 1) texts)) (map TextCell rest) old new limit other
    (text_made texts count text old middle new (Err limit) inside is before this))

-- what refers to it stands behind the others
pub one_more_refers : (number : ℕ) (texts : List (List ℕ)) (count : ℕ) (text : List ℕ) (size : ℕ) → count < length texts →
    text ≡ get_or texts count text
    → size ≡ number + size_of_cells (map TextCell (take count texts)) → referring number (take (count + 1) texts) ≡ referring number (take count texts) ++ Ref size ∷ []
one_more_refers number texts count text size inside is at =
    ap (referring number) (take_more texts count text inside)
    ∙ (referring_of_both number (take count texts) (get_or texts count text ∷ [])
    ∙ ap (λ n. referring number (take count texts) ++ Ref n ∷ []) (sym at))
