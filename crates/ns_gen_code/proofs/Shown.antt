-- A body's instructions and places, put together by number, are its lines.
use Rattle.std.proofs.Common.{◌≡◌, ◌<◌, ℕ, ◌+◌, List, [], ◌∷◌, refl, ap, ◌∙◌, arith}
use Rattle.std.specs.Prelude.{true, false, Some, None, ◌==◌, if◌then◌else◌, map}
use Rattle.ns_base.specs.declared.place.Place.{Place}
use Rattle.ns_code.specs.declared.instruction.Instr.{Instr}
use Rattle.ns_gen_code.specs.Code.{CodeLine, does, symbol, sends, starts, instr_of, places_from}
use Rattle.ns_gen_code.specs.Stated.{shown, place_in, placed}

other : (n k : ℕ) → n < k → (n == k) ≡ false
other n k h = grind (arith, h)

same : (n : ℕ) → (n == n) ≡ true
same n = grind (arith)

-- an entry of a smaller number is never asked for
skip : (n : ℕ) (place : Place) (places : List (ℕ × Place)) (k : ℕ) (instrs : List Instr) → n < k →
    placed ((n, place) ∷ places) k instrs ≡ placed places k instrs
skip n place places k [] h = refl
skip n place places k (instr ∷ instrs) h =
    ap (λ b. (instr, if b then Some place else place_in places k) ∷ placed ((n, place) ∷ places) (k + 1) instrs) (other n k h)
    ∙ ap ((instr, place_in places k) ∷◌) (skip n place places (k + 1) instrs (omega (h, arith)))

later : (n k : ℕ) → n < k → (k == n) ≡ false
later n k h = grind (arith, h)

none : (n k : ℕ) (lines : List CodeLine) → n < k → place_in (places_from k lines) n ≡ None
none n k [] h = refl
none n k (does instr ∷ lines) h = none n (k + 1) lines (omega (h, arith))
none n k (symbol name ∷ lines) h = none n (k + 1) lines (omega (h, arith))
none n k (sends way sent count ∷ lines) h =
    ap (λ b. if b then Some sent.place else place_in (places_from (k + 1) lines) n) (later n k h) ∙ none n (k + 1) lines (omega (h, arith))
none n k (starts place count ∷ lines) h =
    ap (λ b. if b then Some place else place_in (places_from (k + 1) lines) n) (later n k h) ∙ none n (k + 1) lines (omega (h, arith))

pub shown_is : (names : List (List ℕ)) (n : ℕ) (lines : List CodeLine) →
    placed (places_from n lines) n (map (instr_of names) lines) ≡ map (shown names) lines
shown_is names n [] = refl
shown_is names n (does instr ∷ lines) =
    ap (λ place. (instr, place) ∷ placed (places_from (n + 1) lines) (n + 1) (map (instr_of names) lines)) (none n (n + 1) lines (omega arith))
    ∙ ap ((instr, None) ∷◌) (shown_is names (n + 1) lines)
shown_is names n (symbol name ∷ lines) =
    ap (λ place. (instr_of names (symbol name), place) ∷ placed (places_from (n + 1) lines) (n + 1) (map (instr_of names) lines))
    (none n (n + 1) lines (omega arith))
    ∙ ap ((instr_of names (symbol name), None) ∷◌) (shown_is names (n + 1) lines)
shown_is names n (sends way sent count ∷ lines) =
    ap (λ b. (instr_of names (sends way sent count), if b then Some sent.place else place_in (places_from (n + 1) lines) n) ∷ placed
    ((n, sent.place) ∷ places_from (n + 1) lines) (n + 1) (map (instr_of names) lines)) (same n)
    ∙ ap ((instr_of names (sends way sent count), Some sent.place) ∷◌)
    (skip n sent.place (places_from (n + 1) lines) (n + 1) (map (instr_of names) lines) (omega arith) ∙ shown_is names (n + 1) lines)
shown_is names n (starts place count ∷ lines) =
    ap (λ b. (instr_of names (starts place count), if b then Some place else place_in (places_from (n + 1) lines) n) ∷ placed
    ((n, place) ∷ places_from (n + 1) lines) (n + 1) (map (instr_of names) lines)) (same n)
    ∙ ap ((instr_of names (starts place count), Some place) ∷◌)
    (skip n place (places_from (n + 1) lines) (n + 1) (map (instr_of names) lines) (omega arith) ∙ shown_is names (n + 1) lines)
