-- The places of a body belong to its sends and superclass parts, in their order.
use Rattle.std.proofs.Common.{◌≡◌, ◌<◌, ℕ, ◌+◌, List, [], ◌∷◌, ◌++◌, length, refl, sym, ◌∙◌, subst, arith, append_assoc, length-append}
use Rattle.std.specs.Prelude.{All, map, IsTrue}
use Rattle.std.specs.List.{AllPairs, slice_index_or}
use Rattle.std.proofs.lemmas.List.Elements.{All-nil, All-cons}
use Rattle.std.proofs.lemmas.List.Kept.{AllPairs-cons}
use Rattle.ns_base.specs.declared.place.Place.{Place}
use Rattle.ns_code.specs.declared.instruction.Instr.{Instr}
use Rattle.ns_code.specs.Instructions.{carries_place}
use Rattle.ns_resolved.specs.Program as m
use Rattle.ns_gen_code.specs.Code.{CodeLine, Way, does, symbol, sends, starts, plain, inner, private_at, super, instr_of, places_from}

-- the place belongs to an instruction of these that carries one
abbrev pub Belongs : List Instr → ℕ × Place → Type 0
Belongs instrs place = (place.0 < length instrs) × ((d : Instr) → IsTrue (carries_place (slice_index_or instrs place.0 d)))

behind_front : (front : List Instr) (instr : Instr) (rest : List Instr) → IsTrue (carries_place instr) →
    (length front < length (front ++ instr ∷ rest)) × ((d : Instr) → IsTrue (carries_place (slice_index_or (front ++ instr ∷ rest) (length front) d)))
behind_front [] instr rest h = (omega arith, λ d. h)
behind_front (first ∷ front) instr rest h = let further = behind_front front instr rest h in let below = further.0 in (omega (below, arith), further.1)

module _ (names : List (List ℕ)) where
  send_carries : (way : Way) (sent : m.Sent) (count : ℕ) → IsTrue (carries_place (instr_of names (sends way sent count)))
  send_carries plain sent count = refl
  send_carries inner sent count = refl
  send_carries (private_at level) sent count = refl
  send_carries super sent count = refl

  further_on : (front : List Instr) (instr : Instr) (lines : List CodeLine) (all : List Instr) → all ≡ front ++ instr ∷ map (instr_of names) lines →
      ((next : List Instr) → all ≡ next ++ map (instr_of names) lines → All (Belongs all) (places_from (length next) lines)) →
      All (Belongs all) (places_from (length front + 1) lines)
  further_on front instr lines all e h =
      let z : length (front ++ instr ∷ []) ≡ length front + 1 = length-append front (instr ∷ []) in
      subst (λ n. All (Belongs all) (places_from n lines)) z (h (front ++ instr ∷ []) (e ∙ sym (append_assoc front (instr ∷ []) (map (instr_of names) lines))))

  carried : (front : List Instr) (instr : Instr) (lines : List CodeLine) (all : List Instr) → all ≡ front ++ instr ∷ map (instr_of names) lines → IsTrue (carries_place instr) →
      (place : Place) → Belongs all (length front, place)
  carried front instr lines all e h place =
      subst (λ (instrs : List Instr). Belongs instrs (length front, place)) (sym e) (behind_front front instr (map (instr_of names) lines) h)

  pub places_belong : (lines : List CodeLine) (front all : List Instr) → all ≡ front ++ map (instr_of names) lines → All (Belongs all) (places_from (length front) lines)
  places_belong [] front all e = All-nil (Belongs all)
  places_belong (does instr ∷ lines) front all e = further_on front instr lines all e (λ next f. places_belong lines next all f)
  places_belong (symbol name ∷ lines) front all e = further_on front (instr_of names (symbol name)) lines all e (λ next f. places_belong lines next all f)
  places_belong (sends way sent count ∷ lines) front all e =
      let instr = instr_of names (sends way sent count) in
      All-cons (Belongs all) (length front, sent.place) (places_from (length front + 1) lines)
      (carried front instr lines all e (send_carries way sent count) sent.place)
      (further_on front instr lines all e (λ next f. places_belong lines next all f))
  places_belong (starts place count ∷ lines) front all e =
      let instr = instr_of names (starts place count) in
      All-cons (Belongs all) (length front, place) (places_from (length front + 1) lines) (carried front instr lines all e refl place)
      (further_on front instr lines all e (λ next f. places_belong lines next all f))

-- ---- their order

abbrev Before : ℕ × Place → ℕ × Place → Type 0
Before a b = a.0 < b.0

abbrev After : ℕ → ℕ × Place → Type 0
After least place = least < place.0

all_after : (lines : List CodeLine) (n least : ℕ) → least < n → All (After least) (places_from n lines)
all_after [] n least h = All-nil (After least)
all_after (does instr ∷ lines) n least h = all_after lines (n + 1) least (omega (h, arith))
all_after (symbol name ∷ lines) n least h = all_after lines (n + 1) least (omega (h, arith))
all_after (sends way sent count ∷ lines) n least h =
    All-cons (After least) (n, sent.place) (places_from (n + 1) lines) h (all_after lines (n + 1) least (omega (h, arith)))
all_after (starts place count ∷ lines) n least h =
    All-cons (After least) (n, place) (places_from (n + 1) lines) h (all_after lines (n + 1) least (omega (h, arith)))

pub places_ordered : (lines : List CodeLine) (n : ℕ) → AllPairs Before (places_from n lines)
places_ordered [] n = λ i j d lt below. absurd (omega (arith, below))
places_ordered (does instr ∷ lines) n = places_ordered lines (n + 1)
places_ordered (symbol name ∷ lines) n = places_ordered lines (n + 1)
places_ordered (sends way sent count ∷ lines) n =
    AllPairs-cons Before (n, sent.place) (places_from (n + 1) lines) (all_after lines (n + 1) n (omega arith)) (places_ordered lines (n + 1))
places_ordered (starts place count ∷ lines) n =
    AllPairs-cons Before (n, place) (places_from (n + 1) lines) (all_after lines (n + 1) n (omega arith)) (places_ordered lines (n + 1))
