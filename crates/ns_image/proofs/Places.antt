-- The format of places.
use Rattle.std.proofs.Common.{◌≡◌, ℕ, suc, ◌+◌, ◌<◌, ◌≤◌, true, false, List, [], ◌∷◌, length, get_or, All, Option, Some, None, refl, sym, ap, ◌∙◌, arith}
use Rattle.std.specs.Prelude.{slice_get, nat_lt, nat_le, ◌&&◌, IsTrue}
use Rattle.std.specs.Option.{option_map_or}
use Rattle.std.specs.List.{AllPairs, slice_index_or}
use Rattle.std.proofs.lemmas.Bool.{ltb-true, lt-ltb, leb-true, le-leb}
use Rattle.std.proofs.lemmas.List.Elements.{All-nil, All-cons}
use Rattle.std.proofs.lemmas.List.Kept.{AllPairs-cons}
use Rattle.std.proofs.lemmas.Option.{slice_get-get_or, slice_get_within}
use Rattle.ns_base.specs.declared.place.Place.{Place}
use Rattle.ns_code.specs.declared.instruction.Instr.{Instr}
use Rattle.ns_code.specs.declared.instruction.Instr.TheVariants as i
use Rattle.ns_code.specs.Fits.{IsWord}
use Rattle.ns_code.specs.Instructions.{carries_place}
use Rattle.ns_image.specs.Bytes as b
use Rattle.ns_image.specs.Reading as r
use Rattle.ns_image.specs.laws.Format.{Step, Any, Format, done, field, refit, checks}
use Rattle.ns_image.specs.laws.Fields.{word_format, chained_format, AllGood}
use Rattle.ns_image.proofs.Texts.{both, together}

-- ---- instructions that carry a place

-- the instruction of that number is there, and carries a place
record IsCarrier (instrs : List Instr) (number : ℕ) : Type 0 where
  instr : number < length instrs
  carries : (d : Instr) → IsTrue (carries_place (slice_index_or instrs number d))

carrier_told : (instrs : List Instr) (number : ℕ) → r.is_carrier instrs number ≡ true → IsCarrier instrs number
carrier_told instrs number e = found (slice_get instrs number) refl e
  where
    found : (o : Option Instr) → slice_get instrs number ≡ o → option_map_or carries_place o false ≡ true → IsCarrier instrs number
    found None is h = absurd (cc (h))
    found (Some instr) is h =
        let within : number < length instrs = slice_get_within instrs number instr is in
        record {
          instr = within;
          carries = λ d.
              let there : Some instr ≡ Some (get_or instrs number d) = sym is ∙ slice_get-get_or instrs number d within in
              let same : instr ≡ get_or instrs number d = cc (there) in
              ap carries_place (sym same) ∙ h;
        }

told_carrier : (instrs : List Instr) (number : ℕ) → number < length instrs →
    ((d : Instr) → IsTrue (carries_place (slice_index_or instrs number d))) → r.is_carrier instrs number ≡ true
told_carrier instrs number within carries =
    ap (λ (o : Option Instr). option_map_or carries_place o false) (slice_get-get_or instrs number i.PushNil within) ∙ carries i.PushNil

-- ---- single places

-- A place stands in a file that is there, at an instruction that carries one.
pub record PlaceIn (files : ℕ) (instrs : List Instr) (place : ℕ × Place) : Type 0 where
  pub instr : place.0 < length instrs
  pub carries : (d : Instr) → IsTrue (carries_place (slice_index_or instrs place.0 d))
  pub file : place.1.file < files
  pub line : (1 ≤ place.1.line) × IsWord place.1.line
  pub col : (1 ≤ place.1.col) × IsWord place.1.col

-- a place at an instruction from that number on
abbrev PlaceFrom : ℕ → List Instr → ℕ → ℕ × Place → Type 0
PlaceFrom files instrs least place = (least ≤ place.0) × PlaceIn files instrs place

abbrev Before : ℕ × Place → ℕ × Place → Type 0
Before p q = p.0 < q.0

-- places in the order of their instructions
abbrev pub ArePlaces : ℕ → List Instr → List (ℕ × Place) → Type 0
ArePlaces files instrs places = IsWord (length places) × (All (PlaceIn files instrs) places × AllPairs (λ p q. p.0 < q.0) places)

module _ (files : ℕ) (instrs : List Instr) (few_files : files ≤ 17) (few_instrs : length instrs ≤ 65536) where
  carrier_format : (least : ℕ) → Format (r.carrier instrs least) (λ n. (least ≤ n) × IsCarrier instrs n) b.word
  carrier_format least =
      refit (checks (λ n. nat_le least n && r.is_carrier instrs n) word_format)
      (λ n k g.
      let t = both (nat_le least n) (r.is_carrier instrs n) g.1 in
      (tt, (leb-true least n t.0, carrier_told instrs n t.1)))
      (λ n k g. (tt, (within n g.1, together (nat_le least n) (r.is_carrier instrs n) (le-leb least n g.0) (told_carrier instrs n g.1.instr g.1.carries))))
    where
      within : (n : ℕ) → IsCarrier instrs n → IsWord n
      within n is = omega (arith, is.instr, few_instrs)

  file_format : Format (r.file files) (λ n. n < files) b.word
  file_format = refit (checks (λ n. nat_lt n files) word_format) (λ n k g. (tt, ltb-true n files g.1)) (λ n k g. (tt, (below n g, lt-ltb n files g)))
    where
      below : (n : ℕ) → n < files → IsWord n
      below n lt = omega (arith, few_files)

  from_one_format : Format r.from_one (λ n. (1 ≤ n) × IsWord n) b.word
  from_one_format = refit (checks (λ n. nat_lt 0 n) word_format) (λ n k g. (tt, (ltb-true 0 n g.1, g.0))) (λ n k g. (tt, (g.1, lt-ltb 0 n g.0)))

  place_format : (least : ℕ) → Format (r.place files instrs least) (PlaceFrom files instrs least) b.place
  unfolding r.place
  place_format least =
      let parts : Step Any (r.place files instrs least) (λ p. ((least ≤ p.0) × IsCarrier instrs p.0) × ((p.1.file < files) × (((1 ≤ p.1.line) × IsWord p.1.line) × (((1 ≤ p.1.col) × IsWord p.1.col) × Unit {0})))) b.place =
      field (λ p. p.0) (carrier_format least) (λ number. field (λ p. p.1.file) file_format (λ file. field (λ p. p.1.line) from_one_format (λ line. field (λ p. p.1.col) from_one_format (λ col.
      done (number, record { file = file; line = line; col = col }) (λ p k. rw (← k.1, ← k.0.1, ← k.0.0.1, ← k.0.0.0.1) refl) ((((tt, refl), refl), refl), refl))))) in
      refit parts
      (λ p k g. (tt, (g.0.0, record { instr = g.0.1.instr; carries = g.0.1.carries; file = g.1.0; line = g.1.1.0; col = g.1.1.1.0 })))
      (λ p k g. (tt, ((g.0, record { instr = g.1.instr; carries = g.1.carries }), (g.1.file, (g.1.line, (g.1.col, tt))))))

  -- ---- places in order

  good_places : (least : ℕ) (places : List (ℕ × Place)) → AllGood (PlaceFrom files instrs) r.behind_place least places → All (PlaceIn files instrs) places × AllPairs Before places × All (λ p. least ≤ p.0) places
  good_places least [] good = (All-nil (PlaceIn files instrs), (λ x y d lt below. absurd (omega (arith, below))), All-nil (λ p. least ≤ p.0))
  good_places least (place ∷ places) good =
      let more = good_places (place.0 + 1) places good.1 in
      let later : All (Before place) places = λ k d lt. omega (arith, more.2 k d lt) in
      let all_later : All (λ p. least ≤ p.0) places = λ k d lt. omega (arith, more.2 k d lt, good.0.0) in
      (All-cons (PlaceIn files instrs) place places good.0.1 more.0, AllPairs-cons Before place places later more.1, All-cons (λ p. least ≤ p.0) place places good.0.0 all_later)

  places_good : (least : ℕ) (places : List (ℕ × Place)) → All (PlaceIn files instrs) places → AllPairs Before places → All (λ p. least ≤ p.0) places → AllGood (PlaceFrom files instrs) r.behind_place least places
  places_good least [] fit order from = tt
  places_good least (place ∷ places) fit order from =
      let here : least ≤ place.0 = from 0 place (omega arith) in
      let first : PlaceIn files instrs place = fit 0 place (omega arith) in
      let later : All (λ p. place.0 + 1 ≤ p.0) places = λ k d lt. after k d (order 0 (suc k) d (omega arith) (omega arith)) in
      ((here, first), places_good (place.0 + 1) places (λ k d lt. fit (suc k) d (omega arith)) (λ x y d lt below. order (suc x) (suc y) d (omega arith) (omega arith)) later)
    where
      after : (k : ℕ) (d : ℕ × Place) → place.0 < (slice_index_or places k d).0 → place.0 + 1 ≤ (slice_index_or places k d).0
      after k d lt = omega arith

  pub places_format : Format (r.places files instrs) (ArePlaces files instrs) (b.counted b.place)
  places_format =
      let parts : Step Any (r.places files instrs) (λ places. IsWord (length places) × AllGood (PlaceFrom files instrs) r.behind_place 0 places) (b.counted b.place) =
      field length word_format (λ n. chained_format (r.place files instrs) r.behind_place (PlaceFrom files instrs) b.place place_format n 0) in
      refit parts
      (λ places k g.
      let t = good_places 0 places g.1 in
      (tt, (g.0, (t.0, t.1))))
      (λ places k g. (tt, (g.0, places_good 0 places g.1.0 g.1.1 (λ k d lt. omega arith))))
