-- The parser stops where the grammar says.
use Rattle.std.proofs.Common.{◌≡◌, ℕ, zero, suc, ◌<◌, ◌⊎◌, inl, inr, List, [], ◌∷◌, ◌++◌, length, Option, Some, None, Ok, Err, refl, sym, ap, subst, ◌∙◌, append_assoc, length-append, arith}
use Rattle.std.specs.Prelude.{◌↔◌}
use Rattle.std.proofs.lemmas.List.{append-nil}
use Rattle.ns_tree.specs.declared.token.Kind.{Kind}
use Rattle.ns_tree.specs.Deep.{deep}
use Rattle.ns_tree.specs.Flat.{flat}
use Rattle.ns_tree.specs.Grammar as g
use Rattle.ns_tree.specs.Plain as p
use Rattle.ns_tree.specs.Tree.{AllHaveText, Tree, Spells, Front, BeginsTree}
use Rattle.ns_tree.specs.laws.FileFlats.{file_same}
use Rattle.ns_tree.specs.laws.Fronts.{Behind, split, told_front}
use Rattle.ns_tree.specs.laws.TreeFronts.{fronts_begin_trees}
use Rattle.ns_parse_tokens.specs.declared.fault.ParseFault.TheVariants.{Syntax}
use Rattle.ns_parse_tokens.specs.Read.{Outcome, got, fault}
use Rattle.ns_parse_tokens.specs.laws.Sound.{Took, Spelled}
use Rattle.ns_parse.specs.Parse as x
use Rattle.ns_parse.specs.laws.SoundFile.{parse_spelled}
use Rattle.ns_parse.specs.Places.{Stuck, TokensStopAt}
use Rattle.ns_parse.proofs.Halts.{Fault, Stopped}
use Rattle.ns_parse.proofs.HaltsClasses.{halts_file}
use Rattle.ns_parse.proofs.Stuck.{stuck_at_fault, stuck_behind}

-- ---- fronts

-- what begins a tree's tokens is a front
begun_front : (unit : p.SourceUnit) (f rest : List Kind) → Tree unit → flat unit ≡ f ++ rest → Front f
begun_front unit f rest t e = (fronts_begin_trees f).1 (record { unit = unit; rest = rest; tree = t; begins = e })

shorter_front : (f rest : List Kind) → Front (f ++ rest) → Front f
shorter_front f rest front =
    let t : BeginsTree (f ++ rest) = (fronts_begin_trees (f ++ rest)).0 front in
    begun_front t.unit f (rest ++ t.rest) t.tree (t.begins ∙ append_assoc f rest t.rest)

-- ---- the outcome of the readers

fault_stops : (ts : List Kind) (k : ℕ) → AllHaveText ts → x.unit ts ≡ fault k → Fault (g.file (length ts)) 0 ts k → TokensStopAt ts k
fault_stops ts k told e f =
    let place : k ≡ length f.front = omega (arith, f.place) in
    record {
      before = f.front;
      rest = f.rest;
      cut = f.cut;
      place = place;
      front = record { depth = length ts; front = f.is_front; told = told_front f.front f.rest (subst AllHaveText f.cut told) };
      stuck = stuck_at_fault ts f.front f.rest f.cut (e ∙ ap fault place);
    }

more_stops : (ts : List Kind) (u : p.SourceUnit) (n : ℕ) (kind : Kind) (us : List Kind) → AllHaveText ts → x.unit ts ≡ got u n (kind ∷ us) → Took (g.file (length ts)) 0 ts u n (kind ∷ us) → TokensStopAt ts n
more_stops ts u n kind us told e t =
    let before : List Kind = (g.file (length ts)).flat u in
    let place : n ≡ length before = omega (arith, t.behind) in
    let same : before ≡ flat u = file_same (length ts) 0 u t.good in
    let told' : AllHaveText before = told_front before (kind ∷ us) (subst AllHaveText t.spelled told) in
    record {
      before = before;
      rest = kind ∷ us;
      cut = t.spelled;
      place = place;
      front = begun_front u before [] (record { depth = length ts; given = t.good; told = subst AllHaveText same told' }) (sym (append-nil before ∙ same));
      stuck = stuck_behind ts before us kind u t.spelled (e ∙ ap (λ i. got u i (kind ∷ us)) place);
    }

whole_stops : (ts : List Kind) (o : Outcome p.SourceUnit) (k : ℕ) → AllHaveText ts → x.unit ts ≡ o → Spelled (g.file (length ts)) 0 ts o → Stopped (g.file (length ts)) 0 ts o → x.whole o ≡ Err (Syntax k) → TokensStopAt ts k
whole_stops ts (got u n []) k told e s h w = absurd cc
whole_stops ts (got u n (kind ∷ us)) k told e s h w = let same : n ≡ k = cc in subst (TokensStopAt ts) same (more_stops ts u n kind us told e s)
whole_stops ts (fault j) k told e s h w = let same : j ≡ k = cc in subst (TokensStopAt ts) same (fault_stops ts j told e h)

by_deep : (ts : List Kind) (d : Option ℕ) (k : ℕ) → AllHaveText ts → x.parse_by d (x.unit ts) ≡ Err (Syntax k) → TokensStopAt ts k × (d ≡ None)
by_deep ts (Some j) k told e = absurd cc
by_deep ts None k told e = (whole_stops ts (x.unit ts) k told refl ((halts_file (length ts)).sound.reads 0 ts told) ((halts_file (length ts)).stops 0 ts told) e, refl)

parsed_stops : (ts : List Kind) (k : ℕ) → AllHaveText ts → x.parse ts ≡ Err (Syntax k) → TokensStopAt ts k × (deep ts ≡ None)
unfolding x.parse
parsed_stops ts k told e = by_deep ts (deep ts) k told e

-- ---- there is one such place

-- behind the place of another stop, nothing is a front
module _ (before rest : List Kind) (stuck : Stuck before rest) where
  stuck_by : (more us : List Kind) → rest ≡ more ++ us → length before < length (before ++ more) → Front (before ++ more) → ⊥
  stuck_by [] us e h front = absurd (omega (arith, h, length-append before []))
  stuck_by (kind ∷ more) us e h front = subst (Stuck before) e stuck (shorter_front (before ++ kind ∷ []) more (subst Front (sym (append_assoc before (kind ∷ []) more)) front))

not_later : (ts : List Kind) (j k : ℕ) (x : TokensStopAt ts j) (y : TokensStopAt ts k) → j < k → ⊥
not_later ts j k x y h = by_split (split x.before x.rest y.before y.rest (sym x.cut ∙ y.cut))
  where
    by_split : ((u : List Kind) × (x.before ≡ y.before ++ u)) ⊎ Behind x.before x.rest y.before y.rest → ⊥
    by_split (inl (u, e)) = absurd (omega (arith, h, x.place, y.place, ap length e, length-append y.before u))
    by_split (inr b) = stuck_by x.before x.rest x.stuck b.rest y.rest b.back (omega (arith, h, x.place, y.place, ap length b.front)) (subst Front b.front y.front)

less_or_more : (j k : ℕ) → (j ≡ k) ⊎ ((j < k) ⊎ (k < j))
less_or_more zero zero = inl refl
less_or_more zero (suc k) = inr (inl (omega arith))
less_or_more (suc j) zero = inr (inr (omega arith))
less_or_more (suc j) (suc k) = step (less_or_more j k)
  where
    step : (j ≡ k) ⊎ ((j < k) ⊎ (k < j)) → (suc j ≡ suc k) ⊎ ((suc j < suc k) ⊎ (suc k < suc j))
    step (inl h) = inl (ap suc h)
    step (inr (inl h)) = inr (inl (omega (arith, h)))
    step (inr (inr h)) = inr (inr (omega (arith, h)))

one_place : (ts : List Kind) (j k : ℕ) → TokensStopAt ts j → TokensStopAt ts k → j ≡ k
one_place ts j k x y = by_order (less_or_more j k)
  where
    by_order : (j ≡ k) ⊎ ((j < k) ⊎ (k < j)) → j ≡ k
    by_order (inl h) = h
    by_order (inr (inl h)) = absurd (not_later ts j k x y h)
    by_order (inr (inr h)) = absurd (not_later ts k j y x h)

-- what is spelled stops nowhere
no_stop : (ts before rest : List Kind) (unit : p.SourceUnit) → ts ≡ before ++ rest → Stuck before rest → Spells ts unit → ⊥
no_stop ts before [] unit cut stuck s = stuck unit (subst (λ w. Spells w unit) (cut ∙ append-nil before) s)
no_stop ts before (kind ∷ us) unit cut stuck s = stuck (begun_front unit (before ++ kind ∷ []) us s.tree (sym s.spelled ∙ cut ∙ sym (append_assoc before (kind ∷ []) us)))

stops_by : (ts : List Kind) (k : ℕ) (o : Outcome p.SourceUnit) → AllHaveText ts → TokensStopAt ts k → ((unit : p.SourceUnit) → x.whole o ≡ Ok unit → Spells ts unit) → ((j : ℕ) → x.whole o ≡ Err (Syntax j) → TokensStopAt ts j) → x.whole o ≡ Err (Syntax k)
stops_by ts k (got u n []) told s spells stops = absurd (no_stop ts s.before s.rest u s.cut s.stuck (spells u refl))
stops_by ts k (got u n (kind ∷ us)) told s spells stops = ap (λ i. Err (Syntax i)) (one_place ts n k (stops n refl) s)
stops_by ts k (fault j) told s spells stops = ap (λ i. Err (Syntax i)) (one_place ts j k (stops j refl) s)

stops_parsed : (ts : List Kind) (k : ℕ) → AllHaveText ts → TokensStopAt ts k → deep ts ≡ None → x.parse ts ≡ Err (Syntax k)
unfolding x.parse
stops_parsed ts k told s none =
    let by : x.parse ts ≡ x.whole (x.unit ts) = ap (λ d. x.parse_by d (x.unit ts)) none in
    by ∙ stops_by ts k (x.unit ts) told s (λ unit e. parse_spelled ts unit told (by ∙ e)) (λ j e. (parsed_stops ts j told (by ∙ e)).0)

-- The parser says Syntax at token k exactly where the tokens stop there, and no bracket is too deep.
pub stops_at : (ts : List Kind) (k : ℕ) → AllHaveText ts → x.parse ts ≡ Err (Syntax k) ↔ (TokensStopAt ts k × (deep ts ≡ None))
stops_at ts k told = (parsed_stops ts k told, λ s. stops_parsed ts k told s.0 s.1)
