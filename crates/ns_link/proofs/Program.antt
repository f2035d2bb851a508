-- What a whole program says, and so the tables of its code.
use Rattle.std.proofs.Common.{◌≡◌, ◌≤◌, ◌<◌, ℕ, zero, suc, ◌+◌, List, [], ◌∷◌, ◌++◌, length, refl, sym, subst, arith}
use Rattle.std.specs.Prelude.{codes, Bool, true, false, Some, None, All, flat_map, slice_get, if◌then◌else◌}
use Rattle.std.proofs.lemmas.List.Elements.{All-nil, All-cons, All-append, All-head, All-tail}
use Rattle.std.proofs.lemmas.Option.{same_Some}
use Rattle.ns_base.specs.Names.{has, put_in}
use Rattle.ns_base.specs.declared.place.Place.{Place}
use Rattle.ns_tree.specs.declared.token.Kind.{Kind}
use Rattle.ns_tree.specs.declared.token.Kind.TheVariants as k
use Rattle.ns_tree.specs.Flat.{flat}
use Rattle.ns_tree.specs.Grammar as g
use Rattle.ns_tree.specs.Plain as p
use Rattle.ns_tree.specs.Rule.{◌&◌, maybe, flag}
use Rattle.ns_tree.specs.Tree.{AllHaveText}
use Rattle.ns_tree.specs.laws.FileFlats.{file_same}
use Rattle.ns_scope.specs.Whole.{most_bytes, AllWithin, ArePlacesOf, IsPlaceOf, IsWholeUnit, AreWholeUnits}
use Rattle.ns_code.specs.Fits.{IsName}
use Rattle.ns_resolved.specs.Expressions.{place_at}
use Rattle.ns_resolved.specs.Classes.{in_file, class_bodies, class_declared, units_bodies, units_declared}
use Rattle.ns_tree.specs.Parts.{unit_class}
use Rattle.ns_resolved.specs.Tables.{put_all}
use Rattle.ns_link.proofs.Held.{Told, Held, both}
use Rattle.ns_link.proofs.Says.{BodySays, ClassSays}
use Rattle.ns_link.proofs.Inner.{BodiesSay, two}
use Rattle.ns_link.proofs.SoundClasses.{class_say, class_records}

-- ---- units

module _ (Fine : Place → Type 0) where
  -- the tokens from a number on, of which these are the places
  told : (marks : List Place) (kinds : List Kind) (n : ℕ) → ((k : ℕ) → k < n + length kinds → Fine (place_at marks k)) → AllHaveText kinds →
      AllWithin most_bytes kinds → Told Fine marks n kinds
  told marks [] n fine texts short = tt
  told marks (kind ∷ kinds) n fine texts short =
      (texts.0, short.0, fine n (omega arith), told marks kinds (n + 1) (λ k below. fine k (omega (below, arith))) texts.1 short.1)

  mark_fine : (number : ℕ) (marks : List Place) (k : ℕ) → ((place : Place) → IsPlaceOf number place → Fine place) → ArePlacesOf number marks → k < length marks →
      Fine (place_at marks k)
  mark_fine number [] k of placed below = absurd (omega (below, arith))
  mark_fine number (mark ∷ marks) zero of placed below = of mark placed.0
  mark_fine number (mark ∷ marks) (suc k) of placed below = mark_fine number marks k of placed.1 (omega (below, arith))

  unit_held : (number : ℕ) (unit : p.SourceUnit) (marks : List Place) (whole : IsWholeUnit number unit marks) → ((place : Place) → IsPlaceOf number place → Fine place) →
      Held Fine marks (g.class (g.primary whole.tree.depth) (g.what (g.primary whole.tree.depth) whole.tree.depth)) (unit_class unit)
  unit_held number (p.unit_with marker category class) marks whole of =
      let unit = p.unit_with marker category class in
      let depth = whole.tree.depth in
      let longer = whole.one_longer in
      let all = told marks (flat unit) 0 (λ at below. mark_fine number marks at of whole.placed (omega (below, longer, arith))) whole.tree.told whole.short in
      let file = subst (Told Fine marks 0) (sym (file_same depth 0 unit whole.tree.given)) all in
      let rest = maybe g.string & g.class (g.primary depth) (g.what (g.primary depth) depth) in
      (both Fine marks (maybe g.string) (g.class (g.primary depth) (g.what (g.primary depth) depth)) category class
      (both Fine marks (flag (k.Ident (codes "Newspeak3"))) rest marker (category, class) (0, whole.tree.given, file)).1).1

  module _ (total : ℕ) (of : (number : ℕ) (place : Place) → number < total → IsPlaceOf number place → Fine place) where
    pub units_say : (units : List p.SourceUnit) (marks : List (List Place)) (file number next : ℕ) → file + length units ≤ total → AreWholeUnits file units marks →
        BodiesSay Fine (units_bodies number next units marks)
    units_say [] marks file number next few whole = All-nil (BodySays Fine)
    units_say (unit ∷ units) [] file number next few whole = All-nil (BodySays Fine)
    units_say (unit ∷ units) (places ∷ marks) file number next few whole =
        two Fine (class_bodies (in_file places) number next (unit_class unit)) _
        (class_say Fine whole.0.tree.depth (unit_class unit) whole.0.tree.depth (in_file places) number next
        (unit_held file unit places whole.0 (λ place. of file place (omega (few, arith)))))
        (units_say units marks (file + 1) _ _ (omega (few, arith)) whole.1)

    pub units_records : (units : List p.SourceUnit) (marks : List (List Place)) (file number next : ℕ) → file + length units ≤ total → AreWholeUnits file units marks →
        All ClassSays (units_declared number next units marks)
    units_records [] marks file number next few whole = All-nil ClassSays
    units_records (unit ∷ units) [] file number next few whole = All-nil ClassSays
    units_records (unit ∷ units) (places ∷ marks) file number next few whole =
        All-append ClassSays (class_declared (in_file places) number next (unit_class unit)) _
        (class_records Fine whole.0.tree.depth (unit_class unit) whole.0.tree.depth (in_file places) number next
        (unit_held file unit places whole.0 (λ place. of file place (omega (few, arith)))))
        (units_records units marks (file + 1) _ _ (omega (few, arith)) whole.1)

-- ---- tables

put_named : (table : List (List ℕ)) (name : List ℕ) → All IsName table → IsName name → All IsName (put_in table name)
put_named table name all one = by (has table name) where
  by : (there : Bool) → All IsName (if there then table else table ++ name ∷ [])
  by true = all
  by false = All-append IsName table (name ∷ []) all (All-cons IsName name [] one (All-nil IsName))

pub all_named : (names table : List (List ℕ)) → All IsName names → All IsName table → All IsName (put_all table names)
all_named [] table names all = all
all_named (name ∷ others) table names all =
    all_named others (put_in table name) (All-tail IsName name others names) (put_named table name all (All-head IsName name others names))

pub flat_all : {A : Type 0} → (P : List ℕ → Type 0) (f : A → List (List ℕ)) (items : List A) →
    ((n : ℕ) (item : A) → slice_get items n ≡ Some item → All P (f item)) →
    All P (flat_map f items)
flat_all P f [] h = All-nil P
flat_all P f (item ∷ items) h =
    All-append P (f item) (flat_map f items) (h zero item refl) (flat_all P f items (λ n other e. h (suc n) other e))

pub got : {A : Type 0} → (P : A → Type 0) (items : List A) (n : ℕ) (item : A) → All P items → slice_get items n ≡ Some item → P item
got P [] n item all e = absurd (let f : None ≡ Some item = e in cc)
got P (first ∷ items) zero item all e = subst P (same_Some first item e) (All-head P first items all)
got P (first ∷ items) (suc n) item all e = got P items n item (All-tail P first items all) e
