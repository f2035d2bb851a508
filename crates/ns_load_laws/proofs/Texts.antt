-- Texts are loaded as they are read, one after another.
use Rattle.std.proofs.Common.{◌≡◌, ℕ, ◌+◌, ◌<◌, ◌≤◌, inl, inr, List, [], ◌∷◌, ◌++◌, length, Option, Some, None, refl, sym, ap, subst, ◌∙◌, arith, cond}
use Rattle.std.specs.Prelude.{◌↔◌}
use Rattle.std.proofs.lemmas.Bool.{cases_lt, lt-ltb, le-ltb}
use Rattle.ns_base.specs.declared.place.Place.{Place}
use Rattle.ns_load.specs.Loaded.{Loading, units, stopped, load_from, with_file}
use Rattle.ns_load.specs.Source.{FileReading, spells, refused, read, read_file}
use Rattle.ns_load.specs.declared.fault.LoadCause.TheVariants.{TooLong}
use Rattle.ns_load.specs.declared.fault.LoadFault.{LoadFault}
use Rattle.ns_load.specs.declared.fault.LoadFault.TheVariants.{At}
use Rattle.ns_load_laws.specs.Loads.{AreSourcesOf, LoadAs, TextReadsAs, Texts}
use Rattle.ns_load_laws.specs.Reads.{SourceReadsAs}
use Rattle.ns_tree.specs.Plain as p

-- What a source is read as is what tokens and grammar say.
abbrev pub AreRead : Type 0
AreRead = (file : ℕ) (source : List ℕ) (reading : FileReading) → read file source ≡ reading ↔ SourceReadsAs file source reading

-- ---- one text

too_long : (file : ℕ) (source : List ℕ) → 1048576 < length source → read_file file (Some source) ≡ refused (At TooLong file)
too_long file source h = ap (λ long. cond long (refused (At TooLong file)) (read file source)) (lt-ltb 1048576 (length source) h)

short : (file : ℕ) (source : List ℕ) → length source ≤ 1048576 → read_file file (Some source) ≡ read file source
short file source h = ap (λ long. cond long (refused (At TooLong file)) (read file source)) (le-ltb 1048576 (length source) h)

reads_text : (file : ℕ) (text : Option (List ℕ)) → AreRead → TextReadsAs file text (read_file file text)
reads_text file None are = refl
reads_text file (Some source) are =
    elim (cases_lt 1048576 (length source)) [
      | inl h ↦ inl (h, too_long file source h)
      | inr h ↦ inr (h, subst (SourceReadsAs file source) (sym (short file source h)) ((are file source (read file source)).0 refl))
    ]

text_is_read : (file : ℕ) (text : Option (List ℕ)) (reading : FileReading) → AreRead → TextReadsAs file text reading → read_file file text ≡ reading
text_is_read file None reading are h = sym h
text_is_read file (Some source) reading are (inl h) = too_long file source h.0 ∙ sym h.1
text_is_read file (Some source) reading are (inr h) = short file source h.0 ∙ (are file source reading).1 h.1

pub text_is : (file : ℕ) (text : Option (List ℕ)) (reading : FileReading) → AreRead → read_file file text ≡ reading ↔ TextReadsAs file text reading
text_is file text reading are = (λ e. subst (TextReadsAs file text) e (reads_text file text are), text_is_read file text reading are)

-- ---- all texts

-- A text before the others.
first_loads : (k : ℕ) (text : Option (List ℕ)) (texts : Texts) (reading : FileReading) (loading : Loading) → TextReadsAs k text reading → LoadAs (k + 1) texts loading → LoadAs k (text ∷ texts) (with_file reading loading)
first_loads k text texts (spells unit places) (units trees others) h x = (h, x)
first_loads k text texts (spells unit places) (stopped fault) h x =
    let e : k + 1 + length x.before ≡ k + length (text ∷ x.before) = omega arith in
    record {
      before = text ∷ x.before;
      text = x.text;
      rest = x.rest;
      trees = unit ∷ x.trees;
      places = places ∷ x.places;
      cut = ap (λ ts. text ∷ ts) x.cut;
      are_sources = (h, x.are_sources);
      refusal = subst (λ j. TextReadsAs j x.text (refused fault)) e x.refusal;
    }
first_loads k text texts (refused fault) loading h x =
    let e : k ≡ k + length {A = Option (List ℕ)} [] = omega arith in
    record {
      before = [];
      text = text;
      rest = texts;
      trees = [];
      places = [];
      cut = refl;
      are_sources = tt;
      refusal = subst (λ j. TextReadsAs j text (refused fault)) e h;
    }

loads : (k : ℕ) (texts : Texts) → AreRead → LoadAs k texts (load_from k texts)
loads k [] are = tt
loads k (text ∷ texts) are = first_loads k text texts (read_file k text) (load_from (k + 1) texts) (reads_text k text are) (loads (k + 1) texts are)

-- Files that are read as units are loaded as these.
units_load : (k : ℕ) (texts : Texts) (trees : List p.SourceUnit) (places : List (List Place)) → AreRead → AreSourcesOf k texts trees places → load_from k texts ≡ units trees places
units_load k [] [] [] are h = refl
units_load k [] [] (m ∷ ms) are h = absurd h
units_load k [] (u ∷ us) ms are h = absurd h
units_load k (text ∷ texts) [] ms are h = absurd h
units_load k (text ∷ texts) (u ∷ us) [] are h = absurd h
units_load k (text ∷ texts) (u ∷ us) (m ∷ ms) are h =
    ap (λ r. with_file r (load_from (k + 1) texts)) (text_is_read k text (spells u m) are h.0) ∙ ap (with_file (spells u m)) (units_load (k + 1) texts us ms are h.1)

-- Behind files that are read as units, one that is refused stops the loading.
refusal_stops : (k : ℕ) (before : Texts) (text : Option (List ℕ)) (rest : Texts) (trees : List p.SourceUnit) (places : List (List Place)) (fault : LoadFault) → AreRead → AreSourcesOf k before trees places → read_file (k + length before) text ≡ refused fault → load_from k (before ++ text ∷ rest) ≡ stopped fault
refusal_stops k [] text rest us ms fault are h e =
    let same : k ≡ k + length {A = Option (List ℕ)} [] = omega arith in
    ap (λ r. with_file r (load_from (k + 1) rest)) (ap (λ j. read_file j text) same ∙ e)
refusal_stops k (first ∷ before) text rest [] ms fault are h e = absurd h
refusal_stops k (first ∷ before) text rest (u ∷ us) [] fault are h e = absurd h
refusal_stops k (first ∷ before) text rest (u ∷ us) (m ∷ ms) fault are h e =
    let same : k + 1 + length before ≡ k + length (first ∷ before) = omega arith in
    ap (λ r. with_file r (load_from (k + 1) (before ++ text ∷ rest))) (text_is_read k first (spells u m) are h.0)
    ∙ ap (with_file (spells u m)) (refusal_stops (k + 1) before text rest us ms fault are h.1 (ap (λ j. read_file j text) same ∙ e))

is_loaded : (k : ℕ) (texts : Texts) (loading : Loading) → AreRead → LoadAs k texts loading → load_from k texts ≡ loading
is_loaded k texts (units trees places) are h = units_load k texts trees places are h
is_loaded k texts (stopped fault) are h =
    ap (load_from k) h.cut ∙ refusal_stops k h.before h.text h.rest h.trees h.places fault are h.are_sources (text_is_read (k + length h.before) h.text (refused fault) are h.refusal)

pub loaded_is : (k : ℕ) (texts : Texts) (loading : Loading) → AreRead → load_from k texts ≡ loading ↔ LoadAs k texts loading
loaded_is k texts loading are = (λ e. subst (LoadAs k texts) e (loads k texts are), is_loaded k texts loading are)
