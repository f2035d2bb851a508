-- Texts of which an answer tells, also where the shelf tells none.
use Rattle.std.proofs.Common.{◌≡◌, ◌≢◌, ℕ, ◌+◌, ◌-◌, ◌<◌, ◌≤◌, zero, suc, List, [], ◌∷◌, ◌++◌, length, map, nat_lt, Bool, false, cond, Option, Some, None, refl, ap, sym, subst, ◌∙◌, arith, append_assoc, Result, Ok, Err, MatchResult}
use Rattle.std.specs.Prelude.{All, IfErr, IfOk, IsErrAnd}
use Rattle.std.proofs.lemmas.Bool.{le-ltb}
use Rattle.std.proofs.lemmas.List.{length-append}
use Rattle.ns_base.specs.declared.place.Place.{Place}
use Rattle.ns_load.specs.Answer.{AreRead, HasRefusedTexts, IsOfSomeText, HasTexts, IsFaultOfTexts, IsOfTexts, IsSpelling}
use Rattle.ns_load.specs.Loaded.{Loading, units, stopped, after, load_from, file_names, library, loaded_texts, with_file}
use Rattle.ns_load.specs.Source.{FileReading, spells, refused, read, read_bytes, read_file}
use Rattle.ns_load.specs.declared.fault.LoadCause.TheVariants.{Missing, TooLong, ReadFault, Spelling}
use Rattle.ns_load.specs.declared.fault.LoadFault.{LoadFault}
use Rattle.ns_load.specs.declared.fault.LoadFault.TheVariants.{At, Memory}
use Rattle.ns_load.specs.declared.read.Source.{Source}
use Rattle.ns_load.proofs.Loads.{behind_units, stops}
use Rattle.ns_scope.specs.Whole.{NamesFile, IsWhole}
use Rattle.ns_scope.specs.declared.program.Program.{Program}
use Rattle.ns_tree.specs.Plain as p
use Rattle.ns_tree.specs.PlainOf.{unit_of}

-- The fault of bytes that were loaded is that of a file that has them.
pub bytes_fault : (k : ℕ) (bytes : List ℕ) (fault : LoadFault) → (fault ≢ Memory → read_bytes k bytes ≡ refused fault) → IsOfSomeText k fault
bytes_fault k bytes (At Missing file) m = (Some bytes, m (λ e. cc (e)))
bytes_fault k bytes (At TooLong file) m = (Some bytes, m (λ e. cc (e)))
bytes_fault k bytes (At ReadFault file) m = (None, tt)
bytes_fault k bytes (At (Spelling wrong place) file) m = (Some bytes, m (λ e. cc (e)))
bytes_fault k bytes Memory m = (None, tt)

pub result_fault : (k : ℕ) (bytes : List ℕ) (result : Result Source LoadFault)
    → MatchResult result (λ r. read_bytes k bytes ≡ spells (unit_of r.unit) r.marks) (λ fault. fault ≢ Memory → read_bytes k bytes ≡ refused fault) → IfErr result (IsOfSomeText k)
result_fault k bytes (Ok source) m = tt
result_fault k bytes (Err fault) m = bytes_fault k bytes fault m

-- ---- the texts of what was read

-- These texts are loaded as these units.
pub record TextsOf (k : ℕ) (us : List p.SourceUnit) (ms : List (List Place)) : Type 0 where
  pub texts : List (Option (List ℕ))
  pub count : length texts ≡ length us
  pub load : load_from k texts ≡ units us ms

pub texts_of : (k : ℕ) (us : List p.SourceUnit) (ms : List (List Place)) → AreRead k us ms → TextsOf k us ms
texts_of k [] [] h = record { texts = []; count = refl; load = refl }
texts_of k [] (m ∷ ms) h = absurd h
texts_of k (u ∷ us) [] h = absurd h
texts_of k (u ∷ us) (m ∷ ms) h =
    let t : TextsOf (k + 1) us ms = texts_of (k + 1) us ms h.1 in
    let source = h.0.0 in
    let short : nat_lt 1048576 (length source) ≡ false = le-ltb 1048576 (length source) h.0.1 in
    let e : read_file k (Some source) ≡ spells u m = ap (λ b. cond b (refused (At TooLong k)) (read k source)) short ∙ h.0.2 in
    record { texts = Some source ∷ t.texts; count = omega (arith, t.count); load = loaded_so (read_file k (Some source)) e (load_from (k + 1) t.texts) t.load }
  where
    loaded_so : (r : FileReading) → r ≡ spells u m → (l : Loading) → l ≡ units us ms → with_file r l ≡ units (u ∷ us) (m ∷ ms)
    loaded_so r e l f = rw (e, f) refl

-- ---- a fault

-- no text for each of these
abbrev nones : ℕ → List (Option (List ℕ))
nones zero = []
nones (suc n) = None ∷ nones n

length-nones : (n : ℕ) → length (nones n) ≡ n
length-nones zero = refl
length-nones (suc n) = omega (arith, length-nones n)

pub no_texts : (names : List (List ℕ)) (fault : LoadFault) → ((texts : List (Option (List ℕ))) (lib : Bool) → IsFaultOfTexts texts lib fault) → HasRefusedTexts names fault
no_texts names fault f = (nones (length names), length-nones (length names), λ lib. f (nones (length names)) lib)

pub memory_texts : (names : List (List ℕ)) → HasRefusedTexts names Memory
memory_texts names = no_texts names Memory (λ texts lib. tt)

pub memory_result : (names : List (List ℕ)) (result : Result (Unit {0}) LoadFault) → IsErrAnd result (λ e. e ≡ Memory) → IfErr result (HasRefusedTexts names)
memory_result names (Ok x) h = tt
memory_result names (Err e) h = subst (HasRefusedTexts names) (sym h) (memory_texts names)

-- The fault of a file behind files that are units is that of the texts.
refused_texts : (names : List (List ℕ)) (us : List p.SourceUnit) (ms : List (List Place)) (text : Option (List ℕ)) (fault : LoadFault) → TextsOf 0 us ms → length us < length names → read_file (length us) text ≡ refused fault
    → (texts : List (Option (List ℕ))) × (length texts ≡ length names) × ((lib : Bool) → loaded_texts texts lib ≡ stopped fault)
refused_texts names us ms text fault t l e =
    let more : ℕ = length names - (length us + 1) in (
      t.texts ++ text ∷ nones more,
      omega (arith, length-append t.texts (text ∷ nones more), length-nones more, t.count),
      λ lib. ap (load_from 0) (append_assoc t.texts (text ∷ nones more) (library lib)) ∙ stops t.texts text (nones more ++ library lib) us ms fault t.load (ap (λ n. read_file n text) t.count ∙ e),
    )

pub fault_texts : (names : List (List ℕ)) (k : ℕ) (us : List p.SourceUnit) (ms : List (List Place)) (fault : LoadFault) → AreRead 0 us ms → k ≡ length us → k < length names → IsOfSomeText k fault → HasRefusedTexts names fault
fault_texts names k us ms (At Missing f) a e l (text, h) = refused_texts names us ms text (At Missing f) (texts_of 0 us ms a) (subst (λ n. n < length names) e l) (subst (λ n. read_file n text ≡ refused (At Missing f)) e h)
fault_texts names k us ms (At TooLong f) a e l (text, h) = refused_texts names us ms text (At TooLong f) (texts_of 0 us ms a) (subst (λ n. n < length names) e l) (subst (λ n. read_file n text ≡ refused (At TooLong f)) e h)
fault_texts names k us ms (At ReadFault f) a e l (text, h) = no_texts names (At ReadFault f) (λ texts lib. tt)
fault_texts names k us ms (At (Spelling wrong place) f) a e l (text, h) =
    refused_texts names us ms text (At (Spelling wrong place) f) (texts_of 0 us ms a) (subst (λ n. n < length names) e l) (subst (λ n. read_file n text ≡ refused (At (Spelling wrong place) f)) e h)
fault_texts names k us ms Memory a e l (text, h) = memory_texts names

-- ---- all files

-- What is loaded for 1 to 16 names is a whole program.
abbrev pub LoadedIsWhole : Type 0
LoadedIsWhole = (program : Program) (names : List (List ℕ)) (lib : Bool) → 1 ≤ length names → length names ≤ 16 → All NamesFile names
    → program.files ≡ file_names names lib → length program.units ≡ length program.files → AreRead 0 (map unit_of program.units) program.marks → IsWhole program

-- What is known of a result, one after another, makes it whole.
pub result_whole : LoadedIsWhole → (names : List (List ℕ)) (lib : Bool) (files : List (List ℕ)) (result : Result Program LoadFault) → 1 ≤ length names → length names ≤ 16 → All NamesFile names → files ≡ names
    → IfOk result (λ program. program.files ≡ file_names files lib) → IfOk result (λ program. length program.units ≡ length program.files)
    → IfOk result (λ program. AreRead 0 (map unit_of program.units) program.marks) → IfOk result IsWhole
result_whole whole names lib files (Ok program) some few named same f c r = whole program names lib some few named (f ∙ ap (λ ns. file_names ns lib) same) c r
result_whole whole names lib files (Err fault) some few named same f c r = tt

spelled_texts : (texts : List (Option (List ℕ))) (lib : Bool) (fault : LoadFault) → IsSpelling fault → (fault ≢ Memory → loaded_texts texts lib ≡ stopped fault) → IsFaultOfTexts texts lib fault
spelled_texts texts lib (At Missing k) s h = absurd s
spelled_texts texts lib (At TooLong k) s h = absurd s
spelled_texts texts lib (At ReadFault k) s h = tt
spelled_texts texts lib (At (Spelling wrong place) k) s h = h (λ e. cc (e))
spelled_texts texts lib Memory s h = tt

-- What is answered of the library behind files that were read is told of the texts.
pub library_texts : (names : List (List ℕ)) (lib : Bool) (us : List p.SourceUnit) (ms : List (List Place)) (n : ℕ) (result : Result Program LoadFault) → AreRead 0 us ms → n ≡ length names → length us ≡ n
    → MatchResult result (λ program. after us ms (load_from n (library lib)) ≡ units (map unit_of program.units) program.marks) (λ fault. fault ≢ Memory → after us ms (load_from n (library lib)) ≡ stopped fault)
    → IfErr result IsSpelling → HasTexts names lib result
library_texts names lib us ms n result a at count m s = (t.texts, t.count ∙ count ∙ at, so result m s)
  where
    t : TextsOf 0 us ms
    t = texts_of 0 us ms a

    behind : loaded_texts t.texts lib ≡ after us ms (load_from n (library lib))
    behind =
        let z : 0 + length t.texts ≡ n = omega (arith, t.count, count) in
        behind_units 0 t.texts (library lib) us ms t.load ∙ ap (λ k. after us ms (load_from k (library lib))) z

    so : (result : Result Program LoadFault) → MatchResult result (λ program. after us ms (load_from n (library lib)) ≡ units (map unit_of program.units) program.marks) (λ fault. fault ≢ Memory → after us ms (load_from n (library lib)) ≡ stopped fault)
        → IfErr result IsSpelling → IsOfTexts t.texts lib result
    so (Ok program) m s = behind ∙ m
    so (Err fault) m s = spelled_texts t.texts lib fault s (λ w. behind ∙ m w)
