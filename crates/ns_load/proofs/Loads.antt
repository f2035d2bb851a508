-- Files one after another.
use Rattle.std.proofs.Common.{◌≡◌, ◌≢◌, ℕ, ◌+◌, ◌<◌, List, [], ◌∷◌, ◌++◌, length, map, take, drop, get_or, Bool, Option, Some, refl, ap, sym, subst, ◌∙◌, arith, append_assoc, IsSome, Result, Ok, Err, MatchResult}
use Rattle.std.specs.Prelude.{slice_get, IsSomeAnd, IfErr}
use Rattle.std.proofs.lemmas.List.{map_more, take_more, map-append, length-map, length-append, length-take-le, drop_more, take-append-drop}
use Rattle.std.proofs.lemmas.Option.{slice_get-get_or}
use Rattle.ns_base.specs.Files.{Files}
use Rattle.ns_base.specs.Shelf.{OnlyRead}
use Rattle.ns_base.specs.declared.place.Place.{Place}
use Rattle.ns_load.specs.Answer.{AreRead, AreUnits, IsRead, IsReached, IsSpelling, AnswerTells, TellsFault, TellsFileFault}
use Rattle.ns_load.specs.Loaded.{Loading, units, stopped, after, with_file, load_from, library, loaded}
use Rattle.ns_load.specs.Source.{FileReading, spells, refused, read_file}
use Rattle.ns_load.specs.declared.fault.LoadCause.TheVariants.{Missing, TooLong, ReadFault, Spelling}
use Rattle.ns_load.specs.declared.fault.LoadFault.{LoadFault}
use Rattle.ns_load.specs.declared.fault.LoadFault.TheVariants.{At, Memory}
use Rattle.ns_scope.specs.declared.program.Program.{Program}
use Rattle.ns_tree.specs.Plain as p
use Rattle.ns_tree.specs.PlainOf.{unit_of}

-- Units behind units.
pub after_both : (us vs : List p.SourceUnit) (ms ns : List (List Place)) (rest : Loading) → after us ms (after vs ns rest) ≡ after (us ++ vs) (ms ++ ns) rest
after_both us vs ms ns (units ws os) = cc (append_assoc us vs ws, append_assoc ms ns os)
after_both us vs ms ns (stopped fault) = refl

-- One file before files that are units.
pub after_file : (r : FileReading) (l whole rest : Loading) (us : List p.SourceUnit) (ms : List (List Place)) → with_file r l ≡ units us ms
    → ((vs : List p.SourceUnit) (ns : List (List Place)) → l ≡ units vs ns → whole ≡ after vs ns rest) → with_file r whole ≡ after us ms rest
after_file (spells u m) (units vs ns) whole rest us ms e next =
    let eu : u ∷ vs ≡ us = cc (e) in
    let em : m ∷ ns ≡ ms = cc (e) in
    ap (after (u ∷ []) (m ∷ [])) (next vs ns refl) ∙ after_both (u ∷ []) vs (m ∷ []) ns rest ∙ ap (λ xs. after xs (m ∷ ns) rest) eu ∙ ap (λ xs. after us xs rest) em
after_file (spells u m) (stopped fault) whole rest us ms e next = absurd (cc (e))
after_file (refused fault) l whole rest us ms e next = absurd (cc (e))

-- Files behind files that are units.
pub behind_units : (k : ℕ) (xs ys : List (Option (List ℕ))) (us : List p.SourceUnit) (ms : List (List Place)) → load_from k xs ≡ units us ms → load_from k (xs ++ ys) ≡ after us ms (load_from (k + length xs) ys)
behind_units k [] ys us ms e =
    let eu : [] ≡ us = cc (e) in
    let em : [] ≡ ms = cc (e) in
    let ek : k ≡ k + length {A = Option (List ℕ)} [] = omega arith in
    no_units (load_from k ys) ∙ ap (λ n. after [] [] (load_from n ys)) ek ∙ ap (λ us. after us [] (load_from (k + length {A = Option (List ℕ)} []) ys)) eu ∙ ap (λ ms. after us ms (load_from (k + length {A = Option (List ℕ)} []) ys)) em
  where
    no_units : (l : Loading) → l ≡ after [] [] l
    no_units (units trees places) = refl
    no_units (stopped fault) = refl
behind_units k (x ∷ xs) ys us ms e =
    let ek : k + 1 + length xs ≡ k + length (x ∷ xs) = omega arith in
    after_file (read_file k x) (load_from (k + 1) xs) (load_from (k + 1) (xs ++ ys)) (load_from (k + length (x ∷ xs)) ys) us ms e
    (λ vs ns h. behind_units (k + 1) xs ys vs ns h ∙ ap (λ n. after vs ns (load_from n ys)) ek)

-- A file behind files that are units: one more unit, or the fault that stops.
pub one_more : (xs : List (Option (List ℕ))) (x : Option (List ℕ)) (us : List p.SourceUnit) (ms : List (List Place)) (u : p.SourceUnit) (m : List Place) → load_from 0 xs ≡ units us ms → read_file (length xs) x ≡ spells u m → load_from 0 (xs ++ x ∷ []) ≡ units (us ++ u ∷ []) (ms ++ m ∷ [])
one_more xs x us ms u m e r =
    let z : 0 + length xs ≡ length xs = omega arith in
    behind_units 0 xs (x ∷ []) us ms e ∙ ap (λ n. after us ms (load_from n (x ∷ []))) z ∙ ap (λ q. after us ms (with_file q (units [] []))) r

pub stops : (xs : List (Option (List ℕ))) (x : Option (List ℕ)) (ys : List (Option (List ℕ))) (us : List p.SourceUnit) (ms : List (List Place)) (fault : LoadFault) → load_from 0 xs ≡ units us ms → read_file (length xs) x ≡ refused fault → load_from 0 (xs ++ x ∷ ys) ≡ stopped fault
stops xs x ys us ms fault e r =
    let z : 0 + length xs ≡ length xs = omega arith in
    behind_units 0 xs (x ∷ ys) us ms e ∙ ap (λ n. after us ms (load_from n (x ∷ ys))) z ∙ ap (λ q. after us ms (with_file q (load_from (length xs + 1) ys))) r

-- ---- the files of names

pub so_many : (files : Files) (names : List (List ℕ)) (i : ℕ) → i < length names → length (map files (take i names)) ≡ i
so_many files names i l = length-map (take i names) files ∙ length-take-le i names (omega arith)

-- The next file is a unit.
pub next_file : (files : Files) (names : List (List ℕ)) (i k : ℕ) (name : List ℕ) (us vs : List p.SourceUnit) (ms ns : List (List Place)) (u : p.SourceUnit) (m : List Place)
    → i < length names → name ≡ get_or names i name → k ≡ i → load_from 0 (map files (take i names)) ≡ units us ms → read_file k (files name) ≡ spells u m → vs ≡ us ++ u ∷ [] → ns ≡ ms ++ m ∷ []
    → load_from 0 (map files (take (i + 1) names)) ≡ units vs ns
next_file files names i k name us vs ms ns u m l is at e r eu em =
    let more : map files (take (i + 1) names) ≡ map files (take i names) ++ files name ∷ [] = map_more files names i name l ∙ ap (λ n. map files (take i names) ++ files n ∷ []) (sym is) in
    ap (load_from 0) more
    ∙ one_more (map files (take i names)) (files name) us ms u m e (ap (λ n. read_file n (files name)) (so_many files names i l ∙ sym at) ∙ r)
    ∙ ap (λ xs. units xs (ms ++ m ∷ [])) (sym eu)
    ∙ ap (units vs) (sym em)

-- The next file is refused.
pub refused_file : (files : Files) (names : List (List ℕ)) (lib : Bool) (i k : ℕ) (name : List ℕ) (us : List p.SourceUnit) (ms : List (List Place)) (fault : LoadFault)
    → i < length names → name ≡ get_or names i name → k ≡ i → load_from 0 (map files (take i names)) ≡ units us ms → read_file k (files name) ≡ refused fault → loaded names lib files ≡ stopped fault
refused_file files names lib i k name us ms fault l is at e r =
    let cut : names ≡ take i names ++ name ∷ drop (i + 1) names = sym (take-append-drop i names) ∙ ap (λ xs. take i names ++ xs) (drop_more names i name l ∙ ap (λ n. n ∷ drop (i + 1) names) (sym is)) in
    let mapped : map files names ≡ map files (take i names) ++ files name ∷ map files (drop (i + 1) names) = ap (map files) cut ∙ map-append files (take i names) (name ∷ drop (i + 1) names) in
    ap (load_from 0) (ap (λ xs. xs ++ library lib) mapped ∙ append_assoc (map files (take i names)) (files name ∷ map files (drop (i + 1) names)) (library lib))
    ∙ stops (map files (take i names)) (files name) (map files (drop (i + 1) names) ++ library lib) us ms fault e (ap (λ n. read_file n (files name)) (so_many files names i l ∙ sym at) ∙ r)

-- The fault of the next file is that of the files.
pub next_fault : (files : Files) (names : List (List ℕ)) (i k : ℕ) (name : List ℕ) (us : List p.SourceUnit) (ms : List (List Place)) (fault : LoadFault)
    → i < length names → name ≡ get_or names i name → k ≡ i → load_from 0 (map files (take i names)) ≡ units us ms → TellsFileFault k (files name) fault → (lib : Bool) → TellsFault names lib files fault
next_fault files names i k name us ms (At Missing f) l is at e t = λ lib. refused_file files names lib i k name us ms (At Missing f) l is at e t
next_fault files names i k name us ms (At TooLong f) l is at e t = λ lib. refused_file files names lib i k name us ms (At TooLong f) l is at e t
next_fault files names i k name us ms (At ReadFault f) l is at e t = λ lib. subst (IsReached names files) (sym (t.0 ∙ at)) (held, reached)
  where
    held : IsSomeAnd (slice_get names i) (λ name. IsSome (files name))
    held = subst (λ o. IsSomeAnd o (λ name. IsSome (files name))) (sym (slice_get-get_or names i name l ∙ ap Some (sym is))) t.1

    reached : AreUnits (load_from 0 (map files (take i names)))
    reached = subst AreUnits (sym e) tt
next_fault files names i k name us ms (At (Spelling wrong place) f) l is at e t = λ lib. refused_file files names lib i k name us ms (At (Spelling wrong place) f) l is at e t
next_fault files names i k name us ms Memory l is at e t = λ lib. tt

-- Where all files are units, the library decides.
pub then_library : (files : Files) (names : List (List ℕ)) (lib : Bool) (us : List p.SourceUnit) (ms : List (List Place)) → load_from 0 (map files names) ≡ units us ms → loaded names lib files ≡ after us ms (load_from (length names) (library lib))
then_library files names lib us ms e =
    let n : 0 + length (map files names) ≡ length names = omega (arith, length-map names files) in
    behind_units 0 (map files names) (library lib) us ms e ∙ ap (λ k. after us ms (load_from k (library lib))) n

-- A text's fault that is the files' is told.
pub spelled_fault : (names : List (List ℕ)) (lib : Bool) (files : Files) (fault : LoadFault) → IsSpelling fault → (fault ≢ Memory → loaded names lib files ≡ stopped fault) → TellsFault names lib files fault
spelled_fault names lib files (At Missing k) s h = absurd s
spelled_fault names lib files (At TooLong k) s h = absurd s
spelled_fault names lib files (At ReadFault k) s h = absurd s
spelled_fault names lib files (At (Spelling wrong place) k) s h = h (λ e. cc (e))
spelled_fault names lib files Memory s h = tt

-- ---- what is read

pub one_more_read : (k : ℕ) (us : List p.SourceUnit) (ms : List (List Place)) (u : p.SourceUnit) (m : List Place) → AreRead k us ms → IsRead (k + length us) u m → AreRead k (us ++ u ∷ []) (ms ++ m ∷ [])
one_more_read k [] [] u m a r =
    let n : k + length {A = p.SourceUnit} [] ≡ k = omega arith in
    (subst (λ j. IsRead j u m) n r, tt)
one_more_read k [] (n ∷ ns) u m a r = absurd a
one_more_read k (v ∷ vs) [] u m a r = absurd a
one_more_read k (v ∷ vs) (n ∷ ns) u m a r =
    let e : k + length (v ∷ vs) ≡ k + 1 + length vs = omega arith in
    (a.0, one_more_read (k + 1) vs ns u m a.1 (subst (λ j. IsRead j u m) e r))

pub one_longer : {X : Type 0} (xs ys : List X) (x : X) (n : ℕ) → ys ≡ xs ++ x ∷ [] → length xs ≡ n → length ys ≡ n + 1
one_longer xs ys x n e l = omega (arith, ap length e, length-append xs (x ∷ []))

pub next_name : (names : List (List ℕ)) (i : ℕ) (name : List ℕ) (kept more : List (List ℕ)) → i < length names → name ≡ get_or names i name → kept ≡ take i names → more ≡ kept ++ name ∷ [] → more ≡ take (i + 1) names
next_name names i name kept more l is k m =
    m ∙ ap (λ xs. xs ++ name ∷ []) k ∙ ap (λ n. take i names ++ n ∷ []) is ∙ sym (take_more names i name l)

pub next_read : (k : ℕ) (us vs : List p.SourceUnit) (ms ns : List (List Place)) (u : p.SourceUnit) (m : List Place) → AreRead 0 us ms → k ≡ length us → IsRead k u m → vs ≡ us ++ u ∷ [] → ns ≡ ms ++ m ∷ [] → AreRead 0 vs ns
next_read k us vs ms ns u m a e r eu em =
    let at : k ≡ 0 + length us = omega (arith, e) in
    let b : AreRead 0 (us ++ u ∷ []) (ms ++ m ∷ []) = one_more_read 0 us ms u m a (subst (λ j. IsRead j u m) at r) in
    subst (λ xs. AreRead 0 xs ns) (sym eu) (subst (AreRead 0 (us ++ u ∷ [])) (sym em) b)

-- What is answered of the library behind the files is told of all.
pub library_tells : (files : Files) (names : List (List ℕ)) (lib : Bool) (us : List p.SourceUnit) (ms : List (List Place)) (n : ℕ) (result : Result Program LoadFault) → load_from 0 (map files names) ≡ units us ms → n ≡ length names
    → MatchResult result (λ program. after us ms (load_from n (library lib)) ≡ units (map unit_of program.units) program.marks) (λ fault. fault ≢ Memory → after us ms (load_from n (library lib)) ≡ stopped fault)
    → IfErr result IsSpelling → AnswerTells names lib files result
library_tells files names lib us ms n (Ok program) e at m s = then_library files names lib us ms e ∙ ap (λ k. after us ms (load_from k (library lib))) (sym at) ∙ m
library_tells files names lib us ms n (Err fault) e at m s =
    spelled_fault names lib files fault s (λ w. then_library files names lib us ms e ∙ ap (λ k. after us ms (load_from k (library lib))) (sym at) ∙ m w)

-- What was only read, and then only read again, was only read.
pub read_on : {S : Type 0} (holds : S → Option Files) (misses faults store_faults : S → ℕ) (first second third : S)
    → OnlyRead holds misses faults store_faults first second → OnlyRead holds misses faults store_faults second third
    → OnlyRead holds misses faults store_faults first third
read_on holds misses faults store_faults first second third a b =
    (b.0 ∙ a.0, b.1 ∙ a.1, omega (arith, a.2, b.2), omega (arith, a.3, b.3))
