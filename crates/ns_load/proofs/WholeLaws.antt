-- What was read is whole.
use Rattle.std.proofs.Common.{rules, ◌≡◌, ◌<◌, ℕ, suc, ◌+◌, ◌≤◌, List, [], ◌∷◌, ◌++◌, length, map, take, Bool, true, false, cond, Option, Some, None, Result, Ok, Err, refl, ap, sym, subst, ◌∙◌, arith}
use Rattle.std.specs.Prelude.{◌==◌, ◌↔◌, All, IsUtf8, codes}
use Rattle.std.specs.Str.{IsAscii}
use Rattle.std.proofs.lemmas.Str.{IsUtf8-from_ascii}
use Rattle.std.proofs.lemmas.Str.Ascii.{IsAscii-nil, IsAscii-cons}
use Rattle.std.proofs.lemmas.List.Elements.{All-append, All-cons, All-nil}
use Rattle.std.proofs.lemmas.List.{length-map, length-append, length-take}
use Rattle.ns_base.specs.declared.place.Place.{Place}
use Rattle.ns_lex.specs.Scan.{Tokens, scan}
use Rattle.ns_lex.specs.Lexes.{Lexes}
use Rattle.ns_load.specs.Answer.{AreRead, IsRead}
use Rattle.ns_load.specs.Loaded.{file_names, library_name}
use Rattle.ns_load.specs.Place.{behind, marks, past, place_of, places, start}
use Rattle.ns_load.specs.Source.{parsed, read, scanned, spells}
use Rattle.ns_load.proofs.Lengths.{cut_count, cut_within}
use Rattle.ns_parse.specs.Parse.{parse, parse_by}
use Rattle.ns_parse_tokens.specs.Read.{Outcome}
use Rattle.ns_parse.specs.laws.SoundFile.{parse_spelled}
use Rattle.ns_scope.specs.Whole.{most_bytes, AllWithin, ArePlacesOf, IsPlaceOf, IsWholeUnit, AreWholeUnits, NamesFile, IsWhole}
use Rattle.ns_scope.specs.declared.program.Program.{Program}
use Rattle.ns_tree.specs.Deep.{deep}
use Rattle.ns_tree.specs.Flat.{flat}
use Rattle.ns_parse_tokens.specs.declared.fault.ParseFault.{ParseFault}
use Rattle.ns_tree.specs.Plain as p
use Rattle.ns_tree.specs.PlainOf.{unit_of}
use Rattle.ns_tree.specs.Tokens.{kinds}
use Rattle.ns_tree.specs.Tree.{AllHaveText}
use Rattle.ns_tree.specs.declared.token.Kind.{Kind}
use Rattle.ns_tree.specs.declared.token.Token.{Token}

-- The place is one of that file, with so many bytes before it at most.
abbrev IsBehind : ℕ → ℕ → Place → Type 0
IsBehind file count place =
    (place.file ≡ file) × ((1 ≤ place.line) × (place.line ≤ count + 1)) × ((1 ≤ place.col) × (place.col ≤ count + 1))

past_is_behind : (file count b : ℕ) (place : Place) → IsBehind file count place → IsBehind file (count + 1) (past b place)
past_is_behind file count b place h =
    let line = h.1.1 in
    let col = h.2.1 in
    elim (b == 10) as (λ q. IsBehind file (count + 1) (cond {A = Place} q (record { file = place.file; line = place.line + 1; col = 1 }) (record { file = place.file; line = place.line; col = place.col + 1 }))) [
      | true ↦ (h.0, (omega arith, omega (line, arith)), (omega arith, omega arith))
      | false ↦ (h.0, (h.1.0, omega (line, arith)), (omega arith, omega (col, arith)))
    ]

behind_is_behind : (file : ℕ) (bytes : List ℕ) (count : ℕ) (place : Place) → IsBehind file count place → IsBehind file (count + length bytes) (behind bytes place)
behind_is_behind file [] count place h = let z : count ≡ count + 0 = omega arith in subst (λ n. IsBehind file n place) z h
behind_is_behind file (b ∷ bs) count place h =
    let z : count + 1 + length bs ≡ count + length (b ∷ bs) = let l : length (b ∷ bs) ≡ suc (length bs) = refl in omega (l, arith) in
    subst (λ n. IsBehind file n (behind bs (past b place))) z (behind_is_behind file bs (count + 1) (past b place) (past_is_behind file count b place h))

pub place_is_of : (file : ℕ) (source : List ℕ) (offset : ℕ) → length source ≤ 1048576 → IsPlaceOf file (place_of file source offset)
place_is_of file source offset few =
    let first : IsBehind file 0 (start file) = (refl, (omega arith, omega arith), (omega arith, omega arith)) in
    let h = behind_is_behind file (take offset source) 0 (start file) first in
    let taken = length-take offset source in
    let line = h.1.1 in
    let col = h.2.1 in
    (h.0, (h.1.0, omega (line, taken, few, arith)), (h.2.0, omega (col, taken, few, arith)))

pub marks_are_of : (file : ℕ) (source : List ℕ) (tokens : List Token) (last : Place) → length source ≤ 1048576 → IsPlaceOf file last →
    ArePlacesOf file (places file source tokens ++ last ∷ [])
marks_are_of file source [] last few h = (h, tt)
marks_are_of file source (t ∷ ts) last few h = (place_is_of file source t.start few, marks_are_of file source ts last few h)

-- What is parsed has no bracket that is too deep.
shallow_by : (o : Option ℕ) (outcome : Outcome p.SourceUnit) (unit : p.SourceUnit) → parse_by o outcome ≡ Ok unit → o ≡ None
shallow_by None outcome unit e = refl
shallow_by (Some k) outcome unit e = absurd (cc (e))

shallow : (ts : List Kind) (unit : p.SourceUnit) → parse ts ≡ Ok unit → deep ts ≡ None
unfolding parse
shallow ts unit e = shallow_by (deep ts) _ unit e

-- What is known of sources: the tokens of a scan cut it, and those that cut it have texts.
pub record CutsKnown : Type 0 where
  pub scanned : (source : List ℕ) (tokens : List Token) → Lexes source tokens ↔ (scan source ≡ Ok tokens)
  pub told : (source : List ℕ) (tokens : List Token) → Lexes source tokens → AllHaveText (kinds tokens)

-- Tokens that cut a source and spell a unit, with the places that they have there, are a whole unit.
cut_whole : (known : CutsKnown) (file : ℕ) (source : List ℕ) (tokens : List Token) (unit : p.SourceUnit) → length source ≤ 1048576 → scan source ≡ Ok tokens → parse (kinds tokens) ≡ Ok unit → IsWholeUnit file unit (marks file source tokens)
cut_whole known file source tokens unit h s q =
    let cut = (known.scanned source tokens).1 s in
    let spells = parse_spelled (kinds tokens) unit (known.told source tokens cut) q in
    let long : length (flat unit) ≡ length tokens = ap length (sym spells.spelled) ∙ length-map tokens (λ token. token.kind) in
    record {
      tree = spells.tree;
      shallow = subst (λ ts. deep ts ≡ None) spells.spelled (shallow (kinds tokens) unit q);
      few = omega (arith, long, h, cut_count 0 source tokens (length source) [] cut);
      short = subst (AllWithin most_bytes) spells.spelled (cut_within most_bytes 0 source tokens (length source) [] h cut);
      one_longer = length-append (places file source tokens) (place_of file source (length source) ∷ []) ∙ ap (λ n. n + 1) (length-map tokens (λ token. place_of file source token.start) ∙ sym long);
      placed = marks_are_of file source tokens (place_of file source (length source)) h (place_is_of file source (length source) h);
    }

parsed_whole : (known : CutsKnown) (file : ℕ) (source : List ℕ) (tokens : List Token) (unit : p.SourceUnit) (ps : List Place) (r : Result p.SourceUnit ParseFault) → length source ≤ 1048576 → scan source ≡ Ok tokens → parse (kinds tokens) ≡ r → parsed file source tokens r ≡ spells unit ps → IsWholeUnit file unit ps
parsed_whole known file source tokens unit ps (Ok u) h s q e =
    let eu : u ≡ unit = cc (e) in
    let em : marks file source tokens ≡ ps = cc (e) in
    subst (IsWholeUnit file unit) em (cut_whole known file source tokens unit h s (q ∙ ap Ok eu))
parsed_whole known file source tokens unit ps (Err fault) h s q e = absurd (cc (e))

scanned_whole : (known : CutsKnown) (file : ℕ) (source : List ℕ) (unit : p.SourceUnit) (ps : List Place) (s : Tokens) → length source ≤ 1048576 → scan source ≡ s → scanned file source s ≡ spells unit ps → IsWholeUnit file unit ps
scanned_whole known file source unit ps (Ok tokens) h s e = parsed_whole known file source tokens unit ps (parse (kinds tokens)) h s refl e
scanned_whole known file source unit ps (Err fault) h s e = absurd (cc (e))

pub read_is_whole : (known : CutsKnown) (file : ℕ) (unit : p.SourceUnit) (ps : List Place) → IsRead file unit ps → IsWholeUnit file unit ps
read_is_whole known file unit ps r = scanned_whole known file r.0 unit ps (scan r.0) r.1 refl r.2

pub are_whole : (known : CutsKnown) (file : ℕ) (units : List p.SourceUnit) (places : List (List Place)) → AreRead file units places → AreWholeUnits file units places
are_whole known file [] [] h = tt
are_whole known file [] (ps ∷ others) h = absurd h
are_whole known file (unit ∷ more) [] h = absurd h
are_whole known file (unit ∷ more) (ps ∷ others) h = (read_is_whole known file unit ps h.0, are_whole known (file + 1) more others h.1)

-- ---- whole programs

-- Bytes below 128 are ASCII.
AllBelow128 : List ℕ → Type 0
AllBelow128 [] = Unit {0}
AllBelow128 (b ∷ bs) = (b < 128) × AllBelow128 bs

ascii : (bs : List ℕ) → AllBelow128 bs → IsAscii bs
unfolding AllBelow128
ascii [] h = IsAscii-nil
ascii (b ∷ bs) h = IsAscii-cons b bs h.0 (ascii bs h.1)

library_is_text : IsUtf8 (codes "lib:Collections")
unfolding AllBelow128
library_is_text = IsUtf8-from_ascii (codes "lib:Collections") (ascii (codes "lib:Collections") (search (rules, arith)))

library_is_named : (lib : Bool) → All NamesFile (library_name lib)
library_is_named true = All-cons NamesFile (codes "lib:Collections") [] (library_is_text, (λ e. cc (e)), omega arith) (All-nil NamesFile)
library_is_named false = All-nil NamesFile

names_longer : (names : List (List ℕ)) (lib : Bool) → (length names ≤ length (file_names names lib)) × (length (file_names names lib) ≤ length names + 1)
names_longer names true = let e = length-append names (library_name true) in (omega (arith, e), omega (arith, e))
names_longer names false = let e = length-append names (library_name false) in (omega (arith, e), omega (arith, e))

pub loaded_is_whole : (known : CutsKnown) (program : Program) (names : List (List ℕ)) (lib : Bool) → 1 ≤ length names → length names ≤ 16 → All NamesFile names
    → program.files ≡ file_names names lib → length program.units ≡ length program.files → AreRead 0 (map unit_of program.units) program.marks → IsWhole program
loaded_is_whole known program names lib some few named files count read =
    record {
      some = omega (arith, some, count, ap length files, (names_longer names lib).0);
      not_many = omega (arith, few, count, ap length files, (names_longer names lib).1);
      units = are_whole known 0 (map unit_of program.units) program.marks read;
      one_name_each = sym count;
      names = subst (All NamesFile) (sym files) (All-append NamesFile names (library_name lib) named (library_is_named lib));
    }
