-- What holds at the end, and is kept at each blank, comment and token, holds of each text whose scan has no fault.
use Rattle.std.proofs.Common.{◌≡◌, ℕ, zero, suc, ◌+◌, ◌≤◌, ◌<◌, Bool, true, false, List, [], ◌∷◌, ◌++◌, Ok, Err, length, take, drop, refl, sym, ap, subst, ◌∙◌, length-drop, arith}
use Rattle.std.proofs.lemmas.List.{take-append-drop}
use Rattle.ns_tree.specs.Tokens.{kinds}
use Rattle.ns_tree.specs.declared.token.Kind.{Kind}
use Rattle.ns_tree.specs.declared.token.Token.{Token}
use Rattle.ns_lex.specs.Bytes.{is_blank}
use Rattle.ns_lex.specs.Fault.{fault_at}
use Rattle.ns_lex.specs.Next.{next_piece}
use Rattle.ns_lex.specs.Piece.{Text}
use Rattle.ns_lex.specs.Scan.{Tokens, scan_from, before}
use Rattle.ns_lex.specs.declared.piece.Piece as lex
use Rattle.ns_lex.specs.declared.piece.Piece.TheVariants as lexed
use Rattle.ns_lex.specs.laws.Blanks.{blank_read}
use Rattle.ns_lex.specs.laws.Gaps.{IsPart}
use Rattle.ns_lex.specs.laws.Pieces.{next_gap, next_token, IsFirst}
use Rattle.ns_lex.specs.laws.Steps as scanning
use Rattle.ns_lex.specs.laws.Words.{length_taken}
use Rattle.ns_format.specs.declared.piece.Gap.{Gap}
use Rattle.ns_format.specs.declared.piece.Gap.TheVariants as gap
use Rattle.ns_format.specs.Pieces.{with_blank}

-- What may hold of a gap, the text behind it, and the kinds of the text's tokens.
abbrev pub Property : Type 1
Property = Gap → Text → List Kind → Type 0

-- It holds at the end, and is kept.
pub record Keeps (P : Property) : Type 0 where
  pub at_end : (g : Gap) → P g [] []
  pub at_blank : (g : Gap) (b : ℕ) (z : Text) (wanted : List Kind) → is_blank b ≡ true → P (with_blank b g) z wanted → P g (b ∷ z) wanted
  pub at_comment : (g : Gap) (b : ℕ) (w z : Text) (wanted : List Kind) → is_blank b ≡ false → next_piece (b ∷ (w ++ z)) ≡ lexed.Gap (length (b ∷ w))
      → P gap.Blanks z wanted → P g (b ∷ (w ++ z)) wanted
  pub at_token : (g : Gap) (w z : Text) (kind : Kind) (wanted : List Kind) → 0 < length w → next_piece (w ++ z) ≡ lexed.Token kind (length w)
      → P gap.Nothing z wanted → P g (w ++ z) (kind ∷ wanted)

one_blank : (b : ℕ) (z : Text) (n : ℕ) → is_blank b ≡ true → next_piece (b ∷ z) ≡ lexed.Gap n → n ≡ 1
one_blank b z n h e = let f : lexed.Gap 1 ≡ lexed.Gap n = sym (blank_read b z h) ∙ e in let g : 1 ≡ n = cc in sym g

shorter : (n l : ℕ) (z : Text) → 1 ≤ n → n ≤ length z → length z ≤ suc l → length (drop n z) ≤ l
shorter n l z some fits h = omega (arith, length-drop n z, some, fits, h)

-- a comment of n bytes behind its first
cut_comment : (P : Property) → Keeps P → (g : Gap) (b : ℕ) (y : Text) (n : ℕ) (wanted : List Kind) → is_blank b ≡ false → next_piece (b ∷ y) ≡ lexed.Gap (suc n) → n ≤ length y
    → P gap.Blanks (drop n y) wanted → P g (b ∷ y) wanted
cut_comment P keeps g b y n wanted blank e fits x =
    let same : take n y ++ drop n y ≡ y = take-append-drop n y in
    let size : suc n ≡ length (b ∷ take n y) = omega (arith, length_taken y n fits) in
    subst (λ v. P g (b ∷ v) wanted) same (keeps.at_comment g b (take n y) (drop n y) wanted blank (ap (λ v. next_piece (b ∷ v)) same ∙ e ∙ ap lexed.Gap size) x)

by_blank : (P : Property) → Keeps P → (v : Bool) (g : Gap) (b : ℕ) (y : Text) (n : ℕ) (wanted : List Kind) → is_blank b ≡ v → next_piece (b ∷ y) ≡ lexed.Gap (suc n) → n ≤ length y
    → ((g : Gap) → P g (drop n y) wanted) → P g (b ∷ y) wanted
by_blank P keeps true g b y n wanted blank e fits x =
    let f : suc n ≡ 1 = one_blank b y (suc n) blank e in
    let none : n ≡ 0 = omega (arith, f) in
    keeps.at_blank g b y wanted blank (subst (λ i. P (with_blank b g) (drop i y) wanted) none (x (with_blank b g)))
by_blank P keeps false g b y n wanted blank e fits x = cut_comment P keeps g b y n wanted blank e fits (x gap.Blanks)

cut_token : (P : Property) → Keeps P → (g : Gap) (z : Text) (n : ℕ) (kind : Kind) (wanted : List Kind) → next_piece z ≡ lexed.Token kind n → 0 < n → n ≤ length z → P gap.Nothing (drop n z) wanted → P g z (kind ∷ wanted)
cut_token P keeps g z n kind wanted e some fits x =
    let same : take n z ++ drop n z ≡ z = take-append-drop n z in
    let size : length (take n z) ≡ n = length_taken z n fits in
    subst (λ v. P g v (kind ∷ wanted)) same (keeps.at_token g (take n z) (drop n z) kind wanted (omega (arith, size, some)) (ap next_piece same ∙ e ∙ ap (lexed.Token kind) (sym size)) x)

-- the tokens behind a first one
behind_token : (t : Token) (r : Tokens) (ts : List Token) → before (t ∷ []) r ≡ Ok ts → (us : List Token) × (r ≡ Ok us) × (ts ≡ t ∷ us)
behind_token t (Ok us) ts e = (us, refl, sym (let f : t ∷ us ≡ ts = cc in f))
behind_token t (Err e) ts f = absurd cc

abbrev token_of : Kind → ℕ → ℕ → Token
token_of kind at n = record { kind = kind; start = at; «end» = at + n }

-- what holds of each text of at most so many bytes
abbrev Short : Property → ℕ → Type 0
Short P l = (at : ℕ) (z : Text) (ts : List Token) (g : Gap) → length z ≤ l → scan_from 0 at z ≡ Ok ts → P g z (kinds ts)

by_piece : (P : Property) → Keeps P → (l at b : ℕ) (y : Text) (p : lex.Piece) (ts : List Token) (g : Gap) → length (b ∷ y) ≤ suc l → next_piece (b ∷ y) ≡ p → Short P l → scan_from 0 at (b ∷ y) ≡ Ok ts → P g (b ∷ y) (kinds ts)
by_piece P keeps l at b y (lexed.Gap zero) ts g fits is below e = absurd (omega (arith, (next_gap b y 0 is).some))
by_piece P keeps l at b y (lexed.Gap (suc n)) ts g fits is below e =
    let part : IsPart (b ∷ y) (suc n) = next_gap b y (suc n) is in
    let rest : scan_from 0 (at + suc n) (drop n y) ≡ Ok ts = sym (scanning.gap_goes (b ∷ y) (suc n) at (omega arith) (sym is) (omega arith) part.size) ∙ e in
    by_blank P keeps (is_blank b) g b y n (kinds ts) refl is (omega (arith, part.size)) (λ h. below (at + suc n) (drop n y) ts h (omega (arith, length-drop n y, fits)) rest)
by_piece P keeps l at b y (lexed.Token kind n) ts g fits is below e =
    let first : IsFirst (b ∷ y) kind n = next_token b y kind n is in
    let low : 1 ≤ n = omega (arith, first.some) in
    let whole : before (token_of kind at n ∷ []) (scan_from 0 (at + n) (drop n (b ∷ y))) ≡ Ok ts = sym (scanning.token_goes (b ∷ y) kind n at (omega arith) (sym is) low first.token.size) ∙ e in
    let us = behind_token (token_of kind at n) (scan_from 0 (at + n) (drop n (b ∷ y))) ts whole in
    subst (λ v. P g (b ∷ y) (kinds v)) (sym us.2)
    (cut_token P keeps g (b ∷ y) n kind (kinds us.0) is first.some first.token.size (below (at + n) (drop n (b ∷ y)) us.0 gap.Nothing (shorter n l (b ∷ y) low first.token.size fits) us.1))
by_piece P keeps l at b y (lexed.Fault cause n) ts g fits is below e = let f : Err (fault_at cause (at + n)) ≡ Ok ts = sym (scanning.fault_goes (b ∷ y) cause n at (omega arith) (sym is)) ∙ e in absurd cc

abbrev ok_of : List Token → Tokens
ok_of ts = Ok ts

no_tokens : (at : ℕ) (ts : List Token) → scan_from 0 at [] ≡ Ok ts → [] ≡ ts
no_tokens at ts e = let f : ok_of [] ≡ ok_of ts = sym (scanning.ends at) ∙ e in cc

short : (P : Property) → Keeps P → (l : ℕ) → Short P l
short P keeps l at [] ts g fits e = subst (λ v. P g [] (kinds v)) (no_tokens at ts e) (keeps.at_end g)
short P keeps zero at (b ∷ y) ts g fits e = absurd (omega (arith, fits))
short P keeps (suc l) at (b ∷ y) ts g fits e = by_piece P keeps l at b y (next_piece (b ∷ y)) ts g fits refl (short P keeps l) e

-- What is kept holds of each text whose scan has no fault.
pub over_pieces : (P : Property) → Keeps P → (source : Text) (ts : List Token) (g : Gap) → scan_from 0 0 source ≡ Ok ts → P g source (kinds ts)
over_pieces P keeps source ts g e = short P keeps (length source) 0 source ts g (omega arith) e
