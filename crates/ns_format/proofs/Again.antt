-- A source that is laid out is cut into the same pieces again.
use Rattle.std.proofs.Common.{◌≡◌, ℕ, zero, suc, ◌+◌, ◌<◌, Bool, true, false, ◌==◌, if◌then◌else◌, List, [], ◌∷◌, ◌++◌, Ok, length, drop, refl, sym, ap, subst, ◌∙◌, append_assoc, length-append, arith}
use Rattle.std.specs.Prelude.{replicate}
use Rattle.std.proofs.Math.Seq.{take-append_seam, drop-append_seam}
use Rattle.ns_tree.specs.Tokens.{kinds}
use Rattle.ns_tree.specs.declared.token.Kind.{Kind}
use Rattle.ns_tree.specs.declared.token.Token.{Token}
use Rattle.ns_lex.specs.Bytes.{is_blank}
use Rattle.ns_lex.specs.Next.{next_piece}
use Rattle.ns_lex.specs.Piece.{Text}
use Rattle.ns_lex.specs.Scan.{scan_from, before}
use Rattle.ns_lex.specs.declared.piece.Piece.TheVariants as lexed
use Rattle.ns_lex.specs.laws.Blanks.{blank_read, refuse, accept}
use Rattle.ns_lex.specs.laws.Steps as scanning
use Rattle.ns_format.specs.declared.piece.Gap.{Gap}
use Rattle.ns_format.specs.declared.piece.Gap.TheVariants as gap
use Rattle.ns_format.specs.declared.piece.Mark.TheVariants as mark
use Rattle.ns_format.specs.declared.piece.Piece.{Piece}
use Rattle.ns_format.specs.Pieces.{pieces_from, piece_of, comment_in, behind_part, with_blank, fed, apart}
use Rattle.ns_format.specs.Format.{spaced, laid_from}
use Rattle.ns_format.specs.Leads.{role_in, lead_behind, closed_at, open_behind, side_behind}
use Rattle.ns_format.proofs.Ahead.{blank_stops, end_stops}
use Rattle.ns_format.proofs.Behind.{Alike, token_stays, comment_stays, comment_ends}
use Rattle.ns_format.proofs.Over.{Keeps, over_pieces}
use Rattle.ns_format.proofs.Steps.{part_goes, token_goes, ends}

-- ---- gaps

-- Blanks lead from the first gap to the second.
abbrev pub Leads : Gap → Gap → Type 0
Leads gap.First gap.First = Unit {0}
Leads gap.First gap.Nothing = ⊥
Leads gap.First gap.Blanks = ⊥
Leads gap.First gap.Line = ⊥
Leads gap.First gap.Lines = ⊥
Leads gap.Nothing gap.First = ⊥
Leads gap.Nothing gap.Nothing = Unit {0}
Leads gap.Nothing gap.Blanks = Unit {0}
Leads gap.Nothing gap.Line = Unit {0}
Leads gap.Nothing gap.Lines = Unit {0}
Leads gap.Blanks gap.First = ⊥
Leads gap.Blanks gap.Nothing = ⊥
Leads gap.Blanks gap.Blanks = Unit {0}
Leads gap.Blanks gap.Line = Unit {0}
Leads gap.Blanks gap.Lines = Unit {0}
Leads gap.Line g = ⊥
Leads gap.Lines g = ⊥

leads_apart : (s g : Gap) → Leads s g → Leads s (apart g)
leads_apart gap.First gap.First h = tt
leads_apart gap.First gap.Nothing h = absurd h
leads_apart gap.First gap.Blanks h = absurd h
leads_apart gap.First gap.Line h = absurd h
leads_apart gap.First gap.Lines h = absurd h
leads_apart gap.Nothing gap.First h = absurd h
leads_apart gap.Nothing gap.Nothing h = tt
leads_apart gap.Nothing gap.Blanks h = tt
leads_apart gap.Nothing gap.Line h = tt
leads_apart gap.Nothing gap.Lines h = tt
leads_apart gap.Blanks gap.First h = absurd h
leads_apart gap.Blanks gap.Nothing h = absurd h
leads_apart gap.Blanks gap.Blanks h = tt
leads_apart gap.Blanks gap.Line h = tt
leads_apart gap.Blanks gap.Lines h = tt
leads_apart gap.Line g h = absurd h
leads_apart gap.Lines g h = absurd h

leads_fed : (s g : Gap) → Leads s g → Leads s (fed g)
leads_fed gap.First gap.First h = tt
leads_fed gap.First gap.Nothing h = absurd h
leads_fed gap.First gap.Blanks h = absurd h
leads_fed gap.First gap.Line h = absurd h
leads_fed gap.First gap.Lines h = absurd h
leads_fed gap.Nothing gap.First h = absurd h
leads_fed gap.Nothing gap.Nothing h = tt
leads_fed gap.Nothing gap.Blanks h = tt
leads_fed gap.Nothing gap.Line h = tt
leads_fed gap.Nothing gap.Lines h = tt
leads_fed gap.Blanks gap.First h = absurd h
leads_fed gap.Blanks gap.Nothing h = absurd h
leads_fed gap.Blanks gap.Blanks h = tt
leads_fed gap.Blanks gap.Line h = tt
leads_fed gap.Blanks gap.Lines h = tt
leads_fed gap.Line g h = absurd h
leads_fed gap.Lines g h = absurd h

either : (G : Gap → Type 0) (v : Bool) (x y : Gap) → G x → G y → G (if v then x else y)
either G true x y h k = h
either G false x y h k = k

leads_blank : (b : ℕ) (s g : Gap) → Leads s g → Leads s (with_blank b g)
leads_blank b s g h = either (Leads s) (b == 10) (fed g) (apart g) (leads_fed s g h) (leads_apart s g h)

-- Something stands in the gap of a line that goes on.
abbrev pub IsApart : Gap → Type 0
IsApart gap.First = ⊥
IsApart gap.Nothing = ⊥
IsApart gap.Blanks = Unit {0}
IsApart gap.Line = Unit {0}
IsApart gap.Lines = Unit {0}

apart_apart : (g : Gap) → IsApart g → IsApart (apart g)
apart_apart gap.First h = h
apart_apart gap.Nothing h = tt
apart_apart gap.Blanks h = tt
apart_apart gap.Line h = tt
apart_apart gap.Lines h = tt

apart_fed : (g : Gap) → IsApart g → IsApart (fed g)
apart_fed gap.First h = h
apart_fed gap.Nothing h = tt
apart_fed gap.Blanks h = tt
apart_fed gap.Line h = tt
apart_fed gap.Lines h = tt

apart_blank : (b : ℕ) (g : Gap) → IsApart g → IsApart (with_blank b g)
apart_blank b g h = either IsApart (b == 10) (fed g) (apart g) (apart_fed g h) (apart_apart g h)

nothing_blank : (b : ℕ) → IsApart (with_blank b gap.Nothing)
nothing_blank b = either IsApart (b == 10) gap.Line gap.Blanks tt tt

apart_twice : (g : Gap) → apart (apart g) ≡ apart g
apart_twice gap.First = refl
apart_twice gap.Nothing = refl
apart_twice gap.Blanks = refl
apart_twice gap.Line = refl
apart_twice gap.Lines = refl

-- A text begins with a blank.
pub record BeginsBlank (l : Text) : Type 0 where
  pub byte : ℕ
  pub more : Text
  pub cut : l ≡ byte ∷ more
  pub blank : is_blank byte ≡ true

spaced_blank : (g : Gap) (n : ℕ) (x : Text) → IsApart g → BeginsBlank (spaced g n ++ x)
spaced_blank gap.First n x h = absurd h
spaced_blank gap.Nothing n x h = absurd h
spaced_blank gap.Blanks n x h = record { byte = 32; more = x; cut = refl; blank = refl }
spaced_blank gap.Line n x h = record { byte = 10; more = replicate n 32 ++ x; cut = refl; blank = refl }
spaced_blank gap.Lines n x h = record { byte = 10; more = 10 ∷ (replicate n 32 ++ x); cut = refl; blank = refl }

-- ---- blanks are read

-- behind a blank
pub blank_goes : (b : ℕ) (g : Gap) (z : Text) → is_blank b ≡ true → pieces_from 0 g (b ∷ z) ≡ pieces_from 0 (with_blank b g) z
blank_goes b g z h =
    part_goes (b ∷ z) 1 g (omega arith) (sym (blank_read b z h)) (omega arith)
    ∙ ap (λ v. v ++ pieces_from 0 (behind_part (b ∷ []) g) z) (accept (is_blank b) _ _ _ h refl)
    ∙ ap (λ v. pieces_from 0 v z) (accept (is_blank b) _ _ _ h refl)

blanks_go : (n : ℕ) (g : Gap) (z : Text) → apart g ≡ g → pieces_from 0 g (replicate n 32 ++ z) ≡ pieces_from 0 g z
blanks_go zero g z h = refl
blanks_go (suc n) g z h = blank_goes 32 g (replicate n 32 ++ z) refl ∙ ap (λ v. pieces_from 0 v (replicate n 32 ++ z)) h ∙ blanks_go n g z h

-- what is written for a gap is read as that gap
spaced_goes : (s g : Gap) (n : ℕ) (x : Text) → Leads s g → pieces_from 0 s (spaced g n ++ x) ≡ pieces_from 0 g x
spaced_goes gap.First gap.First n x h = refl
spaced_goes gap.First gap.Nothing n x h = absurd h
spaced_goes gap.First gap.Blanks n x h = absurd h
spaced_goes gap.First gap.Line n x h = absurd h
spaced_goes gap.First gap.Lines n x h = absurd h
spaced_goes gap.Nothing gap.First n x h = absurd h
spaced_goes gap.Nothing gap.Nothing n x h = refl
spaced_goes gap.Nothing gap.Blanks n x h = blank_goes 32 gap.Nothing x refl
spaced_goes gap.Nothing gap.Line n x h = blank_goes 10 gap.Nothing (replicate n 32 ++ x) refl ∙ blanks_go n gap.Line x refl
spaced_goes gap.Nothing gap.Lines n x h = blank_goes 10 gap.Nothing (10 ∷ (replicate n 32 ++ x)) refl ∙ blank_goes 10 gap.Line (replicate n 32 ++ x) refl ∙ blanks_go n gap.Lines x refl
spaced_goes gap.Blanks gap.First n x h = absurd h
spaced_goes gap.Blanks gap.Nothing n x h = absurd h
spaced_goes gap.Blanks gap.Blanks n x h = blank_goes 32 gap.Blanks x refl
spaced_goes gap.Blanks gap.Line n x h = blank_goes 10 gap.Blanks (replicate n 32 ++ x) refl ∙ blanks_go n gap.Line x refl
spaced_goes gap.Blanks gap.Lines n x h = blank_goes 10 gap.Blanks (10 ∷ (replicate n 32 ++ x)) refl ∙ blank_goes 10 gap.Line (replicate n 32 ++ x) refl ∙ blanks_go n gap.Lines x refl
spaced_goes gap.Line g n x h = absurd h
spaced_goes gap.Lines g n x h = absurd h

-- ---- blanks give no token

blank_scan : (at b : ℕ) (z : Text) → is_blank b ≡ true → scan_from 0 at (b ∷ z) ≡ scan_from 0 (at + 1) z
blank_scan at b z h = scanning.gap_goes (b ∷ z) 1 at (omega arith) (sym (blank_read b z h)) (omega arith) (omega arith)

blanks_scan : (n at : ℕ) (z : Text) → scan_from 0 at (replicate n 32 ++ z) ≡ scan_from 0 (at + n) z
blanks_scan zero at z = ap (λ i. scan_from 0 i z) (omega arith)
blanks_scan (suc n) at z = blank_scan at 32 (replicate n 32 ++ z) refl ∙ blanks_scan n (at + 1) z ∙ ap (λ i. scan_from 0 i z) (omega arith)

-- how many bytes are written for a gap
abbrev width : Gap → ℕ → ℕ
width gap.First n = 0
width gap.Nothing n = 0
width gap.Blanks n = 1
width gap.Line n = 1 + n
width gap.Lines n = 2 + n

spaced_scan : (g : Gap) (n at : ℕ) (x : Text) → scan_from 0 at (spaced g n ++ x) ≡ scan_from 0 (at + width g n) x
spaced_scan gap.First n at x = ap (λ i. scan_from 0 i x) (omega arith)
spaced_scan gap.Nothing n at x = ap (λ i. scan_from 0 i x) (omega arith)
spaced_scan gap.Blanks n at x = blank_scan at 32 x refl
spaced_scan gap.Line n at x = blank_scan at 10 (replicate n 32 ++ x) refl ∙ blanks_scan n (at + 1) x ∙ ap (λ i. scan_from 0 i x) (omega arith)
spaced_scan gap.Lines n at x =
    blank_scan at 10 (10 ∷ (replicate n 32 ++ x)) refl ∙ blank_scan (at + 1) 10 (replicate n 32 ++ x) refl ∙ blanks_scan n (at + 1 + 1) x ∙ ap (λ i. scan_from 0 i x) (omega arith)

-- ---- one piece

-- a comment behind a gap is that piece
pub comment_goes : (b : ℕ) (w x : Text) (g : Gap) → is_blank b ≡ false → next_piece (b ∷ (w ++ x)) ≡ lexed.Gap (length (b ∷ w))
    → pieces_from 0 g (b ∷ (w ++ x)) ≡ piece_of (apart g) mark.Comment (b ∷ w) ∷ pieces_from 0 gap.Blanks x
comment_goes b w x g blank e =
    let z : Text = b ∷ (w ++ x) in
    let n : ℕ = length (b ∷ w) in
    part_goes z n g (omega arith) (sym e) (omega arith)
    ∙ ap (λ v. comment_in v g ++ pieces_from 0 (behind_part v g) (drop n z)) (take-append_seam (b ∷ w) x)
    ∙ ap (λ v. comment_in (b ∷ w) g ++ pieces_from 0 (behind_part (b ∷ w) g) v) (drop-append_seam (b ∷ w) x)
    ∙ ap (λ v. v ++ pieces_from 0 (behind_part (b ∷ w) g) x) (refuse (is_blank b) _ _ _ blank refl)
    ∙ ap (λ v. piece_of (apart g) mark.Comment (b ∷ w) ∷ pieces_from 0 v x) (refuse (is_blank b) _ _ _ blank refl)

comment_scan : (at b : ℕ) (w x : Text) → next_piece (b ∷ (w ++ x)) ≡ lexed.Gap (length (b ∷ w)) → scan_from 0 at (b ∷ (w ++ x)) ≡ scan_from 0 (at + length (b ∷ w)) x
comment_scan at b w x e =
    scanning.gap_goes (b ∷ (w ++ x)) (length (b ∷ w)) at (omega arith) (sym e) (omega arith) (omega (arith, length-append w x))
    ∙ ap (scan_from 0 (at + length (b ∷ w))) (drop-append_seam (b ∷ w) x)

-- a token behind a gap is that piece
pub token_piece : (w x : Text) (kind : Kind) (g : Gap) → 0 < length w → next_piece (w ++ x) ≡ lexed.Token kind (length w)
    → pieces_from 0 g (w ++ x) ≡ piece_of g (mark.Token kind) w ∷ pieces_from 0 gap.Nothing x
token_piece w x kind g some e =
    token_goes (w ++ x) kind (length w) g (omega (arith, some, length-append w x)) (sym e) (omega (arith, some))
    ∙ ap (λ v. piece_of g (mark.Token kind) v ∷ pieces_from 0 gap.Nothing (drop (length w) (w ++ x))) (take-append_seam w x)
    ∙ ap (λ v. piece_of g (mark.Token kind) w ∷ pieces_from 0 gap.Nothing v) (drop-append_seam w x)

abbrev token_of : Kind → ℕ → ℕ → Token
token_of kind at n = record { kind = kind; start = at; «end» = at + n }

token_scan : (at : ℕ) (w x : Text) (kind : Kind) → 0 < length w → next_piece (w ++ x) ≡ lexed.Token kind (length w)
    → scan_from 0 at (w ++ x) ≡ before (token_of kind at (length w) ∷ []) (scan_from 0 (at + length w) x)
token_scan at w x kind some e =
    scanning.token_goes (w ++ x) kind (length w) at (omega (arith, some, length-append w x)) (sym e) (omega (arith, some)) (omega (arith, length-append w x))
    ∙ ap (λ v. before (token_of kind at (length w) ∷ []) (scan_from 0 (at + length w) v)) (drop-append_seam w x)

-- ---- tokens

-- The scan of a text gives tokens of these kinds, wherever it stands.
abbrev pub ScansTo : Text → List Kind → Type 0
ScansTo l wanted = (at : ℕ) → (us : List Token) × (scan_from 0 at l ≡ Ok us) × (kinds us ≡ wanted)

-- from another place of the same text
moved_scan : (l x : Text) (wanted : List Kind) → ((at : ℕ) → (to : ℕ) × (scan_from 0 at l ≡ scan_from 0 to x)) → ScansTo x wanted → ScansTo l wanted
moved_scan l x wanted same h at =
    let step = same at in
    let us = h step.0 in
    (us.0, step.1 ∙ us.1, us.2)

one_more : (w x : Text) (kind : Kind) (wanted : List Kind) → 0 < length w → next_piece (w ++ x) ≡ lexed.Token kind (length w) → ScansTo x wanted → ScansTo (w ++ x) (kind ∷ wanted)
one_more w x kind wanted some e h at =
    let us = h (at + length w) in
    (token_of kind at (length w) ∷ us.0, token_scan at w x kind some e ∙ ap (before (token_of kind at (length w) ∷ [])) us.1, ap (λ ks. kind ∷ ks) us.2)

-- ---- the text that is laid out is cut again

-- what is laid out of a text behind a gap is cut into its pieces again, behind any gap that leads there
pub record Again (s g : Gap) (z : Text) (leads : List ℕ) (side : Bool) (wanted : List Kind) : Type 0 where
  pub cut : pieces_from 0 s (laid_from leads side (pieces_from 0 g z)) ≡ pieces_from 0 g z
  pub alike : g ≡ gap.Nothing → Alike z (laid_from leads side (pieces_from 0 g z))
  pub blank : IsApart g → BeginsBlank (laid_from leads side (pieces_from 0 g z))
  pub scans : ScansTo (laid_from leads side (pieces_from 0 g z)) wanted

-- the same, of pieces and a text that are named
pub record Same (s g : Gap) (z : Text) (ps : List Piece) (l : Text) (wanted : List Kind) : Type 0 where
  pub cut : pieces_from 0 s l ≡ ps
  pub alike : g ≡ gap.Nothing → Alike z l
  pub blank : IsApart g → BeginsBlank l
  pub scans : ScansTo l wanted

again_of : (s g : Gap) (z : Text) (leads : List ℕ) (side : Bool) (ps : List Piece) (wanted : List Kind) → pieces_from 0 g z ≡ ps → Same s g z ps (laid_from leads side ps) wanted → Again s g z leads side wanted
again_of s g z leads side ps wanted e x = record {
  cut = ap (λ v. pieces_from 0 s (laid_from leads side v)) e ∙ x.cut ∙ sym e;
  alike = λ h. subst (λ v. Alike z (laid_from leads side v)) (sym e) (x.alike h);
  blank = λ h. subst (λ v. BeginsBlank (laid_from leads side v)) (sym e) (x.blank h);
  scans = subst (λ v. ScansTo (laid_from leads side v) wanted) (sym e) x.scans;
}

-- at the end
end_again : (s g : Gap) (leads : List ℕ) (side : Bool) → Again s g [] leads side []
end_again s g leads side = again_of s g [] leads side [] [] (ends g) (record {
  cut = blank_goes 10 s [] refl ∙ ends (with_blank 10 s);
  alike = λ h. record { run = []; rest = []; byte = 10; more = []; here = refl; there = refl; stops = end_stops; blank = refl };
  blank = λ h. record { byte = 10; more = []; cut = refl; blank = refl };
  scans = λ at. ([], blank_scan at 10 [] refl ∙ scanning.ends (at + 1), refl);
})

-- at a blank
blank_again : (s g : Gap) (b : ℕ) (z : Text) (leads : List ℕ) (side : Bool) (wanted : List Kind) → is_blank b ≡ true → Again s (with_blank b g) z leads side wanted → Again s g (b ∷ z) leads side wanted
blank_again s g b z leads side wanted h x = again_of s g (b ∷ z) leads side (pieces_from 0 (with_blank b g) z) wanted (blank_goes b g z h) (record {
  cut = x.cut;
  alike = λ e.
      let y = x.blank (subst (λ v. IsApart (with_blank b v)) (sym e) (nothing_blank b)) in
      record { run = []; rest = b ∷ z; byte = y.byte; more = y.more; here = refl; there = y.cut; stops = blank_stops b h; blank = y.blank };
  blank = λ a. x.blank (apart_blank b g a);
  scans = x.scans;
})

-- at a comment
comment_again : (s g : Gap) (b : ℕ) (w z : Text) (leads : List ℕ) (side : Bool) (wanted : List Kind) → Leads s g → is_blank b ≡ false → next_piece (b ∷ (w ++ z)) ≡ lexed.Gap (length (b ∷ w))
    → Again gap.Blanks gap.Blanks z leads side wanted → Again s g (b ∷ (w ++ z)) leads side wanted
comment_again s g b w z leads side wanted h blank e x =
    let ps : List Piece = pieces_from 0 gap.Blanks z in
    let one : Piece = piece_of (apart g) mark.Comment (b ∷ w) in
    let l : Text = laid_from leads side ps in
    let lead : ℕ = lead_behind 0 leads in
    let stays : next_piece (b ∷ (w ++ l)) ≡ lexed.Gap (length (b ∷ w)) = comment_stays b w z l blank e in
    again_of s g (b ∷ (w ++ z)) leads side (one ∷ ps) wanted (comment_goes b w z g blank e) (record {
      cut = spaced_goes s (apart g) lead (b ∷ (w ++ l)) (leads_apart s g h) ∙ comment_goes b w l (apart g) blank stays
          ∙ ap (λ v. piece_of v mark.Comment (b ∷ w) ∷ pieces_from 0 gap.Blanks l) (apart_twice g) ∙ ap (λ v. one ∷ v) x.cut;
      alike = λ n.
          let y = spaced_blank (apart g) lead (b ∷ (w ++ l)) (subst (λ v. IsApart (apart v)) (sym n) tt) in
          record { run = []; rest = b ∷ (w ++ z); byte = y.byte; more = y.more; here = refl; there = y.cut; stops = comment_ends b w z blank e; blank = y.blank };
      blank = λ a. spaced_blank (apart g) lead (b ∷ (w ++ l)) (apart_apart g a);
      scans = moved_scan (spaced (apart g) lead ++ b ∷ (w ++ l)) l wanted (λ at. (at + width (apart g) lead + length (b ∷ w), spaced_scan (apart g) lead at (b ∷ (w ++ l)) ∙ comment_scan (at + width (apart g) lead) b w l stays)) x.scans;
    })

-- two texts that are alike, with the same text before them
longer_alike : (w z l : Text) → Alike z l → Alike (w ++ z) (w ++ l)
longer_alike w z l x = record {
  run = w ++ x.run;
  rest = x.rest;
  byte = x.byte;
  more = x.more;
  here = ap (λ v. w ++ v) x.here ∙ sym (append_assoc w x.run x.rest);
  there = ap (λ v. w ++ v) x.there ∙ sym (append_assoc w x.run (x.byte ∷ x.more));
  stops = x.stops;
  blank = x.blank;
}

-- at a token
token_again : (s g : Gap) (w z : Text) (kind : Kind) (leads : List ℕ) (side : Bool) (wanted : List Kind) → Leads s g → 0 < length w → next_piece (w ++ z) ≡ lexed.Token kind (length w)
    → Again gap.Nothing gap.Nothing z (open_behind (role_in (mark.Token kind)) side leads) (side_behind (role_in (mark.Token kind)) side) wanted
    → Again s g (w ++ z) leads side (kind ∷ wanted)
token_again s g w z kind leads side wanted h some e x =
    let ps : List Piece = pieces_from 0 gap.Nothing z in
    let one : Piece = piece_of g (mark.Token kind) w in
    let l : Text = laid_from (open_behind (role_in (mark.Token kind)) side leads) (side_behind (role_in (mark.Token kind)) side) ps in
    let lead : ℕ = lead_behind (closed_at (role_in (mark.Token kind)) ps) leads in
    let stays : next_piece (w ++ l) ≡ lexed.Token kind (length w) = token_stays w z l kind (x.alike refl) some e in
    again_of s g (w ++ z) leads side (one ∷ ps) (kind ∷ wanted) (token_piece w z kind g some e) (record {
      cut = spaced_goes s g lead (w ++ l) h ∙ token_piece w l kind g some stays ∙ ap (λ v. one ∷ v) x.cut;
      alike = λ n. subst (λ v. Alike (w ++ z) (spaced v lead ++ (w ++ l))) (sym n) (longer_alike w z l (x.alike refl));
      blank = λ a. spaced_blank g lead (w ++ l) a;
      scans = moved_scan (spaced g lead ++ (w ++ l)) (w ++ l) (kind ∷ wanted) (λ at. (at + width g lead, spaced_scan g lead at (w ++ l))) (one_more w l kind wanted some stays x.scans);
    })

-- ---- whole texts

-- What is laid out of a text behind a gap is cut again, behind any gap that leads there and with anything open.
abbrev pub AgainAll : Gap → Text → List Kind → Type 0
AgainAll g z wanted = (s : Gap) (leads : List ℕ) (side : Bool) → Leads s g → Again s g z leads side wanted

again_keeps : Keeps AgainAll
again_keeps = record {
  at_end = λ g s leads side h. end_again s g leads side;
  at_blank = λ g b z wanted blank x s leads side h. blank_again s g b z leads side wanted blank (x s leads side (leads_blank b s g h));
  at_comment = λ g b w z wanted blank is x s leads side h. comment_again s g b w z leads side wanted h blank is (x gap.Blanks leads side tt);
  at_token = λ g w z kind wanted some is x s leads side h.
      token_again s g w z kind leads side wanted h some is (x gap.Nothing (open_behind (role_in (mark.Token kind)) side leads) (side_behind (role_in (mark.Token kind)) side) tt);
}

-- What is laid out of a text whose scan has no fault is cut again as the text is.
pub laid_again : (source : Text) (ts : List Token) → scan_from 0 0 source ≡ Ok ts → Again gap.First gap.First source (0 ∷ []) false (kinds ts)
laid_again source ts e = over_pieces AgainAll again_keeps source ts gap.First e gap.First (0 ∷ []) false tt
