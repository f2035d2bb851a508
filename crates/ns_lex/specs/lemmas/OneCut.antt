-- One list of tokens at most cuts a source, and then it has no fault.
use Rattle.std.proofs.Common.{◌≡◌, ℕ, ◌+◌, ◌<◌, inl, inr, List, [], ◌∷◌, ◌++◌, length, refl, sym, ap, subst, ◌∙◌, arith, length-append}
use Rattle.ns_base.specs.Spelling.{goes_on_name}
use Rattle.ns_tree.specs.declared.token.Kind.{Kind}
use Rattle.ns_tree.specs.declared.token.Token.{Token}
use Rattle.ns_lex.specs.Piece.{Text}
use Rattle.ns_lex.specs.Lexes.{SpellsInText, IsNext, IsFault, Gapped, IsStep, Cuts, Lexes, LexStops}
use Rattle.ns_lex.specs.Spells.{SpellsToken}
use Rattle.ns_lex.specs.declared.piece.Cause.{Cause}
use Rattle.ns_lex.specs.declared.piece.Cause.TheVariants as cause
use Rattle.ns_lex.specs.laws.Stands.{stands_spells}
use Rattle.ns_lex.specs.lemmas.OneKind.{all_in, spelled_kind, spelled_some}
use Rattle.ns_lex.specs.lemmas.OneGap.{Same, equal_cut, gap_cut, run_cut}

-- ---- gaps and tokens

-- a text begins with one gap that can't be longer
pub gapped_cut : (z g g' y y' : Text) → Gapped z g y → Gapped z g' y' → Same g y g' y'
gapped_cut z g g' y y' x x' = gap_cut g g' y y' x.gap x'.gap x.most x'.most (sym x.cut ∙ x'.cut)

token_cut : (w q v r : Text) (t u : Kind) → IsNext w q t → IsNext v r u → w ++ q ≡ v ++ r → Same w q v r
token_cut w q v r t u (s, inl (name, (rest, e))) (s', inl (name', (rest', e'))) cut =
    let x = run_cut goes_on_name 58 w (58 ∷ 61 ∷ rest) v (58 ∷ 61 ∷ rest') refl (all_in w name) (all_in v name') (ap (λ z. w ++ z) (sym e) ∙ cut ∙ ap (λ z. v ++ z) e') in
    record { front = x.front; back = e ∙ ap (λ z. 58 ∷ z) x.back ∙ sym e' }
token_cut w q v r t u (s, inl b) (s', inr l) cut = absurd (l.1 w q (sym cut) b)
token_cut w q v r t u (s, inr l) (s', inl b) cut = absurd (l.1 v r cut b)
token_cut w q v r t u (s, inr l) (s', inr l') cut = equal_cut w q v r cut (omega (arith, l.0 v r u cut s', l'.0 w q t (sym cut) s))

one_kind : (w v q r : Text) (t u : Kind) → w ≡ v → SpellsInText w q t → SpellsInText v r u → t ≡ u
one_kind w v q r t u e s s' = spelled_kind w t (stands_spells w q t s) ∙ sym (spelled_kind w u (subst (λ x. SpellsToken x u) (sym e) (stands_spells v r u s')))

-- ---- a step of two cuts

-- a text is cut in one way into a gap, a token's text and the rest
pub record Steps (g w q g' v r : Text) : Type 0 where
  pub gap : g ≡ g'
  pub text : w ≡ v
  pub rest : q ≡ r

pub step_same : (at to : ℕ) (z g w q g' v r : Text) (t u : Token) → IsStep at z g w q t → IsStep to z g' v r u → Steps g w q g' v r
step_same at to z g w q g' v r t u s s' =
    let x = gapped_cut z g g' (w ++ q) (v ++ r) s.front s'.front in
    let y = token_cut w q v r t.kind u.kind s.next s'.next x.back in
    record { gap = x.front; text = y.front; rest = y.back }

-- a text can't be a gap, and a gap with a token behind it
not_ended : (at : ℕ) (z g g' w q : Text) (t : Token) → Gapped z g [] → IsStep at z g' w q t → ⊥
not_ended at z g g' w q t x s =
    let y = gapped_cut z g g' [] (w ++ q) x s.front in
    omega (arith, ap length y.back, length-append w q, spelled_some w t.kind (stands_spells w q t.kind s.next.0))

-- what is cut behind such a step
pub after_step : (at : ℕ) (g w q g' v r : Text) (us : List Token) (c : ℕ) (rest : Text) → Steps g w q g' v r → Cuts (at + length g' + length v) r us c rest → Cuts (at + length g + length w) q us c rest
after_step at g w q g' v r us c rest s x =
    subst (λ z. Cuts (at + length g + length w) z us c rest) (sym s.rest)
    (subst (λ i. Cuts i r us c rest) (ap (λ z. at + length z + length v) (sym s.gap) ∙ ap (λ z. at + length g + length z) (sym s.text)) x)

token_at : Kind → ℕ → ℕ → Token
token_at kind start stop = record { kind = kind; start = start; «end» = stop }

token_same : (t u : Token) → t.kind ≡ u.kind → t.start ≡ u.start → t.«end» ≡ u.«end» → t ≡ u
unfolding token_at
token_same t u a b c = ap (λ x. token_at x t.start t.«end») a ∙ ap (λ x. token_at u.kind x t.«end») b ∙ ap (token_at u.kind u.start) c

-- ---- whole texts

cuts_one : (at : ℕ) (z : Text) (ts us : List Token) (b c : ℕ) → Cuts at z ts b [] → Cuts at z us c [] → ts ≡ us
cuts_one at z [] [] b c x y = refl
cuts_one at z [] (u ∷ us) b c (g, x, place) (g', w, q, s', more') = absurd (not_ended at z g g' w q u x s')
cuts_one at z (t ∷ ts) [] b c (g, w, q, s, more) (g', x, place) = absurd (not_ended at z g' g w q t x s)
cuts_one at z (t ∷ ts) (u ∷ us) b c (g, w, q, s, more) (g', v, r, s', more') =
    let x = step_same at at z g w q g' v r t u s s' in
    let first : t ≡ u = token_same t u (one_kind w v q r t.kind u.kind x.text s.next.0 s'.next.0) (s.start ∙ ap (λ y. at + length y) x.gap ∙ sym s'.start)
    (s.stop ∙ ap (λ y. at + length y + length w) x.gap ∙ ap (λ y. at + length g' + length y) x.text ∙ sym s'.stop) in
    ap (λ y. y ∷ ts) first ∙ ap (λ ys. u ∷ ys) (cuts_one (at + length g + length w) q ts us b c more (after_step at g w q g' v r us c [] x more'))

-- a fault isn't named where a text ends
fault_some : (z : Text) (c : Cause) (n : ℕ) → IsFault z c n → 0 < length z
fault_some z cause.BadByte n (inl (d, q, e, digits, more, place)) = omega (arith, ap length e, length-append d q, digits.0)
fault_some z cause.BadByte n (inr (inl (q, e, none, place))) = omega (arith, ap length e)
fault_some z cause.BadByte n (inr (inr (b, q, e, none, place))) = omega (arith, ap length e)
fault_some z cause.BigNumber n (d, q, e, digits, last, great, place) = omega (arith, ap length e, length-append d q, digits.0)
fault_some z cause.UnclosedComment n ((q, inl e), place) = omega (arith, ap length e)
fault_some z cause.UnclosedComment n ((q, inr e), place) = omega (arith, ap length e)
fault_some z cause.UnclosedString n ((q, e), none, place) = omega (arith, ap length e)

cuts_stop : (at : ℕ) (z : Text) (ts us : List Token) (b c : ℕ) (rest : Text) (why : Cause) (n : ℕ) → Cuts at z ts b [] → Cuts at z us c rest → IsFault rest why n → ⊥
cuts_stop at z [] [] b c rest why n (g, x, place) (g', y, place') told = omega (arith, ap length (gapped_cut z g g' [] rest x y).back, fault_some rest why n told)
cuts_stop at z [] (u ∷ us) b c rest why n (g, x, place) (g', w, q, s', more') told = not_ended at z g g' w q u x s'
cuts_stop at z (t ∷ ts) [] b c rest why n (g, w, q, s, more) (g', y, place') told = s.fault why n (subst (λ i. IsFault i why n) (sym (gapped_cut z g g' (w ++ q) rest s.front y).back) told)
cuts_stop at z (t ∷ ts) (u ∷ us) b c rest why n (g, w, q, s, more) (g', v, r, s', more') told =
    let x = step_same at at z g w q g' v r t u s s' in
    cuts_stop (at + length g + length w) q ts us b c rest why n more (after_step at g w q g' v r us c rest x more') told

-- One list of tokens at most cuts a source.
pub one_lexes : (source : Text) (ts us : List Token) → Lexes source ts → Lexes source us → ts ≡ us
one_lexes source ts us x y = cuts_one 0 source ts us (length source) (length source) x y

-- A source that tokens cut doesn't stop at a fault.
pub lexes_whole : (source : Text) (ts : List Token) (n : ℕ) (c : Cause) → Lexes source ts → LexStops source n c → ⊥
lexes_whole source ts n c x (us, at, rest, m, y, named, place) = cuts_stop 0 source ts us (length source) at rest c m x y named
