-- How long the texts of a source's tokens are, and how many there are.
use Rattle.std.proofs.Common.{◌≡◌, ℕ, ◌+◌, ◌≤◌, inl, inr, List, [], ◌∷◌, ◌++◌, length, length-append, cond, true, false, ap, ◌∙◌, arith}
use Rattle.std.specs.Prelude.{◌==◌}
use Rattle.ns_tree.specs.declared.token.Kind.{Kind}
use Rattle.ns_tree.specs.declared.token.Kind.TheVariants as k
use Rattle.ns_tree.specs.declared.token.Token.{Token}
use Rattle.ns_tree.specs.Tokens.{kinds}
use Rattle.ns_lex.specs.Lexes.{Cuts}
use Rattle.ns_lex.specs.Piece.{Text}
use Rattle.ns_lex.specs.Spells.{IsIdentifierText, IsOperator, SpellsToken}
use Rattle.ns_base.specs.Quoted.{doubled}
use Rattle.ns_lex.specs.laws.Stands.{stands_spells}
use Rattle.ns_scope.specs.Whole.{text_of, AllWithin}

longer : (b : ℕ) (t : Text) → length t + 1 ≤ length (cond (b == 39) (39 ∷ 39 ∷ t) (b ∷ t))
longer b t =
    elim (b == 39) as (λ q. length t + 1 ≤ length (cond {A = Text} q (39 ∷ 39 ∷ t) (b ∷ t))) [
      | true ↦ omega arith
      | false ↦ omega arith
    ]

doubled_longer : (t : Text) → length t ≤ length (doubled t)
doubled_longer [] = omega arith
doubled_longer (b ∷ t) = omega (arith, doubled_longer t, longer b (doubled t))

-- A token's text is no longer than what spells it.
text_within : (t : Text) (kind : Kind) → SpellsToken t kind → length (text_of kind) ≤ length t
text_within t (k.Ident s) h = omega (arith, ap length h.1)
text_within t (k.Word w) h = omega arith
text_within t (k.Key s) h = omega (arith, ap length h.1)
text_within t (k.SetKey s) h = omega (arith, ap length h.1 ∙ length-append s _)
text_within t (k.Oper s) h = omega (arith, ap length h.1)
text_within t (k.Number v) h = omega arith
text_within t (k.Str s) h = omega (arith, ap length h, length-append (doubled s) (39 ∷ []), doubled_longer s)
text_within t (k.Symbol s) h = omega (arith, ap length h.1)
text_within t k.Open h = omega arith
text_within t k.Close h = omega arith
text_within t k.OpenBlock h = omega arith
text_within t k.CloseBlock h = omega arith
text_within t k.OpenTuple h = omega arith
text_within t k.CloseTuple h = omega arith
text_within t k.Stop h = omega arith
text_within t k.Semi h = omega arith
text_within t k.Caret h = omega arith
text_within t k.Colon h = omega arith
text_within t k.SlotSet h = omega arith

name_some : (t : Text) → IsIdentifierText t → 1 ≤ length t
name_some [] h = absurd h
name_some (b ∷ t) h = omega arith

operator_some : (t : Text) → IsOperator t → 1 ≤ length t
operator_some t (inl h) = omega (arith, h.0)
operator_some t (inr h) = omega (arith, ap length h)

-- What spells a token has a byte.
text_some : (t : Text) (kind : Kind) → SpellsToken t kind → 1 ≤ length t
text_some t (k.Ident s) h = omega (arith, name_some s h.0, ap length h.1)
text_some t (k.Word w) h = name_some t h.0
text_some t (k.Key s) h = omega (arith, name_some h.0.0 h.0.1, ap length h.0.2 ∙ length-append h.0.0 (58 ∷ []), ap length h.1)
text_some t (k.SetKey s) h = omega (arith, name_some s h.0, ap length h.1 ∙ length-append s _)
text_some t (k.Oper s) h = omega (arith, operator_some s h.0, ap length h.1)
text_some t (k.Number v) h = omega (arith, h.0)
text_some t (k.Str s) h = omega (arith, ap length h)
text_some t (k.Symbol s) h = omega (arith, ap length h.1)
text_some t k.Open h = omega (arith, ap length h)
text_some t k.Close h = omega (arith, ap length h)
text_some t k.OpenBlock h = omega (arith, ap length h)
text_some t k.CloseBlock h = omega (arith, ap length h)
text_some t k.OpenTuple h = omega (arith, ap length h)
text_some t k.CloseTuple h = omega (arith, ap length h)
text_some t k.Stop h = omega (arith, ap length h)
text_some t k.Semi h = omega (arith, ap length h)
text_some t k.Caret h = omega (arith, ap length h)
text_some t k.Colon h = omega (arith, ap length h)
text_some t k.SlotSet h = omega (arith, ap length h)

parts : (g w q z : Text) → z ≡ g ++ (w ++ q) → length z ≡ length g + (length w + length q)
parts g w q z e = ap length e ∙ (length-append g (w ++ q) ∙ ap (λ n. length g + n) (length-append w q))

-- The texts of the tokens that cut a text are no longer than it, and there are no more than it has bytes.
pub cut_within : (n at : ℕ) (z : Text) (ts : List Token) (behind : ℕ) (rest : Text) → length z ≤ n → Cuts at z ts behind rest → AllWithin n (kinds ts)
cut_within n at z [] behind rest h c = tt
cut_within n at z (t ∷ ts) behind rest h (g, w, q, s, more) = (
  omega (arith, h, parts g w q z s.front.cut, text_within w t.kind (stands_spells w q t.kind s.next.0)),
  cut_within n (at + length g + length w) q ts behind rest (omega (arith, h, parts g w q z s.front.cut)) more,
)

pub cut_count : (at : ℕ) (z : Text) (ts : List Token) (behind : ℕ) (rest : Text) → Cuts at z ts behind rest → length ts ≤ length z
cut_count at z [] behind rest c = omega arith
cut_count at z (t ∷ ts) behind rest (g, w, q, s, more) =
    omega (arith, parts g w q z s.front.cut, text_some w t.kind (stands_spells w q t.kind s.next.0), cut_count (at + length g + length w) q ts behind rest more)
