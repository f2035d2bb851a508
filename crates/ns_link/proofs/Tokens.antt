-- Lists of tokens with their texts, in which no bracket opens too deep, and lists that close each bracket that they depth.
use Rattle.std.proofs.Common.{◌≡◌, ℕ, ◌+◌, ◌-◌, ◌<◌, List, [], ◌∷◌, ◌++◌, refl, ap, ◌∙◌, subst, arith}
use Rattle.std.specs.Prelude.{Bool, true, false, ◌&&◌, nat_le, Some, None, if◌then◌else◌}
use Rattle.ns_tree.specs.declared.token.Kind.{Kind}
use Rattle.ns_tree.specs.Deep.{opens, open_behind, most_brackets, deep_from}
use Rattle.ns_tree.specs.Tree.{HasText, AllHaveText}

-- how many brackets are open behind tokens, before which so many are open
abbrev pub open_after : ℕ → List Kind → ℕ
open_after depth [] = depth
open_after depth (kind ∷ rest) = open_after (open_behind depth kind) rest

-- Each token has a text, and none opens a bracket past the most.
abbrev pub Lawful : ℕ → List Kind → Type 0
Lawful depth [] = Unit {0}
Lawful depth (kind ∷ rest) = HasText kind × ((opens kind && nat_le most_brackets depth) ≡ false) × Lawful (open_behind depth kind) rest

-- Behind the tokens as many brackets are open as before them.
abbrev pub Balanced : List Kind → Type 0
Balanced tokens = (depth : ℕ) → open_after depth tokens ≡ depth

pub lawful_left : (a b : List Kind) (depth : ℕ) → Lawful depth (a ++ b) → Lawful depth a
lawful_left [] b depth h = tt
lawful_left (kind ∷ a) b depth h = (h.0, h.1, lawful_left a b (open_behind depth kind) h.2)

lawful_behind : (a b : List Kind) (depth : ℕ) → Lawful depth (a ++ b) → Lawful (open_after depth a) b
lawful_behind [] b depth h = h
lawful_behind (kind ∷ a) b depth h = lawful_behind a b (open_behind depth kind) h.2

pub lawful_right : (a b : List Kind) (depth : ℕ) → Balanced a → Lawful depth (a ++ b) → Lawful depth b
lawful_right a b depth balanced h = subst (λ n. Lawful n b) (balanced depth) (lawful_behind a b depth h)

pub lawful_texts : (tokens : List Kind) (depth : ℕ) → Lawful depth tokens → AllHaveText tokens
lawful_texts [] depth h = tt
lawful_texts (kind ∷ rest) depth h = (h.0, lawful_texts rest (open_behind depth kind) h.2)

-- a source in which no bracket opens too deep
pub lawful_source : (tokens : List Kind) (depth at : ℕ) → AllHaveText tokens → deep_from depth at tokens ≡ None → Lawful depth tokens
lawful_source [] depth at texts e = tt
lawful_source (kind ∷ rest) depth at texts e =
    by (opens kind && nat_le most_brackets depth) (lawful_source rest (open_behind depth kind) (at + 1) texts.1) e where
      by : (deep : Bool) → (deep_from (open_behind depth kind) (at + 1) rest ≡ None → Lawful (open_behind depth kind) rest) →
          (if deep then Some at else deep_from (open_behind depth kind) (at + 1) rest) ≡ None →
          HasText kind × (deep ≡ false) × Lawful (open_behind depth kind) rest
      by true further e = absurd (let f : Some at ≡ None = e in cc)
      by false further e = (texts.0, refl, further e)

-- where a bracket opens, few are open
pub few_open : (depth : ℕ) → nat_le most_brackets depth ≡ false → depth < 100
few_open depth e = grind (arith, e)

-- ---- balance

open_both : (a b : List Kind) (depth : ℕ) → open_after depth (a ++ b) ≡ open_after (open_after depth a) b
open_both [] b depth = refl
open_both (kind ∷ a) b depth = open_both a b (open_behind depth kind)

pub both : (a b : List Kind) → Balanced a → Balanced b → Balanced (a ++ b)
both a b left right depth = open_both a b depth ∙ ap (λ n. open_after n b) (left depth) ∙ right depth

-- The tokens close a bracket that is open before them.
abbrev pub Closes : List Kind → Type 0
Closes tokens = (depth : ℕ) → open_after (depth + 1) tokens ≡ depth

pub closes : (a rest : List Kind) → Balanced a → Closes rest → Closes (a ++ rest)
closes a rest inner last depth = open_both a rest (depth + 1) ∙ ap (λ n. open_after n rest) (inner (depth + 1)) ∙ last depth

pub one_less : (depth : ℕ) → depth + 1 - 1 ≡ depth
one_less depth = omega arith
