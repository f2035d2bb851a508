-- Patterns of a tree have as many parameters as their selectors take arguments.
use Rattle.std.proofs.Common.{◌≡◌, ℕ, suc, List, [], ◌∷◌, ◌++◌, length, refl, sym, ap, ◌∙◌}
use Rattle.std.specs.Prelude.{Bool, true, false, ◌⊎◌, Option, Some, None, option_map, flat_map, zip, if◌then◌else◌}
use Rattle.std.proofs.Common.{inr}
use Rattle.std.proofs.lemmas.List.{append-nil}
use Rattle.ns_base.specs.Spelling.{starts_name, is_operator}
use Rattle.ns_tree.specs.declared.token.Kind.{Kind}
use Rattle.ns_tree.specs.declared.token.Kind.TheVariants as k
use Rattle.ns_tree.specs.declared.tree.Named.{Named}
use Rattle.ns_tree.specs.Flat.{ident, part_before, flat_pattern}
use Rattle.ns_tree.specs.Forms.{ParamsForm, paired, operator_form, params_form, pattern_form, factory_by}
use Rattle.ns_tree.specs.Plain as p
use Rattle.ns_tree.specs.Rule.{Rule, GoodFrom}
use Rattle.ns_tree.specs.Tree.{AllHaveText}
use Rattle.ns_code.specs.Selector.{text_arity}
use Rattle.ns_link.specs.Spelled.{PatternTakes}
use Rattle.ns_link.proofs.Texts.{AreKeys, identifier_arity, operator_arity, keys_arity}

-- ---- lists of tokens

pub texts_left : (a b : List Kind) → AllHaveText (a ++ b) → AllHaveText a
texts_left [] b h = tt
texts_left (kind ∷ a) b h = (h.0, texts_left a b h.1)

pub texts_right : (a b : List Kind) → AllHaveText (a ++ b) → AllHaveText b
texts_right [] b h = h
texts_right (kind ∷ a) b h = texts_right a b h.1

-- ---- there is a form

abbrev pub IsThere : {A : Type 0} → Option A → Type 0
IsThere None = ⊥
IsThere (Some a) = Unit {0}

pub form_there : {A B : Type 0} (from : B → Option A) (r : Rule A) (n : ℕ) (form : Option A) → GoodFrom from r n form → IsThere form
form_there from r n None h = h
form_there from r n (Some a) h = tt

pub factory_there : (form : Option (Named ⊎ ((Named × Named) ⊎ ParamsForm))) → IsThere (factory_by form) → IsThere form
factory_there None h = h
factory_there (Some form) h = tt

map_there : {A B : Type 0} (f : A → B) (x : Option A) → IsThere (option_map f x) → IsThere x
map_there f None h = h
map_there f (Some a) h = tt

-- ---- parts and parameters

-- the parts before parameters, and these, as tokens
abbrev turns : List Named → List Named → List Kind
turns parts params = flat_map (λ x. part_before x.0.text ∷ ident x.1 ∷ []) (zip parts params)

paired_keys : (parts params : List Named) → IsThere (paired parts params) → AllHaveText (turns parts params) →
    AreKeys parts × (length params ≡ length parts)
paired_keys [] [] h texts = (tt, refl)
paired_keys [] (param ∷ params) h texts = absurd h
paired_keys (part ∷ parts) [] h texts = absurd h
paired_keys (part ∷ parts) (param ∷ params) h texts = by (starts_name part.text) (paired_keys parts params) h texts where
  by : (starts : Bool) → (IsThere (paired parts params) → AllHaveText (turns parts params) → AreKeys parts × (length params ≡ length parts)) →
      IsThere (if starts then option_map (λ pairs. (part, param) ∷ pairs) (paired parts params) else None) →
      AllHaveText ((if starts then k.Key part.text else k.Oper part.text) ∷ ident param ∷ turns parts params) →
      AreKeys (part ∷ parts) × (length (param ∷ params) ≡ length (part ∷ parts))
  by true further h texts =
      let rest = further (map_there (λ pairs. (part, param) ∷ pairs) (paired parts params) h) texts.1.1 in
      ((texts.0, rest.0), ap suc rest.1)
  by false further h texts = absurd h

params_take : (parts : List Named) (param : Named) (params : List Named) → IsThere (params_form parts param params) →
    AllHaveText (turns parts (param ∷ params)) →
    length (param ∷ params) ≡ text_arity (flat_map (λ part. part.text) parts)
params_take [] param params h texts = absurd h
params_take (part ∷ parts) param params h texts = by (starts_name part.text) refl h texts where
  operator : (parts params : List Named) → starts_name part.text ≡ false → IsThere (operator_form part param parts params) → is_operator part.text ≡ true →
      length (param ∷ params) ≡ text_arity (flat_map (λ part. part.text) (part ∷ parts))
  operator [] [] starts h o = sym (ap text_arity (append-nil part.text) ∙ operator_arity part.text o starts)
  operator [] (other ∷ params) starts h o = absurd h
  operator (other ∷ parts) [] starts h o = absurd h
  operator (other ∷ parts) (more ∷ params) starts h o = absurd h

  by : (starts : Bool) → starts_name part.text ≡ starts →
      IsThere (if starts then option_map (λ pairs. inr (inr ((part, param), pairs))) (paired parts params) else operator_form part param parts params) →
      AllHaveText ((if starts then k.Key part.text else k.Oper part.text) ∷ ident param ∷ turns parts params) →
      length (param ∷ params) ≡ text_arity (flat_map (λ part. part.text) (part ∷ parts))
  by true e h texts =
      let rest = paired_keys parts params (map_there (λ pairs. inr (inr ((part, param), pairs))) (paired parts params) h) texts.1.1 in
      ap suc rest.1 ∙ sym (keys_arity part parts (texts.0, rest.0))
  by false e h texts = operator parts params e h texts.0

pub pattern_takes : (pattern : p.Pattern) → IsThere (pattern_form pattern) → AllHaveText (flat_pattern pattern) → PatternTakes pattern
pattern_takes (p.pattern_with [] []) h texts = absurd h
pattern_takes (p.pattern_with (part ∷ []) []) h texts = sym (ap text_arity (append-nil part.text) ∙ identifier_arity part.text texts.0.0)
pattern_takes (p.pattern_with (part ∷ other ∷ parts) []) h texts = absurd h
pattern_takes (p.pattern_with parts (param ∷ params)) h texts = params_take parts param params h texts
