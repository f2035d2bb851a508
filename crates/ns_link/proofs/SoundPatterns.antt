-- What patterns and superclass clauses of a tree say.
use Rattle.std.proofs.Common.{◌≡◌, ℕ, ◌+◌, List, [], ◌∷◌, ◌++◌, refl, sym, ap, subst, arith, inl, inr}
use Rattle.std.specs.Prelude.{Bool, true, false, ◌⊎◌, Option, Some, None, option_map, codes, if◌then◌else◌}
use Rattle.std.proofs.lemmas.List.{append-nil}
use Rattle.std.proofs.lemmas.List.Elements.{All-nil, All-cons}
use Rattle.std.proofs.lemmas.Option.{same_Some}
use Rattle.ns_base.specs.declared.place.Place.{Place}
use Rattle.ns_base.specs.Spelling.{starts_name}
use Rattle.ns_tree.specs.declared.token.Kind.TheVariants as k
use Rattle.ns_tree.specs.declared.token.Reserved.TheVariants as r
use Rattle.ns_tree.specs.declared.tree.Named.{Named}
use Rattle.ns_tree.specs.declared.tree.Base.{Base}
use Rattle.ns_tree.specs.declared.tree.Origin.{Origin}
use Rattle.ns_tree.specs.declared.tree.Origin.TheVariants as o
use Rattle.ns_tree.specs.Flat.{over_sign}
use Rattle.ns_tree.specs.Forms as f
use Rattle.ns_tree.specs.Grammar as g
use Rattle.ns_tree.specs.Plain as p
use Rattle.ns_tree.specs.Rule.{Rule, ◌&◌, maybe, ◌▸◌, once_or_more, either, GoodFrom, flat_from}
use Rattle.ns_scope.specs.Names.{selector_of}
use Rattle.ns_scope.specs.Resolve.{resolve}
use Rattle.ns_code.specs.Fits.{IsLocalName}
use Rattle.ns_resolved.specs.Expressions.{Standing, name_sent, place_at}
use Rattle.ns_resolved.specs.Classes.{base_by, base_node, head_node, words_before, over_sign_at}
use Rattle.ns_link.proofs.Held.{Told, Held, AllHeld, both, behind, all_held}
use Rattle.ns_link.proofs.Says.{SentSays, NodeSays}
use Rattle.ns_link.proofs.SoundSending.{name_says}
use Rattle.ns_link.proofs.Blocks.{AreLocals, ident_local}
use Rattle.ns_link.proofs.SoundTokens.{ident_held, ident_gives, part_key_held, part_oper_held}
use Rattle.ns_link.proofs.Words.{Spoken, KeyTexts, all_of, spoken_keys, spoken_operator, spoken_name}

-- the texts of names
abbrev texts_of : List Named → List (List ℕ)
texts_of [] = []
texts_of (name ∷ names) = name.text ∷ texts_of names

selector_all : (parts : List Named) → selector_of parts ≡ all_of (texts_of parts)
selector_all [] = refl
selector_all (part ∷ parts) = ap (λ x. part.text ++ x) (selector_all parts)

module _ (Fine : Place → Type 0) (marks : List Place) where
  abbrev H : {A : Type 0} → Rule A → A → Type 0
  H r a = Held Fine marks r a

  -- ---- patterns

  abbrev Parts : Rule (Named ⊎ ((Named × Named) ⊎ f.ParamsForm))
  Parts = either g.ident (either (g.part_oper & g.ident) (once_or_more (g.part_key & g.ident)))

  abbrev FactoryParts : Rule (Named ⊎ f.ParamsForm)
  FactoryParts = either g.ident (once_or_more (g.part_key & g.ident))

  abbrev HeldForm : Option (Named ⊎ ((Named × Named) ⊎ f.ParamsForm)) → Type 0
  HeldForm form = (n : ℕ) × GoodFrom f.pattern_form Parts n form × Told Fine marks n (flat_from f.pattern_form Parts form)

  abbrev HeldFactory : Option (Named ⊎ f.ParamsForm) → Type 0
  HeldFactory form = (n : ℕ) × GoodFrom f.factory_form FactoryParts n form × Told Fine marks n (flat_from f.factory_form FactoryParts form)

  -- a pattern's selector is one, and its parameters are locals
  abbrev pub PatternSays : List Named → List Named → Type 0
  PatternSays parts params = Spoken (selector_of parts) × AreLocals Fine marks params

  abbrev IsLocal : Named → Type 0
  IsLocal name = IsLocalName name.text

  pairs_held : (parts params : List Named) (pairs : List (Named × Named)) → f.paired parts params ≡ Some pairs → AllHeld Fine marks (g.part_key & g.ident) pairs →
      KeyTexts (texts_of parts) × AreLocals Fine marks params
  pairs_held [] [] pairs e h = (tt, All-nil IsLocal)
  pairs_held [] (param ∷ params) pairs e h = absurd (cc (e))
  pairs_held (part ∷ parts) [] pairs e h = absurd (cc (e))
  pairs_held (part ∷ parts) (param ∷ params) pairs e h = by (starts_name part.text) (f.paired parts params) refl e (pairs_held parts params) where
    by : (starts : Bool) (l : Option (List (Named × Named))) → f.paired parts params ≡ l →
        (if starts then option_map (λ others. (part, param) ∷ others) l else None) ≡ Some pairs →
        ((others : List (Named × Named)) → f.paired parts params ≡ Some others → AllHeld Fine marks (g.part_key & g.ident) others →
        KeyTexts (texts_of parts) × AreLocals Fine marks params) →
        KeyTexts (texts_of (part ∷ parts)) × AreLocals Fine marks (param ∷ params)
    by false l e d more = absurd (cc (d))
    by true None e d more = absurd (cc (d))
    by true (Some others) e d more =
        let same : pairs ≡ (part, param) ∷ others = cc (d) in
        let all = subst (AllHeld Fine marks (g.part_key & g.ident)) same h in
        let one = both Fine marks g.part_key g.ident part param all.0 in
        let key = part_key_held Fine marks part one.0 in
        let further = more others e all.1 in
        ((key.0, key.1, further.0), All-cons IsLocal param params (ident_local Fine marks param one.1) further.1)

  alone : (part : Named) → Spoken part.text → Spoken (selector_of (part ∷ []))
  alone part h = subst Spoken (sym (append-nil part.text)) h

  operator_held : (part param : Named) (parts params : List Named) → HeldForm (f.operator_form part param parts params) → PatternSays (part ∷ parts) (param ∷ params)
  operator_held part param [] [] h =
      let one = both Fine marks g.part_oper g.ident part param h in
      let oper = part_oper_held Fine marks part one.0 in
      (alone part (spoken_operator part.text oper.0 oper.1), All-cons IsLocal param [] (ident_local Fine marks param one.1) (All-nil IsLocal))
  operator_held part param [] (other ∷ params) h = absurd h.1
  operator_held part param (other ∷ parts) [] h = absurd h.1
  operator_held part param (other ∷ parts) (more ∷ params) h = absurd h.1

  params_held : (part param : Named) (parts params : List Named) (starts : Bool) (l : Option (List (Named × Named))) → f.paired parts params ≡ l →
      HeldForm (if starts then option_map (λ pairs. inr (inr ((part, param), pairs))) l else f.operator_form part param parts params) →
      PatternSays (part ∷ parts) (param ∷ params)
  params_held part param parts params false l e h = operator_held part param parts params h
  params_held part param parts params true None e h = absurd h.1
  params_held part param parts params true (Some pairs) e h =
      let all = all_held Fine marks (g.part_key & g.ident) ((part, param) ∷ pairs) h in
      let one = both Fine marks g.part_key g.ident part param all.0 in
      let key = part_key_held Fine marks part one.0 in
      let further = pairs_held parts params pairs e all.1 in (
        subst Spoken (sym (selector_all (part ∷ parts))) (spoken_keys part.text (texts_of parts) (key.0, key.1, further.0)),
        All-cons IsLocal param params (ident_local Fine marks param one.1) further.1,
      )

  form_says : (parts params : List Named) → HeldForm (f.pattern_form (p.pattern_with parts params)) → PatternSays parts params
  form_says [] [] h = absurd h.1
  form_says (part ∷ []) [] h = let name = ident_held Fine marks part h in (alone part (spoken_name part.text name.0.0 name.1), All-nil IsLocal)
  form_says (part ∷ other ∷ parts) [] h = absurd h.1
  form_says [] (param ∷ params) h = absurd h.1
  form_says (part ∷ parts) (param ∷ params) h = params_held part param parts params (starts_name part.text) (f.paired parts params) refl h

  pub pattern_says : (parts params : List Named) → H g.pattern (p.pattern_with parts params) → PatternSays parts params
  pattern_says parts params h = form_says parts params h

  factory_form : (form : Option (Named ⊎ ((Named × Named) ⊎ f.ParamsForm))) → HeldFactory (f.factory_by form) → HeldForm form
  factory_form None h = h
  factory_form (Some (inl name)) h = h
  factory_form (Some (inr (inl binary))) h = absurd h.1
  factory_form (Some (inr (inr keys))) h = h

  pub factory_says : (parts params : List Named) → H g.factory (p.pattern_with parts params) → PatternSays parts params
  factory_says parts params h = form_says parts params (factory_form (f.pattern_form (p.pattern_with parts params)) h)

  -- ---- superclasses

  abbrev BaseParts : Rule (Named ⊎ (Named ⊎ (Named × Named)))
  BaseParts = either g.ident (either (k.Word r.Super ▸ g.ident) (k.Word r.Outer ▸ (g.ident & g.ident)))

  base_name : (origin : Origin) (name : Named) → H BaseParts (f.base_by origin name) → H g.ident name
  base_name o.Here name h = h
  base_name o.Super name h = behind Fine marks (k.Word r.Super) g.ident name h
  base_name (o.Outer class) name h = (both Fine marks g.ident g.ident class name (behind Fine marks (k.Word r.Outer) (g.ident & g.ident) (class, name) h)).1

  ident_at : (n : ℕ) (name : Named) → g.ident.Good n name → n ≡ name.at
  ident_at n name e = ap (λ (x : Named). x.at) (same_Some (g.named n name.text) name e)

  -- where a base's name stands
  base_at : (origin : Origin) (name : Named) (n : ℕ) → BaseParts.Good n (f.base_by origin name) → name.at ≡ n + words_before origin
  base_at o.Here name n good = let at = ident_at n name good in omega (at, arith)
  base_at o.Super name n good = let at = ident_at _ name good.1 in omega (at, arith)
  base_at (o.Outer class) name n good = let at = ident_at _ name good.1.1 in omega (at, arith)

module _ (Fine : Place → Type 0) (here : Standing) where
  origin_says : (origin : Origin) (name : Named) → SentSays Fine (name_sent here name) → NodeSays Fine (base_by here origin name)
  origin_says o.Here name h = name_says Fine here (resolve here.scope name.text) (name_sent here name) h
  origin_says o.Super name h = (tt, h)
  origin_says (o.Outer class) name h = (tt, h)

  base_says : (base : Base) → Held Fine here.marks g.base base → NodeSays Fine (base_node here base)
  base_says base h =
      origin_says base.origin base.name (ident_gives Fine here.marks base.name (base_name Fine here.marks base.origin base.name h))

  -- the operator before a base, and where it stands
  sign_says : (base : Base) → Held Fine here.marks (over_sign ▸ g.base) base → Spoken (codes "<:") × Fine (place_at here.marks (over_sign_at base))
  sign_says base h =
      let told = h.2 in
      let at = base_at Fine here.marks base.origin base.name (h.0 + 1) h.1.1 in
      let same : h.0 ≡ over_sign_at base = omega (at, arith) in
      (spoken_operator (codes "<:") told.0 told.1, subst (λ n. Fine (place_at here.marks n)) same told.2)

  pub head_says : (head : Base) (over : Option Base) → Held Fine here.marks g.base head → Held Fine here.marks (maybe (over_sign ▸ g.base)) over →
      NodeSays Fine (head_node here head over)
  head_says head None h o = base_says head h
  head_says head (Some over) h o =
      (base_says head h, (base_says over (behind Fine here.marks over_sign g.base over o), tt), sign_says over o)
