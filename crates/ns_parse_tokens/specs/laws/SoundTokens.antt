-- Names, strings, numbers and leaves are spelled by their tokens.
use Rattle.std.proofs.Common.{◌≡◌, ℕ, List, [], ◌∷◌, Some, None, Bool, true, false, not, cond, if◌then◌else◌, refl, sym, ap, subst, ◌∙◌}
use Rattle.std.specs.Prelude.{codes}
use Rattle.std.specs.Str.{bytes_eq}
use Rattle.ns_tree.specs.declared.token.Kind.{Kind}
use Rattle.ns_tree.specs.declared.token.Kind.TheVariants as k
use Rattle.ns_tree.specs.declared.token.Reserved.{Reserved}
use Rattle.ns_tree.specs.declared.token.Reserved.TheVariants as words
use Rattle.ns_tree.specs.declared.tree.Named.{Named}
use Rattle.ns_tree.specs.declared.tree.Access.{Access}
use Rattle.ns_tree.specs.Grammar as g
use Rattle.ns_tree.specs.Plain as p
use Rattle.ns_tree.specs.Forms as f
use Rattle.ns_tree.specs.Rule.{Rule, many, maybe, mapped}
use Rattle.ns_tree.specs.Tree.{HasText}
use Rattle.ns_parse_tokens.specs.declared.mark.Mark.TheVariants as m
use Rattle.ns_parse_tokens.specs.declared.name.Sort.{Sort}
use Rattle.ns_parse_tokens.specs.declared.name.Sort.TheVariants as s
use Rattle.ns_parse_tokens.specs.declared.name.Operators.TheVariants as o
use Rattle.ns_parse_tokens.specs.Mark as marks
use Rattle.ns_parse_tokens.specs.Name as names
use Rattle.ns_parse_tokens.specs.Leaf as leaves
use Rattle.ns_parse_tokens.specs.laws.SoundMarks.{sound_skip}
use Rattle.ns_parse_tokens.specs.laws.Sound.{Sound, sound_one, sound_mapped, sound_after, sound_or, sound_maybe}
use Rattle.ns_parse_tokens.specs.laws.SoundLists.{sound_many}

-- ---- names

-- the token of a sort with that text
abbrev pub kind_named : Sort → List ℕ → Kind
kind_named s.Ident text = k.Ident text
kind_named s.Key text = k.Key text
kind_named s.SetKey text = k.SetKey text
kind_named (s.Operator operators) text = k.Oper text

ident_named : (sort : Sort) (text : List ℕ) → names.is_name sort (k.Ident text) ≡ true → k.Ident text ≡ kind_named sort text
ident_named s.Ident text h = refl
ident_named _ text h = absurd cc

key_named : (sort : Sort) (text : List ℕ) → names.is_name sort (k.Key text) ≡ true → k.Key text ≡ kind_named sort text
key_named s.Key text h = refl
key_named _ text h = absurd cc

set_key_named : (sort : Sort) (text : List ℕ) → names.is_name sort (k.SetKey text) ≡ true → k.SetKey text ≡ kind_named sort text
set_key_named s.SetKey text h = refl
set_key_named _ text h = absurd cc

oper_named : (sort : Sort) (text : List ℕ) → names.is_name sort (k.Oper text) ≡ true → k.Oper text ≡ kind_named sort text
oper_named (s.Operator operators) text h = refl
oper_named s.Ident text h = absurd cc
oper_named s.Key text h = absurd cc
oper_named s.SetKey text h = absurd cc

name_is : (sort : Sort) (kind : Kind) → names.is_name sort kind ≡ true → kind ≡ kind_named sort (names.text_of kind)
name_is sort (k.Ident text) h = ident_named sort text h
name_is sort (k.Key text) h = key_named sort text h
name_is sort (k.SetKey text) h = set_key_named sort text h
name_is sort (k.Oper text) h = oper_named sort text h
name_is sort _ h = absurd cc

if_some : {A : Type 0} (test : Bool) (x a : A) → cond test (Some x) None ≡ Some a → (test ≡ true) × (x ≡ a)
if_some true x a h = (refl, (cc))
if_some false x a h = absurd cc

-- A rule of names, whose tokens are those of a sort.
module _ (sort : Sort) (r : Rule Named)
    (good : (n : ℕ) (text : List ℕ) → HasText (kind_named sort text) → names.is_name sort (kind_named sort text) ≡ true → r.Good n (g.named n text))
    (flat : (name : Named) → r.flat name ≡ kind_named sort name.text ∷ []) where
  name_made : (n : ℕ) (kind : Kind) (name : Named) → HasText kind → names.make_name sort n kind ≡ Some name → r.Good n name × (r.flat name ≡ kind ∷ [])
  name_made n kind name h e =
      let text : List ℕ = names.text_of kind in
      let x : (names.is_name sort kind ≡ true) × (g.named n text ≡ name) = if_some (names.is_name sort kind) (g.named n text) name e in
      let same : kind ≡ kind_named sort text = name_is sort kind x.0 in
      let made : r.Good n (g.named n text) = good n text (subst HasText same h) (ap (names.is_name sort) (sym same) ∙ x.0) in
      (subst (r.Good n) x.1 made, ap r.flat (sym x.1) ∙ flat (g.named n text) ∙ ap (λ j. j ∷ []) (sym same))

  pub sound_name : Sound (names.name sort) r
  sound_name = sound_one (names.make_name sort) r name_made

pub sound_ident : Sound (names.name s.Ident) g.ident
sound_ident = sound_name s.Ident g.ident (λ n text h e. refl) (λ name. refl)

pub sound_key : Sound (names.name s.Key) g.key
sound_key = sound_name s.Key g.key (λ n text h e. refl) (λ name. refl)

pub sound_set_key : Sound (names.name s.SetKey) g.set_key
sound_set_key = sound_name s.SetKey g.set_key (λ n text h e. refl) (λ name. refl)

pub sound_oper : Sound (names.name (s.Operator o.All)) g.oper
sound_oper = sound_name (s.Operator o.All) g.oper (λ n text h e. refl) (λ name. refl)

no_bar : (test : Bool) (name : Named) → not test ≡ true → (if test then None else Some name) ≡ Some name
no_bar true name h = absurd cc
no_bar false name h = refl

pub sound_slot_oper : Sound (names.name (s.Operator o.ButBar)) g.slot_oper
sound_slot_oper = sound_name (s.Operator o.ButBar) g.slot_oper (λ n text h e. no_bar (bytes_eq text (codes "|")) (g.named n text) e) (λ name. refl)

-- names of a sort, any number of them
pub sound_names : {r : Rule Named} (sort : Sort) → Sound (names.name sort) r → Sound (names.names sort) (many r)
sound_names sort N = sound_many (names.is_name sort) N

-- ---- numbers, strings and access words

of_some : {A : Type 0} (P : A → Type 0) (x a : A) → Some x ≡ Some a → P x → P a
of_some P x a e h = let same : x ≡ a = cc in subst P same h

number_made : (n : ℕ) (kind : Kind) (a : ℕ) → HasText kind → g.make_number n kind ≡ Some a → g.number.Good n a × (g.number.flat a ≡ kind ∷ [])
number_made n (k.Number size) a h e = of_some (λ a. g.number.Good n a × (g.number.flat a ≡ k.Number size ∷ [])) size a e (refl, refl)
number_made n _ a h e = absurd cc

pub sound_number : Sound leaves.number g.number
sound_number = sound_one g.make_number g.number number_made

string_made : (n : ℕ) (kind : Kind) (a : List ℕ) → HasText kind → leaves.make_string n kind ≡ Some a → g.string.Good n a × (g.string.flat a ≡ kind ∷ [])
string_made n (k.Str text) a h e = of_some (λ a. g.string.Good n a × (g.string.flat a ≡ k.Str text ∷ [])) text a e (refl, refl)
string_made n _ a h e = absurd cc

pub sound_string : Sound leaves.string g.string
sound_string = sound_one leaves.make_string g.string string_made

pub sound_strings : Sound leaves.strings (many g.string)
sound_strings = sound_many leaves.is_string sound_string

access_by : (n : ℕ) (word : Reserved) (x a : Access) → Some x ≡ Some a → g.access.Good n x × (g.access.flat x ≡ k.Word word ∷ [])
    → g.access.Good n a × (g.access.flat a ≡ k.Word word ∷ [])
access_by n word x a e h = of_some (λ a. g.access.Good n a × (g.access.flat a ≡ k.Word word ∷ [])) x a e h

access_made : (n : ℕ) (kind : Kind) (a : Access) → HasText kind → leaves.make_access n kind ≡ Some a → g.access.Good n a × (g.access.flat a ≡ kind ∷ [])
access_made n (k.Word words.Public) a h e = access_by n words.Public _ a e (refl, refl)
access_made n (k.Word words.Protected) a h e = access_by n words.Protected _ a e (refl, refl)
access_made n (k.Word words.Private) a h e = access_by n words.Private _ a e (refl, refl)
access_made n _ a h e = absurd cc

pub sound_access : Sound leaves.maybe_access (maybe g.access)
sound_access = sound_maybe leaves.is_access (sound_one leaves.make_access g.access access_made)

-- ---- primaries without brackets

-- a primary without brackets
abbrev pub leaf : Rule p.Primary
leaf = mapped f.leaf_of g.leaf

simple_by : (n : ℕ) (kind : Kind) (x a : p.Primary) → Some x ≡ Some a → leaf.Good n x × (leaf.flat x ≡ kind ∷ []) → leaf.Good n a × (leaf.flat a ≡ kind ∷ [])
simple_by n kind x a e h = of_some (λ a. leaf.Good n a × (leaf.flat a ≡ kind ∷ [])) x a e h

simple_made : (n : ℕ) (kind : Kind) (a : p.Primary) → HasText kind → leaves.make_simple n kind ≡ Some a → leaf.Good n a × (leaf.flat a ≡ kind ∷ [])
simple_made n (k.Ident text) a h e = simple_by n _ _ a e (refl, refl)
simple_made n (k.Number size) a h e = simple_by n _ _ a e (refl, refl)
simple_made n (k.Str text) a h e = simple_by n _ _ a e (refl, refl)
simple_made n (k.Symbol text) a h e = simple_by n _ _ a e (refl, refl)
simple_made n (k.Word words.Nil) a h e = simple_by n _ _ a e (refl, refl)
simple_made n (k.Word words.True) a h e = simple_by n _ _ a e (refl, refl)
simple_made n (k.Word words.False) a h e = simple_by n _ _ a e (refl, refl)
simple_made n (k.Word words.SelfWord) a h e = simple_by n _ _ a e (refl, refl)
simple_made n (k.Word words.Super) a h e = simple_by n _ _ a e (refl, refl)
simple_made n _ a h e = absurd cc

pub sound_leaf : Sound leaves.leaf leaf
unfolding leaves.leaf
sound_leaf =
    sound_or leaves.is_simple (sound_one leaves.make_simple leaf simple_made)
    (sound_or (marks.is_mark m.Minus) (sound_mapped (p.number true) leaf (sound_after (sound_skip m.Minus) sound_number) (λ n a good. (good, refl)))
    (sound_mapped p.outer_name leaf (sound_after (sound_skip m.OuterWord) sound_ident) (λ n a good. (good, refl))))
