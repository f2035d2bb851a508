-- Patterns, factories, bases and block parameters are spelled by their tokens.
use Rattle.std.proofs.Common.{◌≡◌, ℕ, ◌⊎◌, inl, inr, List, [], ◌∷◌, ◌++◌, Option, Some, None, Bool, true, false, if◌then◌else◌, refl, sym, ap, subst, ◌∙◌, eqb-true}
use Rattle.std.specs.Prelude.{codes, ◌&&◌, ◌||◌, not, nat_eq, IsTrue}
use Rattle.std.specs.List.{list_all, list_any}
use Rattle.std.specs.Str.{bytes_eq}
use Rattle.std.proofs.lemmas.Slice.Eq.{bytes_eq-Decides}
use Rattle.ns_base.specs.Spelling.{begins_name, starts_name, goes_on_name, is_identifier, is_operator_byte, is_operator}
use Rattle.ns_tree.specs.declared.token.Kind.TheVariants as k
use Rattle.ns_tree.specs.declared.tree.Named.{Named}
use Rattle.ns_tree.specs.declared.tree.Origin.TheVariants as from
use Rattle.ns_tree.specs.Flat.{bar}
use Rattle.ns_tree.specs.Forms as f
use Rattle.ns_tree.specs.Grammar as g
use Rattle.ns_tree.specs.Rule.{Rule, ◌&◌, maybe, either, mapped, flat_from, GoodFrom, ◌▸◌, ◌◂◌, once_or_more}
use Rattle.ns_tree.specs.laws.Made as back
use Rattle.ns_parse_tokens.specs.declared.mark.Mark.TheVariants as m
use Rattle.ns_parse_tokens.specs.declared.name.Sort.TheVariants as s
use Rattle.ns_parse_tokens.specs.declared.name.Operators.TheVariants as o
use Rattle.ns_parse_tokens.specs.Mark as marks
use Rattle.ns_parse_tokens.specs.Name as names
use Rattle.ns_parse_tokens.specs.Pattern as x
use Rattle.ns_parse_tokens.specs.laws.Sound.{Sound, SoundIf, Becomes, sound_none, sound_never, sound_mapped, if_mapped, sound_both, sound_after, if_until, if_same, sound_or, sound_or_if}
use Rattle.ns_parse_tokens.specs.laws.SoundLists.{some, sound_some}
use Rattle.ns_parse_tokens.specs.laws.SoundMarks.{sound_skip}
use Rattle.ns_parse_tokens.specs.laws.SoundTokens.{sound_name, sound_ident}

-- ---- keys and operators before parameters

both_hold : (a b : Bool) → (a && b) ≡ true → (a ≡ true) × (b ≡ true)
both_hold true b h = (refl, h)
both_hold false b h = absurd cc

-- a key's text begins as a name does
key_starts : (name text : List ℕ) → IsTrue (is_identifier name) → text ≡ name ++ 58 ∷ [] → starts_name text ≡ true
key_starts [] text h e = absurd cc
key_starts (b ∷ rest) text h e = ap starts_name e ∙ (both_hold (begins_name b) (list_all goes_on_name rest) h).0

fails : (v : Bool) → not v ≡ true → v ≡ false
fails true e = absurd cc
fails false e = refl

by_first : (test : ℕ → Bool) (b c : ℕ) (rest same : Bool) → nat_eq b c ≡ same → (same || rest) ≡ true → not (test c) ≡ true
    → (rest ≡ true → test b ≡ false) → test b ≡ false
by_first test b c rest true e any one others = ap test (eqb-true b c e) ∙ fails (test c) one
by_first test b c rest false e any one others = others any

-- what is one of these bytes fails a test that they all fail
none_of : (test : ℕ → Bool) (b : ℕ) (bytes : List ℕ) → list_all (λ c. not (test c)) bytes ≡ true → list_any (nat_eq b) bytes ≡ true → test b ≡ false
none_of test b [] all any = absurd cc
none_of test b (c ∷ bytes) all any =
    let h : (not (test c) ≡ true) × (list_all (λ c. not (test c)) bytes ≡ true) = both_hold (not (test c)) (list_all (λ c. not (test c)) bytes) all in
    by_first test b c (list_any (nat_eq b) bytes) (nat_eq b c) refl any h.0 (λ more. none_of test b bytes h.1 more)

-- an operator's first byte begins no name
operator_byte : (b : ℕ) → is_operator_byte b ≡ true → begins_name b ≡ false
operator_byte b h = none_of begins_name b (codes "+-*/\\~<>=@%|&?,!") refl h

operator_starts : (text : List ℕ) → IsTrue (is_operator text) → starts_name text ≡ false
operator_starts [] h = refl
operator_starts (b ∷ rest) h = by_run (list_all is_operator_byte (b ∷ rest)) refl h
  where
    by_run : (run : Bool) → list_all is_operator_byte (b ∷ rest) ≡ run → (run || bytes_eq (b ∷ rest) (codes "<:")) ≡ true → begins_name b ≡ false
    by_run true e h = operator_byte b (both_hold (is_operator_byte b) (list_all is_operator_byte rest) e).0
    by_run false e h = ap starts_name ((bytes_eq-Decides (b ∷ rest) (codes "<:")).0 h)

if_yes : (test : Bool) (name : Named) → test ≡ true → (if test then Some name else None) ≡ Some name
if_yes true name h = refl
if_yes false name h = absurd cc

if_not : (test : Bool) (name : Named) → test ≡ false → (if test then None else Some name) ≡ Some name
if_not true name h = absurd cc
if_not false name h = refl

sound_part_key : Sound (names.name s.Key) g.part_key
sound_part_key = sound_name s.Key g.part_key (λ n text h e. if_yes (starts_name text) (g.named n text) (key_starts h.0 text h.1 h.2)) (λ name. refl)

sound_part_oper : Sound (names.name (s.Operator o.All)) g.part_oper
sound_part_oper = sound_name (s.Operator o.All) g.part_oper (λ n text h e. if_not (starts_name text) (g.named n text) (operator_starts text h))
    (λ name. refl)

-- ---- patterns

module _ {A : Type 0} (r : Rule A) (B : Type 0) (form : B → Option A) (to : A → B) (made : (n : ℕ) (a : A) → r.Good n a → form (to a) ≡ Some a) where
  pub by_form : Becomes r (mapped form r) to
  by_form n a good = let e : form (to a) ≡ Some a = made n a good in (subst (GoodFrom form r n) (sym e) good, ap (flat_from form r) e)

-- the forms of a pattern
abbrev pattern_forms : Rule (Named ⊎ ((Named × Named) ⊎ f.ParamsForm))
pattern_forms = either g.ident (either (g.part_oper & g.ident) (once_or_more (g.part_key & g.ident)))

binary_becomes : Becomes (g.part_oper & g.ident) g.pattern x.binary
binary_becomes n a good = let e : f.pattern_form (x.binary a) ≡ Some (inr (inl a)) = back.pattern_back n (inr (inl a)) good in
    (subst (GoodFrom f.pattern_form pattern_forms n) (sym e) good, ap (flat_from f.pattern_form pattern_forms) e)

keyword_becomes : Becomes (some (g.part_key & g.ident)) g.pattern x.keyword
keyword_becomes n [] good = absurd good
keyword_becomes n (a ∷ rest) good = let e : f.pattern_form (x.keyword (a ∷ rest)) ≡ Some (inr (inr (a, rest))) = back.pattern_back n
    (inr (inr (a, rest))) good in
    (subst (GoodFrom f.pattern_form pattern_forms n) (sym e) good, ap (flat_from f.pattern_form pattern_forms) e)

sound_key_params : SoundIf (names.is_name s.Key) x.key_params (some (g.part_key & g.ident))
sound_key_params = sound_some (names.is_name s.Key) (sound_both sound_part_key sound_ident)

pub sound_pattern : Sound x.pattern g.pattern
unfolding x.pattern
sound_pattern =
    sound_or (names.is_name s.Ident) (sound_mapped x.unary g.pattern sound_ident (λ n a good. (good, refl)))
    (sound_or (names.is_name (s.Operator o.All)) (sound_mapped x.binary g.pattern (sound_both sound_part_oper sound_ident) binary_becomes)
    (sound_or_if (if_mapped x.keyword g.pattern sound_key_params keyword_becomes) (sound_never g.pattern)))

abbrev factory_forms : Rule (Named ⊎ f.ParamsForm)
factory_forms = either g.ident (once_or_more (g.part_key & g.ident))

keys_become : Becomes (some (g.part_key & g.ident)) (maybe g.factory) (λ pairs. Some (x.keyword pairs))
keys_become n [] good = absurd good
keys_become n (a ∷ rest) good = let e : f.factory_form (x.keyword (a ∷ rest)) ≡ Some (inr (a, rest)) = back.factory_back n (inr (a, rest)) good in
    (subst (GoodFrom f.factory_form factory_forms n) (sym e) good, ap (flat_from f.factory_form factory_forms) e)

pub sound_factory : Sound x.factory (maybe g.factory)
unfolding x.factory
sound_factory =
    sound_or (names.is_name s.Ident) (sound_mapped (λ n. Some (x.unary n)) (maybe g.factory) sound_ident (λ n a good. (good, refl)))
    (sound_or_if (if_mapped (λ pairs. Some (x.keyword pairs)) (maybe g.factory) sound_key_params keys_become)
    (sound_none (maybe g.factory) None (λ n. tt) refl))

-- ---- bases

pub sound_base : Sound x.base g.base
unfolding x.base
sound_base =
    sound_or (marks.is_mark m.SuperWord)
    (sound_mapped (x.base_of from.Super) g.base (sound_after (sound_skip m.SuperWord) sound_ident) (λ n a good. (good, refl)))
    (sound_or (marks.is_mark m.OuterWord) (sound_mapped (λ a. x.base_of (from.Outer a.0) a.1) g.base
    (sound_after (sound_skip m.OuterWord) (sound_both sound_ident sound_ident)) (λ n a good. (good, refl)))
    (sound_mapped (x.base_of from.Here) g.base sound_ident (λ n a good. (good, refl))))

-- ---- block parameters

-- colons and names, and a bar; or nothing
abbrev pub params : Rule (List Named)
params = mapped (λ ns. Some (f.once_or_more_of ns)) (maybe (once_or_more (k.Colon ▸ g.ident) ◂ bar))

params_become : Becomes (some (k.Colon ▸ g.ident) ◂ bar) params (λ ns. ns)
params_become n [] good = absurd good.0
params_become n (a ∷ rest) good = (good, refl)

pub sound_params : Sound x.params params
unfolding x.params
sound_params =
    sound_or_if (if_same params (if_until (sound_some (marks.is_mark m.Colon) (sound_after (sound_skip m.Colon) sound_ident)) (sound_skip m.Bar)) params_become)
    (sound_none params [] (λ n. tt) refl)
