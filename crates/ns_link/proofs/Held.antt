-- Parts of a tree, each given by its rule at the number of its first token; and what holds of each of its tokens.
use Rattle.std.proofs.Common.{◌≡◌, ℕ, suc, ◌+◌, ◌≤◌, List, [], ◌∷◌, ◌++◌, length, refl, subst, arith}
use Rattle.std.specs.Prelude.{Bool, true, false, Option, Some, None, option_map}
use Rattle.ns_base.specs.declared.place.Place.{Place}
use Rattle.ns_tree.specs.declared.token.Kind.{Kind}
use Rattle.ns_tree.specs.Forms.{listed_of}
use Rattle.ns_tree.specs.Rule.{Rule, token, ◌&◌, many, ◌▸◌, ◌◂◌, Listed, none, last, next, listed}
use Rattle.ns_tree.specs.Tree.{HasText}
use Rattle.ns_scope.specs.Whole.{most_bytes, text_of}
use Rattle.ns_resolved.specs.Expressions.{place_at}

module _ (Fine : Place → Type 0) (marks : List Place) where
  -- Each token, the first of which has that number, has a text that is not too long, and stands at a fine place.
  abbrev pub Told : ℕ → List Kind → Type 0
  Told n [] = Unit {0}
  Told n (kind ∷ rest) = HasText kind × (length (text_of kind) ≤ most_bytes) × Fine (place_at marks n) × Told (n + 1) rest

  pub told_left : (a b : List Kind) (n : ℕ) → Told n (a ++ b) → Told n a
  told_left [] b n h = tt
  told_left (kind ∷ a) b n h = (h.0, h.1, h.2, told_left a b (n + 1) h.3)

  pub told_right : (a b : List Kind) (n : ℕ) → Told n (a ++ b) → Told (n + length a) b
  told_right [] b n h = let z : n ≡ n + 0 = omega arith in subst (λ k. Told k b) z h
  told_right (kind ∷ a) b n h =
      let z : n + 1 + length a ≡ n + suc (length a) = omega arith in subst (λ k. Told k b) z (told_right a b (n + 1) h.3)

  -- the rule gives the value somewhere, with such tokens
  abbrev pub Held : {A : Type 0} → Rule A → A → Type 0
  Held r a = (n : ℕ) × r.Good n a × Told n (r.flat a)

  abbrev pub AllHeld : {A : Type 0} → Rule A → List A → Type 0
  AllHeld r [] = Unit {0}
  AllHeld r (a ∷ rest) = Held r a × AllHeld r rest

  pub both : {A B : Type 0} (r : Rule A) (s : Rule B) (a : A) (b : B) → Held (r & s) (a, b) → Held r a × Held s b
  both r s a b h =
      ((h.0, h.1.0, told_left (r.flat a) (s.flat b) h.0 h.2), (h.0 + length (r.flat a), h.1.1, told_right (r.flat a) (s.flat b) h.0 h.2))

  pub behind : {A : Type 0} (kind : Kind) (r : Rule A) (a : A) → Held (kind ▸ r) a → Held r a
  behind kind r a h = (both (token kind) r tt a h).1

  pub before : {A : Type 0} (r : Rule A) (kind : Kind) (a : A) → Held (r ◂ kind) a → Held r a
  before r kind a h = (both r (token kind) a tt h).0

  pub all_held : {A : Type 0} (r : Rule A) (items : List A) → Held (many r) items → AllHeld r items
  all_held r [] h = tt
  all_held r (a ∷ rest) h = let parts = both r (many r) a rest h in (parts.0, all_held r rest parts.1)

  pub listed_held : {A : Type 0} (r : Rule A) (separator : Kind) (items : List A) (stop : Bool) (l : Listed A) → listed_of items stop ≡ Some l →
      Held (listed r separator) l → AllHeld r items
  listed_held r separator [] stop l e h = tt
  listed_held r separator (a ∷ []) false l e h = (subst (Held (listed r separator)) (let s : l ≡ last a = cc (e) in s) h, tt)
  listed_held r separator (a ∷ []) true l e h =
      let one = subst (Held (listed r separator)) (let s : l ≡ next a none = cc (e) in s) h in
      ((one.0, one.1.0, told_left (r.flat a) (separator ∷ []) one.0 one.2), tt)
  listed_held {A} r separator (a ∷ b ∷ rest) stop l e h = by (listed_of (b ∷ rest) stop) refl e (listed_held r separator (b ∷ rest) stop) where
    by : (o : Option (Listed A)) → listed_of (b ∷ rest) stop ≡ o → option_map (next a) o ≡ Some l →
        ((m : Listed A) → listed_of (b ∷ rest) stop ≡ Some m → Held (listed r separator) m → AllHeld r (b ∷ rest)) → AllHeld r (a ∷ b ∷ rest)
    by None f e further = absurd (cc (e))
    by (Some m) f e further =
        let one = subst (Held (listed r separator)) (let s : l ≡ next a m = cc (e) in s) h in
        let left = told_left (r.flat a) (separator ∷ (listed r separator).flat m) one.0 one.2 in
        let right = told_right (r.flat a) (separator ∷ (listed r separator).flat m) one.0 one.2 in
        ((one.0, one.1.0, left), further m f (one.0 + length (r.flat a) + 1, one.1.1, right.3))
