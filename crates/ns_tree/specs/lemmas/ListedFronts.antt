-- The fronts of a list with separators.
use Rattle.std.proofs.Common.{◌≡◌, ℕ, ◌+◌, ◌⊎◌, inl, inr, List, [], ◌∷◌, ◌++◌, length, refl, sym, ap, subst, ◌∙◌, append_assoc, length-append, arith}
use Rattle.std.proofs.lemmas.List.{append-nil}
use Rattle.ns_tree.specs.declared.token.Kind.{Kind}
use Rattle.ns_tree.specs.Rule.{Rule, Listed, none, last, next, listed, flat_listed, GoodListed, flat_items, GoodItems}
use Rattle.ns_tree.specs.laws.Fronts.{Whole, Fronts, Behind, split}

module _ {A : Type 0} (r : Rule A) (separator : Kind) (R : Fronts r) where
  abbrev Ends : ℕ → List A → List Kind → Type 0
  Ends n xs g = (g ≡ []) ⊎ r.Front (n + length (flat_items r separator xs)) g

  there : (n : ℕ) (a : A) (xs : List A) (g : List Kind) → Ends (n + length (r.flat a) + 1) xs g → Ends n (a ∷ xs) g
  there n a xs g (inl e) = inl e
  there n a xs g (inr f) = inr (subst (λ i. r.Front i g) (omega (arith, length-append (r.flat a) (separator ∷ flat_items r separator xs))) f)

  back : (n : ℕ) (a : A) (xs : List A) (g : List Kind) → Ends n (a ∷ xs) g → Ends (n + length (r.flat a) + 1) xs g
  back n a xs g (inl e) = inl e
  back n a xs g (inr f) = inr (subst (λ i. r.Front i g) (omega (arith, length-append (r.flat a) (separator ∷ flat_items r separator xs))) f)

  first_item : (n : ℕ) (a : A) (f u : List Kind) → r.Good n a → r.flat a ≡ f ++ u → (listed r separator).Front n f
  first_item n a f u good e = ([], f, tt, inr (subst (λ i. r.Front i f) (omega arith) (R.begins n a f u good e)), refl)

  next_front : (n : ℕ) (a : A) (f g : List Kind) → r.Good n a → f ≡ r.flat a ++ separator ∷ g → (listed r separator).Front (n + length (r.flat a) + 1) g → (listed r separator).Front n f
  next_front n a f g good e (xs, h, goods, front, cut) =
      (a ∷ xs, h, (good, goods), there n a xs h front, e ∙ ap (λ w. r.flat a ++ separator ∷ w) cut ∙ sym (append_assoc (r.flat a) (separator ∷ flat_items r separator xs) h))

  -- behind an item there is nothing yet, or the separator
  behind_item : (n : ℕ) (a : A) (v f rest g : List Kind) → r.Good n a → f ≡ r.flat a ++ rest → separator ∷ v ≡ rest ++ g → ((h : List Kind) → v ≡ h ++ g → (listed r separator).Front (n + length (r.flat a) + 1) h) → (listed r separator).Front n f
  behind_item n a v f [] g good e cut after = first_item n a f [] good (sym (append-nil f ∙ e ∙ append-nil (r.flat a)))
  behind_item n a v f (k ∷ rest) g good e cut after =
      let same : k ≡ separator = cc in
      let tail : v ≡ rest ++ g = cc in
      next_front n a f rest good (e ∙ ap (λ j. r.flat a ++ j ∷ rest) same) (after rest tail)

  next_begins : (n : ℕ) (a : A) (v f g : List Kind) → r.Good n a → ((h : List Kind) → v ≡ h ++ g → (listed r separator).Front (n + length (r.flat a) + 1) h)
      → ((u : List Kind) × (r.flat a ≡ f ++ u)) ⊎ Behind (r.flat a) (separator ∷ v) f g → (listed r separator).Front n f
  next_begins n a v f g good after (inl (u, e)) = first_item n a f u good e
  next_begins n a v f g good after (inr h) = behind_item n a v f h.rest g good h.front h.back after

  listed_begins : (n : ℕ) (l : Listed A) (f g : List Kind) → GoodListed r separator n l → flat_listed r separator l ≡ f ++ g → (listed r separator).Front n f
  listed_begins n none [] g good e = ([], [], tt, inl refl, refl)
  listed_begins n none (k ∷ f) g good e = absurd cc
  listed_begins n (last a) f g good e = first_item n a f g good e
  listed_begins n (next a rest) f g good e =
      next_begins n a (flat_listed r separator rest) f g good.0 (λ h e'. listed_begins (n + length (r.flat a) + 1) rest h g good.1 e') (split (r.flat a) (separator ∷ flat_listed r separator rest) f g e)

  listed_ends : (n : ℕ) (xs : List A) (g : List Kind) → GoodItems r separator n xs → Ends n xs g → Whole (listed r separator) n (flat_items r separator xs ++ g)
  listed_ends n [] g good (inl e) = record { value = none; more = []; good = tt; spelled = sym (append-nil g ∙ e); told = tt }
  listed_ends n [] g good (inr front) =
      let x : Whole r n g = R.goes_on n g (subst (λ i. r.Front i g) (omega arith) front) in
      record { value = last x.value; more = x.more; good = x.good; spelled = x.spelled; told = x.told }
  listed_ends n (a ∷ xs) g good front =
      let y : Whole (listed r separator) (n + length (r.flat a) + 1) (flat_items r separator xs ++ g) = listed_ends (n + length (r.flat a) + 1) xs g good.1 (back n a xs g front) in
      record {
        value = next a y.value;
        more = y.more;
        good = (good.0, y.good);
        spelled = ap (λ w. r.flat a ++ separator ∷ w) y.spelled ∙ sym (append_assoc (r.flat a) (separator ∷ (flat_items r separator xs ++ g)) y.more) ∙ ap (λ w. w ++ y.more) (sym (append_assoc (r.flat a) (separator ∷ flat_items r separator xs) g));
        told = y.told;
      }

  listed_goes : (n : ℕ) (f : List Kind) (xs : List A) (g : List Kind) → GoodItems r separator n xs → Ends n xs g → f ≡ flat_items r separator xs ++ g → Whole (listed r separator) n f
  listed_goes n f xs g good front e = subst (Whole (listed r separator) n) (sym e) (listed_ends n xs g good front)

  pub listed_fronts : Fronts (listed r separator)
  listed_fronts = record {
    begins = listed_begins;
    goes_on = λ n f front. listed_goes n f front.0 front.1 front.2 front.3 front.4;
    example = λ n. record { value = none; more = []; good = tt; spelled = refl; told = tt };
    nothing = λ n. ([], [], tt, inl refl, refl);
  }
