-- The fronts of a rule are what begins a spelling of it: a law for each way in which rules are put together.
use Rattle.std.proofs.Common.{◌≡◌, ℕ, ◌+◌, ◌⊎◌, inl, inr, List, [], ◌∷◌, ◌++◌, length, Option, Some, None, Bool, true, false, if◌then◌else◌, refl, sym, ap, subst, ◌∙◌, append_assoc, length-append, arith}
use Rattle.std.proofs.lemmas.List.{append-nil}
use Rattle.ns_tree.specs.declared.token.Kind.{Kind}
use Rattle.ns_tree.specs.Rule.{Rule, one, token, ◌&◌, many, flat_all, GoodAll, maybe, flat_option, GoodOption, either, flat_either, GoodEither, mapped, flat_from, GoodFrom, placed}
use Rattle.ns_tree.specs.Rule.{◌▸◌, ◌◂◌, once_or_more, flag}
use Rattle.ns_tree.specs.Tree.{HasText, AllHaveText}

-- a value whose spelling goes on from f by tokens that have texts
pub record Whole {A : Type 0} (r : Rule A) (n : ℕ) (f : List Kind) : Type 0 where
  pub value : A
  pub more : List Kind
  pub good : r.Good n value
  pub spelled : r.flat value ≡ f ++ more
  pub told : AllHaveText more

pub record Fronts {A : Type 0} (r : Rule A) : Type 0 where
  -- what begins a spelling is a front
  pub begins : (n : ℕ) (a : A) (f g : List Kind) → r.Good n a → r.flat a ≡ f ++ g → r.Front n f
  -- a front goes on to a spelling
  pub goes_on : (n : ℕ) (f : List Kind) → r.Front n f → Whole r n f
  -- there is a spelling at each place
  pub example : (n : ℕ) → Whole r n []
  pub nothing : (n : ℕ) → r.Front n []

pub told_append : (f g : List Kind) → AllHaveText f → AllHaveText g → AllHaveText (f ++ g)
told_append [] g a b = b
told_append (k ∷ f) g a b = (a.0, told_append f g a.1 b)

-- The tokens in front have texts where all have.
pub told_front : (f g : List Kind) → AllHaveText (f ++ g) → AllHaveText f
told_front [] g h = tt
told_front (k ∷ f) g h = (h.0, told_front f g h.1)

-- where w ++ v begins with f, f ends within w, or goes on behind it
pub record Behind (w v f g : List Kind) : Type 0 where
  pub rest : List Kind
  pub front : f ≡ w ++ rest
  pub back : v ≡ rest ++ g

split_next : (k j : Kind) (w v f g : List Kind) → k ≡ j → ((u : List Kind) × (w ≡ f ++ u)) ⊎ Behind w v f g → ((u : List Kind) × (k ∷ w ≡ j ∷ f ++ u)) ⊎ Behind (k ∷ w) v (j ∷ f) g
split_next k j w v f g e (inl (u, h)) = inl (u, cc)
split_next k j w v f g e (inr h) = inr (record { rest = h.rest; front = cc (e, h.front); back = h.back })

-- Where two cuts of one list meet, one front is longer, or the other has one behind it.
pub split : (w v f g : List Kind) → w ++ v ≡ f ++ g → ((u : List Kind) × (w ≡ f ++ u)) ⊎ Behind w v f g
split [] v f g e = inr (record { rest = f; front = refl; back = e })
split (k ∷ w) v [] g e = inl (k ∷ w, refl)
split (k ∷ w) v (j ∷ f) g e = split_next k j w v f g (cc) (split w v f g (cc))

-- ---- one token

-- a value at each place, with a text
pub record Example {A : Type 0} (make : ℕ → Kind → Option A) (kind : A → Kind) (n : ℕ) : Type 0 where
  pub value : A
  pub made : make n (kind value) ≡ Some value
  pub told : HasText (kind value)

module _ {A : Type 0} (make : ℕ → Kind → Option A) (kind : A → Kind) (sample : (n : ℕ) → Example make kind n) where
  one_begins : (n : ℕ) (a : A) (f g : List Kind) → make n (kind a) ≡ Some a → kind a ∷ [] ≡ f ++ g → (one make kind).Front n f
  one_begins n a [] g good e = inl refl
  one_begins n a (k ∷ []) g good e = inr (a, good, cc)
  one_begins n a (k ∷ j ∷ f) g good e = absurd (omega (arith, ap length e, length-append f g))

  one_example : (n : ℕ) (f : List Kind) → f ≡ [] → Whole (one make kind) n f
  one_example n f e = let x : Example make kind n = sample n in record { value = x.value; more = kind x.value ∷ []; good = x.made; spelled = ap (λ w. w ++ kind x.value ∷ []) (sym e); told = (x.told, tt) }

  one_goes : (n : ℕ) (f : List Kind) → (one make kind).Front n f → Whole (one make kind) n f
  one_goes n f (inl e) = one_example n f e
  one_goes n f (inr (a, good, e)) = record { value = a; more = []; good = good; spelled = sym (append-nil f ∙ e); told = tt }

  pub one_fronts : Fronts (one make kind)
  one_fronts = record { begins = one_begins; goes_on = one_goes; example = λ n. one_example n [] refl; nothing = λ n. inl refl }

module _ (kind : Kind) (text : HasText kind) where
  token_begins : (n : ℕ) (a : Unit {0}) (f g : List Kind) → Unit {0} → kind ∷ [] ≡ f ++ g → (token kind).Front n f
  token_begins n a [] g good e = inl refl
  token_begins n a (k ∷ []) g good e = inr (cc)
  token_begins n a (k ∷ j ∷ f) g good e = absurd (omega (arith, ap length e, length-append f g))

  token_goes : (n : ℕ) (f : List Kind) → (token kind).Front n f → Whole (token kind) n f
  token_goes n f (inl e) = record { value = tt; more = kind ∷ []; good = tt; spelled = ap (λ w. w ++ kind ∷ []) (sym e); told = (text, tt) }
  token_goes n f (inr e) = record { value = tt; more = []; good = tt; spelled = sym (append-nil f ∙ e); told = tt }

  pub token_fronts : Fronts (token kind)
  token_fronts = record { begins = token_begins; goes_on = token_goes; example = λ n. record { value = tt; more = kind ∷ []; good = tt; spelled = refl; told = (text, tt) }; nothing = λ n. inl refl }

-- ---- one rule and then another

module _ {A B : Type 0} (r : Rule A) (s : Rule B) (R : Fronts r) (S : Fronts s) where
  both_begins : (n : ℕ) (a : A) (b : B) (f g : List Kind) → r.Good n a → s.Good (n + length (r.flat a)) b → ((u : List Kind) × (r.flat a ≡ f ++ u)) ⊎ Behind (r.flat a) (s.flat b) f g → (r & s).Front n f
  both_begins n a b f g ga gb (inl (u, e)) = inl (R.begins n a f u ga e)
  both_begins n a b f g ga gb (inr h) = inr (a, h.rest, ga, S.begins (n + length (r.flat a)) b h.rest g gb h.back, h.front)

  -- a value of r, and then an example of s
  then_example : (n : ℕ) (f : List Kind) → Whole r n f → Whole (r & s) n f
  then_example n f x =
      let y : Whole s (n + length (r.flat x.value)) [] = S.example (n + length (r.flat x.value)) in
      record {
        value = (x.value, y.value);
        more = x.more ++ y.more;
        good = (x.good, y.good);
        spelled = ap (λ w. w ++ s.flat y.value) x.spelled ∙ append_assoc f x.more (s.flat y.value) ∙ ap (λ w. f ++ (x.more ++ w)) y.spelled;
        told = told_append x.more y.more x.told y.told;
      }

  both_goes : (n : ℕ) (f : List Kind) → (r & s).Front n f → Whole (r & s) n f
  both_goes n f (inl front) = then_example n f (R.goes_on n f front)
  both_goes n f (inr (a, g, good, front, e)) =
      let y : Whole s (n + length (r.flat a)) g = S.goes_on (n + length (r.flat a)) g front in
      record { value = (a, y.value); more = y.more; good = (good, y.good); spelled = ap (λ w. r.flat a ++ w) y.spelled ∙ sym (append_assoc (r.flat a) g y.more) ∙ ap (λ w. w ++ y.more) (sym e); told = y.told }

  pub both_fronts : Fronts (r & s)
  both_fronts = record {
    begins = λ n c f g good e. both_begins n c.0 c.1 f g good.0 good.1 (split (r.flat c.0) (s.flat c.1) f g e);
    goes_on = both_goes;
    example = λ n. then_example n [] (R.example n);
    nothing = λ n. inl (R.nothing n);
  }

-- ---- any number of times

module _ {A : Type 0} (r : Rule A) (R : Fronts r) where
  moved : (n : ℕ) (a : A) (xs : List A) (h : List Kind) → (h ≡ []) ⊎ r.Front (n + length (r.flat a) + length (flat_all r xs)) h → (h ≡ []) ⊎ r.Front (n + length (r.flat a ++ flat_all r xs)) h
  moved n a xs h (inl e) = inl e
  moved n a xs h (inr f) = inr (subst (λ i. r.Front i h) (omega (arith, length-append (r.flat a) (flat_all r xs))) f)

  cons_front : (n : ℕ) (a : A) (f g : List Kind) → r.Good n a → f ≡ r.flat a ++ g → (many r).Front (n + length (r.flat a)) g → (many r).Front n f
  cons_front n a f g good e (xs, h, goods, front, cut) =
      (a ∷ xs, h, (good, goods), moved n a xs h front, e ∙ ap (λ w. r.flat a ++ w) cut ∙ sym (append_assoc (r.flat a) (flat_all r xs) h))

  many_step : (n : ℕ) (a : A) (xs : List A) (f g : List Kind) → r.Good n a → ((h : List Kind) → flat_all r xs ≡ h ++ g → (many r).Front (n + length (r.flat a)) h)
      → ((u : List Kind) × (r.flat a ≡ f ++ u)) ⊎ Behind (r.flat a) (flat_all r xs) f g → (many r).Front n f
  many_step n a xs f g good after (inl (u, e)) = ([], f, tt, inr (subst (λ i. r.Front i f) (omega arith) (R.begins n a f u good e)), refl)
  many_step n a xs f g good after (inr h) = cons_front n a f h.rest good h.front (after h.rest h.back)

  many_begins : (n : ℕ) (xs : List A) (f g : List Kind) → GoodAll r n xs → flat_all r xs ≡ f ++ g → (many r).Front n f
  many_begins n [] [] g good e = ([], [], tt, inl refl, refl)
  many_begins n [] (k ∷ f) g good e = absurd cc
  many_begins n (a ∷ xs) f g good e = many_step n a xs f g good.0 (λ h e'. many_begins (n + length (r.flat a)) xs h g good.1 e') (split (r.flat a) (flat_all r xs) f g e)

  back : (n : ℕ) (a : A) (xs : List A) (h : List Kind) → (h ≡ []) ⊎ r.Front (n + length (r.flat a ++ flat_all r xs)) h → (h ≡ []) ⊎ r.Front (n + length (r.flat a) + length (flat_all r xs)) h
  back n a xs h (inl e) = inl e
  back n a xs h (inr f) = inr (subst (λ i. r.Front i h) (omega (arith, length-append (r.flat a) (flat_all r xs))) f)

  many_ends : (n : ℕ) (xs : List A) (g : List Kind) → GoodAll r n xs → (g ≡ []) ⊎ r.Front (n + length (flat_all r xs)) g → Whole (many r) n (flat_all r xs ++ g)
  many_ends n [] g good (inl e) = record { value = []; more = []; good = tt; spelled = sym (append-nil g ∙ e); told = tt }
  many_ends n [] g good (inr front) =
      let x : Whole r n g = R.goes_on n g (subst (λ i. r.Front i g) (omega arith) front) in
      record { value = x.value ∷ []; more = x.more; good = (x.good, tt); spelled = append-nil (r.flat x.value) ∙ x.spelled; told = x.told }
  many_ends n (a ∷ xs) g good front =
      let y : Whole (many r) (n + length (r.flat a)) (flat_all r xs ++ g) = many_ends (n + length (r.flat a)) xs g good.1 (back n a xs g front) in
      record {
        value = a ∷ y.value;
        more = y.more;
        good = (good.0, y.good);
        spelled = ap (λ w. r.flat a ++ w) y.spelled ∙ sym (append_assoc (r.flat a) (flat_all r xs ++ g) y.more) ∙ ap (λ w. w ++ y.more) (sym (append_assoc (r.flat a) (flat_all r xs) g));
        told = y.told;
      }

  many_goes : (n : ℕ) (f : List Kind) (xs : List A) (g : List Kind) → GoodAll r n xs → (g ≡ []) ⊎ r.Front (n + length (flat_all r xs)) g → f ≡ flat_all r xs ++ g → Whole (many r) n f
  many_goes n f xs g good front e = subst (Whole (many r) n) (sym e) (many_ends n xs g good front)

  pub many_fronts : Fronts (many r)
  many_fronts = record {
    begins = many_begins;
    goes_on = λ n f front. many_goes n f front.0 front.1 front.2 front.3 front.4;
    example = λ n. record { value = []; more = []; good = tt; spelled = refl; told = tt };
    nothing = λ n. ([], [], tt, inl refl, refl);
  }

  -- ---- once or not at all

  maybe_begins : (n : ℕ) (o : Option A) (f g : List Kind) → GoodOption r n o → flat_option r o ≡ f ++ g → (maybe r).Front n f
  maybe_begins n None [] g good e = inl refl
  maybe_begins n None (k ∷ f) g good e = absurd cc
  maybe_begins n (Some a) f g good e = inr (R.begins n a f g good e)

  maybe_goes : (n : ℕ) (f : List Kind) → (maybe r).Front n f → Whole (maybe r) n f
  maybe_goes n f (inl e) = record { value = None; more = []; good = tt; spelled = sym (append-nil f ∙ e); told = tt }
  maybe_goes n f (inr front) = let x : Whole r n f = R.goes_on n f front in record { value = Some x.value; more = x.more; good = x.good; spelled = x.spelled; told = x.told }

  pub maybe_fronts : Fronts (maybe r)
  maybe_fronts = record { begins = maybe_begins; goes_on = maybe_goes; example = λ n. record { value = None; more = []; good = tt; spelled = refl; told = tt }; nothing = λ n. inl refl }

-- ---- one or another

module _ {A B : Type 0} (r : Rule A) (s : Rule B) (R : Fronts r) (S : Fronts s) where
  either_begins : (n : ℕ) (c : A ⊎ B) (f g : List Kind) → GoodEither r s n c → flat_either r s c ≡ f ++ g → (either r s).Front n f
  either_begins n (inl a) f g good e = inl (R.begins n a f g good e)
  either_begins n (inr b) f g good e = inr (S.begins n b f g good e)

  left : (n : ℕ) (f : List Kind) → Whole r n f → Whole (either r s) n f
  left n f x = record { value = inl x.value; more = x.more; good = x.good; spelled = x.spelled; told = x.told }

  right : (n : ℕ) (f : List Kind) → Whole s n f → Whole (either r s) n f
  right n f x = record { value = inr x.value; more = x.more; good = x.good; spelled = x.spelled; told = x.told }

  either_goes : (n : ℕ) (f : List Kind) → (either r s).Front n f → Whole (either r s) n f
  either_goes n f (inl front) = left n f (R.goes_on n f front)
  either_goes n f (inr front) = right n f (S.goes_on n f front)

  pub either_fronts : Fronts (either r s)
  either_fronts = record { begins = either_begins; goes_on = either_goes; example = λ n. left n [] (R.example n); nothing = λ n. inl (R.nothing n) }

-- ---- other values, and places

module _ {A B : Type 0} (made : A → B) (form : B → Option A) (r : Rule A) (made_back : (n : ℕ) (a : A) → r.Good n a → form (made a) ≡ Some a) (R : Fronts r) where
  from_begins : (n : ℕ) (o : Option A) (f g : List Kind) → GoodFrom form r n o → flat_from form r o ≡ f ++ g → r.Front n f
  from_begins n (Some a) f g good e = R.begins n a f g good e
  from_begins n None f g good e = absurd good

  over : (n : ℕ) (f : List Kind) → Whole r n f → Whole (mapped form r) n f
  over n f x = let e : form (made x.value) ≡ Some x.value = made_back n x.value x.good in
      record { value = made x.value; more = x.more; good = subst (GoodFrom form r n) (sym e) x.good; spelled = ap (flat_from form r) e ∙ x.spelled; told = x.told }

  pub mapped_fronts : Fronts (mapped form r)
  mapped_fronts = record {
    begins = λ n b f g good e. from_begins n (form b) f g good e;
    goes_on = λ n f front. over n f (R.goes_on n f front);
    example = λ n. over n [] (R.example n);
    nothing = R.nothing;
  }

pub placed_fronts : {A : Type 0} (r : Rule A) → Fronts r → Fronts (placed r)
placed_fronts r R = record {
  begins = λ n c f g good e. R.begins n c.1 f g good.1 e;
  goes_on = λ n f front. let x : Whole r n f = R.goes_on n f front in record { value = (n, x.value); more = x.more; good = (refl, x.good); spelled = x.spelled; told = x.told };
  example = λ n. let x : Whole r n [] = R.example n in record { value = (n, x.value); more = x.more; good = (refl, x.good); spelled = x.spelled; told = x.told };
  nothing = R.nothing;
}

-- ---- with a token before or behind

pub before_fronts : {A : Type 0} (kind : Kind) (r : Rule A) → HasText kind → Fronts r → Fronts (kind ▸ r)
before_fronts kind r text R = mapped_fronts (λ x. x.1) (λ a. Some (tt, a)) (token kind & r) (λ n a good. refl) (both_fronts (token kind) r (token_fronts kind text) R)

pub behind_fronts : {A : Type 0} (r : Rule A) (kind : Kind) → Fronts r → HasText kind → Fronts (r ◂ kind)
behind_fronts r kind R text = mapped_fronts (λ x. x.0) (λ a. Some (a, tt)) (r & token kind) (λ n a good. refl) (both_fronts r (token kind) R (token_fronts kind text))

pub once_fronts : {A : Type 0} (r : Rule A) → Fronts r → Fronts (once_or_more r)
once_fronts r R = both_fronts r (many r) R (many_fronts r R)

is_there : Option (Unit {0}) → Bool
is_there None = false
is_there (Some x) = true

there_back : (o : Option (Unit {0})) → Some (if is_there o then Some tt else None) ≡ Some o
unfolding is_there
there_back None = refl
there_back (Some x) = refl

pub flag_fronts : (kind : Kind) → HasText kind → Fronts (flag kind)
flag_fronts kind text = mapped_fronts is_there (λ there. Some (if there then Some tt else None)) (maybe (token kind)) (λ n o good. there_back o) (maybe_fronts (token kind) (token_fronts kind text))
