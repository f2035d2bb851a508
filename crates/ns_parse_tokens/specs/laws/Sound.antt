-- What a reader reads is a value of a rule, and the tokens that it read spell it: a law for each way in which readers
-- are put together.
use Rattle.std.proofs.Common.{◌≡◌, ℕ, ◌+◌, List, [], ◌∷◌, ◌++◌, length, Option, Some, None, Bool, true, false, cond, refl, sym, ap, subst, ◌∙◌, append_assoc, length-append, arith}
use Rattle.ns_tree.specs.declared.token.Kind.{Kind}
use Rattle.ns_tree.specs.Rule.{Rule, token, ◌&◌, maybe, placed, ◌▸◌, ◌◂◌}
use Rattle.ns_tree.specs.Tree.{HasText, AllHaveText}
use Rattle.ns_parse_tokens.specs.Read.{Outcome, Reader, got, fault, and_then, taken, read_one, begins, read_none, read_never, read_mapped, read_both, read_after, read_until, read_placed, read_or, read_maybe}

-- What was read from a place on is a value of the rule, spelled by the tokens up to where the reader stands.
pub record Took {A : Type 0} (r : Rule A) (n : ℕ) (ts : List Kind) (a : A) (m : ℕ) (us : List Kind) : Type 0 where
  pub good : r.Good n a
  pub spelled : ts ≡ r.flat a ++ us
  pub behind : m ≡ n + length (r.flat a)

-- The outcome is such a value, or a fault.
abbrev pub Spelled : {A : Type 0} → Rule A → ℕ → List Kind → Outcome A → Type 0
Spelled r n ts (got a m us) = Took r n ts a m us
Spelled r n ts (fault k) = Unit {0}

-- Of tokens that have texts the reader reads values of the rule.
pub record Sound {A : Type 0} (p : Reader A) (r : Rule A) : Type 0 where
  pub reads : (n : ℕ) (ts : List Kind) → AllHaveText ts → Spelled r n ts (p n ts)

-- It does so where the first token passes a test.
pub record SoundIf {A : Type 0} (first : Kind → Bool) (p : Reader A) (r : Rule A) : Type 0 where
  pub reads : (n : ℕ) (ts : List Kind) → begins first ts ≡ true → AllHaveText ts → Spelled r n ts (p n ts)

-- A value of one rule is one of another, with the same spelling.
abbrev pub Becomes : {A B : Type 0} → Rule A → Rule B → (A → B) → Type 0
Becomes {A} r s to = (n : ℕ) (a : A) → r.Good n a → s.Good n (to a) × (s.flat (to a) ≡ r.flat a)

told_back : (f g : List Kind) → AllHaveText (f ++ g) → AllHaveText g
told_back [] g h = h
told_back (k ∷ f) g h = told_back f g h.1

-- the tokens that are left have texts
pub left_told : {A : Type 0} (r : Rule A) (n : ℕ) (ts : List Kind) (a : A) (m : ℕ) (us : List Kind) → Took r n ts a m us → AllHaveText ts → AllHaveText us
left_told r n ts a m us t h = told_back (r.flat a) us (subst AllHaveText t.spelled h)

-- ---- no token, or one

pub nothing : {A : Type 0} (r : Rule A) (a : A) (n : ℕ) (ts : List Kind) → r.Good n a → r.flat a ≡ [] → Took r n ts a n ts
nothing r a n ts good e = record { good = good; spelled = ap (λ w. w ++ ts) (sym e); behind = omega (arith, ap length e) }

pub sound_none : {A : Type 0} (r : Rule A) (a : A) → ((n : ℕ) → r.Good n a) → r.flat a ≡ [] → Sound (read_none a) r
sound_none r a good e = record { reads = λ n ts h. nothing r a n ts (good n) e }

pub sound_never : {A : Type 0} (r : Rule A) → Sound read_never r
sound_never r = record { reads = λ n ts h. tt }

-- one token
pub single : {A : Type 0} (r : Rule A) (n : ℕ) (k : Kind) (ts : List Kind) (a : A) → r.Good n a → r.flat a ≡ k ∷ [] → Took r n (k ∷ ts) a (n + 1) ts
single r n k ts a good e = record { good = good; spelled = ap (λ w. w ++ ts) (sym e); behind = ap (λ w. n + length w) (sym e) }

module _ {A : Type 0} (make : ℕ → Kind → Option A) (r : Rule A)
    (M : (n : ℕ) (k : Kind) (a : A) → HasText k → make n k ≡ Some a → r.Good n a × (r.flat a ≡ k ∷ [])) where
  taken_spelled : (o : Option A) (n : ℕ) (k : Kind) (ts : List Kind) → HasText k → make n k ≡ o → Spelled r n (k ∷ ts) (taken o n ts)
  taken_spelled None n k ts h e = tt
  taken_spelled (Some a) n k ts h e = let x : r.Good n a × (r.flat a ≡ k ∷ []) = M n k a h e in single r n k ts a x.0 x.1

  one_spelled : (n : ℕ) (ts : List Kind) → AllHaveText ts → Spelled r n ts (read_one make n ts)
  one_spelled n [] h = tt
  one_spelled n (k ∷ ts) h = taken_spelled (make n k) n k ts h.0 refl

  pub sound_one : Sound (read_one make) r
  sound_one = record { reads = one_spelled }

-- ---- another value

module _ {A B : Type 0} (r : Rule A) (s : Rule B) (to : A → B) (become : Becomes r s to) where
  pub took_mapped : (n : ℕ) (ts : List Kind) (a : A) (m : ℕ) (us : List Kind) → Took r n ts a m us → Took s n ts (to a) m us
  took_mapped n ts a m us t =
      let x : s.Good n (to a) × (s.flat (to a) ≡ r.flat a) = become n a t.good in
      record { good = x.0; spelled = t.spelled ∙ ap (λ w. w ++ us) (sym x.1); behind = t.behind ∙ ap (λ w. n + length w) (sym x.1) }

  mapped_spelled : (n : ℕ) (ts : List Kind) (o : Outcome A) → Spelled r n ts o → Spelled s n ts (and_then o (λ a m us. got (to a) m us))
  mapped_spelled n ts (got a m us) t = took_mapped n ts a m us t
  mapped_spelled n ts (fault k) t = tt

pub sound_mapped : {A B : Type 0} {p : Reader A} {r : Rule A} (to : A → B) (s : Rule B) → Sound p r → Becomes r s to → Sound (read_mapped to p) s
sound_mapped {p = p} {r = r} to s P become = record { reads = λ n ts h. mapped_spelled r s to become n ts (p n ts) (P.reads n ts h) }

pub if_mapped : {A B : Type 0} {first : Kind → Bool} {p : Reader A} {r : Rule A} (to : A → B) (s : Rule B) → SoundIf first p r → Becomes r s to
    → SoundIf first (read_mapped to p) s
if_mapped {p = p} {r = r} to s P become = record { reads = λ n ts e h. mapped_spelled r s to become n ts (p n ts) (P.reads n ts e h) }

same_spelled : {A : Type 0} (r s : Rule A) → Becomes r s (λ a. a) → (n : ℕ) (ts : List Kind) (o : Outcome A) → Spelled r n ts o → Spelled s n ts o
same_spelled r s become n ts (got a m us) t = took_mapped r s (λ a. a) become n ts a m us t
same_spelled r s become n ts (fault k) t = tt

-- the same values by another rule
pub sound_same : {A : Type 0} {p : Reader A} {r : Rule A} (s : Rule A) → Sound p r → Becomes r s (λ a. a) → Sound p s
sound_same {p = p} {r = r} s P become = record { reads = λ n ts h. same_spelled r s become n ts (p n ts) (P.reads n ts h) }

pub if_same : {A : Type 0} {first : Kind → Bool} {p : Reader A} {r : Rule A} (s : Rule A) → SoundIf first p r → Becomes r s (λ a. a) → SoundIf first p s
if_same {p = p} {r = r} s P become = record { reads = λ n ts e h. same_spelled r s become n ts (p n ts) (P.reads n ts e h) }

-- ---- one, and then another

module _ {A B : Type 0} (r : Rule A) (s : Rule B) where
  pub took_both : (n : ℕ) (ts : List Kind) (a : A) (m : ℕ) (us : List Kind) (b : B) (l : ℕ) (vs : List Kind) → Took r n ts a m us → Took s m us b l vs
      → Took (r & s) n ts (a, b) l vs
  took_both n ts a m us b l vs t u = record {
    good = (t.good, subst (λ i. s.Good i b) t.behind u.good);
    spelled = t.spelled ∙ ap (λ w. r.flat a ++ w) u.spelled ∙ sym (append_assoc (r.flat a) (s.flat b) vs);
    behind = omega (arith, t.behind, u.behind, length-append (r.flat a) (s.flat b));
  }

  pair_spelled : (n : ℕ) (ts : List Kind) (a : A) (m : ℕ) (us : List Kind) → Took r n ts a m us → (o : Outcome B) → Spelled s m us o
      → Spelled (r & s) n ts (and_then o (λ b l vs. got (a, b) l vs))
  pair_spelled n ts a m us t (got b l vs) u = took_both n ts a m us b l vs t u
  pair_spelled n ts a m us t (fault k) u = tt

  both_spelled : (n : ℕ) (ts : List Kind) (q : Reader B) → Sound q s → AllHaveText ts → (o : Outcome A) → Spelled r n ts o
      → Spelled (r & s) n ts (and_then o (λ a m us. and_then (q m us) (λ b l vs. got (a, b) l vs)))
  both_spelled n ts q Q h (got a m us) t = pair_spelled n ts a m us t (q m us) (Q.reads m us (left_told r n ts a m us t h))
  both_spelled n ts q Q h (fault k) t = tt

pub sound_both : {A B : Type 0} {p : Reader A} {q : Reader B} {r : Rule A} {s : Rule B} → Sound p r → Sound q s → Sound (read_both p q) (r & s)
sound_both {p = p} {q = q} {r = r} {s = s} P Q = record { reads = λ n ts h. both_spelled r s n ts q Q h (p n ts) (P.reads n ts h) }

-- a token, and then what is kept
module _ {B : Type 0} (kind : Kind) (s : Rule B) where
  took_after : (n : ℕ) (ts : List Kind) (m : ℕ) (us : List Kind) → Took (token kind) n ts tt m us → (o : Outcome B) → Spelled s m us o
      → Spelled (kind ▸ s) n ts o
  took_after n ts m us t (got b l vs) u =
      let w : Took (token kind & s) n ts (tt, b) l vs = took_both (token kind) s n ts tt m us b l vs t u in
      record { good = w.good; spelled = w.spelled; behind = w.behind }
  took_after n ts m us t (fault k) u = tt

  after_spelled : (n : ℕ) (ts : List Kind) (q : Reader B) → Sound q s → AllHaveText ts → (o : Outcome (Unit {0})) → Spelled (token kind) n ts o
      → Spelled (kind ▸ s) n ts (and_then o (λ a m us. q m us))
  after_spelled n ts q Q h (got a m us) t = took_after n ts m us t (q m us) (Q.reads m us (left_told (token kind) n ts tt m us t h))
  after_spelled n ts q Q h (fault k) t = tt

pub sound_after : {B : Type 0} {p : Reader (Unit {0})} {q : Reader B} {kind : Kind} {s : Rule B} → Sound p (token kind) → Sound q s
    → Sound (read_after p q) (kind ▸ s)
sound_after {p = p} {q = q} {kind = kind} {s = s} P Q = record { reads = λ n ts h. after_spelled kind s n ts q Q h (p n ts) (P.reads n ts h) }

-- what is kept, and then a token
module _ {A : Type 0} (r : Rule A) (kind : Kind) where
  took_until : (n : ℕ) (ts : List Kind) (a : A) (m : ℕ) (us : List Kind) → Took r n ts a m us → (o : Outcome (Unit {0})) → Spelled (token kind) m us o
      → Spelled (r ◂ kind) n ts (and_then o (λ b l vs. got a l vs))
  took_until n ts a m us t (got b l vs) u =
      let w : Took (r & token kind) n ts (a, tt) l vs = took_both r (token kind) n ts a m us tt l vs t u in
      record { good = w.good; spelled = w.spelled; behind = w.behind }
  took_until n ts a m us t (fault k) u = tt

  until_spelled : (n : ℕ) (ts : List Kind) (q : Reader (Unit {0})) → Sound q (token kind) → AllHaveText ts → (o : Outcome A) → Spelled r n ts o
      → Spelled (r ◂ kind) n ts (and_then o (λ a m us. and_then (q m us) (λ b l vs. got a l vs)))
  until_spelled n ts q Q h (got a m us) t = took_until n ts a m us t (q m us) (Q.reads m us (left_told r n ts a m us t h))
  until_spelled n ts q Q h (fault k) t = tt

pub sound_until : {A : Type 0} {p : Reader A} {q : Reader (Unit {0})} {r : Rule A} {kind : Kind} → Sound p r → Sound q (token kind)
    → Sound (read_until p q) (r ◂ kind)
sound_until {p = p} {q = q} {r = r} {kind = kind} P Q = record { reads = λ n ts h. until_spelled r kind n ts q Q h (p n ts) (P.reads n ts h) }

pub if_until : {A : Type 0} {first : Kind → Bool} {p : Reader A} {q : Reader (Unit {0})} {r : Rule A} {kind : Kind} → SoundIf first p r
    → Sound q (token kind) → SoundIf first (read_until p q) (r ◂ kind)
if_until {p = p} {q = q} {r = r} {kind = kind} P Q = record { reads = λ n ts e h. until_spelled r kind n ts q Q h (p n ts) (P.reads n ts e h) }

-- ---- with the number of its first token

placed_spelled : {A : Type 0} (r : Rule A) (n : ℕ) (ts : List Kind) (o : Outcome A) → Spelled r n ts o
    → Spelled (placed r) n ts (and_then o (λ a m us. got (n, a) m us))
placed_spelled r n ts (got a m us) t = record { good = (refl, t.good); spelled = t.spelled; behind = t.behind }
placed_spelled r n ts (fault k) t = tt

pub sound_placed : {A : Type 0} {p : Reader A} {r : Rule A} → Sound p r → Sound (read_placed p) (placed r)
sound_placed {p = p} {r = r} P = record { reads = λ n ts h. placed_spelled r n ts (p n ts) (P.reads n ts h) }

-- ---- one or another

pub by_test : {A : Type 0} (r : Rule A) (n : ℕ) (ts : List Kind) (test : Bool) (o o' : Outcome A) → (test ≡ true → Spelled r n ts o)
    → Spelled r n ts o' → Spelled r n ts (cond test o o')
by_test r n ts true o o' t u = t refl
by_test r n ts false o o' t u = u

pub sound_or_if : {A : Type 0} {first : Kind → Bool} {p q : Reader A} {r : Rule A} → SoundIf first p r → Sound q r → Sound (read_or first p q) r
sound_or_if {first = first} {p = p} {q = q} {r = r} P Q = record
    { reads = λ n ts h. by_test r n ts (begins first ts) (p n ts) (q n ts) (λ e. P.reads n ts e h) (Q.reads n ts h) }

pub sound_or : {A : Type 0} {p q : Reader A} {r : Rule A} (first : Kind → Bool) → Sound p r → Sound q r → Sound (read_or first p q) r
sound_or {p = p} {q = q} {r = r} first P Q = record
    { reads = λ n ts h. by_test r n ts (begins first ts) (p n ts) (q n ts) (λ e. P.reads n ts h) (Q.reads n ts h) }

pub sound_maybe : {A : Type 0} {p : Reader A} {r : Rule A} (first : Kind → Bool) → Sound p r → Sound (read_maybe first p) (maybe r)
sound_maybe {p = p} {r = r} first P = sound_or first (sound_mapped Some (maybe r) P (λ n a good. (good, refl))) (sound_none (maybe r) None (λ n. tt) refl)
