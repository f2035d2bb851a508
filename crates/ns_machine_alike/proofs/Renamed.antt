-- A renaming goes on with the pairs of the cells that were there, and of those that were made since.
use Rattle.std.proofs.lemmas.Bool.Decides.{leb_tells}
use Rattle.std.proofs.Common.{◌≡◌, ◌≢◌, ◌⊎◌, inl, inr, ℕ, zero, suc, ◌+◌, ◌-◌, ◌<◌, ◌≤◌, List, [], ◌∷◌, ◌++◌, Some, Bool, true, false, cond, refl, sym, ap, ◌∙◌, arith}
use Rattle.std.specs.Prelude.{Contains, IsSome, All, nat_lt, ◌==◌}
use Rattle.std.specs.List.{AllPairs, filter}
use Rattle.std.proofs.lemmas.Bool.{eqb-true, ltb-true, lt-ltb}
use Rattle.std.proofs.lemmas.List.Elements.{All-nil, All-cons, Contains-append_right}
use Rattle.std.proofs.lemmas.List.Kept.{AllPairs-filter, AllPairs-cons}
use Rattle.ns_world.specs.Heap.{Heap, heap_size, find_cell}
use Rattle.ns_world.specs.Reach.{all_referred}
use Rattle.ns_world.specs.World.{World}
use Rattle.ns_world.specs.Alike.{Renaming, Alike}
use Rattle.ns_world.specs.laws.Chains.{both_of, size_above}
use Rattle.ns_world.specs.declared.value.Value.{Value}
use Rattle.ns_machine_alike.specs.Renamed.{made_pairs, was_there, renamed_on}
use Rattle.ns_machine_alike.specs.Isolated.{RenamesOn}
use Rattle.ns_machine_alike.proofs.There.{reach_there, there_below}

-- ---- lists that are filtered

passes : (test : ℕ × ℕ → Bool) (P : ℕ × ℕ → Type 0) (pairs : Renaming) → ((p : ℕ × ℕ) → test p ≡ true → P p) → All P (filter test pairs)
passes test P [] h = All-nil P
passes test P (p ∷ pairs) h = by (test p) refl (passes test P pairs h)
  where
    by : (b : Bool) → test p ≡ b → All P (filter test pairs) → All P (cond b (p ∷ filter test pairs) (filter test pairs))
    by true e rest = All-cons P p (filter test pairs) (h p e) rest
    by false e rest = rest

stays_in : (test : ℕ × ℕ → Bool) (pairs : Renaming) (p : ℕ × ℕ) → test p ≡ true → Contains pairs p → Contains (filter test pairs) p
stays_in test [] p e (k, inside, is) = absurd (omega (arith, inside))
stays_in test (q ∷ pairs) p e (zero, inside, is) = by (test q) (ap test is ∙ e)
  where
    by : (b : Bool) → b ≡ true → Contains (cond b (q ∷ filter test pairs) (filter test pairs)) p
    by true t = (zero, omega arith, is)
    by false t = absurd (cc (t))
stays_in test (q ∷ pairs) p e (suc k, inside, is) = by (test q) (stays_in test pairs p e (k, omega (arith, inside), is))
  where
    by : (b : Bool) → Contains (filter test pairs) p → Contains (cond b (q ∷ filter test pairs) (filter test pairs)) p
    by true (j, within, there) = (suc j, omega (arith, within), there)
    by false c = c

shifted : (p q : ℕ × ℕ) (pairs : Renaming) → Contains pairs p → Contains (q ∷ pairs) p
shifted p q pairs (j, within, there) = (suc j, omega (arith, within), there)

not_less : (a b : ℕ) → nat_lt a b ≡ false → b ≤ a
not_less a b e = by (leb_tells (suc a) b)
  where
    by : ((nat_lt a b ≡ true) × (suc a ≤ b)) ⊎ ((nat_lt a b ≡ false) × (b < suc a)) → b ≤ a
    by (inl t) = absurd (let x = t.0 in cc)
    by (inr t) = omega (arith, t.1)

module _ (pairs : Renaming) (from other : ℕ) where
  abbrev kept : Renaming
  kept = filter (was_there from other) pairs

  abbrev all : Heap → Renaming
  all now = made_pairs now from other ++ filter (was_there from other) pairs

  -- all numbers are below those that come next
  abbrev Below : Heap → ℕ × ℕ → Type 0
  Below now pair = (pair.0 < heap_size now) × (pair.1 < other + (heap_size now - from))

  kept_below : (now : Heap) → from ≤ heap_size now → All (Below now) kept
  kept_below now h =
      passes (was_there from other) (Below now) pairs
      (λ p t. let both = both_of (nat_lt p.0 from) (nat_lt p.1 other) t in let a = ltb-true p.0 from both.0 in let b = ltb-true p.1 other both.1 in (omega (arith, a, h), omega (arith, b)))

  all_below : (now : Heap) → from ≤ heap_size now → All (Below now) (all now)
  all_below [] h = kept_below [] h
  all_below (cell ∷ earlier) h = by (nat_lt (heap_size earlier) from) refl (λ g. all_below earlier g)
    where
      by : (b : Bool) → nat_lt (heap_size earlier) from ≡ b → (from ≤ heap_size earlier → All (Below earlier) (all earlier))
          → All (Below (cell ∷ earlier)) (cond b [] ((heap_size earlier, other + (heap_size earlier - from)) ∷ made_pairs earlier from other) ++ kept)
      by true e go = kept_below (cell ∷ earlier) h
      by false e go =
          let g : from ≤ heap_size earlier = not_less (heap_size earlier) from e in
          All-cons (Below (cell ∷ earlier)) (heap_size earlier, other + (heap_size earlier - from)) (all earlier) (omega (arith, size_above cell), omega (arith, g, size_above cell))
          (λ k d inside. let below = go g k d inside in (omega (arith, below.0), omega (arith, below.1, g)))

  once_first : (now : Heap) → AllPairs (λ p q. p.0 ≢ q.0) pairs → from ≤ heap_size now → AllPairs (λ p q. p.0 ≢ q.0) (all now)
  once_first [] once h = AllPairs-filter (λ p q. p.0 ≢ q.0) (was_there from other) pairs once
  once_first (cell ∷ earlier) once h = by (nat_lt (heap_size earlier) from) refl (λ g. once_first earlier once g)
    where
      by : (b : Bool) → nat_lt (heap_size earlier) from ≡ b → (from ≤ heap_size earlier → AllPairs (λ p q. p.0 ≢ q.0) (all earlier))
          → AllPairs (λ p q. p.0 ≢ q.0) (cond b [] ((heap_size earlier, other + (heap_size earlier - from)) ∷ made_pairs earlier from other) ++ kept)
      by true e go = AllPairs-filter (λ p q. p.0 ≢ q.0) (was_there from other) pairs once
      by false e go =
          let g : from ≤ heap_size earlier = not_less (heap_size earlier) from e in
          AllPairs-cons (λ p q. p.0 ≢ q.0) (heap_size earlier, other + (heap_size earlier - from)) (all earlier) (λ k d inside same. let below = all_below earlier g k d inside in absurd (omega (arith, below.0, same))) (go g)

  once_second : (now : Heap) → AllPairs (λ p q. p.1 ≢ q.1) pairs → from ≤ heap_size now → AllPairs (λ p q. p.1 ≢ q.1) (all now)
  once_second [] once h = AllPairs-filter (λ p q. p.1 ≢ q.1) (was_there from other) pairs once
  once_second (cell ∷ earlier) once h = by (nat_lt (heap_size earlier) from) refl (λ g. once_second earlier once g)
    where
      by : (b : Bool) → nat_lt (heap_size earlier) from ≡ b → (from ≤ heap_size earlier → AllPairs (λ p q. p.1 ≢ q.1) (all earlier))
          → AllPairs (λ p q. p.1 ≢ q.1) (cond b [] ((heap_size earlier, other + (heap_size earlier - from)) ∷ made_pairs earlier from other) ++ kept)
      by true e go = AllPairs-filter (λ p q. p.1 ≢ q.1) (was_there from other) pairs once
      by false e go =
          let g : from ≤ heap_size earlier = not_less (heap_size earlier) from e in
          AllPairs-cons (λ p q. p.1 ≢ q.1) (heap_size earlier, other + (heap_size earlier - from)) (all earlier) (λ k d inside same. let below = all_below earlier g k d inside in absurd (omega (arith, below.1, same))) (go g)

  -- each cell that was made since is paired
  made_in : (now : Heap) (k : ℕ) → IsSome (find_cell now (from + k)) → Contains (all now) (from + k, other + k)
  made_in [] k s = absurd (cc (s))
  made_in (cell ∷ earlier) k s = by (nat_lt (heap_size earlier) from) refl (from + k == heap_size earlier) refl s (λ t. made_in earlier k t)
    where
      by : (b : Bool) → nat_lt (heap_size earlier) from ≡ b → (c : Bool) → (from + k == heap_size earlier) ≡ c → IsSome (cond c (Some cell) (find_cell earlier (from + k)))
          → (IsSome (find_cell earlier (from + k)) → Contains (all earlier) (from + k, other + k))
          → Contains (cond b [] ((heap_size earlier, other + (heap_size earlier - from)) ∷ made_pairs earlier from other) ++ kept) (from + k, other + k)
      by true e true f s go = absurd (let a = ltb-true (heap_size earlier) from e in let b = eqb-true (from + k) (heap_size earlier) f in omega (arith, a, b))
      by true e false f s go = absurd (let a = ltb-true (heap_size earlier) from e in let b = there_below earlier (from + k) s in omega (arith, a, b))
      by false e true f s go =
          let b = eqb-true (from + k) (heap_size earlier) f in
          let second : other + (heap_size earlier - from) ≡ other + k = omega (arith, b) in
          (zero, omega arith, ap (λ n. (n, other + (heap_size earlier - from))) (sym b) ∙ ap (λ m. (from + k, m)) second)
      by false e false f s go = shifted (from + k, other + k) (heap_size earlier, other + (heap_size earlier - from)) (all earlier) (go s)

-- It goes on so.
pub renames_on : (pairs : Renaming) (one two : World) (firsts seconds : List Value) (now : Heap) → Alike pairs one two firsts seconds →
    heap_size one.cells ≤ heap_size now
    → RenamesOn pairs (renamed_on pairs one two now) one two (all_referred firsts) (all_referred seconds) now
renames_on pairs one two firsts seconds now alike h = record {
  once_first = once_first pairs (heap_size one.cells) (heap_size two.cells) now alike.once_first h;
  once_second = once_second pairs (heap_size one.cells) (heap_size two.cells) now alike.once_second h;
  earlier = λ n m c r r'.
      Contains-append_right (made_pairs now (heap_size one.cells) (heap_size two.cells)) (filter (was_there (heap_size one.cells) (heap_size two.cells)) pairs) (n, m)
      (stays_in (was_there (heap_size one.cells) (heap_size two.cells)) pairs (n, m)
      (let a = lt-ltb n (heap_size one.cells) (there_below one.cells n (reach_there one.cells (all_referred firsts) n r)) in
      let b = lt-ltb m (heap_size two.cells) (there_below two.cells m (reach_there two.cells (all_referred seconds) m r')) in rw a b) c);
  made = λ k s. made_in pairs (heap_size one.cells) (heap_size two.cells) now k s;
}
