-- What instructions take from the operands is there, and live.
use Rattle.std.proofs.Common.{◌≡◌, ℕ, zero, suc, ◌+◌, ◌<◌, ◌≤◌, List, [], ◌∷◌, length, arith, All}
use Rattle.ns_world.specs.declared.value.Value.{Value}
use Rattle.ns_moves.specs.State.{State}
use Rattle.ns_moves.specs.Operands.{on_top, taken_off, picked}
use Rattle.ns_moves.proofs.FramesReturn.{all_more}

pub first_of : {A : Type 0} (P : A → Type 0) (x : A) (xs : List A) → All P (x ∷ xs) → P x
first_of P x xs all = all 0 x (omega arith)

pub rest_of : {A : Type 0} (P : A → Type 0) (x : A) (xs : List A) → All P (x ∷ xs) → All P xs
rest_of P x xs all = λ i d h. all (suc i) d (omega (arith, h))

pub none_at_all : {A : Type 0} (P : A → Type 0) → All P []
none_at_all P = λ i d h. absurd (omega (arith, h))

module _ (P : Value → Type 0) (Q : State → Type 0) (missing : State) where
  pub top_there : (stack : List Value) (go : Value → List Value → State) → 1 ≤ length stack → All P stack
      → ((v : Value) (below : List Value) → length stack ≡ length below + 1 → P v → All P below → Q (go v below)) → Q (on_top missing stack go)
  top_there [] go some all goes = absurd (omega (arith, some))
  top_there (v ∷ below) go some all goes = goes v below (omega arith) (first_of P v below all) (rest_of P v below all)

  pub taken_there : (count : ℕ) (values stack : List Value) (go : List Value → List Value → State) → count ≤ length stack → All P values → All P stack
      → ((vs below : List Value) → length vs ≡ count + length values → length stack ≡ length below + count → All P vs → All P below → Q (go vs below))
      → Q (taken_off missing count values stack go)
  taken_there zero values stack go few own all goes = goes values stack (omega arith) (omega arith) own all
  taken_there (suc count) values [] go few own all goes = absurd (omega (arith, few))
  taken_there (suc count) values (v ∷ stack) go few own all goes =
      taken_there count (v ∷ values) stack go (omega (arith, few)) (all_more P v values (first_of P v stack all) own) (rest_of P v stack all)
      (λ vs below many left live others.
      let one : length (v ∷ values) ≡ length values + 1 = omega arith in
      let two : length (v ∷ stack) ≡ length stack + 1 = omega arith in
      goes vs below (omega (arith, many, one)) (omega (arith, left, two)) live others)

  pub picked_there : (place : ℕ) (stack : List Value) (go : Value → State) → place < length stack → All P stack → ((v : Value) → P v → Q (go v))
      → Q (picked missing place stack go)
  picked_there place [] go inside all goes = absurd (omega (arith, inside))
  picked_there zero (v ∷ stack) go inside all goes = goes v (first_of P v stack all)
  picked_there (suc place) (v ∷ stack) go inside all goes = picked_there place stack go (omega (arith, inside)) (rest_of P v stack all) goes
