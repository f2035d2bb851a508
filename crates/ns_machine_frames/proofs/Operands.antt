-- Operands that are taken off, and picked.
use Rattle.std.proofs.Common.{◌≡◌, ℕ, zero, suc, ◌<◌, List, [], ◌∷◌, ◌++◌, length, reverse, ap, sym, ◌∙◌, refl, arith}
use Rattle.std.specs.List.{slice_index_or}
use Rattle.std.proofs.lemmas.List.{reverse-append, append_assoc, reverse-reverse, append-nil, length-reverse}
use Rattle.ns_world.specs.declared.value.Value.{Value}
use Rattle.ns_world.specs.declared.value.Value.TheVariants.{Nil}
use Rattle.ns_moves.specs.State.{State}
use Rattle.ns_moves.specs.Operands.{taken_off, picked}

-- from the topmost down, before those that were taken already
taken_down : (missing : State) (down values stack : List Value) (go : List Value → List Value → State)
    → taken_off missing (length down) values (down ++ stack) go ≡ go (reverse down ++ values) stack
taken_down missing [] values stack go = refl
taken_down missing (value ∷ down) values stack go =
    taken_down missing down (value ∷ values) stack go
    ∙ ap (λ all. go all stack) (sym (ap (λ all. all ++ values) (reverse-append (value ∷ []) down) ∙ append_assoc (reverse down) (value ∷ []) values))

pub taken_is : (missing : State) (values stack : List Value) (go : List Value → List Value → State)
    → taken_off missing (length values) [] (reverse values ++ stack) go ≡ go values stack
taken_is missing values stack go =
    ap (λ count. taken_off missing count [] (reverse values ++ stack) go) (sym (length-reverse values))
    ∙ (taken_down missing (reverse values) [] stack go
    ∙ ap (λ all. go all stack) (append-nil (reverse (reverse values)) ∙ reverse-reverse values))

pub picked_is : (missing : State) (number : ℕ) (stack : List Value) (go : Value → State) → number < length stack
    → picked missing number stack go ≡ go (slice_index_or stack number Nil)
picked_is missing number [] go within = absurd (omega (arith, within))
picked_is missing zero (value ∷ stack) go within = refl
picked_is missing (suc number) (value ∷ stack) go within = picked_is missing number stack go (omega (arith, within))
