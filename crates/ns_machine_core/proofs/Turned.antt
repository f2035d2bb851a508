-- A turn, move by move.
use Rattle.std.proofs.Common.{◌≡◌, ℕ, zero, suc, ◌+◌, refl, ap, ◌∙◌, arith, inl, inr, Bool, true, false}
use Rattle.ns_code.specs.declared.program.CodeProgram.{CodeProgram}
use Rattle.ns_moves.specs.State.{State}
use Rattle.ns_moves.specs.Move.{move}
use Rattle.ns_moves.specs.Turn.{is_still, charges, one_if, charged_in, Turns}
use Rattle.ns_machine_core.specs.Turning.{EndsTheWhole}

pub begins : (code : CodeProgram) (steps : ℕ) (first : State) → EndsTheWhole code steps first steps first
begins code steps first last turn = turn

-- one move more before a turn
counted : (code : CodeProgram) (b : Bool) (now : State) (count : ℕ) → charges code now ≡ b
    → charged_in code (suc count) now ≡ one_if b (charged_in code count (move code now))
counted code b now count e = ap (λ c. one_if c (charged_in code count (move code now))) e

free_before : (code : CodeProgram) (left : ℕ) (now last : State) → charges code now ≡ false → Turns code left (move code now) last →
    Turns code left now last
free_before code left now last e (inl t) =
    inl (record { count = suc t.count; is = t.is; charged = counted code false now t.count e ∙ t.charged; next = t.next })
free_before code left now last e (inr t) =
    let c = counted code false now t.count e in let s = t.charged in
    inr (record { count = suc t.count; spared = t.spared; is = t.is; charged = omega (arith, c, s); still = t.still })

charged_before : (code : CodeProgram) (left : ℕ) (now last : State) → charges code now ≡ true → Turns code left (move code now) last
    → Turns code (suc left) now last
charged_before code left now last e (inl t) =
    inl (record { count = suc t.count; is = t.is; charged = counted code true now t.count e ∙ ap suc t.charged; next = t.next })
charged_before code left now last e (inr t) =
    let c = counted code true now t.count e in let s = t.charged in
    inr (record { count = suc t.count; spared = t.spared; is = t.is; charged = omega (arith, c, s); still = t.still })

pub free_on : (code : CodeProgram) (steps left : ℕ) (first now : State) → EndsTheWhole code steps first left now → charges code now ≡ false
    → EndsTheWhole code steps first left (move code now)
free_on code steps left first now within e last turn = within last (free_before code left now last e turn)

pub charged_on : (code : CodeProgram) (steps left : ℕ) (first now : State) → EndsTheWhole code steps first (suc left) now →
    charges code now ≡ true
    → EndsTheWhole code steps first left (move code now)
charged_on code steps left first now within e last turn = within last (charged_before code left now last e turn)

pub ends : (code : CodeProgram) (steps : ℕ) (first now : State) → EndsTheWhole code steps first zero now → charges code now ≡ true →
    Turns code steps first now
ends code steps first now within e = within now (inl (record { count = zero; is = refl; charged = refl; next = e }))

pub rests : (code : CodeProgram) (steps left : ℕ) (first now : State) → EndsTheWhole code steps first left now → is_still now ≡ true →
    Turns code steps first now
rests code steps left first now within e =
    let none : zero + left ≡ left = omega arith in
    within now (inr (record { count = zero; spared = left; is = refl; charged = none; still = e }))
