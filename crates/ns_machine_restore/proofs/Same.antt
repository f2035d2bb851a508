-- Limits that are the same by each of them, and what no fault says of plain data.
use Rattle.std.proofs.Common.{◌≡◌, ◌∙◌, ◌==◌, ◌&&◌, cond, Bool, true, false, Some, None, refl, ap, sym}
use Rattle.std.proofs.lemmas.Bool.{eqb-true}
use Rattle.ns_base.specs.declared.limits.Limits.{Limits}
use Rattle.ns_code.specs.declared.program.CodeProgram.{CodeProgram}
use Rattle.ns_frozen.specs.declared.fault.RestoreFault.TheVariants.{BadLimits}
use Rattle.ns_frozen.specs.declared.frozen.Frozen.{Frozen}
use Rattle.ns_frozen.specs.Fault.{IsValid, fault_of, restore_fault, same_limits}

pub limits_same : (one other : Limits) → same_limits one other ≡ true → one ≡ other
limits_same one other h =
    by (one.steps == other.steps) (one.cells == other.cells) (one.depth == other.depth) (one.out == other.out) refl refl refl refl h
  where
    by : (a b c d : Bool) → (one.steps == other.steps) ≡ a → (one.cells == other.cells) ≡ b → (one.depth == other.depth) ≡ c → (one.out == other.out) ≡ d
        → ((a && b) && (c && d)) ≡ true → one ≡ other
    by true true true true e f g i h =
        let steps = eqb-true one.steps other.steps e in
        let cells = eqb-true one.cells other.cells f in
        let depth = eqb-true one.depth other.depth g in
        let out = eqb-true one.out other.out i in
        ap (λ n. record one { steps = n }) steps ∙ ap (λ n. record one { steps = other.steps; cells = n }) cells
        ∙ ap (λ n. record one { steps = other.steps; cells = other.cells; depth = n }) depth ∙ ap (λ n. record other { out = n }) out
    by false b c d e f g i h = absurd (cc (h))
    by true false c d e f g i h = absurd (cc (h))
    by true true false d e f g i h = absurd (cc (h))
    by true true true false e f g i h = absurd (cc (h))

-- Data that is no fault is valid, and has these limits.
pub none_restores : (code : CodeProgram) (limits : Limits) (frozen : Frozen) → restore_fault code limits frozen ≡ None → IsValid code frozen × (frozen.limits ≡ limits)
none_restores code limits frozen h = by (same_limits limits frozen.limits) refl h
  where
    by : (q : Bool) → same_limits limits frozen.limits ≡ q → cond q (fault_of code frozen) (Some BadLimits) ≡ None → IsValid code frozen × (frozen.limits ≡ limits)
    by true e k = (k, sym (limits_same limits frozen.limits e))
    by false e k = absurd (cc (k))
