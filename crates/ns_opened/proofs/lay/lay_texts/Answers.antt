use Rattle.std.proofs.Common.{◌≡◌, ◌∙◌, ℕ, Bool, ap, false, subst}
use Rattle.std.proofs.lemmas.Result.{IfOk-weaker}
use Rattle.std.specs.Prelude.{◌==◌}
use Rattle.ns_opened.proofs.Laying.{differ, texts_laid}
use Rattle.ns_opened.proofs.lay.lay_texts.Goals as goal
use Rattle.ns_opened.specs.Laid.{cells_behind, cells_used, frozen_with, if_so, program_at, with_texts}
use Rattle.ns_frozen.specs.declared.frozen.Frozen.{Frozen}
use Rattle.ns_world.specs.declared.ending.Counters.{Counters}

pub returns : goal.returns
returns c =
    let old = c.args.machine.now in
    let hands = c.args.hands.now in
    let texts = c.args.texts.now in
    let some : (cells_behind hands old == cells_used old) ≡ false =
    subst (λ (n : ℕ). (n == cells_used old) ≡ false) c.requires
    (subst (λ (used : Counters). (c.args.behind == used.cells) ≡ false) c.counters.ensures
    (differ c.args.behind c.counters.result.cells c.if-behind-counters.false)) in
    let whole : program_at old c.in_ok-frozen.frozen ≡ with_texts hands texts old =
    ap (λ (state : Frozen). program_at old state)
    (c.in_ok-frozen.ensures ∙ ap (λ (n : ℕ). frozen_with n hands texts old) c.requires)
    ∙ texts_laid hands texts old some in
    IfOk-weaker c.stand_at.result (λ (stands : Bool). if_so stands c.stand_at.new.machine ≡ program_at old c.in_ok-frozen.frozen)
    (λ (stands : Bool). if_so stands c.stand_at.new.machine ≡ with_texts hands texts old) (λ stands is. is ∙ whole) c.stand_at.ensures
