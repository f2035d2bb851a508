use Rattle.std.proofs.Common.{◌≡◌, ◌∙◌, ap, sym, arith, false, inr}
use Rattle.ns_world.specs.declared.ending.Counters.{Counters}
use Rattle.ns_moves.specs.Turn.{is_still}
use Rattle.ns_machine_core.specs.Shown.{shown}
use Rattle.ns_machine_turns.proofs.Turned.{Known, turning_begins, rests_here, ends_here, since_begun, left_is, none_left, spent_on, spent_goes, runs_on, turning_on, not_both}
use Rattle.ns_machine_turns.proofs.turning.turn.Goals as goal

pub moves-init : goal.moves-init
moves-init c =
    let known : Known c.args.code.now = (record {
      begin = c.turns_go_by_moves.ensures.begin c.args.code.now;
      free = c.turns_go_by_moves.ensures.free c.args.code.now;
      charged = c.turns_go_by_moves.ensures.charged c.args.code.now;
      last = c.turns_go_by_moves.ensures.last c.args.code.now;
      rest = c.turns_go_by_moves.ensures.rest c.args.code.now;
      took = c.moves_charge_as_told.ensures.steps c.args.code.now;
      test = c.moves_charge_as_told.ensures.test c.args.code.now;
      keeps = c.moves_keep_valid.ensures c.args.code.now;
      onward = c.moves_go_onward.ensures c.args.code.now;
    }) in
    record {
      runs = c.requires;
      turning = turning_begins c.args.code.now known c.args.steps c.args.core.now c.args.next;
      begun = ap (λ (used : Counters). used.steps) c.counters-begun.ensures;
    }

pub returns-then-is_ended-clause-turns : goal.returns-then-is_ended-clause-turns
returns-then-is_ended-clause-turns c =
    let known : Known c.args.code.now = (record {
      begin = c.turns_go_by_moves.ensures.begin c.args.code.now;
      free = c.turns_go_by_moves.ensures.free c.args.code.now;
      charged = c.turns_go_by_moves.ensures.charged c.args.code.now;
      last = c.turns_go_by_moves.ensures.last c.args.code.now;
      rest = c.turns_go_by_moves.ensures.rest c.args.code.now;
      took = c.moves_charge_as_told.ensures.steps c.args.code.now;
      test = c.moves_charge_as_told.ensures.test c.args.code.now;
      keeps = c.moves_keep_valid.ensures c.args.code.now;
      onward = c.moves_go_onward.ensures c.args.code.now;
    }) in
    rests_here c.args.code.now known c.args.steps (shown c.args.code.now c.args.core.now c.args.next) (shown c.args.code.now c.moves.core c.moves.here)
    (sym (c.is_ended.ensures c.args.code.now c.moves.core) ∙ c.if-is_ended.true) c.moves.invariant.turning.under

pub overflow_sub-used : goal.overflow_sub-used
overflow_sub-used c =
    let since = since_begun c.args.code.now c.args.steps c.args.core.now c.moves.core c.args.next c.moves.here (sym (c.is_ended.ensures c.args.code.now c.moves.core) ∙ c.if-is_ended.false)
    c.moves.invariant.turning.under in
    let begun = c.moves.invariant.begun in
    let counted = ap (λ (used : Counters). used.steps) c.counters.ensures in
    omega (arith, since, begun, counted)

pub moves-preserved : goal.moves-preserved
moves-preserved c =
    let begun = c.moves.invariant.begun in
    let counted = ap (λ (used : Counters). used.steps) c.counters.ensures in
    let left = left_is c.args.code.now c.args.steps c.args.core.now c.moves.core c.args.next c.moves.here in
    record {
      runs = c.go_along-here.ensures.along.runs;
      turning = c.go_along-here.ensures.along.turning c.args.steps c.args.core.now c.args.next (omega (arith, left, counted, begun)) c.moves.invariant.turning;
      begun = begun;
    }

pub last-init : goal.last-init
last-init c =
    let begun = c.moves.invariant.begun in
    let counted = ap (λ (used : Counters). used.steps) c.counters.ensures in
    record {
      runs = c.moves.invariant.runs;
      turning = c.moves.invariant.turning;
      spent = inr (none_left c.args.code.now c.args.steps c.args.core.now c.moves.core c.args.next c.moves.here (omega (arith, begun, counted, c.if-steps-used.true)));
    }

pub returns-then-is_ended-2-clause-turns : goal.returns-then-is_ended-2-clause-turns
returns-then-is_ended-2-clause-turns c =
    let known : Known c.args.code.now = (record {
      begin = c.turns_go_by_moves.ensures.begin c.args.code.now;
      free = c.turns_go_by_moves.ensures.free c.args.code.now;
      charged = c.turns_go_by_moves.ensures.charged c.args.code.now;
      last = c.turns_go_by_moves.ensures.last c.args.code.now;
      rest = c.turns_go_by_moves.ensures.rest c.args.code.now;
      took = c.moves_charge_as_told.ensures.steps c.args.code.now;
      test = c.moves_charge_as_told.ensures.test c.args.code.now;
      keeps = c.moves_keep_valid.ensures c.args.code.now;
      onward = c.moves_go_onward.ensures c.args.code.now;
    }) in
    rests_here c.args.code.now known c.args.steps (shown c.args.code.now c.args.core.now c.args.next) (shown c.args.code.now c.last.core c.last.here)
    (sym (c.is_ended-in-last.ensures c.args.code.now c.last.core) ∙ c.if-is_ended-2.true) c.last.invariant.turning.under

pub returns-then-charges-clause-turns : goal.returns-then-charges-clause-turns
returns-then-charges-clause-turns c =
    let known : Known c.args.code.now = (record {
      begin = c.turns_go_by_moves.ensures.begin c.args.code.now;
      free = c.turns_go_by_moves.ensures.free c.args.code.now;
      charged = c.turns_go_by_moves.ensures.charged c.args.code.now;
      last = c.turns_go_by_moves.ensures.last c.args.code.now;
      rest = c.turns_go_by_moves.ensures.rest c.args.code.now;
      took = c.moves_charge_as_told.ensures.steps c.args.code.now;
      test = c.moves_charge_as_told.ensures.test c.args.code.now;
      keeps = c.moves_keep_valid.ensures c.args.code.now;
      onward = c.moves_go_onward.ensures c.args.code.now;
    }) in
    let goes : is_still (shown c.args.code.now c.last.core c.last.here) ≡ false = sym (c.is_ended-in-last.ensures c.args.code.now c.last.core) ∙ c.if-is_ended-2.false in
    ends_here c.args.code.now known c.args.steps c.last.invariant.runs.can.grants (shown c.args.code.now c.args.core.now c.args.next) (shown c.args.code.now c.last.core c.last.here) c.last.invariant.runs.can.ready.valid goes
    (sym c.charges.ensures ∙ c.if-charges.true) (spent_goes c.args.steps (shown c.args.code.now c.args.core.now c.args.next) (shown c.args.code.now c.last.core c.last.here) goes c.last.invariant.spent) c.last.invariant.turning.under

pub last-preserved : goal.last-preserved
last-preserved c =
    let known : Known c.args.code.now = (record {
      begin = c.turns_go_by_moves.ensures.begin c.args.code.now;
      free = c.turns_go_by_moves.ensures.free c.args.code.now;
      charged = c.turns_go_by_moves.ensures.charged c.args.code.now;
      last = c.turns_go_by_moves.ensures.last c.args.code.now;
      rest = c.turns_go_by_moves.ensures.rest c.args.code.now;
      took = c.moves_charge_as_told.ensures.steps c.args.code.now;
      test = c.moves_charge_as_told.ensures.test c.args.code.now;
      keeps = c.moves_keep_valid.ensures c.args.code.now;
      onward = c.moves_go_onward.ensures c.args.code.now;
    }) in
    let goes : is_still (shown c.args.code.now c.last.core c.last.here) ≡ false = sym (c.is_ended-in-last.ensures c.args.code.now c.last.core) ∙ c.if-is_ended-2.false in
    record {
      runs = runs_on c.args.code.now c.args.plan.now c.args.own c.last.core c.step_apart-here.new.core c.last.here c.step_apart-here.result
          (c.moves_keep_machines_ready.ensures.moves c.args.code.now) c.last.invariant.runs c.step_apart-here.ensures;
      turning = turning_on c.args.code.now known (c.moves_keep_machines_ready.ensures.moves c.args.code.now) c.args.steps c.args.core.now c.last.core
          c.step_apart-here.new.core c.args.next c.last.here c.step_apart-here.result c.last.invariant.runs.can goes
          (λ told. not_both c.charges.result (c.charges.ensures ∙ told) c.if-charges.false) c.last.invariant.turning c.step_apart-here.ensures;
      spent = spent_on c.args.code.now known c.args.steps (shown c.args.code.now c.args.core.now c.args.next) c.last.core c.step_apart-here.new.core c.last.here c.step_apart-here.result
          c.step_apart-here.ensures goes c.last.invariant.spent;
    }
