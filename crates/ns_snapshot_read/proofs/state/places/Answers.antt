use Rattle.std.proofs.Common.{◌≡◌, ◌+◌, ◌<◌, length, List, take, set, length-set, ap, ◌∙◌, arith}
use Rattle.std.proofs.lemmas.List.{take_all, take_more_set}
use Rattle.std.proofs.lemmas.Result.{err_from_is_err_and}
use Rattle.ns_facets.specs.declared.board.Plain.{Plain}
use Rattle.ns_image.specs.Read.{got, times}
use Rattle.ns_image.specs.laws.Loop.{goes_on, ends, is_done}
use Rattle.ns_snapshot.specs.Reading.{plain}
use Rattle.ns_snapshot_read.proofs.state.places.Goals as goal

pub returns-in_err-value : goal.returns-in_err-value
returns-in_err-value c =
    let p = err_from_is_err_and c.from_residual.result c.from_residual.ensures.1 in
    rw (p.1, p.2)
    (ends (λ _. plain) (λ (s : Unit {0}) _. s) c.in_err-value.field-0.0 (take c.values.place c.values.places) 64 c.values.place tt c.values.input.rest.now (times 64 plain c.args.input.now.rest.now) c.values-test.true c.in_err-value.ensures
    c.values.invariant.1)

pub values-preserved : goal.values-preserved
values-preserved c =
    let within : c.values.place < length c.values.places = omega (arith, c.values-test.true, c.values.invariant.0) in (
      length-set c.values.places c.values.place c.in_ok-value.value ∙ c.values.invariant.0,
      goes_on (λ _. plain) (λ (s : Unit {0}) _. s) (take c.values.place c.values.places) (take (c.values.place + 1) (set c.values.places c.values.place c.in_ok-value.value)) 64 c.values.place tt c.values.input.rest.now c.in_ok-value.value c.plain.new.input.rest.now
          (times 64 plain c.args.input.now.rest.now) c.values-test.true c.in_ok-value.ensures (take_more_set c.values.places c.values.place c.in_ok-value.value within) c.values.invariant.1,
    )

pub returns : goal.returns
returns c =
    let whole : take c.values.place c.values.places ≡ c.values.places = take_all c.values.place c.values.places (omega (arith, c.values-test.false, c.values.invariant.0)) in
    is_done (λ _. plain) (λ (s : Unit {0}) _. s) (take c.values.place c.values.places) 64 c.values.place tt c.values.input.rest.now (times 64 plain c.args.input.now.rest.now) c.values-test.false c.values.invariant.1
    ∙ ap (λ (xs : List Plain). got xs c.values.input.rest.now) whole
