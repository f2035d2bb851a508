use Rattle.std.proofs.Common.{ap, refl, ◌∙◌}
use Rattle.std.proofs.lemmas.Result.{err_from_is_err_and}
use Rattle.ns_frozen.specs.Heads.{MadeCells}
use Rattle.ns_image.specs.Read.{times}
use Rattle.ns_image.specs.laws.Loop.{starts, goes_on, ends, is_done}
use Rattle.ns_snapshot.specs.Fields.{value}
use Rattle.ns_snapshot_read.proofs.cell.so_many_words.Goals as goal

pub words-init : goal.words-init
words-init c = (refl, rw c.requires (starts (λ _. value) (λ (s : Unit {0}) _. s) c.args.count tt c.args.input.now.rest.now))

pub returns-in_err-read-clause-words : goal.returns-in_err-read-clause-words
returns-in_err-read-clause-words c =
    let p = err_from_is_err_and c.from_residual.result c.from_residual.ensures.1 in
    rw (p.1, p.2)
    (ends (λ _. value) (λ (s : Unit {0}) _. s) c.in_err-read.field-0.0 c.words.made.words c.args.count c.words.counter tt c.words.input.rest.now
    (times c.args.count value c.args.input.now.rest.now) c.words-test.true c.in_err-read.ensures c.words.invariant.1)

pub words-preserved : goal.words-preserved
words-preserved c = (
  ap (λ (made : MadeCells). made.cells) c.in_ok-word.ensures ∙ c.words.invariant.0,
  goes_on (λ _. value) (λ (s : Unit {0}) _. s) c.words.made.words c.word.new.self.words c.args.count c.words.counter tt c.words.input.rest.now
      c.in_ok-read.read c.value.new.input.rest.now (times c.args.count value c.args.input.now.rest.now) c.words-test.true c.in_ok-read.ensures
      (ap (λ (made : MadeCells). made.words) c.in_ok-word.ensures) c.words.invariant.1,
)

pub returns-clause-words : goal.returns-clause-words
returns-clause-words c =
    is_done (λ _. value) (λ (s : Unit {0}) _. s) c.words.made.words c.args.count c.words.counter tt c.words.input.rest.now
    (times c.args.count value c.args.input.now.rest.now) c.words-test.false c.words.invariant.1
