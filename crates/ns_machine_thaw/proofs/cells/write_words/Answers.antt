use Rattle.std.proofs.Common.{◌∷◌, ◌++◌, [], take, ap, sym, ◌∙◌}
use Rattle.std.proofs.lemmas.List.{take_more}
use Rattle.ns_world.specs.declared.value.Value.{Value}
use Rattle.ns_machine_thaw.proofs.Writing.{writing_starts, writing_goes_on}
use Rattle.ns_machine_thaw.proofs.cells.write_words.Goals as goal

pub words-init : goal.words-init
words-init c = writing_starts c.args.at c.args.words.now c.args.world.now c.requires.last

pub words-preserved : goal.words-preserved
words-preserved c =
    writing_goes_on c.args.at c.args.words.now c.words.word c.args.world.now c.words.world c.write.new.self c.value.result c.words-test.true
    (take_more c.args.words.now c.words.word c.index-words-word.result c.words-test.true
    ∙ ap (λ (value : Value). take c.words.word c.args.words.now ++ value ∷ []) (sym c.index-words-word.is ∙ sym c.value.ensures))
    c.words.invariant c.write.ensures
