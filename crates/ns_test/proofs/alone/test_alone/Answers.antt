use Rattle.std.proofs.Common.{List, ℕ, ap, subst, sym, ◌∙◌}
use Rattle.ns_code.specs.declared.program.CodeProgram.{CodeProgram}
use Rattle.ns_code.specs.Selector.{selector_text}
use Rattle.ns_machine.specs.Asking.{HasSelector}
use Rattle.ns_test.proofs.SentOn.{alone, told_in, told_same}
use Rattle.ns_test.proofs.Names.{test_has_selector}
use Rattle.ns_test.proofs.alone.test_alone.Goals as goal

pub run_alone-requires-clause-test : goal.run_alone-requires-clause-test
run_alone-requires-clause-test c =
    let text = c.selector_text-name.ensures ∙ ap (λ (code : CodeProgram). selector_text code c.args.sel.0) c.code.ensures.code in
    subst (λ (name : List ℕ). HasSelector c.args.code.now name 0) (sym text) (test_has_selector c.args.code.now c.args.sel c.requires.test)

pub returns : goal.returns
returns c =
    let code = c.args.code.now in
    let text = c.selector_text-name.ensures ∙ ap (λ (each : CodeProgram). selector_text each c.args.sel.0) c.code.ensures.code in
    told_same told_in (alone code c.args.limits) c.result_at-told.result c.in_ok-machine.machine c.selector_text-name.result.now
    (selector_text code c.args.sel.0) c.in_ok-machine.ensures.machine text c.result_at-told.ensures
