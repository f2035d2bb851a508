use Rattle.std.proofs.Common.{◌∙◌, ap, sym}
use Rattle.std.specs.Prelude.{option_map}
use Rattle.std.proofs.lemmas.Result.{on_ok_weaker}
use Rattle.ns_actors.specs.Rounds.{report_or}
use Rattle.ns_actors_rounds.proofs.Texts.{report_put}
use Rattle.ns_actors_rounds.proofs.telling.put_report.Goals as goal

pub returns-in-Some : goal.returns-in-Some
returns-in-Some c =
    let report = option_map (λ bytes. bytes.items) c.args.report in
    let line = c.as_slice-in-Some.ensures.value ∙ sym (ap (λ r. report_or (option_map (λ bytes. bytes.items) r)) c.in-Some.is) in
    on_ok_weaker c.put-in-Some.result
    (report_put c.args.text.now.items c.as_slice.result.now c.put.new.out.items c.as_slice-in-Some.result.now c.put-in-Some.new.out.items report
    c.as_slice.ensures c.in_ok-put.ensures line) c.put-in-Some.ensures

pub returns-in-None : goal.returns-in-None
returns-in-None c =
    let report = option_map (λ bytes. bytes.items) c.args.report in
    let line = c.as_slice-in-None.ensures ∙ sym (ap (λ r. report_or (option_map (λ bytes. bytes.items) r)) c.in-None.is) in
    on_ok_weaker c.put-in-None.result
    (report_put c.args.text.now.items c.as_slice.result.now c.put.new.out.items c.as_slice-in-None.result.now c.put-in-None.new.out.items report
    c.as_slice.ensures c.in_ok-put.ensures line) c.put-in-None.ensures
