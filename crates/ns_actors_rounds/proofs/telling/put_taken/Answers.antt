use Rattle.std.proofs.Common.{◌∙◌, ◌++◌, ℕ, List, ap, sym}
use Rattle.std.proofs.lemmas.Result.{on_ok_weaker}
use Rattle.ns_actors_rounds.specs.Told.{taken_text}
use Rattle.ns_actors_rounds.proofs.Texts.{line_is}
use Rattle.ns_actors_rounds.proofs.telling.put_taken.Goals as goal

pub returns-in_ok-line-in-Some : goal.returns-in_ok-line-in-Some
returns-in_ok-line-in-Some c =
    let number = c.args.number in
    let line = c.in_ok-line-in-Some.ensures.ok ∙ (line_is number c.in-Some.taken ∙ sym (ap (taken_text number) c.in-Some.is)) in
    on_ok_weaker c.put.result (λ e. e ∙ ap (λ (bytes : List ℕ). c.args.text.now.items ++ bytes) (c.as_bytes.ensures.value ∙ line)) c.put.ensures
