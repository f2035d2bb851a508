use Rattle.std.proofs.Common.{◌≡◌, ◌∙◌, ap}
use Rattle.std.specs.Prelude.{codes}
use Rattle.ns_base.specs.declared.place.Place.{Place}
use Rattle.ns_resolved.specs.Expressions.{place_at, sent_at}
use Rattle.ns_resolved.specs.Classes.{base_node, over_sign_at}
use Rattle.ns_gen_code.specs.Code.{sends, plain}
use Rattle.ns_gen_draft.specs.Drafts.{with_line, with_name}
use Rattle.ns_gen_draft.specs.Standing.{standing}
use Rattle.ns_gen_bodies.proofs.Starting.{mixin_put}
use Rattle.ns_gen_bodies.proofs.clauses.put_head.Goals as goal

pub returns-in_ok-sends-in-Some : goal.returns-in_ok-sends-in-Some
returns-in_ok-sends-in-Some c =
    let here = standing c.args.here.now in
    let over = c.in-Some.over in
    let at : c.place-place.result ≡ place_at here.marks (over_sign_at over) = rw c.over_sign_at.ensures at c.place-place.ensures in
    let named = rw c.as_slice.ensures at c.in_ok-sends-in-Some.ensures.put in
    rw c.in-Some.is
    (mixin_put here.scope (base_node here c.args.head.now) (base_node here over) (sent_at here (codes "<:") (over_sign_at over)) c.args.writer.now
    c.put_base.new.writer c.put_base-in-Some.new.writer c.sends.new.self c.in_ok-put_base.ensures c.in_ok-put_base-in-Some.ensures
    (named
    ∙ ap (λ (x : Place). with_line (with_name c.put_base-in-Some.new.writer (codes "<:")) (sends plain (record { selector = codes "<:"; place = x }) 1)) at))
