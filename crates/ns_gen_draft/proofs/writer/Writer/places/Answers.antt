use Rattle.std.proofs.Common.{◌≡◌, List, ℕ, subst, sym, ap, ◌∙◌}
use Rattle.std.specs.Prelude.{IfOk}
use Rattle.ns_base.specs.declared.place.Place.{Place}
use Rattle.ns_gen_code.specs.Code.{places_from}
use Rattle.ns_gen_draft.specs.Drafts.{draft_places}
use Rattle.ns_gen_draft.proofs.Numbers.{places_are}
use Rattle.ns_gen_draft.proofs.writer.Writer.places.Goals as goal

pub returns : goal.returns
returns c =
    subst (λ (all : List (ℕ × Place)). IfOk c.places.result (λ places. places.items ≡ all))
    (ap (draft_places 0) c.deref.ensures.value ∙ sym (places_are c.self.inside.names 0 c.self.inside.drafts.items)
    ∙ ap (λ w. places_from 0 w.lines) c.self.view_is) c.places.ensures
