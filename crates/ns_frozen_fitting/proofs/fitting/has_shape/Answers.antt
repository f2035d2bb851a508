use Rattle.std.proofs.Common.{ℕ, Option, subst}
use Rattle.ns_frozen_tables.specs.Numbers.{IsPlaceOf}
use Rattle.ns_frozen_fitting.proofs.Fitted.{fits_known}
use Rattle.ns_frozen_fitting.proofs.fitting.has_shape.Goals as goal

pub returns-in-Some : goal.returns-in-Some
returns-in-Some c = λ depth is h.
    fits_known c.args.seen.now c.args.kept.now c.args.number c.args.shape c.args.at c.in-Some.place depth c.requires.seen c.requires.kept c.requires.told
    (c.is_at.ensures is)
    (subst (λ (o : Option ℕ). IsPlaceOf c.args.seen.now.numbers c.args.at o) c.in-Some.is
    c.place_of_cell.ensures) h
