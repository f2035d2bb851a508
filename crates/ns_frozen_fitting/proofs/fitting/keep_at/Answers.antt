use Rattle.std.proofs.Common.{ℕ, Option, subst}
use Rattle.ns_frozen_tables.specs.Numbers.{IsPlaceOf}
use Rattle.ns_frozen_fitting.proofs.Fitted.{fits_more}
use Rattle.ns_frozen_fitting.proofs.fitting.keep_at.Goals as goal

pub returns-in-Some : goal.returns-in-Some
returns-in-Some c =
    fits_more c.args.seen.now c.args.kept.now.items _ c.args.number c.args.shape c.args.at c.in-Some.place c.requires.seen c.requires.kept c.requires.told
    (subst (λ (o : Option ℕ). IsPlaceOf c.args.seen.now.numbers c.args.at o) c.in-Some.is
    c.place_of_cell.ensures) c.requires.fits c.set.ensures
