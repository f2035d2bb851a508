use Rattle.std.proofs.Common.{ℕ, Option, Some, subst, ap, arith}
use Rattle.std.specs.Prelude.{IfSome}
use Rattle.ns_world.specs.Layout.{layout_of}
use Rattle.ns_frozen_tables.specs.Numbers.{IsPlaceOf}
use Rattle.ns_frozen_seen.specs.Seen.{heap_of}
use Rattle.ns_frozen_seen.proofs.Found.{seen_few}
use Rattle.ns_frozen_seen.proofs.seen.Seen.layout_over.Goals as goal

pub returns-in-Some-clause-few : goal.returns-in-Some-clause-few
returns-in-Some-clause-few c =
    let placed = subst (λ (o : Option ℕ). IfSome o (λ (p : ℕ). IsPlaceOf c.args.self.now.chains.numbers.items c.args.over (Some p))) c.in-Some.is c.requires.placed in
    omega (
      arith,
      c.layout_at.ensures,
      ap (layout_of (heap_of c.args.self.now) c.args.self.now.code.now) placed.1,
      seen_few c.args.self.now c.args.over c.requires.seen (omega (arith, c.ranges.over.fits)),
    )
