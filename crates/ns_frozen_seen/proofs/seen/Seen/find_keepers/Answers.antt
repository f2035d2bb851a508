use Rattle.std.proofs.Common.{ℕ, ◌≡◌, length, get_or, true, subst, ap, sym, arith}
use Rattle.ns_frozen.specs.Live.{has_chain}
use Rattle.ns_frozen_seen.specs.Keepers.{IsKeeper}
use Rattle.ns_frozen_seen.specs.Seen.{heap_of}
use Rattle.ns_frozen_tables.specs.laws.Lists.{one_longer}
use Rattle.ns_frozen_seen.proofs.Kept.{more_kept}
use Rattle.ns_frozen_seen.proofs.seen.Seen.find_keepers.Goals as goal

pub classes-preserved : goal.classes-preserved
classes-preserved c =
    let seen = c.classes.invariant.0 in (
      record {
        fits = seen.fits;
        parents = seen.parents;
        numbers = seen.numbers;
        chains = seen.chains;
        selectors = seen.selectors;
        bodies = seen.bodies;
        keepers = more_kept c.classes.self.code.now (heap_of c.classes.self) c.classes.self.chains.numbers.items c.classes.self.keepers.items c.push.new.self.items
            c.keeper-keeper.result seen.keepers
            (subst (λ (n : ℕ). has_chain c.classes.self.code.now (heap_of c.classes.self) (get_or c.classes.self.chains.numbers.items n 0) ≡ true
            → IsKeeper c.classes.self.code.now (heap_of c.classes.self) c.classes.self.chains.numbers.items n c.keeper-keeper.result) (sym c.classes.invariant.1) c.keeper-keeper.ensures)
            c.in_ok-push.ensures.items;
        kept = seen.kept;
        outers = seen.outers;
      },
      omega (arith, ap (λ ks. length ks) c.in_ok-push.ensures.items, one_longer c.classes.self.keepers.items c.keeper-keeper.result, c.classes.invariant.1),
      c.classes.invariant.2,
      c.classes.invariant.3,
      c.classes.invariant.4,
    )
