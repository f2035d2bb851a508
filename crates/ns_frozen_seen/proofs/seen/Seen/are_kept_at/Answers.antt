use Rattle.std.proofs.Common.{refl, subst, ap, sym, ◌∙◌}
use Rattle.ns_frozen_seen.specs.Keepers.{are_kept_at, IsChained}
use Rattle.ns_frozen_seen.specs.Seen.{heap_of}
use Rattle.ns_frozen_seen.proofs.Kept.{kept_on, kept_not}
use Rattle.ns_frozen_seen.proofs.seen.Seen.are_kept_at.Goals as goal

pub classes-init : goal.classes-init
classes-init c = (c.requires.chained, refl)

pub keeper_at-keeper-requires-clause-there : goal.keeper_at-keeper-requires-clause-there
keeper_at-keeper-requires-clause-there c =
    (subst (IsChained c.args.self.now.code.now (heap_of c.args.self.now) c.args.self.now.chains.numbers.items) c.in-Some.is c.classes.invariant.0).0

pub are_kept_from-requires-clause-few : goal.are_kept_from-requires-clause-few
are_kept_from-requires-clause-few c =
    (c.keeper_at-keeper.ensures
    (subst (IsChained c.args.self.now.code.now (heap_of c.args.self.now) c.args.self.now.chains.numbers.items) c.in-Some.is c.classes.invariant.0).1).few

pub returns-then-not-are_kept_from : goal.returns-then-not-are_kept_from
returns-then-not-are_kept_from c =
    let chained = subst (IsChained c.args.self.now.code.now (heap_of c.args.self.now) c.args.self.now.chains.numbers.items) c.in-Some.is c.classes.invariant.0 in
    kept_not c.args.self.now.code.now (heap_of c.args.self.now) c.args.self.now.chains.numbers.items c.args.number c.args.words.now c.in-Some.place
    c.keeper_at-keeper.result c.nested_of-nested.result.now _ (c.keeper_at-keeper.ensures chained.1) c.nested_of-nested.ensures
    (sym c.are_kept_from.ensures ∙ c.if-not-are_kept_from.true)
    (ap (are_kept_at c.args.self.now.code.now (heap_of c.args.self.now) c.args.self.now.chains.numbers.items c.args.number c.args.words.now) (sym c.in-Some.is)
    ∙ c.classes.invariant.1)

pub classes-preserved : goal.classes-preserved
classes-preserved c =
    let chained = subst (IsChained c.args.self.now.code.now (heap_of c.args.self.now) c.args.self.now.chains.numbers.items) c.in-Some.is c.classes.invariant.0 in
    let is = c.keeper_at-keeper.ensures chained.1 in (
      is.chained,
      kept_on c.args.self.now.code.now (heap_of c.args.self.now) c.args.self.now.chains.numbers.items c.args.number c.args.words.now c.in-Some.place
          c.keeper_at-keeper.result c.nested_of-nested.result.now _ is c.nested_of-nested.ensures
          (sym c.are_kept_from.ensures ∙ c.if-not-are_kept_from.false)
          (ap (are_kept_at c.args.self.now.code.now (heap_of c.args.self.now) c.args.self.now.chains.numbers.items c.args.number c.args.words.now) (sym c.in-Some.is)
          ∙ c.classes.invariant.1),
    )
