use Rattle.std.proofs.Common.{ℕ, Option, subst, ap, ◌∙◌, arith}
use Rattle.ns_frozen.specs.Cells.{is_instance}
use Rattle.ns_frozen_tables.specs.Numbers.{IsPlaceOf}
use Rattle.ns_frozen_seen.specs.Seen.{heap_of}
use Rattle.ns_frozen_seen.proofs.Kept.{no_instance}
use Rattle.ns_frozen_seen.proofs.seen.Seen.is_instance.Goals as goal

pub is_instance_at-requires-clause-there : goal.is_instance_at-requires-clause-there
is_instance_at-requires-clause-there c =
    (subst (λ (o : Option ℕ). IsPlaceOf c.args.self.now.chains.numbers.items c.args.class o) c.in-Some.is c.place.ensures).0

pub returns-in-Some : goal.returns-in-Some
returns-in-Some c =
    c.is_instance_at.ensures
    ∙ ap (λ (n : ℕ). is_instance c.args.self.now.code.now (heap_of c.args.self.now) c.args.number n c.args.words.now)
    (subst (λ (o : Option ℕ). IsPlaceOf c.args.self.now.chains.numbers.items c.args.class o) c.in-Some.is c.place.ensures).1

pub returns-in-None : goal.returns-in-None
returns-in-None c =
    no_instance c.args.self.now.code.now (heap_of c.args.self.now) c.args.self.now.chains c.args.number c.args.class c.args.words.now c.requires.chains
    (omega (arith, c.ranges.class.fits))
    (subst (λ (o : Option ℕ). IsPlaceOf c.args.self.now.chains.numbers.items c.args.class o) c.in-None.is c.place.ensures)
