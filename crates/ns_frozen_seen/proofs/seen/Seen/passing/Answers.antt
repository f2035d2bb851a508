use Rattle.std.proofs.Common.{List, slice_get, ap, sym, ◌∙◌}
use Rattle.ns_frozen_seen.specs.declared.keepers.Keeper.{Keeper}
use Rattle.ns_frozen_seen.specs.Seen.{heap_of}
use Rattle.ns_frozen_seen.proofs.Kept.{passing_on}
use Rattle.ns_frozen_seen.proofs.seen.Seen.passing.Goals as goal

pub returns-then-has_none : goal.returns-then-has_none
returns-then-has_none c = λ chain.
    passing_on c.args.self.now.code.now (heap_of c.args.self.now) c.args.self.now.chains.numbers.items c.args.place c.in-Some.keeper
    (c.requires.seen.keepers c.args.place c.in-Some.keeper
    (sym (c.in-Some.ensures ∙ ap (λ (ks : List Keeper). slice_get ks c.args.place) c.as_slice.ensures.value)) chain)
    (c.has_none.ensures c.if-has_none.true)
