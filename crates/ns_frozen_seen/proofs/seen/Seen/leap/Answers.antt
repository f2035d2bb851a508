use Rattle.std.proofs.Common.{List, slice_get, ap, sym, ◌∙◌, arith}
use Rattle.ns_frozen_seen.specs.declared.keepers.Keeper.{Keeper}
use Rattle.ns_frozen_seen.proofs.seen.Seen.leap.Goals as goal

pub returns-then-keeper-place : goal.returns-then-keeper-place
returns-then-keeper-place c = λ chain.
    (c.requires.keepers c.args.place c.in-Some.keeper
    (sym (c.in-Some.ensures ∙ ap (λ (ks : List Keeper). slice_get ks c.args.place) c.as_slice.ensures.value)) chain).climb.far
    (omega (arith, c.if-keeper-place.true))
