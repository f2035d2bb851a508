use Rattle.std.proofs.Common.{List, slice_get, ap, sym, ◌∙◌}
use Rattle.ns_frozen_seen.specs.declared.keepers.Keeper.{Keeper}
use Rattle.ns_frozen_seen.proofs.seen.Seen.higher.Goals as goal

pub higher_by-requires : goal.higher_by-requires
higher_by-requires c = λ chain.
    (c.requires.keepers c.args.place c.in-Some.keeper
    (sym (c.in-Some.ensures ∙ ap (λ (ks : List Keeper). slice_get ks c.args.place) c.as_slice.ensures.value)) chain).climb
