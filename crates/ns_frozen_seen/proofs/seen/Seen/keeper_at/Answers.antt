use Rattle.std.proofs.Common.{List, slice_get, ap, sym, ◌∙◌}
use Rattle.ns_frozen_seen.specs.declared.keepers.Keeper.{Keeper}
use Rattle.ns_frozen_seen.proofs.seen.Seen.keeper_at.Goals as goal

pub returns-in-Some : goal.returns-in-Some
returns-in-Some c =
    c.requires.seen.keepers c.args.place c.in-Some.keeper
    (sym (c.in-Some.ensures ∙ ap (λ (ks : List Keeper). slice_get ks c.args.place) c.as_slice.ensures.value))
