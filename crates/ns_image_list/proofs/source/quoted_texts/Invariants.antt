use Rattle.std.proofs.Common.{◌≡◌, map, take}
use Rattle.ns_base.specs.Quoted.{quoted}
use Rattle.ns_image_list.proofs.source.quoted_texts.Given as goal

abbrev pub invariant-texts : goal.invariant-texts
invariant-texts l = l.all.items ≡ map quoted (take l.text-index l.texts)
