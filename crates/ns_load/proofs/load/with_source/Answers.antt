use Rattle.std.proofs.Common.{arith, ap, ◌∙◌, ◌∷◌, [], map}
use Rattle.std.proofs.lemmas.List.{map-append, length-map}
use Rattle.ns_load.proofs.Loads.{next_read}
use Rattle.ns_load.proofs.load.with_source.Goals as goal
use Rattle.ns_tree.specs.PlainOf.{unit_of}

pub returns-in_ok-add-in-Ok-clause-read : goal.returns-in_ok-add-in-Ok-clause-read
returns-in_ok-add-in-Ok-clause-read c = λ a.
    next_read c.len.result _ _ _ _ (unit_of c.in-Ok.source.unit) c.in-Ok.source.marks a
    (omega (arith, c.len.ensures, length-map c.args.parts.units.items unit_of))
    (c.args.source.now, c.requires.short, c.in-Ok.ensures.exact)
    (ap (map unit_of) (c.program.ensures.units ∙ c.in_ok-add-in-Ok.ensures.units) ∙ map-append unit_of c.args.parts.units.items (c.in-Ok.source.unit ∷ []))
    (c.program.ensures.marks ∙ c.in_ok-add-in-Ok.ensures.marks)
