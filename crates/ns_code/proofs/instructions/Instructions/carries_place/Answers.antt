use Rattle.std.proofs.Common.{◌∙◌, ap, slice_get, false}
use Rattle.std.specs.Option.{option_map_or}
use Rattle.ns_code.specs.Instructions.{is_carrier, carries_place}
use Rattle.ns_code.proofs.United.{carrier_there}
use Rattle.ns_code.proofs.instructions.Instructions.carries_place.Goals as goal

pub returns : goal.returns
returns c =
    c.is_carrier.ensures
    ∙ ap (λ operation. option_map_or is_carrier operation false) c.operation_at.ensures
    ∙ ap (λ operations. option_map_or is_carrier (slice_get operations c.args.number) false) c.deref.ensures.value
    ∙ carrier_there c.args.number c.self.inside.operations.items c.self.inside.words.items c.self.inside.integers.items
    ∙ ap (λ instrs. option_map_or carries_place (slice_get instrs c.args.number) false) c.self.view_is
