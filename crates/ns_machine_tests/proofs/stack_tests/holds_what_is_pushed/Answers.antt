use Rattle.ns_machine_tests.proofs.stack_tests.holds_what_is_pushed.Goals as goal

pub make_room-requires-clause-laid : goal.make_room-requires-clause-laid
make_room-requires-clause-laid c = c.reserve.ensures.laid (record { next = 0; top = 0; base = 0 }) c.new-stack.ensures.laid
