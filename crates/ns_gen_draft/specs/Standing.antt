-- Where declarations and expressions stand.
use Rattle.ns_resolved.specs.Classes as c
use Rattle.ns_resolved.specs.Expressions as e
use Rattle.ns_gen_draft.specs.declared.around.Around.{Around}
use Rattle.ns_gen_draft.specs.declared.here.Here.{Here}

-- where a declaration stands, as the meaning of names has it
abbrev pub around_of : Around → c.Around
around_of around = record { classes = around.classes.now; outer = around.outer; marks = around.marks.now }

-- where an expression stands, as the meaning of names has it
abbrev pub standing : Here → e.Standing
standing here = record { scope = here.scope.now; body = here.body; class = here.class; marks = here.marks.now }
