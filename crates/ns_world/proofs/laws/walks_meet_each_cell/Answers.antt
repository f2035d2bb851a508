use Rattle.ns_world.proofs.Next.{first_stands, next_stands, none_between}
use Rattle.ns_world.proofs.laws.walks_meet_each_cell.Goals as goal

pub returns-clause-first : goal.returns-clause-first
returns-clause-first c = first_stands

pub returns-clause-next : goal.returns-clause-next
returns-clause-next c = next_stands

pub returns-clause-none_between : goal.returns-clause-none_between
returns-clause-none_between c = none_between
