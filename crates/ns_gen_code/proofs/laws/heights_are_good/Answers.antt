use Rattle.ns_gen_code.proofs.Heights.{body_finds}
use Rattle.ns_gen_code.proofs.GoodHeights.{body_is_good}
use Rattle.ns_gen_code.proofs.laws.heights_are_good.Goals as goal

pub returns-clause-finds : goal.returns-clause-finds
returns-clause-finds c = λ names body k. body_finds names body k

pub returns-clause-good : goal.returns-clause-good
returns-clause-good c = body_is_good
