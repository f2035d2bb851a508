use Rattle.ns_world.specs.laws.Staying.{value_stays, environment_stays, holder_stays}
use Rattle.ns_world.specs.laws.Lawfully.{body_stays, fits_stays, block_lawful, message_lawful}
use Rattle.ns_world.specs.laws.Lasting.{keeps_of}
use Rattle.ns_world.proofs.later.what_lives_stays.Goals as goal

pub returns-clause-values : goal.returns-clause-values
returns-clause-values c = λ value code old new run h. value_stays old.cells new.cells code value (keeps_of code old new run) h

pub returns-clause-environments : goal.returns-clause-environments
returns-clause-environments c = λ value code old new run h. environment_stays old.cells new.cells value (keeps_of code old new run) h

pub returns-clause-holders : goal.returns-clause-holders
returns-clause-holders c = λ value holder code old new run h. holder_stays old.cells new.cells value holder (keeps_of code old new run) h

pub returns-clause-bodies : goal.returns-clause-bodies
returns-clause-bodies c = λ body self holder code old new run h. body_stays old.cells new.cells code body self holder (keeps_of code old new run) h

pub returns-clause-locals : goal.returns-clause-locals
returns-clause-locals c = λ depth body env code old new run h. fits_stays depth old.cells new.cells code body env (keeps_of code old new run) h

pub returns-clause-blocks : goal.returns-clause-blocks
returns-clause-blocks c = λ body env self holder code old new run h. block_lawful old.cells new.cells code body env self holder (keeps_of code old new run) h

pub returns-clause-messages : goal.returns-clause-messages
returns-clause-messages c = λ sel args code old new run h. message_lawful old.cells new.cells code sel args (keeps_of code old new run) h
