use Rattle.ns_moves.specs.Onward.{touched, reached}
use Rattle.ns_moves.specs.Sends.{receiver_of, sent, sent_plain, performed}
use Rattle.ns_moves.specs.laws.Onward.{onward_of}
use Rattle.ns_moves.specs.laws.SendsOnward.{sent_onward, plain_sent_onward, performed_onward}
use Rattle.ns_moves.proofs.laws.sends_go_onward.Goals as goal

pub returns-clause-sent : goal.returns-clause-sent
returns-clause-sent c = λ code activation target sel values place progress.
    onward_of (touched progress.world.cells (receiver_of progress.world.cells activation target)) progress (reached (sent code activation target sel values place progress))
    (sent_onward code activation target sel values place progress)

pub returns-clause-plain : goal.returns-clause-plain
returns-clause-plain c = λ code receiver sel values place progress.
    onward_of (touched progress.world.cells receiver) progress (reached (sent_plain code receiver sel values place progress)) (plain_sent_onward code receiver sel values place progress)

pub returns-clause-performed : goal.returns-clause-performed
returns-clause-performed c = λ code receiver sel array site progress.
    onward_of (touched progress.world.cells receiver) progress (reached (performed code receiver sel array site progress)) (performed_onward code receiver sel array site progress)
