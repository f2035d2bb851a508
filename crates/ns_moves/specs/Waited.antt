-- What a method of the kernel does next, in the form in which a machine takes it.
use Rattle.ns_moves.specs.declared.site.Site.{Site}
use Rattle.ns_moves.specs.Control.{Progress, Waiting, Waits, Finishes}
use Rattle.ns_moves.specs.Blocks.{listed}
use Rattle.ns_moves.specs.Shown.{answer_shown}
use Rattle.ns_moves.specs.declared.methods.Waited.{Waited}
use Rattle.ns_moves.specs.declared.methods.Waited.TheVariants as waited

-- it waits for a block's value, or it ends
abbrev pub waiting_shown : Site → Waited → Progress → Waiting
waiting_shown site (waited.Evaluates block argument state) progress = Waits block (listed argument) state progress
waiting_shown site (waited.Ends answer) progress = Finishes (answer_shown site answer progress)
