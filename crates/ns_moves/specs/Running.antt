-- Running code by the site of the send that it answers.
use Rattle.std.specs.Prelude.{None}
use Rattle.ns_world.specs.declared.kernel_class.KernelRow.TheVariants.{Object}
use Rattle.ns_world.specs.declared.kernel.ClassName.TheVariants.{Kernel}
use Rattle.ns_moves.specs.declared.site.Site.{Site}
use Rattle.ns_moves.specs.Control.{Activation}
use Rattle.ns_moves.specs.declared.running.Running.{Running}

-- the activation at that site
abbrev pub activation_at : Site → Running → Activation
activation_at site running =
    record { self = running.me; holder = running.holder; body = running.body; home = running.home; env = running.env; site = site }

-- a site for what doesn't depend on it
abbrev pub nowhere : Site
nowhere = record { place = None; class = Kernel Object; sel = record { 0 = 0 } }

-- running code, where its site doesn't matter
abbrev pub code_of : Running → Activation
code_of running = activation_at nowhere running
