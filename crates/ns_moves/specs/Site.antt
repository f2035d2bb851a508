-- Errors of a run, named by the innermost send being answered.
use Rattle.ns_base.specs.declared.selector.Sel.{Sel}
use Rattle.ns_world.specs.declared.ending.Kind.{Kind}
use Rattle.ns_world.specs.declared.ending.Kind.TheVariants as kind
use Rattle.ns_world.specs.declared.ending.Fault.{Fault}
use Rattle.ns_world.specs.declared.ending.Fault.TheVariants as fault
use Rattle.ns_world.specs.declared.ending.Ending.{Ending}
use Rattle.ns_world.specs.declared.ending.Ending.TheVariants as ending
use Rattle.ns_world.specs.declared.ending.LimitKind.TheVariants.{Cells}
use Rattle.ns_classes.specs.declared.apply.MakeFault.{MakeFault}
use Rattle.ns_classes.specs.declared.apply.MakeFault.TheVariants.{NotAClass, KernelSuper, ChainLimit, CellLimit}
use Rattle.ns_moves.specs.declared.site.Site.{Site}

-- an error names its kind, and the place, the class and the selector of its site (this profile)
abbrev pub error : Kind → Site → Ending
error kind site = ending.Error (record { kind = kind; place = site.place; class = site.class; sel = site.sel })

-- a fault of a kernel row ends the run with that error, or with that limit
abbrev pub fault_ending : Fault → Site → Ending
fault_ending (fault.Kind kind) site = error kind site
fault_ending (fault.Limit limit) site = ending.Limit limit

-- the fault of a class that can't be made
abbrev pub make_fault : MakeFault → Fault
make_fault NotAClass = fault.Kind kind.NotAClass
make_fault KernelSuper = fault.Kind kind.KernelSuper
make_fault ChainLimit = fault.Kind kind.ChainLimit
make_fault CellLimit = fault.Limit Cells

-- the site with another selector: that of a Message that the kernel's `doesNotUnderstand:` is given
abbrev pub site_of_message : Site → Sel → Site
site_of_message site sel = record site { sel = sel }
