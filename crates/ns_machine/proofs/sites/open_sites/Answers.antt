use Rattle.std.proofs.Common.{◌≡◌, ◌∙◌, ap, sym, subst, IfOk, List}
use Rattle.ns_moves.specs.declared.site.Site.{Site}
use Rattle.ns_machine_core.specs.declared.state.Next.{Next}
use Rattle.ns_machine_core.specs.Shown.{shown}
use Rattle.ns_machine.specs.Sites.{sites_of}
use Rattle.ns_machine.proofs.OpenSites.{sites_on, sites_waiting}
use Rattle.ns_machine.proofs.sites.open_sites.Goals as goal

pub returns-in-On : goal.returns-in-On
returns-in-On c =
    let code = c.args.code.now in
    let core = c.args.core.now in
    subst (λ (all : List Site). IfOk c.kept_sites.result (λ sites. sites.items ≡ all))
    (sites_on code core c.in-On.field-0 ∙ ap (λ (n : Next). sites_of (shown code core n)) (sym c.in-On.is)) c.kept_sites.ensures

pub returns-in-Waits : goal.returns-in-Waits
returns-in-Waits c =
    let code = c.args.code.now in
    let core = c.args.core.now in
    subst (λ (all : List Site). IfOk c.kept_sites-in-Waits.result (λ sites. sites.items ≡ all))
    (sites_waiting code core c.in-Waits.field-0 ∙ ap (λ (n : Next). sites_of (shown code core n)) (sym c.in-Waits.is)) c.kept_sites-in-Waits.ensures
