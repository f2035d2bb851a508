-- The sends that the frames answer which a machine keeps.
use Rattle.std.specs.Prelude.{List}
use Rattle.ns_base.specs.declared.place.Place.{Place as SourcePlace}
use Rattle.ns_moves.specs.declared.site.Site.{Site}
use Rattle.ns_machine_frames.specs.declared.frame.Frame.{Frame as KeptFrame}
use Rattle.ns_machine_frames.specs.declared.frame.Frame.TheVariants as kept
use Rattle.ns_machine_frames.specs.declared.frame.KeptSite.{KeptSite}
use Rattle.ns_machine_frames.specs.View.{site_shown}

-- the send that a frame answers, as the machine keeps it
abbrev pub site_in : KeptFrame → KeptSite
site_in (kept.Running frame) = frame.activation.site
site_in (kept.Looping frame) = frame.site

-- what that stands for
abbrev pub kept_site : List SourcePlace → KeptFrame → Site
kept_site places frame = site_shown places (site_in frame)
