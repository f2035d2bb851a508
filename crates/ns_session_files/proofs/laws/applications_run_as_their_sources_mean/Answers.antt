use Rattle.ns_session_files.proofs.StandingLaws.{as_meant}
use Rattle.ns_session_files.proofs.laws.applications_run_as_their_sources_mean.Goals as goal

pub returns : goal.returns
returns c limits source member stood =
    as_meant limits source member (c.applications_mean_their_sources.ensures source.meant) (c.the_machine_does_what_is_meant.ensures.reported source.meant) stood
