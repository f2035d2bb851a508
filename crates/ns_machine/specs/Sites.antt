-- The sends that a state's frames answer.
use Rattle.std.specs.Prelude.{List, [], map}
use Rattle.ns_moves.specs.declared.site.Site.{Site}
use Rattle.ns_moves.specs.State.{Frame, Running, Looping, State, Unbegun, Going, Pends, Ended, Stuck}

-- the send that a frame answers
abbrev pub site_of : Frame → Site
site_of (Running leaving activation locals rest stack) = activation.site
site_of (Looping method state site) = site

-- the frames of a state, the topmost first; a run that has begun nothing, has ended or is at a loss has none
abbrev pub frames_of : State → List Frame
frames_of (Unbegun arguments progress) = []
frames_of (Going phase frames progress) = frames
frames_of (Pends phase pending frames progress) = frames
frames_of (Ended ending phase progress) = []
frames_of (Stuck progress) = []

-- the sends that they answer, the innermost first
abbrev pub sites_of : State → List Site
sites_of state = map site_of (frames_of state)
