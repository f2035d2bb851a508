use Rattle.ns_moves.proofs.FramesMoves.{valid_stays}
use Rattle.ns_moves.proofs.valid_frames.moves_keep_valid.Goals as goal

pub returns : goal.returns
returns c = λ code grants. valid_stays code grants (c.moves_keep_frames_valid.ensures.frames code) (c.moves_keep_frames_valid.ensures.asks code)
