use Rattle.ns_machine_core.proofs.Fetched.{next_step}
use Rattle.ns_machine_core.proofs.laws.valid_runs_have_a_next_step.Goals as goal

pub returns : goal.returns
returns c code grants = next_step code
    (record {
      heights = c.heights_agree.ensures.heights;
      agree = c.heights_agree.ensures.agree code;
      usable = c.sound_instructions_are_usable.ensures code;
      asks = c.moves_keep_frames_valid.ensures.asks code;
    })
    grants
