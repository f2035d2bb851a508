use Rattle.ns_moves.proofs.FramesKnown.{WorldsKnown, LastingKnown, SoundKnown, ActionsKnown, SendsKnown, NamesKnown, Known}
use Rattle.ns_moves.proofs.FramesMoves.{frames_stand, asked_there}
use Rattle.ns_moves.proofs.valid_frames.moves_keep_frames_valid.Goals as goal

knows : goal.After-own_selectors_are_selectors → Known
knows c =
    let compose = c.later_worlds_compose.ensures in
    let calls = c.calls_lead_on.ensures in
    let lives = c.what_lives_stays.ensures in
    let charging = c.charging_keeps_lawful.ensures in
    let heights = c.heights_agree.ensures in
    let last = c.frames_last.ensures in
    let waits = c.what_waits_lasts.ensures in
    let keep = c.actions_keep_lawful.ensures in
    let stay = c.sites_stay.ensures in
    let send = c.sends_keep_lawful.ensures in
    let from = c.sends_that_waited_go_on.ensures in
    let values = c.values_keep_lawful.ensures in
    let names = c.what_code_names_is_there.ensures in
    let outermost = c.homes_are_outermost.ensures in
    let own = c.own_selectors_are_selectors.ensures in
    let worlds : WorldsKnown = record {
      same = compose.same;
      on = compose.on;
      left_later = calls.left;
      step_later = calls.steps;
      left_lawful = charging.left;
      step_lawful = charging.steps;
    } in
    let lasting : LastingKnown = record {
      values = lives.values;
      holders = lives.holders;
      environments = lives.locals;
      activations = last.fits;
      exits = last.exits;
      states = waits.states;
      methods = waits.methods;
    } in
    let sound : SoundKnown = record {
      no_cause = c.sound_code_has_no_cause.ensures.there;
      height = heights.heights;
      agree = heights.agree;
      stands = c.sound_bodies_stand_right.ensures;
      usable = c.sound_instructions_are_usable.ensures;
    } in
    let actions : ActionsKnown = record {
      leads = c.actions_lead_on.ensures;
      spends = c.actions_spend_exactly.ensures;
      hands_on = c.what_is_handed_on_fits.ensures;
      part = keep.super_part;
      ended = keep.body_ended;
      next = keep.method_next;
      part_at = stay.part;
    } in
    let sends : SendsKnown = record {
      lawful = send.sent;
      at = stay.sent;
      evaluated_lawful = send.evaluated;
      evaluated_at = stay.evaluated;
      evaluated_body = c.blocks_enter_their_bodies.ensures;
      from_lawful = from.lawful;
      from_fits = from.fits;
      from_at = from.at;
      from_later = from.later;
      from_spends = from.spends;
      sites = c.sites_fit.ensures;
    } in
    let named : NamesKnown = record {
      text = values.text;
      array = values.array;
      block = values.block;
      slot = values.slot;
      stored = values.local;
      enclosing_live = names.enclosing;
      local_stands = names.stands;
      local_live = names.local;
      block_lawful = names.block;
    } in
    record {
      worlds = worlds;
      lasting = lasting;
      sound = sound;
      actions = actions;
      sends = sends;
      names = named;
      own = record { selectors = own.selectors; arities = own.arities };
      homes = record { inside = outermost.inside; outermost = outermost.outermost };
    }

pub returns-clause-frames : goal.returns-clause-frames
returns-clause-frames c = frames_stand (knows c)

pub returns-clause-asks : goal.returns-clause-asks
returns-clause-asks c = asked_there (knows c)
