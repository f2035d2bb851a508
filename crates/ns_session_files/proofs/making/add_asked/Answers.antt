use Rattle.std.proofs.Common.{map}
use Rattle.ns_run_words.specs.Line.{asked_seen}
use Rattle.ns_session_files.specs.Making.{granted, made_of}
use Rattle.ns_session_files.proofs.MakingLaws.{one_makes}
use Rattle.ns_session_files.proofs.making.add_asked.Goals as goal

pub returns-in-Ok-clause-told : goal.returns-in-Ok-clause-told
returns-in-Ok-clause-told g c = λ files e.
    one_makes c.args.limits (granted (asked_seen c.args.asked)) c.granted.result (made_of c.args.lib (asked_seen c.args.asked) (map files (asked_seen c.args.asked).names)) c.in-Ok.code c.args.session.now c.add.new.session c.add.result
    (c.in-Ok.ensures.told files e) c.granted.ensures c.add.ensures.added c.add.ensures.memory

pub returns-in-Ok-clause-texts : goal.returns-in-Ok-clause-texts
returns-in-Ok-clause-texts g c = (
  c.in-Ok.ensures.texts.0,
  c.in-Ok.ensures.texts.1,
  one_makes c.args.limits (granted (asked_seen c.args.asked)) c.granted.result (made_of c.args.lib (asked_seen c.args.asked) c.in-Ok.ensures.texts.0) c.in-Ok.code c.args.session.now c.add.new.session c.add.result c.in-Ok.ensures.texts.2
      c.granted.ensures c.add.ensures.added c.add.ensures.memory,
)
