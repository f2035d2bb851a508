use Rattle.std.proofs.Common.{refl}
use Rattle.ns_find.proofs.Declaring.{passed_with, passed_without}
use Rattle.ns_find.proofs.passing.stop_on_instances.Goals as goal

pub returns-in-Some-clause-passed : goal.returns-in-Some-clause-passed
returns-in-Some-clause-passed c heap kind =
    passed_with heap c.args.code.now c.args.sel.0 kind c.args.passed.now c.stop_at.new.passed c.stop_at-in-Some.new.passed c.with_member.result.now
    c.with_setter.result.now c.in-Some.name c.requires.fits c.requires.sound c.with_member.ensures c.with_setter.ensures c.stop_at.ensures.flags
    c.stop_at-in-Some.ensures.flags (c.in-Some.ensures c.args.code.now refl)

pub returns-in-None-clause-passed : goal.returns-in-None-clause-passed
returns-in-None-clause-passed c heap kind =
    passed_without heap c.args.code.now c.args.sel.0 kind c.args.passed.now c.stop_at.new.passed c.with_member.result.now c.requires.fits
    c.requires.sound c.with_member.ensures c.stop_at.ensures.flags (c.in-None.ensures c.args.code.now refl)
