use Rattle.std.proofs.Common.{List, ◌∷◌, subst, ap, ◌∙◌, ◌++◌, [], arith}
use Rattle.ns_code.specs.declared.instruction.Instr.{Instr}
use Rattle.ns_frozen_tables.specs.declared.stand.Stand.{Stand}
use Rattle.ns_frozen_tables.specs.Stands.{stand_at}
use Rattle.ns_frozen_tables.proofs.Stands.{Passed, pass_low, pass_within, pass_goes_on, body_fits}
use Rattle.ns_frozen_tables.proofs.stand.stands_of.Goals as goal

pub overflow_cast-height_at : goal.overflow_cast-height_at
overflow_cast-height_at c =
    let low = pass_low c.args.body.now c.instrs.at c.instrs.pass c.in-Some.instr c.in-Some.rest c.instrs.stands.items
    (subst (λ (left : List Instr). Passed c.args.body.now c.instrs.at c.instrs.pass left c.instrs.stands.items) c.in-Some.ensures c.instrs.invariant)
    (c.heights_agree.ensures.heights c.args.body.now c.instrs.at c.in-Some.instr)
    (c.heights_agree.ensures.agree c.args.code.now c.args.number c.instrs.at c.args.body.now c.in-Some.instr c.requires.sound c.requires.there)
    (body_fits c.args.code.now c.args.number c.args.body.now c.requires.fits c.requires.there).0 in
    omega (arith, c.height_at.ensures, low)

pub overflow_add-at : goal.overflow_add-at
overflow_add-at c =
    omega (
      arith,
      (body_fits c.args.code.now c.args.number c.args.body.now c.requires.fits c.requires.there).1,
      pass_within c.args.body.now c.instrs.at c.instrs.pass c.in-Some.instr c.in-Some.rest c.instrs.stands.items
          (subst (λ (left : List Instr). Passed c.args.body.now c.instrs.at c.instrs.pass left c.instrs.stands.items) c.in-Some.ensures c.instrs.invariant),
    )

pub instrs-preserved : goal.instrs-preserved
instrs-preserved c =
    pass_goes_on c.args.body.now c.instrs.at c.instrs.pass c.advance.new.self c.in-Some.instr c.in-Some.rest c.instrs.stands.items c.push.new.self.items
    (subst (λ (left : List Instr). Passed c.args.body.now c.instrs.at c.instrs.pass left c.instrs.stands.items) c.in-Some.ensures c.instrs.invariant)
    c.advance.ensures
    (c.in_ok-push.ensures.items
    ∙ ap (λ (one : Stand). c.instrs.stands.items ++ one ∷ []) (c.stand_at.ensures ∙ ap (λ n. stand_at n c.in-Some.instr) c.height_at.ensures))
