use Rattle.std.proofs.Common.{ℕ, ◌≡◌, ◌-◌, ap, ◌∙◌, arith}
use Rattle.ns_frozen.specs.Live.{fits_environment}
use Rattle.ns_frozen_seen.specs.Seen.{heap_of}
use Rattle.ns_frozen_fitting.proofs.Outwards.{out_on, out_known, out_nowhere, out_all, out_end, out_past}
use Rattle.ns_frozen_fitting.proofs.environments.fits_environment.Goals as goal

pub bodies-init : goal.bodies-init
bodies-init c =
    let all : c.args.depth - 0 ≡ c.args.depth = omega arith in
    ap (λ (n : ℕ). fits_environment n c.args.seen.now.code.now (heap_of c.args.seen.now) c.args.body c.args.env) all

pub bodies-preserved : goal.bodies-preserved
bodies-preserved c =
    out_on c.args.depth c.bodies.done c.args.seen.now.code.now (heap_of c.args.seen.now) c.bodies.body c.in-Some.number c.bodies.env
    c.in-Some-around.parent c.in-Some-around.outer _ c.bodies-test.true c.in-Some.is c.in-Some-around.ensures c.bodies.invariant

pub returns-in-None-around : goal.returns-in-None-around
returns-in-None-around c =
    out_nowhere c.args.depth c.bodies.done c.args.seen.now.code.now (heap_of c.args.seen.now) c.bodies.body c.in-Some.number c.bodies.env
    _ c.bodies-test.true c.in-Some.is c.in-None-around.ensures c.bodies.invariant

pub returns-in-None : goal.returns-in-None
returns-in-None c =
    c.is_nil.ensures
    ∙ out_all (c.args.depth - c.bodies.done) c.args.seen.now.code.now (heap_of c.args.seen.now) c.bodies.body c.bodies.env _ c.in-None.is c.bodies.invariant

pub returns-then-is_none : goal.returns-then-is_none
returns-then-is_none c =
    c.is_nil-then-is_none.ensures
    ∙ out_end (c.args.depth - c.bodies.done) c.args.seen.now.code.now (heap_of c.args.seen.now) c.bodies.body c.bodies.env _ c.if-is_none.ensures c.bodies.invariant

pub returns-else-is_none : goal.returns-else-is_none
returns-else-is_none c =
    c.if-is_none.false
    ∙ out_past (c.args.depth - c.bodies.done) c.args.seen.now.code.now (heap_of c.args.seen.now) c.bodies.body c.bodies.env _
    (omega (arith, c.bodies-test.false)) c.if-is_none.ensures c.bodies.invariant

pub returns-then-is_known_within : goal.returns-then-is_known_within
returns-then-is_known_within c =
    out_known (c.args.depth - c.bodies.done) c.args.seen.now.code.now (heap_of c.args.seen.now) c.bodies.body c.in-Some.number c.bodies.env _ c.in-Some.is
    (c.is_known_within.ensures c.if-is_known_within.true) c.bodies.invariant
