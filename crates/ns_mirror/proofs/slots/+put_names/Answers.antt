use Rattle.std.proofs.Common.{◌≡◌, List, length, ap, sym, ◌∙◌, arith}
use Rattle.ns_code.specs.declared.class.SlotCode.{SlotCode}
use Rattle.ns_world.specs.declared.value.Value.{Value}
use Rattle.ns_world.specs.Heap.{chain_of, open_words_at}
use Rattle.ns_world.specs.World.{WorldView}
use Rattle.ns_world.specs.Layout.{declaration_of}
use Rattle.ns_mirror.specs.Arrays.{listed}
use Rattle.ns_mirror.specs.Slots.{declared_slots, slot_symbols, slot_names_along}
use Rattle.ns_mirror.proofs.Listing.{listed_sizes, listed_part}
use Rattle.ns_mirror.proofs.Names.{names_step, names_step_size}
use Rattle.ns_mirror.proofs.slots.«+put_names».Goals as goal

pub put_slots-requires-clause-inside : goal.put_slots-requires-clause-inside
put_slots-requires-clause-inside t c =
    let heap = c.args.world.now.world.cells in
    let own : c.declared_slots.result.now ≡ declared_slots c.args.code.now (declaration_of heap c.args.class) =
    c.declared_slots.ensures.slots ∙ ap (declared_slots c.args.code.now) c.declaration-decl.ensures in
    let size = ap (λ (v : WorldView). length (open_words_at v.world.cells c.args.to)) c.put_names-at.ensures.world
    ∙ listed_sizes c.args.world.now c.args.to 0 c.args.to (slot_names_along heap c.args.code.now (chain_of heap c.superclass-over.result)) in
    omega (arith, c.requires.inside, c.put_names-at.ensures.place, ap length own, names_step_size heap c.args.code.now c.args.class c.superclass-over.result c.superclass-over.ensures.chain, size)

pub put_slots-requires-clause-few : goal.put_slots-requires-clause-few
put_slots-requires-clause-few t c =
    let heap = c.args.world.now.world.cells in
    let size = ap (λ (v : WorldView). length (open_words_at v.world.cells c.args.to)) c.put_names-at.ensures.world
    ∙ listed_sizes c.args.world.now c.args.to 0 c.args.to (slot_names_along heap c.args.code.now (chain_of heap c.superclass-over.result)) in
    omega (arith, c.requires.few, size)

pub returns-clause-world : goal.returns-clause-world
returns-clause-world t c =
    let heap = c.args.world.now.world.cells in
    let to = c.args.to in
    let own : c.declared_slots.result.now ≡ declared_slots c.args.code.now (declaration_of heap c.args.class) =
    c.declared_slots.ensures.slots ∙ ap (declared_slots c.args.code.now) c.declaration-decl.ensures in
    let names : List Value = slot_names_along heap c.args.code.now (chain_of heap c.superclass-over.result) in
    let slots : List SlotCode = declared_slots c.args.code.now (declaration_of heap c.args.class) in
    c.put_slots.ensures.world
    ∙ (ap (λ s. listed c.put_names-at.new.world to c.put_names-at.result (slot_symbols s)) own
    ∙ (ap (λ v. listed v to c.put_names-at.result (slot_symbols slots)) c.put_names-at.ensures.world
    ∙ (ap (λ n. listed (listed c.args.world.now to 0 names) to n (slot_symbols slots)) c.put_names-at.ensures.place
    ∙ (listed_part c.args.world.now to names (slot_symbols slots)
    ∙ ap (listed c.args.world.now to 0) (sym (names_step heap c.args.code.now c.args.class c.superclass-over.result c.superclass-over.ensures.chain))))))

pub returns-clause-place : goal.returns-clause-place
returns-clause-place t c =
    let heap = c.args.world.now.world.cells in
    let own : c.declared_slots.result.now ≡ declared_slots c.args.code.now (declaration_of heap c.args.class) =
    c.declared_slots.ensures.slots ∙ ap (declared_slots c.args.code.now) c.declaration-decl.ensures in
    omega (arith, c.put_slots.ensures.place, c.put_names-at.ensures.place, ap length own, names_step_size heap c.args.code.now c.args.class c.superclass-over.result c.superclass-over.ensures.chain)
