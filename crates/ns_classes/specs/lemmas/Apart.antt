-- Entries of different holders in one chain stand at different words.
use Rattle.std.proofs.Common.{◌≡◌, ℕ, zero, suc, ◌<◌, length, get_or, ap, sym, ◌∙◌, arith, true}
use Rattle.ns_code.specs.declared.program.CodeProgram.{CodeProgram}
use Rattle.ns_world.specs.Heap.{is_chain_start, chain_of, superclass_of}
use Rattle.ns_world.specs.World.{World}
use Rattle.ns_world.specs.Layout.{declaration_of, entries_of, layout_of, entry_word}
use Rattle.ns_world.specs.Lawful.{IsLawful}
use Rattle.ns_classes.specs.laws.Entries.{started, along}

-- an entry stands at or behind the entries above its class
pub meet : (world : World) (code : CodeProgram) (i j class first second entry other : ℕ) → IsLawful world code →
    is_chain_start world.cells class ≡ true → i < length (chain_of world.cells class) →
    get_or (chain_of world.cells class) i first ≡ first → j < length (chain_of world.cells class) →
    get_or (chain_of world.cells class) j second ≡ second → entry < entries_of code (declaration_of world.cells first) →
    other < entries_of code (declaration_of world.cells second) →
    entry_word world.cells code first entry ≡ entry_word world.cells code second other → (first ≡ second) × (entry ≡ other)
meet world code zero zero class first second entry other lawful s hi ei hj ej b c w =
    let g = started world code class zero lawful s hi in
    let one : class ≡ first = sym (ap (λ ms. get_or ms 0 first) g.chain) ∙ ei in
    let two : class ≡ second = sym (ap (λ ms. get_or ms 0 second) g.chain) ∙ ej in
    let same : first ≡ second = sym one ∙ two in
    let layouts : layout_of world.cells code (superclass_of world.cells first) ≡ layout_of world.cells code (superclass_of world.cells second) = ap (λ n. layout_of world.cells code (superclass_of world.cells n)) same in
    (same, omega (arith, w, layouts))
meet world code zero (suc j) class first second entry other lawful s hi ei hj ej b c w =
    let g = started world code class zero lawful s hi in
    let one : class ≡ first = sym (ap (λ ms. get_or ms 0 first) g.chain) ∙ ei in
    let inside : j < length (chain_of world.cells (superclass_of world.cells class)) = omega (arith, hj, ap length g.chain) in
    let there : get_or (chain_of world.cells (superclass_of world.cells class)) j second ≡ second = sym (ap (λ ms. get_or ms (suc j) second) g.chain) ∙ ej in
    let below = along world code j (superclass_of world.cells class) second lawful g.start inside there in
    let layouts : layout_of world.cells code (superclass_of world.cells class) ≡ layout_of world.cells code (superclass_of world.cells first) = ap (λ n. layout_of world.cells code (superclass_of world.cells n)) one in
    absurd (omega (arith, below, layouts, w, c))
meet world code (suc i) zero class first second entry other lawful s hi ei hj ej b c w =
    let g = started world code class zero lawful s hj in
    let two : class ≡ second = sym (ap (λ ms. get_or ms 0 second) g.chain) ∙ ej in
    let inside : i < length (chain_of world.cells (superclass_of world.cells class)) = omega (arith, hi, ap length g.chain) in
    let there : get_or (chain_of world.cells (superclass_of world.cells class)) i first ≡ first = sym (ap (λ ms. get_or ms (suc i) first) g.chain) ∙ ei in
    let below = along world code i (superclass_of world.cells class) first lawful g.start inside there in
    let layouts : layout_of world.cells code (superclass_of world.cells class) ≡ layout_of world.cells code (superclass_of world.cells second) = ap (λ n. layout_of world.cells code (superclass_of world.cells n)) two in
    absurd (omega (arith, below, layouts, w, b))
meet world code (suc i) (suc j) class first second entry other lawful s hi ei hj ej b c w =
    let g = started world code class (suc i) lawful s hi in
    let inside_one : i < length (chain_of world.cells (superclass_of world.cells class)) = omega (arith, hi, ap length g.chain) in
    let inside_two : j < length (chain_of world.cells (superclass_of world.cells class)) = omega (arith, hj, ap length g.chain) in
    meet world code i j (superclass_of world.cells class) first second entry other lawful g.start
    inside_one (sym (ap (λ ms. get_or ms (suc i) first) g.chain) ∙ ei)
    inside_two (sym (ap (λ ms. get_or ms (suc j) second) g.chain) ∙ ej)
    b c w
