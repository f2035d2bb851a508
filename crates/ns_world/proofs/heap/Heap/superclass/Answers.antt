use Rattle.std.proofs.Common.{◌≡◌, ◌∷◌, ap, ◌∙◌, sym}
use Rattle.ns_world.specs.Heap.{chain_of, is_chain_start, declared_class, superclass_of}
use Rattle.ns_world.specs.laws.Above.{goes_on}
use Rattle.ns_world.proofs.Kept.{seen_ordered, seen_small}
use Rattle.ns_world.proofs.heap.Heap.superclass.Goals as goal

pub returns-clause-chain : goal.returns-clause-chain
returns-clause-chain c =
    let ordered = seen_ordered c.args.self.now c.self.inside.words.items _ _ _ _ c.self.view_is c.self.invariant in
    let small = seen_small c.args.self.now c.self.inside.words.items _ _ _ _ c.self.view_is c.self.invariant in
    let g = goes_on c.args.self.now.cells c.args.class ordered small c.requires in
    let is : c.declared_class.result ≡ superclass_of c.args.self.now.cells c.args.class = c.declared_class.ensures ∙ ap declared_class (c.read.ensures ∙ g.over) in
    g.chain ∙ ap (λ n. c.args.class ∷ chain_of c.args.self.now.cells n) (sym is)

pub returns-clause-start : goal.returns-clause-start
returns-clause-start c =
    let ordered = seen_ordered c.args.self.now c.self.inside.words.items _ _ _ _ c.self.view_is c.self.invariant in
    let small = seen_small c.args.self.now c.self.inside.words.items _ _ _ _ c.self.view_is c.self.invariant in
    let g = goes_on c.args.self.now.cells c.args.class ordered small c.requires in
    let is : c.declared_class.result ≡ superclass_of c.args.self.now.cells c.args.class = c.declared_class.ensures ∙ ap declared_class (c.read.ensures ∙ g.over) in
    ap (is_chain_start c.args.self.now.cells) is ∙ g.start
