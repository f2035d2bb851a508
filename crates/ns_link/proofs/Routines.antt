-- What the body of a method or block uses is there.
use Rattle.std.proofs.Common.{◌≡◌, ◌<◌, ℕ, ◌+◌, List, [], ◌++◌, length, ◌^◌, refl, ap, arith, length-append}
use Rattle.std.specs.Prelude.{not}
use Rattle.std.proofs.lemmas.List.{length-map}
use Rattle.ns_tree.specs.declared.tree.Named.{Named}
use Rattle.ns_tree.specs.declared.token.Kind.{Kind}
use Rattle.ns_tree.specs.Flat as t
use Rattle.ns_tree.specs.Plain as p
use Rattle.ns_tree.specs.Tree.{AllHaveText}
use Rattle.ns_scope.specs.declared.names.Declared.{Declared}
use Rattle.ns_scope.specs.declared.names.Local.{Local}
use Rattle.ns_scope.specs.declared.names.Setting.{Setting}
use Rattle.ns_scope.specs.declared.names.Setting.TheVariants as s
use Rattle.ns_scope.specs.Names.{locals_of, param_settings, bars_settings, slot_settings}
use Rattle.ns_scope.specs.Bodies as b
use Rattle.ns_static_rules.specs.declared.fault.StaticCause.TheVariants as c
use Rattle.ns_static_rules.specs.Faults as f
use Rattle.ns_resolved.specs.Program as m
use Rattle.ns_resolved.specs.Uses.{DoesHave, LocalsHave, MethodHas, BlockHas}
use Rattle.ns_resolved.specs.Expressions.{Standing}
use Rattle.ns_resolved.specs.Statements.{local_names, bars_values, statements_steps}
use Rattle.ns_link.specs.Reached.{IsThereButBlocks}
use Rattle.ns_link.proofs.Around.{Stands}
use Rattle.ns_link.proofs.Differ.{if_none}
use Rattle.ns_link.proofs.Faults.{empty_left, empty_right}
use Rattle.ns_link.proofs.Patterns.{texts_left, texts_right}
use Rattle.ns_link.proofs.Reach.{not_false, reaches}
use Rattle.ns_link.proofs.Statements.{bars_count, slots_count, bars_locals, statements_method, statements_block}
use Rattle.ns_link.proofs.Tables.{numbered_length}

-- what a body of this number uses is there
abbrev pub Uses : m.Meant → ℕ → m.Body → Type 0
Uses meant number body = DoesHave (IsThereButBlocks meant number body) body.does

-- ---- how many locals there are

slots_counted : (slots : p.Slots) → length (slot_settings slots) ≡ slots_count slots
slots_counted p.no_slots = refl
slots_counted (p.more_slots (p.slot_with access name init) rest) = let f = slots_counted rest in omega (f, arith)

bars_counted : (bars : p.Bars) → length (bars_settings bars) ≡ bars_count bars
bars_counted p.no_bars = refl
bars_counted (p.bars_around slots) = slots_counted slots

locals_counted : (params : List Named) (bars : p.Bars) → length (local_names params bars) ≡ length params + bars_count bars
locals_counted params bars =
    let fixed : Named → Named × Setting = λ param. (param, s.Fixed) in
    omega (
      length-map (locals_of params bars) (λ (d : Declared Local). d.name),
      numbered_length 0 (param_settings params ++ bars_settings bars),
      length-append (param_settings params) (bars_settings bars),
      length-map params fixed,
      bars_counted bars,
      arith,
    )

-- ---- a body of its locals and statements

module _ (meant : m.Meant) (depth : ℕ) (here : Standing) (holder : m.Body) (stands : Stands meant depth here holder)
    (params : List Named) (bars : p.Bars) (body : p.Statements) where
  -- the values of its locals, before the next block
  abbrev values : List m.First
  values = bars_values here (here.body + 1) (length params) bars

  abbrev steps : List m.Step
  steps = statements_steps here (here.body + 1 + length (b.bars_blocks here.scope bars)) body

  locals_use : holder.locals ≡ local_names params bars → length (local_names params bars) < 2 ^ 8 → f.bars_faults here.scope bars ≡ [] →
      AllHaveText (t.flat_bars bars) → LocalsHave (IsThereButBlocks meant here.body holder) values
  locals_use same few none texts =
      let count = locals_counted params bars in
      let there = ap length same in
      bars_locals (IsThereButBlocks meant here.body holder) here (reaches meant depth here holder stands) bars (here.body + 1) (length params) (length (local_names params bars))
      (omega (count, arith))
      (λ i below. ((here.body, holder, refl, stands.there, omega (below, there, arith)), omega arith, omega (below, few, arith))) none texts

  pub method_uses : (closing : List Kind) → holder.locals ≡ local_names params bars → length (local_names params bars) < 2 ^ 8 →
      f.bars_faults here.scope bars ++ f.statements_faults here.scope body ≡ [] → AllHaveText (t.flat_bars bars ++ (t.flat_statements body ++ closing)) →
      LocalsHave (IsThereButBlocks meant here.body holder) values × MethodHas (IsThereButBlocks meant here.body holder) steps
  method_uses closing same few none texts =
      let behind = t.flat_statements body ++ closing in (
        locals_use same few (empty_left (f.bars_faults here.scope bars) (f.statements_faults here.scope body) none) (texts_left (t.flat_bars bars) behind texts),
        statements_method (IsThereButBlocks meant here.body holder) here (reaches meant depth here holder stands) body (here.body + 1 + length (b.bars_blocks here.scope bars))
            (empty_right (f.bars_faults here.scope bars) (f.statements_faults here.scope body) none)
            (texts_left (t.flat_statements body) closing (texts_right (t.flat_bars bars) behind texts)),
      )

  pub block_uses : (closing : List Kind) → holder.locals ≡ local_names params bars → length (local_names params bars) < 2 ^ 8 →
      f.bars_faults here.scope bars ++ f.statements_faults here.scope body ≡ [] → AllHaveText (t.flat_bars bars ++ (t.flat_statements body ++ closing)) →
      LocalsHave (IsThereButBlocks meant here.body holder) values × BlockHas (IsThereButBlocks meant here.body holder) steps
  block_uses closing same few none texts =
      let behind = t.flat_statements body ++ closing in (
        locals_use same few (empty_left (f.bars_faults here.scope bars) (f.statements_faults here.scope body) none) (texts_left (t.flat_bars bars) behind texts),
        statements_block (IsThereButBlocks meant here.body holder) here (reaches meant depth here holder stands) body (here.body + 1 + length (b.bars_blocks here.scope bars))
            (λ at h. stands.home (not_false here.scope.in_method (if_none (not here.scope.in_method) at c.BadReturn h)))
            (empty_right (f.bars_faults here.scope bars) (f.statements_faults here.scope body) none)
            (texts_left (t.flat_statements body) closing (texts_right (t.flat_bars bars) behind texts)),
      )
