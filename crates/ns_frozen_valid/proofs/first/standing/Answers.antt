use Rattle.std.proofs.Common.{List, length, drop, get_or, map, refl, ap, sym, ◌∙◌, ◌+◌, ◌++◌, append-nil, arith}
use Rattle.std.proofs.lemmas.List.{drop_all}
use Rattle.ns_code.specs.declared.class.ClassCode.{ClassCode}
use Rattle.ns_world.specs.Cell.{Cell}
use Rattle.ns_moves.specs.Start.{facets_of, tops_of}
use Rattle.ns_frozen_valid.specs.First.{first_shown}
use Rattle.ns_frozen_tables.specs.laws.Lists.{next_of}
use Rattle.ns_frozen_valid.proofs.Starts.{tops_on}
use Rattle.ns_frozen_valid.proofs.first.standing.Goals as goal

pub classes-init : goal.classes-init
classes-init c = (refl, ap (λ (xs : List Cell). xs ++ tops_of 0 c.args.code.now.classes) c.in_ok-first.ensures)

pub overflow_add-decl : goal.overflow_add-decl
overflow_add-decl c =
    omega (arith, c.classes.invariant.0, c.classes-test.true, ap length c.as_slice-class-items.ensures, c.requires.class_count)

pub classes-preserved : goal.classes-preserved
classes-preserved c = (
  ap (λ n. n + 1) c.classes.invariant.0,
  tops_on c.classes.decl c.class-item.result (drop (c.classes.class-index + 1) c.args.code.now.classes)
      (map first_shown c.classes.first.items) (map first_shown c.add_top.new.first.items)
      (facets_of c.args.grants ++ tops_of 0 c.args.code.now.classes) c.in_ok-add_top.ensures
      (ap (λ (xs : List ClassCode). map first_shown c.classes.first.items ++ tops_of c.classes.decl xs)
      (sym (next_of c.args.code.now.classes c.classes.class-index c.class-item.result
      (omega (arith, c.classes-test.true, ap length c.as_slice-class-items.ensures))
      (c.class-item.is ∙ ap (λ (xs : List ClassCode). get_or xs c.classes.class-index c.class-item.result) c.as_slice-class-items.ensures)))
      ∙ c.classes.invariant.1),
)

pub returns : goal.returns
returns c =
    sym (append-nil (map first_shown c.classes.first.items))
    ∙ (ap (λ (xs : List ClassCode). map first_shown c.classes.first.items ++ tops_of c.classes.decl xs)
    (sym (drop_all c.classes.class-index c.args.code.now.classes (omega (arith, c.classes-test.false, ap length c.as_slice-class-items.ensures))))
    ∙ c.classes.invariant.1)
