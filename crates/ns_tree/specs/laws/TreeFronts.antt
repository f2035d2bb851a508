-- The laws on trees and fronts.
use Rattle.std.proofs.Common.{◌≡◌, sym, subst, ◌∙◌, List, ◌++◌, ◌↔◌, zero}
use Rattle.ns_tree.specs.declared.token.Kind.{Kind}
use Rattle.ns_tree.specs.Flat.{flat}
use Rattle.ns_tree.specs.Grammar.{file}
use Rattle.ns_tree.specs.Tree.{Front, BeginsTree, AllHaveText}
use Rattle.ns_tree.specs.laws.FileFlats.{file_same}
use Rattle.ns_tree.specs.lemmas.FileFronts.{file_fronts}
use Rattle.ns_tree.specs.laws.Fronts.{Whole, told_append, told_front}

pub front_goes_on : (kinds : List Kind) → Front kinds → BeginsTree kinds
front_goes_on kinds F =
    let x : Whole (file F.depth) zero kinds = (file_fronts F.depth).goes_on zero kinds F.front in
    let e : flat x.value ≡ kinds ++ x.more = sym (file_same F.depth zero x.value x.good) ∙ x.spelled in
    record {
      unit = x.value;
      rest = x.more;
      tree = record { depth = F.depth; given = x.good; told = subst AllHaveText (sym e) (told_append kinds x.more F.told x.told) };
      begins = e;
    }

pub what_begins_is_front : (kinds : List Kind) → BeginsTree kinds → Front kinds
what_begins_is_front kinds B = record {
  depth = B.tree.depth;
  front = (file_fronts B.tree.depth).begins zero B.unit kinds B.rest B.tree.given (file_same B.tree.depth zero B.unit B.tree.given ∙ B.begins);
  told = told_front kinds B.rest (subst AllHaveText B.begins B.tree.told);
}

-- a front is exactly what begins the tokens of some tree
pub fronts_begin_trees : (kinds : List Kind) → Front kinds ↔ BeginsTree kinds
fronts_begin_trees kinds = (front_goes_on kinds, what_begins_is_front kinds)
