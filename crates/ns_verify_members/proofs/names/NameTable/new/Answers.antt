use Rattle.std.proofs.Common.{◌∙◌, ap, map}
use Rattle.std.proofs.lemmas.Map.Made.{IsDistinct-from_AllPairs}
use Rattle.std.proofs.lemmas.Slice.Eq.{bytes_eq-Decides}
use Rattle.ns_base.specs.Spelling.{is_identifier}
use Rattle.ns_verify_members.specs.Numbers.{with_colon}
use Rattle.ns_verify_members.proofs.names.NameTable.new.Goals as goal

pub returns : goal.returns
returns c = record {
  few = c.requires.few;
  differ = IsDistinct-from_AllPairs bytes_eq-Decides c.args.code.now.names c.requires.differ;
  selectors = c.in_ok-selectors.ensures;
  identifiers = c.from_vec.ensures ∙ c.in_ok-identifiers.ensures ∙ ap (map is_identifier) c.as_slice-names.ensures;
  setters = c.from_vec-2.ensures ∙ c.in_ok-setters.ensures ∙ ap (λ names. map (with_colon names) names) c.as_slice-names.ensures;
}
