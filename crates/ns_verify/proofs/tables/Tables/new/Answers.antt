use Rattle.std.proofs.Common.{subst, sym, map, ap, ◌∙◌}
use Rattle.std.specs.List.{AllZip}
use Rattle.ns_code.specs.declared.class.ClassCode.{ClassCode}
use Rattle.ns_verify_members.specs.Numbers.{IsPrivatesOf}
use Rattle.ns_verify.specs.Chains.{arounds_from}
use Rattle.ns_verify.proofs.Outward.{outers_are, arounds_are}
use Rattle.ns_verify.proofs.tables.Tables.new.Goals as goal

pub returns : goal.returns
returns c = record {
  names = c.requires.names;
  privates = subst (AllZip (IsPrivatesOf c.args.code.now) c.args.code.now.classes) (sym c.from_vec.ensures) c.in_ok-privates.ensures;
  outers = outers_are c.args.code.now c.from_vec-2.result (c.from_vec-2.ensures ∙ c.in_ok-outers.ensures ∙ ap (map (λ (class : ClassCode). class.outer)) c.as_slice.ensures);
  arounds = arounds_are c.args.code.now c.from_vec-3.result (c.from_vec-3.ensures ∙ c.in_ok-arounds.ensures ∙ ap (arounds_from 0) c.as_slice-2.ensures);
}
