use Rattle.std.proofs.Common.{None, Some, string_bytes}
use Rattle.ns_run_words.specs.Application.{names_in}
use Rattle.ns_run_words.proofs.ApplicationLaws.{last_taken, name_taken, split_names}
use Rattle.ns_run_words.proofs.application.names_in.Goals as goal

pub loop-name-preserved : goal.loop-name-preserved
loop-name-preserved c = record {
  text = search;
  all =
      name_taken string_bytes c.loop-name.names.items c.push.new.self.items c.in_ok-from_str.field-0 c.args.text.now c.loop-name.left.now c.in-Some.name.now (names_in c.in-Some.rest.now) c.loop-name.invariant.all
      (split_names c.loop-name.left.now (Some (c.in-Some.name, c.in-Some.rest)) c.in-Some.ensures.cases) c.in_ok-from_str.ensures.ok c.in_ok-push.ensures.items;
}

pub returns-clause-names : goal.returns-clause-names
returns-clause-names c =
    last_taken string_bytes c.loop-name.names.items c.push-2.new.self.items c.in_ok-from_str-2.field-0 c.args.text.now c.loop-name.left.now c.loop-name.invariant.all
    (split_names c.loop-name.left.now None c.in_default.ensures.cases) c.in_ok-from_str-2.ensures.ok c.in_ok-push-2.ensures.items
