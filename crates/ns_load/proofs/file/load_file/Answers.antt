use Rattle.std.proofs.Common.{◌∙◌, ap, sym, take, option_map, subst, MatchResult, ◌≢◌, ◌≡◌}
use Rattle.ns_load.proofs.Files.{IfSome_at, bytes_tell}
use Rattle.ns_load.specs.Source.{read_bytes, refused, spells}
use Rattle.ns_load.specs.declared.fault.LoadFault.TheVariants.{Memory}
use Rattle.ns_tree.specs.PlainOf.{unit_of}
use Rattle.ns_load.proofs.Told.{result_fault}
use Rattle.ns_load.proofs.file.load_file.Goals as goal

pub returns-in-Ok-clause-told : goal.returns-in-Ok-clause-told
returns-in-Ok-clause-told g c = λ files e.
    bytes_tell c.args.file (files c.args.name.now) c.in-Ok.source.items c.read_bytes.result
    (ap (λ name. option_map (take 1048577) (files name)) (sym c.str_of.ensures) ∙ IfSome_at _ files _ e c.in-Ok.ensures.told)
    (subst (λ bytes. MatchResult c.read_bytes.result (λ r. read_bytes c.args.file bytes ≡ spells (unit_of r.unit) r.marks) (λ fault. fault ≢ Memory → read_bytes c.args.file bytes ≡ refused fault)) c.as_slice.ensures.value c.read_bytes.ensures.exact)
    c.read_bytes.ensures.cause

pub returns-in-Ok-clause-text : goal.returns-in-Ok-clause-text
returns-in-Ok-clause-text g c =
    result_fault c.args.file c.in-Ok.source.items c.read_bytes.result
    (subst (λ bytes. MatchResult c.read_bytes.result (λ r. read_bytes c.args.file bytes ≡ spells (unit_of r.unit) r.marks) (λ fault. fault ≢ Memory → read_bytes c.args.file bytes ≡ refused fault)) c.as_slice.ensures.value c.read_bytes.ensures.exact)
