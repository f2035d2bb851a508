use Rattle.std.proofs.Common.{IsUtf8, sym, subst, ap, ◌≡◌, ◌∙◌, ◌∷◌, ◌++◌, [], map, arith}
use Rattle.std.proofs.lemmas.List.{map-append, length-map}
use Rattle.std.proofs.lemmas.List.Elements.{All-get_or}
use Rattle.ns_load.proofs.Loads.{next_fault, next_file, next_name, next_read, one_longer, read_on}
use Rattle.ns_load.proofs.Told.{fault_texts, memory_result}
use Rattle.ns_load.proofs.load.load_files.Goals as goal
use Rattle.ns_scope.specs.Whole.{NamesFile}
use Rattle.ns_tree.specs.PlainOf.{unit_of}

pub load_file-requires : goal.load_file-requires
load_file-requires g c =
    subst IsUtf8 (sym c.name-item.is) (All-get_or NamesFile c.args.names.now c.files.name-index c.name-item.result c.files-test.true c.requires.named).0

pub returns-in-Err-clause-told : goal.returns-in-Err-clause-told
returns-in-Err-clause-told g c = λ files e.
    next_fault files c.args.names.now c.files.name-index c.files.file c.name-item.result _ _ c.in-Err.fault c.files-test.true c.name-item.is c.files.invariant.number
    (c.files.invariant.told files e) (c.in-Err.ensures.told files (c.files.invariant.only_read.0 ∙ e))

pub returns-in-Err-clause-texts : goal.returns-in-Err-clause-texts
returns-in-Err-clause-texts g c =
    fault_texts c.args.names.now c.files.file _ _ c.in-Err.fault c.files.invariant.read
    (omega (arith, c.files.invariant.number, c.files.invariant.count, length-map c.files.parts.units.items unit_of))
    (omega (arith, c.files.invariant.number, c.files-test.true)) c.in-Err.ensures.text

pub files-preserved : goal.files-preserved
files-preserved g c =
    let more : map unit_of c.add.new.self.units.items ≡ map unit_of c.files.parts.units.items ++ unit_of c.in-Ok.source.unit ∷ [] =
    ap (map unit_of) c.in_ok-add-in-Ok.ensures.units ∙ map-append unit_of c.files.parts.units.items (c.in-Ok.source.unit ∷ [])
    in
    record {
      told = λ files e.
          next_file files c.args.names.now c.files.name-index c.files.file c.name-item.result _ _ _ _ (unit_of c.in-Ok.source.unit) c.in-Ok.source.marks c.files-test.true c.name-item.is c.files.invariant.number
          (c.files.invariant.told files e) (c.in-Ok.ensures.told files (c.files.invariant.only_read.0 ∙ e)) more c.in_ok-add-in-Ok.ensures.marks;
      names = next_name c.args.names.now c.files.name-index c.name-item.result _ _ c.files-test.true c.name-item.is c.files.invariant.names (c.in_ok-add-in-Ok.ensures.files ∙ ap (λ name. c.files.parts.files.items ++ name ∷ []) (c.in_ok-kept.ensures ∙ c.bytes.ensures));
      number = omega (arith, c.files.invariant.number);
      count = one_longer c.files.parts.units.items c.add.new.self.units.items c.in-Ok.source.unit c.files.name-index c.in_ok-add-in-Ok.ensures.units c.files.invariant.count;
      read = next_read c.files.file _ _ _ _ (unit_of c.in-Ok.source.unit) c.in-Ok.source.marks c.files.invariant.read (omega (arith, c.files.invariant.number, c.files.invariant.count, length-map c.files.parts.units.items unit_of)) c.in-Ok.ensures.read more c.in_ok-add-in-Ok.ensures.marks;
      only_read = read_on g.S.Shelf.holds g.S.Shelf.misses g.S.Shelf.faults g.S.Shelf.store_faults _ _ _ c.files.invariant.only_read c.load_file.ensures.only_read;
    }

pub returns-in_err-kept-clause-texts : goal.returns-in_err-kept-clause-texts
returns-in_err-kept-clause-texts g c = memory_result c.args.names.now c.from_residual.result c.from_residual.ensures.1

pub returns-in_err-add-in-Ok-clause-texts : goal.returns-in_err-add-in-Ok-clause-texts
returns-in_err-add-in-Ok-clause-texts g c =
    memory_result c.args.names.now c.from_residual-in_err-add-in-Ok.result c.from_residual-in_err-add-in-Ok.ensures.1
