use Rattle.std.proofs.Common.{◌≡◌, Some, map, take, length}
use Rattle.ns_base.specs.Files.{Files}
use Rattle.ns_base.specs.Shelf.{OnlyRead}
use Rattle.ns_load.specs.Answer.{AreRead}
use Rattle.ns_load.specs.Loaded.{load_from, units}
use Rattle.ns_tree.specs.PlainOf.{unit_of}
use Rattle.ns_load.proofs.load.load_files.Given as goal

-- The parts are the files so far.
abbrev pub invariant-files : goal.invariant-files
invariant-files g l = record {
  told : (files : Files) → g.S.Shelf.holds l.fn.shelf ≡ Some files → load_from 0 (map files (take l.name-index l.names)) ≡ units (map unit_of l.parts.units.items) l.parts.marks.items;
  names : l.parts.files.items ≡ take l.name-index l.names;
  number : l.file ≡ l.name-index;
  count : length l.parts.units.items ≡ l.name-index;
  read : AreRead 0 (map unit_of l.parts.units.items) l.parts.marks.items;
  only_read : OnlyRead g.S.Shelf.holds g.S.Shelf.misses g.S.Shelf.faults g.S.Shelf.store_faults l.fn.shelf l.shelf;
}
