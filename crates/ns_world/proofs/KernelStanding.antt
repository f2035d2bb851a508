-- Rows stand in the table at the places of their numbers.
use Rattle.std.proofs.Common.{◌≡◌, refl}
use Rattle.std.specs.List.{AllByRecursion}
use Rattle.ns_world.specs.declared.kernel_class.KernelRow.{KernelRow}
use Rattle.ns_world.specs.declared.kernel_class.KernelRow.TheVariants as row
use Rattle.ns_world.specs.KernelTable.{StandsThere, rows_of}

pub standing : (class : KernelRow) → AllByRecursion StandsThere (rows_of class)
standing row.Object = (refl, (refl, (refl, (refl, (refl, (refl, tt))))))
standing row.ObjectClass = (refl, tt)
standing row.ArrayClass = (refl, tt)
standing row.Class = (refl, tt)
standing row.UndefinedObject = (refl, tt)
standing row.Boolean = (refl, (refl, (refl, (refl, (refl, (refl, (refl, (refl, (refl, (refl, tt))))))))))
standing row.Integer =
    (refl, (refl, (refl, (refl, (refl, (refl, (refl, (refl, (refl, (refl, (refl, (refl, (refl, (refl, (refl, (refl, (refl, tt)))))))))))))))))
standing row.String = (refl, (refl, (refl, (refl, (refl, (refl, (refl, tt)))))))
standing row.Symbol = (refl, (refl, (refl, (refl, tt))))
standing row.Array = (refl, (refl, (refl, (refl, tt))))
standing row.Block = (refl, (refl, (refl, (refl, (refl, (refl, (refl, (refl, tt))))))))
standing row.Manifest = (refl, tt)
standing row.Platform = (refl, (refl, (refl, (refl, tt))))
standing row.Kernel = (refl, (refl, tt))
standing row.Console = (refl, (refl, tt))
standing row.Board = (refl, (refl, tt))
standing row.Mirrors = (refl, tt)
standing row.Mirror = (refl, (refl, (refl, (refl, (refl, (refl, (refl, tt)))))))
standing row.Message = (refl, (refl, tt))
