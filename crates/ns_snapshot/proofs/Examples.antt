-- Small parts of snapshots, and what is read of them.
use Rattle.std.specs.Prelude.{◌≡◌, [], ◌∷◌, ◌++◌, None, Err, pos}
use Rattle.std.proofs.Common.{refl}
use Rattle.ns_world.specs.declared.value.Value.TheVariants.{Nil, Int, Sym, Ref}
use Rattle.ns_world.specs.declared.kernel_class.KernelRow.TheVariants as row
use Rattle.ns_world.specs.declared.kernel.ClassName.TheVariants as name
use Rattle.ns_frozen.specs.declared.cell.CellData.TheVariants as held
use Rattle.ns_image.specs.Read.{got, truncated, bad}
use Rattle.ns_snapshot.specs.declared.fault.SnapFault.TheVariants as fault
use Rattle.ns_snapshot.specs.Bytes as s
use Rattle.ns_snapshot.specs.Fields as fields
use Rattle.ns_snapshot.specs.Reading as r
use Rattle.ns_snapshot.specs.Snapshot.{read_snapshot}

-- ---- values, sites and cells

seven : s.value (Int (pos 7)) ≡ 3 ∷ 0 ∷ 0 ∷ 0 ∷ 0 ∷ 0 ∷ 0 ∷ 0 ∷ 7 ∷ []
seven = refl

array : s.cell (held.Array (Nil ∷ Ref 5 ∷ [])) ≡ 4 ∷ 0 ∷ 0 ∷ 0 ∷ 2 ∷ 0 ∷ 6 ∷ 0 ∷ 0 ∷ 0 ∷ 5 ∷ []
array = refl

site : s.site (record { place = None; class = name.Kernel row.Integer; sel = record { 0 = 1 } }) ≡ 0 ∷ 2 ∷ 6 ∷ 0 ∷ 0 ∷ 0 ∷ 1 ∷ []
site = refl

-- ---- what is read

symbol : fields.value (4 ∷ 0 ∷ 0 ∷ 1 ∷ 2 ∷ 9 ∷ []) ≡ got (Sym (record { 0 = 258 })) (9 ∷ [])
unfolding fields.value fields.one_of
symbol = refl

-- a value has seven variants
eighth : fields.value (7 ∷ 0 ∷ []) ≡ bad 2
unfolding fields.value fields.one_of
eighth = refl

cut : fields.value (6 ∷ 0 ∷ 0 ∷ []) ≡ truncated
unfolding fields.value fields.one_of
cut = refl

-- ---- whole snapshots

nothing : read_snapshot [] ≡ Err fault.NotASnapshot
unfolding r.read_parts
nothing = refl

version_2 : read_snapshot (s.mark ++ 0 ∷ 2 ∷ []) ≡ Err fault.BadVersion
unfolding r.read_parts
version_2 = refl

no_version : read_snapshot (s.mark ++ 0 ∷ []) ≡ Err fault.Truncated
unfolding r.read_parts
no_version = refl
