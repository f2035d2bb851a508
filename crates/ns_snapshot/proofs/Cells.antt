-- The format of cells.
use Rattle.std.proofs.Common.{ℕ, ◌<◌, ◌≤◌, ◌^◌, length, refl, arith, All}
use Rattle.ns_frozen.specs.declared.cell.CellData.{CellData}
use Rattle.ns_frozen.specs.declared.cell.CellData.TheVariants as held
use Rattle.ns_image.specs.Bytes as b
use Rattle.ns_image.specs.laws.Format.{Format, field}
use Rattle.ns_image.specs.laws.Fields.{word_format, word_up_to_format, text_format, times_format}
use Rattle.ns_snapshot.specs.Bytes as s
use Rattle.ns_snapshot.specs.Reading as r
use Rattle.ns_snapshot.specs.Fits.{CellFits}
use Rattle.ns_snapshot.proofs.Variants.{Again, reads_given, reads_field, reads_one, reads_one_of, again_given, again_field, again_one, again_one_of, both_ways}
use Rattle.ns_snapshot.proofs.Numbers.{double_format, selector_format}
use Rattle.ns_snapshot.proofs.Plain.{facet_kind_format}
use Rattle.ns_snapshot.proofs.Values.{value_format, values_format}

cell_format_again : (x : CellData) → CellFits x → Again r.cell x (s.cell x)
unfolding r.object r.class r.block r.environment r.message
cell_format_again (held.Object class words) good = again_one_of _ 0 _ refl (omega arith) (again_field _ word_format class good.0 (again_field _ values_format words good.1 (again_given (held.Object class words))))
cell_format_again (held.Class decl encl holder over) good = again_one_of _ 1 _ refl (omega arith) (again_field _ word_format decl good.0 (again_field _ value_format encl good.1 (again_field _ value_format holder good.2 (again_field _ value_format over good.3 (again_given (held.Class decl encl holder over))))))
cell_format_again (held.Block body env receiver holder home) good = again_one_of _ 2 _ refl (omega arith) (again_field _ word_format body good.0 (again_field _ value_format env good.1 (again_field _ double_format home good.2 (again_field _ value_format receiver good.3 (again_field _ word_format holder good.4 (again_given (held.Block body env receiver holder home)))))))
cell_format_again (held.Environment parent locals) good = again_one_of _ 3 _ refl (omega arith) (again_field _ value_format parent good.0 (again_field _ values_format locals good.1 (again_given (held.Environment parent locals))))
cell_format_again (held.Array items) good = again_one_of _ 4 _ refl (omega arith) (again_one (λ x. held.Array x) values_format items good)
cell_format_again (held.Text bytes) good = again_one_of _ 5 _ refl (omega arith) (again_one (λ x. held.Text x) text_format bytes good)
cell_format_again (held.Facet kind) good = again_one_of _ 6 _ refl (omega arith) (again_one (λ x. held.Facet x) facet_kind_format kind tt)
cell_format_again (held.Mirror mirrored) good = again_one_of _ 7 _ refl (omega arith) (again_one (λ x. held.Mirror x) value_format mirrored good)
cell_format_again (held.Message sel args) good = again_one_of _ 8 _ refl (omega arith) (again_field _ selector_format sel good.0 (again_field _ value_format args good.1 (again_given (held.Message sel args))))

pub cell_format : Format r.cell CellFits s.cell
unfolding r.object r.class r.block r.environment r.message
cell_format =
    both_ways
    (reads_one_of _ (
      reads_field word_format (λ class g0. reads_field values_format (λ words g1. reads_given (held.Object class words) (refl, (g0, g1)))),
      (
        reads_field word_format (λ decl g0. reads_field value_format (λ encl g1. reads_field value_format (λ holder g2. reads_field value_format (λ over g3. reads_given (held.Class decl encl holder over) (refl, (g0, g1, g2, g3)))))),
        (
          reads_field word_format (λ body g0. reads_field value_format (λ env g1. reads_field double_format (λ home g2. reads_field value_format (λ receiver g3. reads_field word_format (λ holder g4. reads_given (held.Block body env receiver holder home) (refl, (g0, g1, g2, g3, g4))))))),
          (
            reads_field value_format (λ parent g0. reads_field values_format (λ locals g1. reads_given (held.Environment parent locals) (refl, (g0, g1)))),
            (
              reads_one (λ x. held.Array x) values_format (λ x good. (refl, good)),
              (
                reads_one (λ x. held.Text x) text_format (λ x good. (refl, good)),
                (
                  reads_one (λ x. held.Facet x) facet_kind_format (λ x good. (refl, tt)),
                  (
                    reads_one (λ x. held.Mirror x) value_format (λ x good. (refl, good)),
                    (
                      reads_field selector_format (λ sel g0. reads_field value_format (λ args g1. reads_given (held.Message sel args) (refl, (g0, g1)))),
                      tt,
                    ),
                  ),
                ),
              ),
            ),
          ),
        ),
      ),
    ))
    cell_format_again

-- cells behind their count, which has a greatest
pub cells_format : (most : ℕ) → most < 2 ^ 32 → Format (r.cells most) (λ xs. (length xs ≤ most) × All CellFits xs) (b.counted s.cell)
unfolding r.cells
cells_format most below = field length (word_up_to_format most below) (λ n. times_format n cell_format)
