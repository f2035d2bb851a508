-- The formats of values and of the sites of sends.
use Rattle.std.proofs.Common.{[], refl, arith}
use Rattle.ns_world.specs.declared.value.Value.{Value}
use Rattle.ns_world.specs.declared.value.Value.TheVariants as v
use Rattle.ns_world.specs.declared.kernel.ClassName.{ClassName}
use Rattle.ns_world.specs.declared.kernel.ClassName.TheVariants as name
use Rattle.ns_image.specs.laws.Format.{Format}
use Rattle.ns_image.specs.laws.Fields.{word_format, long_format}
use Rattle.ns_snapshot.specs.Bytes as s
use Rattle.ns_snapshot.specs.Fields as fields
use Rattle.ns_snapshot.specs.Fits.{ValueFits, ValuesFit, PlaceFits, ClassNameFits, SiteFits}
use Rattle.ns_snapshot.proofs.Variants.{Again, reads_given, reads_field, reads_one, reads_one_of, again_given, again_field, again_one, again_one_of, both_ways, option_format}
use Rattle.ns_snapshot.proofs.Numbers.{selector_format, counted_format}
use Rattle.ns_snapshot.proofs.Plain.{kernel_class_format, kernel_row_format}

value_again : (x : Value) → ValueFits x → Again fields.value x (s.value x)
unfolding fields.value
value_again v.Nil good = again_one_of {front = []} _ 0 _ refl (omega arith) (again_given v.Nil)
value_again v.True good = again_one_of {front = []} _ 1 _ refl (omega arith) (again_given v.True)
value_again v.False good = again_one_of {front = []} _ 2 _ refl (omega arith) (again_given v.False)
value_again (v.Int number) good = again_one_of _ 3 _ refl (omega arith) (again_one (λ n. v.Int n) long_format number good)
value_again (v.Sym sel) good = again_one_of _ 4 _ refl (omega arith) (again_one (λ n. v.Sym n) selector_format sel good)
value_again (v.Kernel class) good = again_one_of _ 5 _ refl (omega arith) (again_one (λ c. v.Kernel c) kernel_class_format class tt)
value_again (v.Ref at) good = again_one_of _ 6 _ refl (omega arith) (again_one (λ n. v.Ref n) word_format at good)

pub value_format : Format fields.value ValueFits s.value
unfolding fields.value
value_format =
    both_ways
    (reads_one_of _ (
      reads_given v.Nil (refl, tt),
      (
        reads_given v.True (refl, tt),
        (
          reads_given v.False (refl, tt),
          (
            reads_one (λ n. v.Int n) long_format (λ n good. (refl, good)),
            (
              reads_one (λ s. v.Sym s) selector_format (λ s good. (refl, good)),
              (
                reads_one (λ c. v.Kernel c) kernel_class_format (λ c good. (refl, tt)),
                (
                  reads_one (λ n. v.Ref n) word_format (λ n good. (refl, good)),
                  tt,
                ),
              ),
            ),
          ),
        ),
      ),
    ))
    value_again

pub values_format : Format fields.values ValuesFit s.values
values_format = counted_format value_format

pub place_format : Format fields.place PlaceFits s.place
unfolding fields.place
place_format =
    both_ways
    (reads_field word_format (λ file g. reads_field word_format (λ line h. reads_field word_format (λ col i.
    reads_given (record { file = file; line = line; col = col }) (refl, record { file = g; line = h; col = i })))))
    (λ x g. again_field _ word_format x.file g.file (again_field _ word_format x.line g.line (again_field _ word_format x.col g.col (again_given x))))

class_name_again : (x : ClassName) → ClassNameFits x → Again fields.class_name x (s.class_name x)
unfolding fields.class_name
class_name_again (name.Declared decl) good = again_one_of _ 0 _ refl (omega arith) (again_one (λ n. name.Declared n) word_format decl good)
class_name_again (name.ClassOf decl) good = again_one_of _ 1 _ refl (omega arith) (again_one (λ n. name.ClassOf n) word_format decl good)
class_name_again (name.Kernel row) good = again_one_of _ 2 _ refl (omega arith) (again_one (λ r. name.Kernel r) kernel_row_format row tt)

pub class_name_format : Format fields.class_name ClassNameFits s.class_name
unfolding fields.class_name
class_name_format =
    both_ways
    (reads_one_of _ (
      reads_one (λ n. name.Declared n) word_format (λ n good. (refl, good)),
      (
        reads_one (λ n. name.ClassOf n) word_format (λ n good. (refl, good)),
        (
          reads_one (λ r. name.Kernel r) kernel_row_format (λ r good. (refl, tt)),
          tt,
        ),
      ),
    ))
    class_name_again

pub site_format : Format fields.site SiteFits s.site
unfolding fields.site
site_format =
    both_ways
    (reads_field (option_format place_format) (λ place g. reads_field class_name_format (λ class h. reads_field selector_format (λ sel i.
    reads_given (record { place = place; class = class; sel = sel }) (refl, record { place = g; class = h; sel = i })))))
    (λ x g. again_field _ (option_format place_format) x.place g.place (again_field _ class_name_format x.class g.class (again_field _ selector_format x.sel g.sel (again_given x))))
