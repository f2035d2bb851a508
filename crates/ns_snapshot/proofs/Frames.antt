-- The format of frames.
use Rattle.std.proofs.Common.{refl, arith}
use Rattle.ns_frozen.specs.declared.frame.FrameKind.{FrameKind}
use Rattle.ns_frozen.specs.declared.frame.FrameKind.TheVariants as kinds
use Rattle.ns_image.specs.laws.Format.{Format}
use Rattle.ns_image.specs.laws.Fields.{word_format, long_format}
use Rattle.ns_snapshot.specs.Bytes as s
use Rattle.ns_snapshot.specs.Reading as r
use Rattle.ns_snapshot.specs.Fits.{KStateFits, FrameKindFits, FrameFits}
use Rattle.ns_snapshot.proofs.Variants.{Again, reads_given, reads_field, reads_one, reads_one_of, again_given, again_field, again_one, again_one_of, both_ways, option_format}
use Rattle.ns_snapshot.proofs.Numbers.{double_format}
use Rattle.ns_snapshot.proofs.Plain.{kernel_method_format}
use Rattle.ns_snapshot.proofs.Values.{value_format, values_format, site_format}

pub kernel_state_format : Format r.kernel_state KStateFits s.state
unfolding r.kernel_state
kernel_state_format =
    both_ways
    (reads_field value_format (λ receiver g0. reads_field value_format (λ first g1. reads_field value_format (λ second g2. reads_field long_format (λ size g3. reads_field long_format (λ count g4. reads_field (option_format value_format) (λ last g5. reads_given (record { receiver = receiver; first = first; second = second; size = size; count = count; last = last }) (refl, record { receiver = g0; first = g1; second = g2; size = g3; count = g4; last = g5 }))))))))
    (λ x g. again_field _ value_format x.receiver g.receiver (again_field _ value_format x.first g.first (again_field _ value_format x.second g.second (again_field _ long_format x.size g.size (again_field _ long_format x.count g.count (again_field _ (option_format value_format) x.last g.last (again_given x)))))))

frame_kind_format_again : (x : FrameKind) → FrameKindFits x → Again r.frame_kind x (s.frame_kind x)
unfolding r.clause r.looping
frame_kind_format_again (kinds.Method body) good = again_one_of _ 0 _ refl (omega arith) (again_one (λ x. kinds.Method x) word_format body good)
frame_kind_format_again (kinds.Block body) good = again_one_of _ 1 _ refl (omega arith) (again_one (λ x. kinds.Block x) word_format body good)
frame_kind_format_again (kinds.Initialiser body) good = again_one_of _ 2 _ refl (omega arith) (again_one (λ x. kinds.Initialiser x) word_format body good)
frame_kind_format_again (kinds.Clause body object holder class) good = again_one_of _ 3 _ refl (omega arith) (again_field _ word_format body good.0 (again_field _ word_format object good.1 (again_field _ word_format holder good.2 (again_field _ word_format class good.3 (again_given (kinds.Clause body object holder class))))))
frame_kind_format_again (kinds.Kernel method state) good = again_one_of _ 4 _ refl (omega arith) (again_field _ kernel_method_format method tt (again_field _ kernel_state_format state good (again_given (kinds.Kernel method state))))

pub frame_kind_format : Format r.frame_kind FrameKindFits s.frame_kind
unfolding r.clause r.looping
frame_kind_format =
    both_ways
    (reads_one_of _ (
      reads_one (λ x. kinds.Method x) word_format (λ x good. (refl, good)),
      (
        reads_one (λ x. kinds.Block x) word_format (λ x good. (refl, good)),
        (
          reads_one (λ x. kinds.Initialiser x) word_format (λ x good. (refl, good)),
          (
            reads_field word_format (λ body g0. reads_field word_format (λ object g1. reads_field word_format (λ holder g2. reads_field word_format (λ class g3. reads_given (kinds.Clause body object holder class) (refl, (g0, g1, g2, g3)))))),
            (
              reads_field kernel_method_format (λ method g0. reads_field kernel_state_format (λ state g1. reads_given (kinds.Kernel method state) (refl, g1))),
              tt,
            ),
          ),
        ),
      ),
    ))
    frame_kind_format_again

pub frame_format : Format r.frame FrameFits s.frame
unfolding r.frame r.frame_from
frame_format =
    both_ways
    (reads_field frame_kind_format (λ kind g0. reads_field word_format (λ instr g1. reads_field value_format (λ receiver g2. reads_field word_format (λ holder g3. reads_field double_format (λ home g4. reads_field value_format (λ env g5. reads_field values_format (λ locals g6. reads_field values_format (λ operands g7. reads_field site_format (λ site g8. reads_given (record { kind = kind; instr = instr; receiver = receiver; holder = holder; home = home; env = env; locals = locals; operands = operands; site = site }) (refl, record { kind = g0; instr = g1; receiver = g2; holder = g3; home = g4; env = g5; locals = g6; operands = g7; site = g8 })))))))))))
    (λ x g. again_field _ frame_kind_format x.kind g.kind (again_field _ word_format x.instr g.instr (again_field _ value_format x.receiver g.receiver (again_field _ word_format x.holder g.holder (again_field _ double_format x.home g.home (again_field _ value_format x.env g.env (again_field _ values_format x.locals g.locals (again_field _ values_format x.operands g.operands (again_field _ site_format x.site g.site (again_given x))))))))))
