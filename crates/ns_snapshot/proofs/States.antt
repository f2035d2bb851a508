-- The format of whole states.
use Rattle.std.proofs.Common.{ℕ, ◌<◌, ◌≤◌, ◌^◌, List, [], ◌++◌, refl, ap, arith}
use Rattle.std.proofs.lemmas.List.{append-nil}
use Rattle.ns_code.specs.Fits.{IsShort}
use Rattle.ns_base.specs.Limits.{InRange}
use Rattle.ns_base.specs.declared.limits.Limits.{Limits}
use Rattle.ns_image.specs.Bytes as b
use Rattle.ns_image.specs.laws.Format.{Format, rewrite}
use Rattle.ns_image.specs.laws.Fields.{byte_format, text_format}
use Rattle.ns_snapshot.specs.Bytes as s
use Rattle.ns_snapshot.specs.Reading as r
use Rattle.ns_snapshot.specs.Fits.{FrozenFits}
use Rattle.ns_snapshot.proofs.Variants.{reads_given, reads_field, again_given, again_field, both_ways, option_format}
use Rattle.ns_snapshot.proofs.Numbers.{double_format, counted_format}
use Rattle.ns_snapshot.proofs.Parts.{limits_format, counters_format, grants_format, board_format, pending_format, ending_format}
use Rattle.ns_snapshot.proofs.Cells.{cells_format}
use Rattle.ns_snapshot.proofs.Frames.{frame_format}

cells_below : (limits : Limits) → InRange limits → limits.cells < 2 ^ 32
cells_below limits range =
    let most : limits.cells ≤ 64000000 = range.1.1 in
    omega arith

pub frozen_format : Format r.frozen FrozenFits s.frozen
unfolding r.frozen r.frozen_from r.with_pending r.with_cells
frozen_format =
    both_ways
    (reads_field limits_format (λ limits gl.
    reads_field counters_format (λ used gu.
    reads_field grants_format (λ grants gg.
    reads_field board_format (λ board gb.
    reads_field text_format (λ output go.
    reads_field double_format (λ homes gh.
    reads_field byte_format (λ phase gp.
    reads_field (option_format pending_format) (λ pending gw.
    reads_field (option_format ending_format) (λ ending ge.
    reads_field (cells_format limits.cells (cells_below limits gl)) (λ cells gc.
    reads_field (counted_format frame_format) (λ frames gf.
    reads_given (record { limits = limits; used = used; grants = grants; board = board; output = output; homes = homes; phase = phase; pending = pending; ending = ending; cells = cells; frames = frames })
    (refl, record { limits = gl; used = gu; places = gb; output = go; homes = gh; phase = gp; pending = gw; ending = ge; cell_count = gc.0; cells = gc.1; frame_count = gf.0; frames = gf.1 })))))))))))))
    (λ x g. again_field _ limits_format x.limits g.limits (again_field _ counters_format x.used g.used (again_field _ grants_format x.grants tt (again_field _ board_format x.board g.places (again_field _ text_format x.output g.output (again_field _ double_format x.homes g.homes (again_field _ byte_format x.phase g.phase (again_field _ (option_format pending_format) x.pending g.pending (again_field _ (option_format ending_format) x.ending g.ending (again_field _ (cells_format x.limits.cells (cells_below x.limits g.limits)) x.cells (g.cell_count, g.cells) (again_field _ (counted_format frame_format) x.frames (g.frame_count, g.frames) (again_given x))))))))))))

-- the bytes of an image behind their length, and a state
abbrev pub PartsFit : r.Parts → Type 0
PartsFit x = IsShort x.image × FrozenFits x.frozen

abbrev pub part_bytes : r.Parts → List ℕ
part_bytes x = b.text x.image ++ s.frozen x.frozen

parts_row : r.Parts → List ℕ
parts_row x = b.text x.image ++ (s.frozen x.frozen ++ [])

parts_in_row : Format r.parts PartsFit parts_row
unfolding r.parts parts_row
parts_in_row =
    both_ways
    (reads_field text_format (λ image g. reads_field frozen_format (λ frozen h. reads_given (record { image = image; frozen = frozen }) (refl, (g, h)))))
    (λ x g. again_field _ text_format x.image g.0 (again_field _ frozen_format x.frozen g.1 (again_given x)))

pub parts_format : Format r.parts PartsFit part_bytes
unfolding parts_row
parts_format = rewrite parts_in_row (λ x. ap (λ (m : List ℕ). b.text x.image ++ m) (append-nil (s.frozen x.frozen)))
