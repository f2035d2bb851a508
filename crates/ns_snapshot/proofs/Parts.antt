-- The formats of limits, counts, grants and the board, of what waits and of endings.
use Rattle.std.proofs.Common.{◌≡◌, ℕ, List, [], length, refl, arith, All}
use Rattle.std.specs.List.{flat_map}
use Rattle.ns_base.specs.Limits.{InRange}
use Rattle.ns_world.specs.declared.ending.Ending.{Ending}
use Rattle.ns_world.specs.declared.ending.Ending.TheVariants as ends
use Rattle.ns_facets.specs.declared.board.Plain.{Plain}
use Rattle.ns_facets.specs.declared.board.Plain.TheVariants as p
use Rattle.ns_facets.specs.declared.board.Board.{Board}
use Rattle.ns_frozen.specs.declared.pending.Pending.{Pending}
use Rattle.ns_frozen.specs.declared.pending.Pending.TheVariants as waits
use Rattle.ns_image.specs.Read.{Reader, times}
use Rattle.ns_image.specs.laws.Format.{Format, Any, refit}
use Rattle.ns_image.specs.laws.Fields.{word_format, long_format, flag_format, times_format}
use Rattle.ns_snapshot.specs.Bytes as s
use Rattle.ns_snapshot.specs.Reading as r
use Rattle.ns_snapshot.specs.Fits.{CountersFit, PlainFits, PlacesFit, PendingFits, EndingFits}
use Rattle.ns_snapshot.proofs.Variants.{Again, reads_given, reads_field, reads_one, reads_one_of, again_given, again_field, again_one, again_one_of, both_ways, option_format}
use Rattle.ns_snapshot.proofs.Numbers.{double_format, from_1_to_format, selector_format}
use Rattle.ns_snapshot.proofs.Plain.{error_kind_format, limit_kind_format}
use Rattle.ns_snapshot.proofs.Values.{value_format, values_format, place_format, class_name_format, site_format}

pub limits_format : Format r.limits InRange s.limits
unfolding r.limits
limits_format =
    both_ways
    (reads_field (from_1_to_format 1000000000000 (omega arith)) (λ steps g0. reads_field (from_1_to_format 64000000 (omega arith)) (λ cells g1. reads_field (from_1_to_format 100000 (omega arith)) (λ depth g2. reads_field (from_1_to_format 16777216 (omega arith)) (λ out g3. reads_given (record { steps = steps; cells = cells; depth = depth; out = out }) (refl, (g0, g1, g2, g3)))))))
    (λ x g. again_field _ (from_1_to_format 1000000000000 (omega arith)) x.steps g.0 (again_field _ (from_1_to_format 64000000 (omega arith)) x.cells g.1 (again_field _ (from_1_to_format 100000 (omega arith)) x.depth g.2 (again_field _ (from_1_to_format 16777216 (omega arith)) x.out g.3 (again_given x)))))

pub counters_format : Format r.counters CountersFit s.counters
unfolding r.counters
counters_format =
    both_ways
    (reads_field double_format (λ steps g0. reads_field double_format (λ cells g1. reads_field double_format (λ depth g2. reads_field double_format (λ out g3. reads_given (record { steps = steps; cells = cells; depth = depth; out = out }) (refl, record { steps = g0; cells = g1; depth = g2; out = g3 }))))))
    (λ x g. again_field _ double_format x.steps g.steps (again_field _ double_format x.cells g.cells (again_field _ double_format x.depth g.depth (again_field _ double_format x.out g.out (again_given x)))))

pub grants_format : Format r.grants Any s.grants
unfolding r.grants
grants_format =
    both_ways
    (reads_field flag_format (λ console g0. reads_field flag_format (λ kernel g1. reads_field flag_format (λ mirrors g2. reads_field flag_format (λ board g3. reads_given (record { console = console; kernel = kernel; mirrors = mirrors; board = board }) (refl, tt))))))
    (λ x g. again_field _ flag_format x.console tt (again_field _ flag_format x.kernel tt (again_field _ flag_format x.mirrors tt (again_field _ flag_format x.board tt (again_given x)))))

plain_format_again : (x : Plain) → PlainFits x → Again r.plain x (s.plain x)
unfolding r.plain
plain_format_again p.Nil good = again_one_of {front = []} _ 0 _ refl (omega arith) (again_given p.Nil)
plain_format_again p.True good = again_one_of {front = []} _ 1 _ refl (omega arith) (again_given p.True)
plain_format_again p.False good = again_one_of {front = []} _ 2 _ refl (omega arith) (again_given p.False)
plain_format_again (p.Int number) good = again_one_of _ 3 _ refl (omega arith) (again_one (λ x. p.Int x) long_format number good)

pub plain_format : Format r.plain PlainFits s.plain
unfolding r.plain
plain_format =
    both_ways
    (reads_one_of _ (
      reads_given p.Nil (refl, tt),
      (
        reads_given p.True (refl, tt),
        (
          reads_given p.False (refl, tt),
          (
            reads_one (λ x. p.Int x) long_format (λ x good. (refl, good)),
            tt,
          ),
        ),
      ),
    ))
    plain_format_again

-- so many items
exactly_format : {A : Type 0} {item : Reader A} {Good : A → Type 0} {bytes_of : A → List ℕ} (n : ℕ) → Format item Good bytes_of → Format (times n item) (λ xs. (length xs ≡ n) × All Good xs) (flat_map bytes_of)
exactly_format n format = refit (times_format n format) (λ xs k g. (tt, (k.1, g))) (λ xs k g. ((tt, g.0), g.1))

board_made : List Plain → Board
board_made places = record { places = places }

pub board_format : Format r.board (λ x. PlacesFit x.places) (λ x. flat_map s.plain x.places)
unfolding r.board board_made
board_format =
    both_ways
    (reads_one board_made (exactly_format 64 plain_format) (λ places good. (refl, good)))
    (λ x good. again_one board_made (exactly_format 64 plain_format) x.places good)

pending_format_again : (x : Pending) → PendingFits x → Again r.waiting x (s.pending x)
unfolding r.pending_send r.pending_perform r.pending_evaluate
pending_format_again (waits.Send receiver sel arguments at) good = again_one_of _ 0 _ refl (omega arith) (again_field _ value_format receiver good.0 (again_field _ selector_format sel good.1 (again_field _ values_format arguments good.2 (again_field _ site_format at good.3 (again_given (waits.Send receiver sel arguments at))))))
pending_format_again (waits.Perform receiver sel array at) good = again_one_of _ 1 _ refl (omega arith) (again_field _ value_format receiver good.0 (again_field _ selector_format sel good.1 (again_field _ word_format array good.2 (again_field _ site_format at good.3 (again_given (waits.Perform receiver sel array at))))))
pending_format_again (waits.Evaluate block arguments at) good = again_one_of _ 2 _ refl (omega arith) (again_field _ value_format block good.0 (again_field _ values_format arguments good.1 (again_field _ site_format at good.2 (again_given (waits.Evaluate block arguments at)))))

pub pending_format : Format r.waiting PendingFits s.pending
unfolding r.pending_send r.pending_perform r.pending_evaluate
pending_format =
    both_ways
    (reads_one_of _ (
      reads_field value_format (λ receiver g0. reads_field selector_format (λ sel g1. reads_field values_format (λ arguments g2. reads_field site_format (λ at g3. reads_given (waits.Send receiver sel arguments at) (refl, (g0, g1, g2, g3)))))),
      (
        reads_field value_format (λ receiver g0. reads_field selector_format (λ sel g1. reads_field word_format (λ array g2. reads_field site_format (λ at g3. reads_given (waits.Perform receiver sel array at) (refl, (g0, g1, g2, g3)))))),
        (
          reads_field value_format (λ block g0. reads_field values_format (λ arguments g1. reads_field site_format (λ at g2. reads_given (waits.Evaluate block arguments at) (refl, (g0, g1, g2))))),
          tt,
        ),
      ),
    ))
    pending_format_again

ending_again : (x : Ending) → EndingFits x → Again r.ended x (s.ending x)
unfolding r.run_error
ending_again (ends.Done answer) good = again_one_of _ 0 _ refl (omega arith) (again_one (λ x. ends.Done x) value_format answer good)
ending_again (ends.Error e) good =
    again_one_of _ 1 _ refl (omega arith)
    (again_field _ error_kind_format e.kind tt (again_field _ (option_format place_format) e.place good.place (again_field _ class_name_format e.class good.class (again_field _ selector_format e.sel good.sel (again_given (ends.Error e))))))
ending_again (ends.Limit kind) good = again_one_of _ 2 _ refl (omega arith) (again_one (λ x. ends.Limit x) limit_kind_format kind tt)

pub ending_format : Format r.ended EndingFits s.ending
unfolding r.run_error
ending_format =
    both_ways
    (reads_one_of _ (
      reads_one (λ x. ends.Done x) value_format (λ x good. (refl, good)),
      (
        reads_field error_kind_format (λ kind g. reads_field (option_format place_format) (λ place h. reads_field class_name_format (λ class i. reads_field selector_format (λ sel j.
            reads_given (ends.Error (record { kind = kind; place = place; class = class; sel = sel })) (refl, record { place = h; class = i; sel = j }))))),
        (
          reads_one (λ x. ends.Limit x) limit_kind_format (λ x good. (refl, tt)),
          tt,
        ),
      ),
    ))
    ending_again
