-- Bytes by rows of eight.
use Rattle.std.proofs.Common.{◌≡◌, ℕ, ◌+◌, ◌*◌, List, ◌++◌, take, drop, ap, sym, ◌∙◌, arith, append_assoc, take-append-drop}
use Rattle.std.proofs.lemmas.List.{drop-drop}
use Rattle.ns_world.specs.World.{WorldView}
use Rattle.ns_facets.specs.Console.{appended}

-- a row, and the bytes behind it
pub row_behind : (bytes : List ℕ) (row : ℕ) → take 8 (drop (8 * row) bytes) ++ drop (8 * (row + 1)) bytes ≡ drop (8 * row) bytes
row_behind bytes row =
    let e : drop 8 (drop (8 * row) bytes) ≡ drop (8 * (row + 1)) bytes = drop-drop 8 (8 * row) bytes ∙ ap (λ n. drop n bytes) (omega arith) in
    ap (λ rest. take 8 (drop (8 * row) bytes) ++ rest) (sym e) ∙ take-append-drop 8 (drop (8 * row) bytes)

-- bytes appended one after another
pub appended_twice : (view : WorldView) (first second : List ℕ) → appended (appended view first) second ≡ appended view (first ++ second)
appended_twice view first second =
    let put : List ℕ → WorldView = λ output. record view { world = record view.world { output = output } } in
    ap put (append_assoc view.world.output first second)
