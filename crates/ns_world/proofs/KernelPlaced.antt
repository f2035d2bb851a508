-- Lines of the code's table and rows of the definitions', place by place.
use Rattle.std.proofs.Common.{◌≡◌, ◌<◌, ◌≤◌, ℕ, ◌-◌, List, [], ◌∷◌, length, map, take, drop, get_or, refl, ap, sym, ◌∙◌, zero, suc, arith}
use Rattle.std.proofs.lemmas.List.{drop-map, take-map, get_or_past}
use Rattle.ns_world.specs.declared.kernel_table.Line.{Line as CodeLine}
use Rattle.ns_world.specs.declared.kernel_row.Row.{Row}
use Rattle.ns_world.specs.declared.kernel_row.Row.TheVariants.{Apply}
use Rattle.ns_world.specs.KernelTable.{Line, all_lines, all_rows, row_at, numbered, rows_between}
use Rattle.ns_world.specs.KernelShown.{shown}

abbrev answers : List Line → List Row
answers lines = map (λ (line : Line). line.answer) lines

placed : (lines : List CodeLine) (number : ℕ) (d : CodeLine) → number < length lines →
    get_or (answers (map shown lines)) number Apply ≡ (get_or lines number d).row
placed [] number d inside = absurd (omega (arith, inside))
placed (line ∷ lines) zero d inside = refl
placed (line ∷ lines) (suc number) d inside = placed lines number d (omega (arith, inside))

-- the line of a number has what answers its row
pub row_here : (lines : List CodeLine) (number : ℕ) (d : CodeLine) → map shown lines ≡ all_lines → number < length lines →
    (get_or lines number d).row ≡ row_at number
row_here lines number d is inside = sym (placed lines number d inside) ∙ ap (λ all. get_or (answers all) number Apply) is

-- numbers that no row has
pub row_past : (number : ℕ) → 81 ≤ number → Apply ≡ row_at number
row_past number past = sym (get_or_past all_rows number Apply past)

-- lines from a place up to another are the rows between them
pub lines_between : (lines : List CodeLine) (first end : ℕ) → map shown lines ≡ all_lines →
    numbered first (map shown (take (end - first) (drop first lines))) ≡ rows_between first end
lines_between lines first end is =
    ap (numbered first) (sym (take-map shown (end - first) (drop first lines))
    ∙ (ap (take (end - first)) (sym (drop-map shown first lines)) ∙ ap (λ all. take (end - first) (drop first all)) is))
