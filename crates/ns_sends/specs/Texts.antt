-- A table of texts, each of which stands for nothing further.
use Rattle.std.specs.Prelude.{ℕ, List, [], fold}
use Rattle.ns_scope.specs.Table.{TableOf, put_first}

abbrev pub put_text : TableOf ℕ → List ℕ → TableOf ℕ
put_text table text = put_first table text 0

-- a table with further texts
abbrev pub put_texts : TableOf ℕ → List (List ℕ) → TableOf ℕ
put_texts table texts = fold put_text table texts
