-- What `IndexMap` gives, in the words of tables.
use Rattle.std.specs.Prelude.{◌≡◌, ℕ, List, false, None, Some, Option}
use Rattle.std.specs.Option.{is_some}
use Rattle.std.proofs.Common.{refl}
use Rattle.std.specs.Str.{bytes_eq}
use Rattle.indexmap.specs.IndexMap.{IndexMap, insert_entry}
use Rattle.indexmap.proofs.CallerLemmas.{insert_entry-new}
use Rattle.ns_scope.specs.Table.{has, look_up, put_first}

absent : {V : Type 0} (o : Option V) → is_some o ≡ false → o ≡ None
absent None h = refl
absent (Some v) h = cc

pub new_text_goes_last : {V S : Type 0} (m : IndexMap (List ℕ) V S) (text : List ℕ) (value : V) → has m.entries text ≡ false → insert_entry bytes_eq m.entries text value ≡ put_first m.entries text value
new_text_goes_last m text value h = rw h (insert_entry-new bytes_eq m text value (absent (look_up m.entries text) h))
