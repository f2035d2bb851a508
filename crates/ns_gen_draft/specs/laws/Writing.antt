-- What was written: names that are put in turn, and what it takes to be the same.
use Rattle.std.proofs.Common.{◌≡◌, ℕ, List, [], ◌∷◌, ◌++◌, refl, ap, ◌∙◌}
use Rattle.ns_base.specs.Names.{put_in}
use Rattle.ns_resolved.specs.Tables.{put_all}
use Rattle.ns_gen_code.specs.Code.{CodeLine}
use Rattle.ns_gen_draft.specs.Drafts.{Written}

-- To put two lists of names in a table is to put one and then the other.
pub put_more : (names more table : List (List ℕ)) → put_all table (names ++ more) ≡ put_all (put_all table names) more
put_more [] more table = refl
put_more (name ∷ names) more table = put_more names more (put_in table name)

-- What was written is the same where its names, texts and lines are.
pub written_is : (n n' t t' : List (List ℕ)) (l l' : List CodeLine) → n ≡ n' → t ≡ t' → l ≡ l' →
    record { names = n; texts = t; lines = l } ≡ (let w : Written = record { names = n'; texts = t'; lines = l' } in w)
written_is n n' t t' l l' p q r =
    ap (λ (x : List (List ℕ)). (let w : Written = record { names = x; texts = t; lines = l } in w)) p
    ∙ ap (λ (x : List (List ℕ)). (let w : Written = record { names = n'; texts = x; lines = l } in w)) q
    ∙ ap (λ (x : List CodeLine). (let w : Written = record { names = n'; texts = t'; lines = x } in w)) r
