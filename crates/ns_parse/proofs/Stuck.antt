-- With the token at which the parser stops no file goes on.
use Rattle.std.proofs.Common.{◌≡◌, ℕ, ◌+◌, ◌≤◌, List, [], ◌∷◌, ◌++◌, length, sym, ap, ◌∙◌, append_assoc, length-append, arith}
use Rattle.std.proofs.lemmas.List.{append-nil}
use Rattle.ns_tree.specs.declared.token.Kind.{Kind}
use Rattle.ns_tree.specs.Flat.{flat}
use Rattle.ns_tree.specs.Plain as p
use Rattle.ns_tree.specs.Tree.{BeginsTree}
use Rattle.ns_tree.specs.laws.TreeFronts.{fronts_begin_trees}
use Rattle.ns_parse_tokens.specs.Read.{Outcome, got, fault}
use Rattle.ns_parse.specs.Classes as readers
use Rattle.ns_parse.specs.Parse as x
use Rattle.ns_parse.specs.Places.{Stuck}
use Rattle.ns_parse.proofs.Alike.{Within, Alike}
use Rattle.ns_parse.proofs.AlikeFile.{same_file}
use Rattle.ns_parse.proofs.Whole.{tree_read, spelled_read}

one_more : (before : List Kind) (kind : Kind) → length (before ++ kind ∷ []) ≡ length before + 1
one_more before kind = length-append before (kind ∷ [])

module _ (before us : List Kind) (kind : Kind) (unit : p.SourceUnit) (rest : List Kind) (begins : flat unit ≡ (before ++ kind ∷ []) ++ rest)
    (read : readers.file (length (flat unit)) 0 ((before ++ kind ∷ []) ++ rest) ≡ got unit (length (flat unit)) []) where
  -- what is read of the tokens is read of the tree's tokens
  fault_again : (o : Outcome p.SourceUnit) → o ≡ fault (length before) → Alike 0 (before ++ kind ∷ []) us rest o (readers.file (length (flat unit)) 0 ((before ++ kind ∷ []) ++ rest)) → ⊥
  fault_again (got u n ts) e h = absurd cc
  fault_again (fault k) e h =
      let k_is : k ≡ length before = cc in
      let again : readers.file (length (flat unit)) 0 ((before ++ kind ∷ []) ++ rest) ≡ fault k = h (omega (arith, one_more before kind, k_is)) in
      absurd (let clash : got unit (length (flat unit)) [] ≡ fault k = sym read ∙ again in cc)

  none_left : (left : List Kind) (u : p.SourceUnit) (n : ℕ) → n + length left ≡ 0 + length (before ++ kind ∷ []) → n ≡ length before → got unit (length (flat unit)) [] ≡ got u n (left ++ rest) → ⊥
  none_left [] u n place n_is e = absurd (omega (arith, one_more before kind, place, n_is))
  none_left (j ∷ left) u n place n_is e = absurd cc

  left_again : (o : Outcome p.SourceUnit) (u : p.SourceUnit) → o ≡ got u (length before) (kind ∷ us) → Alike 0 (before ++ kind ∷ []) us rest o (readers.file (length (flat unit)) 0 ((before ++ kind ∷ []) ++ rest)) → ⊥
  left_again (fault k) u e h = absurd cc
  left_again (got w n ts) u e h =
      let n_is : n ≡ length before = cc in
      let ts_is : ts ≡ kind ∷ us = cc in
      let x : Within 0 (before ++ kind ∷ []) us rest w n ts (readers.file (length (flat unit)) 0 ((before ++ kind ∷ []) ++ rest)) = h (omega (arith, ap length ts_is)) in
      none_left x.left w n x.place n_is (sym read ∙ x.there)

-- tokens that begin a tree's tokens are read as these, as far as they go
module _ (before us : List Kind) (kind : Kind) (t : BeginsTree (before ++ kind ∷ [])) where
  abbrev all : List Kind
  all = (before ++ kind ∷ []) ++ us

  tree_again : readers.file (length (flat t.unit)) 0 ((before ++ kind ∷ []) ++ t.rest) ≡ got t.unit (length (flat t.unit)) []
  tree_again = ap (readers.file (length (flat t.unit)) 0) (sym t.begins) ∙ tree_read (length (flat t.unit)) t.unit t.tree (omega arith)

  alike_tree : (most : ℕ) → length all ≤ most → Alike 0 (before ++ kind ∷ []) us t.rest (readers.file most 0 all) (readers.file (length (flat t.unit)) 0 ((before ++ kind ∷ []) ++ t.rest))
  alike_tree most room = (same_file most (length (flat t.unit))).alike 0 (before ++ kind ∷ []) us t.rest room (omega (arith, ap length t.begins))

  no_fault : (most : ℕ) → length all ≤ most → readers.file most 0 all ≡ fault (length before) → ⊥
  no_fault most room e = fault_again before us kind t.unit t.rest t.begins tree_again (readers.file most 0 all) e (alike_tree most room)

  no_end : (most : ℕ) (u : p.SourceUnit) → length all ≤ most → readers.file most 0 all ≡ got u (length before) (kind ∷ us) → ⊥
  no_end most u room e = left_again before us kind t.unit t.rest t.begins tree_again (readers.file most 0 all) u e (alike_tree most room)

regrouped : (before us : List Kind) (kind : Kind) → before ++ kind ∷ us ≡ (before ++ kind ∷ []) ++ us
regrouped before us kind = sym (append_assoc before (kind ∷ []) us)

-- a fault behind the last of some tokens
pub stuck_at_fault : (ts before rest : List Kind) → ts ≡ before ++ rest → x.unit ts ≡ fault (length before) → Stuck before rest
stuck_at_fault ts before [] cut e = λ unit s.
    let same : ts ≡ before = cut ∙ append-nil before in
    absurd (let clash : fault (length before) ≡ got unit (length before) [] = sym e ∙ ap x.unit same ∙ spelled_read before unit s in cc)
stuck_at_fault ts before (kind ∷ us) cut e = λ front.
    let same : ts ≡ (before ++ kind ∷ []) ++ us = cut ∙ regrouped before us kind in
    no_fault before us kind ((fronts_begin_trees (before ++ kind ∷ [])).0 front) (length ts) (omega (arith, ap length same)) (ap (readers.file (length ts) 0) (sym same) ∙ e)

-- tokens behind a file
pub stuck_behind : (ts before us : List Kind) (kind : Kind) (u : p.SourceUnit) → ts ≡ before ++ kind ∷ us → x.unit ts ≡ got u (length before) (kind ∷ us) → Stuck before (kind ∷ us)
stuck_behind ts before us kind u cut e = λ front.
    let same : ts ≡ (before ++ kind ∷ []) ++ us = cut ∙ regrouped before us kind in
    no_end before us kind ((fronts_begin_trees (before ++ kind ∷ [])).0 front) (length ts) u (omega (arith, ap length same)) (ap (readers.file (length ts) 0) (sym same) ∙ e)
