-- What stands before a fault among items with labels is a front of their rule.
use Rattle.std.proofs.Common.{◌≡◌, ℕ, zero, suc, ◌+◌, inl, inr, List, [], ◌∷◌, ◌++◌, length, Bool, refl, sym, ap, subst, ◌∙◌, append_assoc, length-append, arith}
use Rattle.ns_tree.specs.declared.token.Kind.{Kind}
use Rattle.ns_tree.specs.Rule.{Rule, ◌&◌, many, flat_all, GoodAll}
use Rattle.ns_tree.specs.Tree.{AllHaveText}
use Rattle.ns_parse_tokens.specs.Read.{Outcome, Reader, got, fault, and_then, begins, Labelled, tail, item, read_labelled, read_label_turns, put_item}
use Rattle.ns_parse_tokens.specs.laws.Sound.{Took, Spelled, Becomes, left_told}
use Rattle.ns_parse.proofs.Halts.{Stopped, Halts, Leads, fault_leads, fault_behind, stopped_value, stopped_test}
use Rattle.ns_parse.proofs.HaltsLists.{first_leads, many_front}

-- an item with its labels is a value of one rule, and there are labels behind the last
module _ {L A C : Type 0} (first : Kind → Bool) (ls : Reader L) (p : Reader A) (labels : Rule L) (r : Rule A) (whole : Rule C) (to : L × A → C) (F : Halts ls labels) (P : Halts p r) (become : Becomes (labels & r) whole to) (L' : Leads (labels & r) whole) where
  abbrev items : Rule (List C × L)
  items = many whole & labels

  abbrev label_turns : ℕ → L → Reader (Labelled L A)
  label_turns = read_label_turns ls first p

  took_whole : (n : ℕ) (ts : List Kind) (l : L) (m : ℕ) (us : List Kind) (a : A) (i : ℕ) (vs : List Kind) → Took labels n ts l m us → Took r m us a i vs → Took whole n ts (to (l, a)) i vs
  took_whole n ts l m us a i vs t u =
      let good : (labels & r).Good n (l, a) = (t.good, subst (λ j. r.Good j a) t.behind u.good) in
      let x : whole.Good n (to (l, a)) × (whole.flat (to (l, a)) ≡ labels.flat l ++ r.flat a) = become n (l, a) good in
      record {
        good = x.0;
        spelled = t.spelled ∙ ap (λ w. labels.flat l ++ w) u.spelled ∙ sym (append_assoc (labels.flat l) (r.flat a) vs) ∙ ap (λ w. w ++ vs) (sym x.1);
        behind = omega (arith, t.behind, u.behind, length-append (labels.flat l) (r.flat a), ap length x.1);
      }

  more_items : (n : ℕ) (c : C) (i : ℕ) (f : List Kind) → whole.Good n c → i ≡ n + length (whole.flat c) → items.Front i f → items.Front n (whole.flat c ++ f)
  more_items n c i f good e (inl h) = inl (many_front whole n c i f good e h)
  more_items n c i f good e (inr (cs, g, goods, front, cut)) =
      inr (
        c ∷ cs,
        g,
        (good, subst (λ j. GoodAll whole j cs) e goods),
        subst (λ j. labels.Front j g) (omega (arith, e, length-append (whole.flat c) (flat_all whole cs))) front,
        ap (λ w. whole.flat c ++ w) cut ∙ sym (append_assoc (whole.flat c) (flat_all whole cs) g),
      )

  more_labelled : {D : Type 0} (n : ℕ) (ts : List Kind) (c : C) (i : ℕ) (vs : List Kind) (o : Outcome D) → Took whole n ts c i vs → Stopped items i vs o → Stopped items n ts o
  more_labelled n ts c i vs (got d l ws) t h = tt
  more_labelled n ts c i vs (fault k) t x = record {
    front = whole.flat c ++ x.front;
    rest = x.rest;
    is_front = more_items n c i x.front t.good t.behind x.is_front;
    cut = t.spelled ∙ ap (λ w. whole.flat c ++ w) x.cut ∙ sym (append_assoc (whole.flat c) x.front x.rest);
    place = omega (arith, t.behind, x.place, length-append (whole.flat c) x.front);
  }

  labels_lead : Leads labels items
  labels_lead n f h = inr ([], f, tt, subst (λ i. labels.Front i f) (omega arith) h, refl)

  whole_leads : Leads (labels & r) items
  whole_leads n f h = inl (first_leads whole n f (L' n f h))

  -- the turns, whatever labels stand before
  abbrev Turns : ℕ → Type 0
  Turns t = (n : ℕ) (ts : List Kind) (l : L) (m : ℕ) (us : List Kind) → Took labels n ts l m us → AllHaveText us → Stopped items n ts (label_turns t l m us)

  after_labels : (t : ℕ) → Turns t → (i : ℕ) (vs : List Kind) → AllHaveText vs → (o : Outcome L) → Spelled labels i vs o → Stopped labels i vs o → Stopped items i vs (and_then o (label_turns t))
  after_labels t after i vs told (got l j ws) s h = after i vs l j ws s (left_told labels i vs l j ws s told)
  after_labels t after i vs told (fault k) s h = fault_leads labels items labels_lead i vs k h

  after_item : (t : ℕ) → Turns t → (n : ℕ) (ts : List Kind) (l : L) (m : ℕ) (us : List Kind) → Took labels n ts l m us → AllHaveText us → (o : Outcome A) → Spelled r m us o → Stopped r m us o
      → Stopped items n ts (and_then o (λ a i vs. and_then (and_then (ls i vs) (label_turns t)) (put_item ls first p l a)))
  after_item t after n ts l m us w told (got a i vs) s h =
      let told' : AllHaveText vs = left_told r m us a i vs s told in
      more_labelled n ts (to (l, a)) i vs (and_then (and_then (ls i vs) (label_turns t)) (put_item ls first p l a)) (took_whole n ts l m us a i vs w s)
      (stopped_value items i vs (and_then (ls i vs) (label_turns t)) (item l a) (after_labels t after i vs told' (ls i vs) (F.sound.reads i vs told') (F.stops i vs told')))
  after_item t after n ts l m us w told (fault k) s h = fault_leads (labels & r) items whole_leads n ts k (fault_behind labels r n ts l m us k w h)

  labels_stop : (t : ℕ) → Turns t
  labels_stop zero n ts l m us w told = tt
  labels_stop (suc t) n ts l m us w told =
      stopped_test items n ts (begins first us) (and_then (p m us) (λ a i vs. and_then (and_then (ls i vs) (label_turns t)) (put_item ls first p l a))) (got (tail l) m us)
      (after_item t (labels_stop t) n ts l m us w told (p m us) (P.sound.reads m us told) (P.stops m us told)) tt

  all_stop : (n : ℕ) (ts : List Kind) → AllHaveText ts → (o : Outcome L) → Spelled labels n ts o → Stopped labels n ts o → Stopped items n ts (and_then o (λ l m us. label_turns (length us) l m us))
  all_stop n ts told (got l m us) s h = labels_stop (length us) n ts l m us s (left_told labels n ts l m us s told)
  all_stop n ts told (fault k) s h = fault_leads labels items labels_lead n ts k h

  pub labelled_stops : (n : ℕ) (ts : List Kind) → AllHaveText ts → Stopped items n ts (read_labelled ls first p n ts)
  labelled_stops n ts told = all_stop n ts told (ls n ts) (F.sound.reads n ts told) (F.stops n ts told)
