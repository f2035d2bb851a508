-- A loop that reads items with labels before each, while the next token begins one.
use Rattle.std.proofs.Common.{◌≡◌, ℕ, zero, suc, ◌+◌, ◌-◌, ◌≤◌, ◌<◌, cond, List, [], ◌∷◌, ◌++◌, length, map, Bool, true, false, refl, sym, ap, ◌∙◌, length-append, arith}
use Rattle.ns_tree.specs.declared.token.Kind.{Kind}
use Rattle.ns_tree.specs.declared.tree.Member.{Member}
use Rattle.ns_tree.specs.Plain as p
use Rattle.ns_tree.specs.PlainOf.{what_of, members_of}
use Rattle.ns_parse_tokens.specs.declared.fault.ParseFault.{ParseFault}
use Rattle.ns_parse_tokens.specs.declared.fault.ParseFault.TheVariants.{TooDeep, Syntax, Memory}
use Rattle.ns_parse.specs.Classes.{MemberForm, members_from, tail_from, side_from}
use Rattle.ns_parse_tokens.specs.Left.{Left}
use Rattle.ns_parse_tokens.specs.Read.{Outcome, Reader, got, fault, and_then, begins, read_mapped, read_labelled, read_label_turns, put_item, Labelled, tail, item}
use Rattle.ns_parse_tokens.specs.Reads.{Fails, ReaderGives, next_is}
use Rattle.ns_parse_tokens.specs.laws.Takes.{Takes, fewer, left_by}

-- these items with their labels, before others
abbrev pub labelled : {L A : Type 0} → List (L × A) → Labelled L A → Labelled L A
labelled [] r = r
labelled (x ∷ xs) r = item x.0 x.1 (labelled xs r)

-- the same before an outcome
abbrev pub prefixed : {L A : Type 0} → List (L × A) → Outcome (Labelled L A) → Outcome (Labelled L A)
prefixed xs (got r n ts) = got (labelled xs r) n ts
prefixed xs (fault k) = fault k

labelled_one : {L A : Type 0} (xs : List (L × A)) (l : L) (a : A) (r : Labelled L A) → labelled (xs ++ (l, a) ∷ []) r ≡ labelled xs (item l a r)
labelled_one [] l a r = refl
labelled_one (x ∷ xs) l a r = ap (item x.0 x.1) (labelled_one xs l a r)

begun_long : (first : Kind → Bool) (ts : List Kind) → begins first ts ≡ true → 0 < length ts
begun_long first [] h = absurd cc
begun_long first (k ∷ ts) h = omega arith

module _ {L A : Type 0} (labels : Reader L) (first : Kind → Bool) (p : Reader A) where
  abbrev pub turn : ℕ → L → Reader (Labelled L A)
  turn t l n ts = read_label_turns labels first p t l n ts

  -- A loop that began with some labels has read these items, then other labels, and stands at another place.
  pub record Labels (xs : List (L × A)) (l : L) (now : Left) (l0 : L) (start : Left) : Type 0 where
    pub reads : prefixed xs (turn (length start.kinds - length xs) l now.at now.kinds) ≡ turn (length start.kinds) l0 start.at start.kinds
    pub room : length now.kinds + length xs ≤ length start.kinds

  prefixed_none : (o : Outcome (Labelled L A)) → prefixed [] o ≡ o
  prefixed_none (got r n ts) = refl
  prefixed_none (fault k) = refl

  prefixed_one : (xs : List (L × A)) (l : L) (a : A) (o : Outcome (Labelled L A)) → prefixed (xs ++ (l, a) ∷ []) o ≡ prefixed xs (and_then o (put_item labels first p l a))
  prefixed_one xs l a (got r n ts) = ap (λ q. got q n ts) (labelled_one xs l a r)
  prefixed_one xs l a (fault k) = refl

  abbrev then_labels : ℕ → L → Outcome A → Outcome (Labelled L A)
  then_labels t l o = and_then o (λ a m us. and_then (and_then (labels m us) (read_label_turns labels first p t)) (put_item labels first p l a))

  turn_reads : (t : ℕ) (l : L) (n : ℕ) (ts : List Kind) (o : Outcome A) → begins first ts ≡ true → p n ts ≡ o → turn (suc t) l n ts ≡ then_labels t l o
  turn_reads t l n ts o h e = ap (λ v. cond v (then_labels t l (p n ts)) (got (tail l) n ts)) h ∙ ap (then_labels t l) e

  turn_ends : (t : ℕ) (l : L) (n : ℕ) (ts : List Kind) → begins first ts ≡ false → turn t l n ts ≡ got (tail l) n ts
  turn_ends zero l n ts h = refl
  turn_ends (suc t) l n ts h = ap (λ v. cond v (then_labels t l (p n ts)) (got (tail l) n ts)) h

  -- no items yet
  pub labels_start : (l : L) (start : Left) (xs : List (L × A)) → xs ≡ [] → Labels xs l start l start
  labels_start l start xs none = record {
    reads = ap (λ v. prefixed v (turn (length start.kinds - length v) l start.at start.kinds)) none ∙ prefixed_none _ ∙ ap (λ t. turn t l start.at start.kinds) (omega arith);
    room = omega (arith, ap length none);
  }

  room_left : (xs : List (L × A)) (now start : Left) → next_is first now ≡ true → length now.kinds + length xs ≤ length start.kinds → length xs < length start.kinds
  room_left xs now start h room = omega (arith, begun_long first now.kinds h, room)

  -- one item more, and labels behind it
  pub labels_on : (xs ys : List (L × A)) (l : L) (now : Left) (l0 : L) (start : Left) (a : A) (new : Left) (l' : L) (behind : Left) → Takes 0 labels → Takes 1 p → Labels xs l now l0 start → next_is first now ≡ true
      → ReaderGives p a now new → ReaderGives labels l' new behind → ys ≡ xs ++ (l, a) ∷ [] → Labels ys l' behind l0 start
  labels_on xs ys l now l0 start a new l' behind R P g h e el grown =
      let t : ℕ = length start.kinds - length ys in
      let count : length ys ≡ length xs + 1 = ap length grown ∙ length-append xs ((l, a) ∷ []) in
      let left : length xs < length start.kinds = room_left xs now start h g.room in
      let turns : length start.kinds - length xs ≡ suc t = omega arith in
      record {
        reads = ap (λ v. prefixed v (turn t l' behind.at behind.kinds)) grown ∙ prefixed_one xs l a (turn t l' behind.at behind.kinds)
            ∙ ap (λ o. prefixed xs (and_then (and_then o (read_label_turns labels first p t)) (put_item labels first p l a))) (sym el)
            ∙ ap (prefixed xs) (sym (turn_reads t l now.at now.kinds (got a new.at new.kinds) h e)) ∙ ap (λ u. prefixed xs (turn u l now.at now.kinds)) (sym turns) ∙ g.reads;
        room = omega (arith, g.room, fewer p now new a P e, left_by 0 labels new.at new.kinds l' behind.at behind.kinds R el);
      }

  module _ {B : Type 0} (to : Labelled L A → B) where
    abbrev pub made : Outcome (Labelled L A) → Outcome B
    made o = and_then o (λ a m us. got (to a) m us)

    -- what is read begins with the first labels
    begins_with : (n : ℕ) (ts : List Kind) (l0 : L) (start : ℕ) (us : List Kind) → labels n ts ≡ got l0 start us → read_mapped to (read_labelled labels first p) n ts ≡ made (turn (length us) l0 start us)
    begins_with n ts l0 start us e = ap (λ o. made (and_then o (λ l m us. read_label_turns labels first p (length us) l m us))) e

    -- no more items
    pub labels_end : (xs : List (L × A)) (l : L) (now : Left) (l0 : L) (start : Left) (old : Left) (b : B) → ReaderGives labels l0 old start → Labels xs l now l0 start
        → next_is first now ≡ false → b ≡ to (labelled xs (tail l)) → ReaderGives (read_mapped to (read_labelled labels first p)) b old now
    labels_end xs l now l0 start old b e g h same =
        begins_with old.at old.kinds l0 start.at start.kinds e ∙ ap made (sym g.reads ∙ ap (prefixed xs) (turn_ends (length start.kinds - length xs) l now.at now.kinds h)) ∙ ap (λ v. got v now.at now.kinds) (sym same)

    -- an item can't be read
    pub labels_stuck : (xs : List (L × A)) (l : L) (now : Left) (l0 : L) (start : Left) (old : Left) (e : ParseFault) → ReaderGives labels l0 old start → Labels xs l now l0 start
        → next_is first now ≡ true → Fails (p now.at now.kinds) e → Fails (read_mapped to (read_labelled labels first p) old.at old.kinds) e
    labels_stuck xs l now l0 start old (Syntax k) e g h f =
        let t : ℕ = length start.kinds - length xs - 1 in
        let turns : length start.kinds - length xs ≡ suc t = omega (arith, room_left xs now start h g.room) in
        begins_with old.at old.kinds l0 start.at start.kinds e ∙ ap made (sym g.reads ∙ ap (λ u. prefixed xs (turn u l now.at now.kinds)) turns ∙ ap (prefixed xs) (turn_reads t l now.at now.kinds (fault k) h f))
    labels_stuck xs l now l0 start old (TooDeep k) e g h f = f
    labels_stuck xs l now l0 start old Memory e g h f = tt

    -- the labels behind an item can't be read
    pub labels_lost : (xs : List (L × A)) (l : L) (now : Left) (l0 : L) (start : Left) (old : Left) (a : A) (m : ℕ) (us : List Kind) (e : ParseFault) → ReaderGives labels l0 old start → Labels xs l now l0 start
        → next_is first now ≡ true → p now.at now.kinds ≡ got a m us → Fails (labels m us) e → Fails (read_mapped to (read_labelled labels first p) old.at old.kinds) e
    labels_lost xs l now l0 start old a m us (Syntax k) e g h ep f =
        let t : ℕ = length start.kinds - length xs - 1 in
        let turns : length start.kinds - length xs ≡ suc t = omega (arith, room_left xs now start h g.room) in
        begins_with old.at old.kinds l0 start.at start.kinds e
        ∙ ap made (sym g.reads ∙ ap (λ u. prefixed xs (turn u l now.at now.kinds)) turns ∙ ap (prefixed xs) (turn_reads t l now.at now.kinds (got a m us) h ep ∙ ap (λ o. and_then (and_then o (read_label_turns labels first p t)) (put_item labels first p l a)) f))
    labels_lost xs l now l0 start old a m us (TooDeep k) e g h ep f = f
    labels_lost xs l now l0 start old a m us Memory e g h ep f = tt

-- ---- members of a side

-- a member's categories, and the rest of it
abbrev pub member_pair : Member → List (List ℕ) × MemberForm
member_pair m = (m.categories.items, (m.access, what_of m.what))

members_same : (ms : List Member) (l : List (List ℕ)) → members_from (labelled (map member_pair ms) (tail l)) ≡ members_of ms
members_same [] l = refl
members_same (m ∷ ms) l = ap (p.more_members (p.member_with m.categories.items m.access (what_of m.what))) (members_same ms l)

tail_same : (ms : List Member) (l : List (List ℕ)) → tail_from (labelled (map member_pair ms) (tail l)) ≡ l
tail_same [] l = refl
tail_same (m ∷ ms) l = tail_same ms l

-- the side of these members
pub side_same : (ms : List Member) (l : List (List ℕ)) → p.side_with (members_of ms) l ≡ side_from (labelled (map member_pair ms) (tail l))
side_same ms l = ap (λ v. p.side_with v l) (sym (members_same ms l)) ∙ ap (p.side_with (members_from (labelled (map member_pair ms) (tail l)))) (sym (tail_same ms l))
