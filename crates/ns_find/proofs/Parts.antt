-- Searching members part by part.
use Rattle.std.proofs.Common.{◌≡◌, ℕ, ◌+◌, ◌<◌, List, [], ◌∷◌, ◌++◌, length, drop, get_or, refl, ap, sym, ◌∙◌, Option, Some, None, Bool, true, false, cond, ◌&&◌}
use Rattle.std.proofs.lemmas.List.{drop_more}
use Rattle.ns_code.specs.declared.program.CodeProgram.{CodeProgram}
use Rattle.ns_code.specs.declared.class.SlotCode.{SlotCode}
use Rattle.ns_world.specs.Heap.{Heap}
use Rattle.ns_find.specs.declared.found.Found.{Found}
use Rattle.ns_find.specs.declared.found.Sending.{Sending}
use Rattle.ns_find.specs.declared.members.Wanted.{Wanted}
use Rattle.ns_find.specs.declared.members.Wanted.TheVariants.{Visible}
use Rattle.ns_find.specs.declared.members.Side.{Side}
use Rattle.ns_find.specs.Members.{Member, is_named, allowed, search, slot_members, slots_members, holder_members, members_along}

-- what is found first, or else what is found after it
abbrev pub found_or : Option Found → Option Found → Option Found
found_or (Some found) later = Some found
found_or None later = later

pub search_append : (code : CodeProgram) (sel : ℕ) (kind : Sending) (first later : List Member) →
    search code sel kind (first ++ later) ≡ found_or (search code sel kind first) (search code sel kind later)
search_append code sel kind [] later = refl
search_append code sel kind (member ∷ first) later =
    tested (is_named code sel member.name && member.there) (search_append code sel kind first later)
  where
    tested : (b : Bool) → search code sel kind (first ++ later) ≡ found_or (search code sel kind first) (search code sel kind later) → cond b (Some (allowed kind member.access member.found)) (search code sel kind (first ++ later)) ≡ found_or (cond b (Some (allowed kind member.access member.found)) (search code sel kind first)) (search code sel kind later)
    tested true e = refl
    tested false e = e

-- what is found in the first part is found
pub search_here : (code : CodeProgram) (sel : ℕ) (kind : Sending) (first later : List Member) (found : Found) →
    Some found ≡ search code sel kind first → Some found ≡ search code sel kind (first ++ later)
search_here code sel kind first later found e =
    sym (search_append code sel kind first later ∙ ap (λ o. found_or o (search code sel kind later)) (sym e))

-- where the first part has nothing, the search goes on
pub search_past : (code : CodeProgram) (sel : ℕ) (kind : Sending) (first later : List Member) → None ≡ search code sel kind first →
    search code sel kind (first ++ later) ≡ search code sel kind later
search_past code sel kind first later e =
    search_append code sel kind first later ∙ ap (λ o. found_or o (search code sel kind later)) (sym e)

-- one step along slots
pub slots_here :
    (heap : Heap) (code : CodeProgram) (sel : ℕ) (kind : Sending) (wanted : Wanted) (holder entry i : ℕ) (slots : List SlotCode) (d : SlotCode) (whole : Option Found) (found : Found) →
    i < length slots → search code sel kind (slots_members heap code wanted holder entry (drop i slots)) ≡ whole →
    Some found ≡ search code sel kind (slot_members heap code wanted holder entry (get_or slots i d)) → Some found ≡ whole
slots_here heap code sel kind wanted holder entry i slots d whole found h w e =
    search_here code sel kind (slot_members heap code wanted holder entry (get_or slots i d)) (slots_members heap code wanted holder (entry + 1) (drop (i + 1) slots)) found e
    ∙ (ap (λ rest. search code sel kind (slots_members heap code wanted holder entry rest)) (sym (drop_more slots i d h)) ∙ w)

pub slots_past :
    (heap : Heap) (code : CodeProgram) (sel : ℕ) (kind : Sending) (wanted : Wanted) (holder entry i : ℕ) (slots : List SlotCode) (d : SlotCode) (whole : Option Found) →
    i < length slots → search code sel kind (slots_members heap code wanted holder entry (drop i slots)) ≡ whole →
    None ≡ search code sel kind (slot_members heap code wanted holder entry (get_or slots i d)) →
    search code sel kind (slots_members heap code wanted holder (entry + 1) (drop (i + 1) slots)) ≡ whole
slots_past heap code sel kind wanted holder entry i slots d whole h w e =
    sym (search_past code sel kind (slot_members heap code wanted holder entry (get_or slots i d)) (slots_members heap code wanted holder (entry + 1) (drop (i + 1) slots)) e)
    ∙ (ap (λ rest. search code sel kind (slots_members heap code wanted holder entry rest)) (sym (drop_more slots i d h)) ∙ w)

-- one step along a chain
pub along_here :
    (heap : Heap) (code : CodeProgram) (sel : ℕ) (kind : Sending) (wanted : Wanted) (side : Side) (at : ℕ) (chain above : List ℕ) (whole : Option Found) (found : Found) →
    wanted ≡ Visible → chain ≡ at ∷ above → search code sel kind (members_along heap code side chain) ≡ whole →
    Some found ≡ search code sel kind (holder_members heap code wanted side at) → Some found ≡ whole
along_here heap code sel kind wanted side at chain above whole found v c w e =
    search_here code sel kind (holder_members heap code Visible side at) (members_along heap code side above) found (e ∙ ap (λ z. search code sel kind (holder_members heap code z side at)) v)
    ∙ (ap (λ ms. search code sel kind (members_along heap code side ms)) (sym c) ∙ w)

pub along_past :
    (heap : Heap) (code : CodeProgram) (sel : ℕ) (kind : Sending) (wanted : Wanted) (side : Side) (at : ℕ) (chain above : List ℕ) (whole : Option Found) →
    wanted ≡ Visible → chain ≡ at ∷ above → search code sel kind (members_along heap code side chain) ≡ whole →
    None ≡ search code sel kind (holder_members heap code wanted side at) →
    search code sel kind (members_along heap code side above) ≡ whole
along_past heap code sel kind wanted side at chain above whole v c w e =
    sym (search_past code sel kind (holder_members heap code Visible side at) (members_along heap code side above) (e ∙ ap (λ z. search code sel kind (holder_members heap code z side at)) v))
    ∙ (ap (λ ms. search code sel kind (members_along heap code side ms)) (sym c) ∙ w)
