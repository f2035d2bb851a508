-- Sends of one key are one.
use Rattle.std.proofs.Common.{◌≡◌, ◌∙◌, refl, ap, ℕ, length}
use Rattle.std.specs.List.{slice_index_or}
use Rattle.ns_sends.specs.declared.sent.SentAt.{SentAt}
use Rattle.ns_sends.specs.Unanswered.{sent_key}

abbrev send_at : ℕ → ℕ → ℕ → ℕ → SentAt
send_at file line col sel = record { place = record { file = file; line = line; col = col }; sel = record { 0 = sel } }

same_at : (f g l m c d s t : ℕ) → f ≡ g → l ≡ m → c ≡ d → s ≡ t → send_at f l c s ≡ send_at g m d t
same_at f g l m c d s t h i j k =
    ap (λ x. send_at x l c s) h ∙ (ap (λ x. send_at g x c s) i ∙ (ap (λ x. send_at g m x s) j ∙ ap (λ x. send_at g m d x) k))

pub four_numbers : (sent : SentAt) → length (sent_key sent) ≡ 4
four_numbers sent = refl

pub same_send : (a b : SentAt) → sent_key a ≡ sent_key b → a ≡ b
same_send a b h =
    same_at a.place.file b.place.file a.place.line b.place.line a.place.col b.place.col a.sel.0 b.sel.0
    (ap (λ l. slice_index_or l 0 0) h) (ap (λ l. slice_index_or l 1 0) h) (ap (λ l. slice_index_or l 2 0) h) (ap (λ l. slice_index_or l 3 0) h)
