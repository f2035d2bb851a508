-- What a host asks for on a program that it keeps, and how each call ends.
use Rattle.std.specs.Prelude.{◌≡◌, ◌≢◌, ◌⊎◌, ℕ, ◌==◌, ◌&&◌, not, List, [], length, Bool, true, false}
use Rattle.std.specs.List.{list_all}
use Rattle.ns_base.specs.Status.{exit_code}
use Rattle.ns_base.specs.declared.status.Status.{Status}
use Rattle.ns_base.specs.declared.status.Status.TheVariants.{Memory}
use Rattle.ns_handed.specs.Hands.{hand_of, hands_of, text_bytes}
use Rattle.ns_handed.specs.Laid.{texts_from}
use Rattle.ns_opened.specs.Opened.{Asks, Asked, Opens, turn_answer}
use Rattle.ns_reply.specs.Room.{Gives, GivesReply, IsUntouched}
use Rattle.ns_opened.specs.declared.host.HostTerms.{HostTerms}
use Rattle.ns_opened.specs.declared.open.Terms.{Terms}
use Rattle.ns_reply.specs.declared.reply.Reply.{Reply}
use Rattle.ns_reply.specs.declared.room.Told.{Told}
use Rattle.ns_handed.specs.declared.value.Hand.{Hand}
use Rattle.ns_handed.specs.declared.value.Hand.TheVariants as hand
use Rattle.ns_handed.specs.declared.value.HostValue.{HostValue}

-- whether what is handed over is a text
abbrev pub is_text : Hand → Bool
is_text (hand.Given v) = false
is_text (hand.Text size) = true
is_text hand.Nothing = false

abbrev pub is_text_given : HostValue → Bool
is_text_given given = is_text (hand_of given)

-- whether an opening is well formed: its arguments are texts, which come to all of the bytes
abbrev pub is_opening : List HostValue → List ℕ → Bool
is_opening values texts = list_all is_text_given values && (text_bytes (hands_of values) == length texts)

-- its arguments
abbrev pub arguments_of : List HostValue → List ℕ → List (List ℕ)
arguments_of values texts = texts_from texts (hands_of values)

-- the terms that a host names; a facet is granted where its number isn't 0, and the board never is
abbrev pub terms_of : HostTerms → Terms
terms_of given = record {
  name = given.name;
  limits = record { steps = given.steps; cells = given.cells; depth = given.depth; out = given.out };
  grants = record { console = not (given.console == 0); kernel = not (given.kernel == 0); mirrors = not (given.mirrors == 0); board = false };
  steps = given.first;
}

-- ---- how calls end

-- with a reply of which that holds, and all of it was given; or without memory, and nothing was
abbrev pub Ends : (Reply → Type 0) → Status → (old new : List ℕ) → Told → Type 0
Ends Is status old new told = ((reply : Reply) × Is reply × GivesReply reply status old new told) ⊎ ((status ≡ Memory) × IsUntouched old new told)

-- an opening
abbrev pub EndsOpening : HostTerms → List (List ℕ) → List ℕ → Status → (old new : List ℕ) → Told → Type 0
EndsOpening given arguments image = Ends (Opens (terms_of given) arguments image)

-- a question
abbrev pub EndsAsking : Asked → List ℕ → Status → (old new : List ℕ) → Told → Type 0
EndsAsking question bytes = Ends (Asks question bytes)

-- a turn
abbrev pub EndsTurn : ℕ → ℕ → List ℕ → Status → (old new : List ℕ) → Told → Type 0
EndsTurn name steps bytes = Ends (λ reply. reply ≡ turn_answer name steps bytes)

-- it ends so with the number of a status
abbrev pub Numbered : (Status → (old new : List ℕ) → Told → Type 0) → (result : ℕ) → (old new : List ℕ) → Told → Type 0
Numbered How result old new told = (status : Status) × (result ≡ exit_code status) × How status old new told

-- it ends with no such number as that of a fault of a file or of a stream: there is none outside that could fail
abbrev pub IsNoFault : ℕ → Type 0
IsNoFault result = (result ≢ 4) × (result ≢ 5)

-- that holds of each call that ends so
abbrev pub EndsWithoutFault : (Status → (old new : List ℕ) → Told → Type 0) → Type 0
EndsWithoutFault How = (result : ℕ) (old new : List ℕ) (told : Told) → Numbered How result old new told → IsNoFault result
