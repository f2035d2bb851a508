-- What is known of a line that was read.
use Rattle.std.proofs.Common.{◌≡◌, ◌≤◌, ℕ, List, Result, Ok, Err, IfOk, subst, sym}
use Rattle.ns_base.specs.Limits.{InRange}
use Rattle.ns_run_words.proofs.RangeLaws.{form_in_range, form_turns}
use Rattle.ns_run_words.proofs.ReadingLaws.{reading_is}
use Rattle.ns_run_words.specs.Forms.{IsReadingOf, IsSpelledLine}
use Rattle.ns_run_words.specs.Line.{line_seen, seen}
use Rattle.ns_run_words.specs.Words.{limits_of, quantum_of, reading_of}
use Rattle.ns_run_words.specs.declared.words.Line as lines
use Rattle.ns_run_words.specs.declared.words.BadWord.{BadWord}

pub spelled : (words : List (List ℕ)) (result : Result lines.Line BadWord) → seen result ≡ reading_of words → IfOk result (λ line. IsSpelledLine (line_seen line))
spelled words (Ok line) e = (words, subst (IsReadingOf words) (sym e) (reading_is words))
spelled words (Err word) e = tt

pub ranged : (words : List (List ℕ)) (result : Result lines.Line BadWord) → seen result ≡ reading_of words → IfOk result (λ line. InRange (limits_of line.given))
ranged words (Ok line) e = form_in_range words (line_seen line) (subst (IsReadingOf words) (sym e) (reading_is words))
ranged words (Err word) e = tt

pub turning : (words : List (List ℕ)) (result : Result lines.Line BadWord) → seen result ≡ reading_of words → IfOk result (λ line. 1 ≤ quantum_of line.given)
turning words (Ok line) e = form_turns words (line_seen line) (subst (IsReadingOf words) (sym e) (reading_is words))
turning words (Err word) e = tt
