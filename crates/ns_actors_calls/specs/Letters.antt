-- What is seen of letters as they are kept.
use Rattle.std.specs.Prelude.{ℕ, List, Bool, ◌==◌, ◌&&◌}
use Rattle.ns_base.specs.Spelling.{is_selector}
use Rattle.ns_code.specs.Selector.{text_arity}
use Rattle.ns_actors.specs.declared.letter.Letter.{Letter}

-- letters in order, and those that come next
pub record LettersView : Type 0 where
  pub all : List Letter
  pub coming : List Letter

-- whether a text is a selector of one argument
abbrev pub takes_one : List ℕ → Bool
takes_one text = is_selector text && text_arity text == 1
