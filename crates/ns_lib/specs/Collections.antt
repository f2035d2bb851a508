-- The source of the library (this profile).
use Rattle.std.specs.Prelude.{ℕ, List, [], ◌∷◌, ◌++◌, codes}

-- The lines, each ended by a line feed.
abbrev pub lines : List (List ℕ) → List ℕ
lines [] = []
lines (l ∷ ls) = l ++ (10 ∷ lines ls)

-- A class of lists that grow, and one of dictionaries that look from the first key on.
abbrev pub collections : List ℕ
collections = lines (
    codes "class Collections usingKernel: k = (| kernel = k. |) ("
    ∷ codes "public class List = (| private items ::= kernel Array new: 4. private count ::= 0. |) ("
    ∷ codes "public add: x = ("
    ∷ codes "count = items size ifTrue: [grow]."
    ∷ codes "count:: count + 1."
    ∷ codes "items at: count put: x."
    ∷ codes "^x)"
    ∷ codes "public at: i = ("
    ∷ codes "i > count ifTrue: [^nil]."
    ∷ codes "^items at: i)"
    ∷ codes "public at: i put: x = ("
    ∷ codes "i > count ifTrue: [^nil]."
    ∷ codes "^items at: i put: x)"
    ∷ codes "public size = (^count)"
    ∷ codes "public do: b = (1 to: count do: [:i | b value: (items at: i)])"
    ∷ codes "private grow = ("
    ∷ codes "| more |"
    ∷ codes "more:: kernel Array new: count * 2."
    ∷ codes "1 to: count do: [:i | more at: i put: (items at: i)]."
    ∷ codes "items:: more)"
    ∷ codes ")"
    ∷ codes "public class Dictionary = (| private keys = List new. private values = List new. |) ("
    ∷ codes "public at: k put: v = ("
    ∷ codes "1 to: keys size do: [:i | (keys at: i) = k ifTrue: [^values at: i put: v]]."
    ∷ codes "keys add: k."
    ∷ codes "^values add: v)"
    ∷ codes "public at: k = ("
    ∷ codes "1 to: keys size do: [:i | (keys at: i) = k ifTrue: [^values at: i]]."
    ∷ codes "^nil)"
    ∷ codes "public size = (^keys size)"
    ∷ codes ")"
    ∷ codes ")"
    ∷ [])
