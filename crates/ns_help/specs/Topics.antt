-- What there is a text on: the words of the commands, and the names of causes (this profile).
use Rattle.std.specs.Prelude.{ℕ, List, [], ◌∷◌, Option, Some, None, codes, if◌then◌else◌}
use Rattle.std.specs.Option.{option_or}
use Rattle.std.specs.Str.{bytes_eq}
use Rattle.ns_help.specs.declared.commands.TheConstants.{CHECK, SHOW, FORMAT, RUN, EVAL, BUILD, EXEC, LIST, SESSION, SAMPLE, ACTORS, AUDIT, TEST, SNAP, RESUME, REPLAY, LIBRARY, HELP}
use Rattle.ns_help.specs.declared.sources.TheConstants.{MISSING, TOO_LONG, EXISTS, BAD_BYTE, BIG_NUMBER, UNCLOSED_COMMENT, UNCLOSED_STRING, TOO_DEEP, SYNTAX}
use Rattle.ns_help.specs.declared.programs.TheConstants.{DUPLICATE_MEMBER, DUPLICATE_LOCAL, FIXED_LOCAL, BAD_RETURN, BARE_RECEIVER, NO_SUCH_OUTER, BAD_CASCADE, PLAIN_TOO_LARGE, TOO_MANY, TOP_SUPER, DUPLICATE_TOP, TOO_LARGE}
use Rattle.ns_help.specs.declared.errors.TheConstants.{NOT_UNDERSTOOD, NOT_PUBLIC, OVERFLOW, ZERO_DIVIDE, WRONG_KIND, OUT_OF_RANGE, MUST_BE_BOOLEAN, DEAD_RETURN, WRONG_ARITY, NOT_A_CLASS, KERNEL_SUPER, INIT_MISMATCH, FIXED_SLOT, CHAIN_LIMIT}
use Rattle.ns_help.specs.declared.limits.TheConstants.{STEPS, CELLS, DEPTH, OUT}
use Rattle.ns_help.specs.declared.images.TheConstants.{NOT_AN_IMAGE, BAD_VERSION, TRUNCATED, BAD_FIELD, TRAILING, BAD_JUMP, BAD_HEIGHT, BAD_SLOT, BAD_SCOPE, BAD_LITERAL, NO_RETURN, NOT_TESTS, NO_TEST, NO_CLASS, BAD_OUTBOX, NOT_A_SNAPSHOT, BAD_IMAGE, BAD_LIMITS, BAD_CELL, BAD_FRAME, BAD_REST}

-- the text of the first of these names that is the word
abbrev pub found : List ℕ → List (List ℕ × List ℕ) → Option (List ℕ)
found word [] = None
found word (topic ∷ others) = if bytes_eq word topic.0 then Some topic.1 else found word others

-- what is told of a command
abbrev pub commands : List (List ℕ × List ℕ)
commands =
    (codes "check", CHECK.now)
    ∷ (codes "show", SHOW.now)
    ∷ (codes "format", FORMAT.now)
    ∷ (codes "run", RUN.now)
    ∷ (codes "eval", EVAL.now)
    ∷ (codes "build", BUILD.now)
    ∷ (codes "exec", EXEC.now)
    ∷ (codes "list", LIST.now)
    ∷ (codes "session", SESSION.now)
    ∷ (codes "sample", SAMPLE.now)
    ∷ (codes "actors", ACTORS.now)
    ∷ (codes "audit", AUDIT.now)
    ∷ (codes "test", TEST.now)
    ∷ (codes "snap", SNAP.now)
    ∷ (codes "resume", RESUME.now)
    ∷ (codes "replay", REPLAY.now)
    ∷ (codes "library", LIBRARY.now)
    ∷ (codes "help", HELP.now)
    ∷ []

-- what is told of a cause for which a file or its text is refused
abbrev pub sources : List (List ℕ × List ℕ)
sources =
    (codes "Missing", MISSING.now)
    ∷ (codes "TooLong", TOO_LONG.now)
    ∷ (codes "Exists", EXISTS.now)
    ∷ (codes "BadByte", BAD_BYTE.now)
    ∷ (codes "BigNumber", BIG_NUMBER.now)
    ∷ (codes "UnclosedComment", UNCLOSED_COMMENT.now)
    ∷ (codes "UnclosedString", UNCLOSED_STRING.now)
    ∷ (codes "TooDeep", TOO_DEEP.now)
    ∷ (codes "Syntax", SYNTAX.now)
    ∷ []

-- what is told of a cause for which a program is refused
abbrev pub programs : List (List ℕ × List ℕ)
programs =
    (codes "DuplicateMember", DUPLICATE_MEMBER.now)
    ∷ (codes "DuplicateLocal", DUPLICATE_LOCAL.now)
    ∷ (codes "FixedLocal", FIXED_LOCAL.now)
    ∷ (codes "BadReturn", BAD_RETURN.now)
    ∷ (codes "BareReceiver", BARE_RECEIVER.now)
    ∷ (codes "NoSuchOuter", NO_SUCH_OUTER.now)
    ∷ (codes "BadCascade", BAD_CASCADE.now)
    ∷ (codes "PlainTooLarge", PLAIN_TOO_LARGE.now)
    ∷ (codes "TooMany", TOO_MANY.now)
    ∷ (codes "TopSuper", TOP_SUPER.now)
    ∷ (codes "DuplicateTop", DUPLICATE_TOP.now)
    ∷ (codes "TooLarge", TOO_LARGE.now)
    ∷ []

-- what is told of the kind of an error of a run
abbrev pub errors : List (List ℕ × List ℕ)
errors =
    (codes "NotUnderstood", NOT_UNDERSTOOD.now)
    ∷ (codes "NotPublic", NOT_PUBLIC.now)
    ∷ (codes "Overflow", OVERFLOW.now)
    ∷ (codes "ZeroDivide", ZERO_DIVIDE.now)
    ∷ (codes "WrongKind", WRONG_KIND.now)
    ∷ (codes "OutOfRange", OUT_OF_RANGE.now)
    ∷ (codes "MustBeBoolean", MUST_BE_BOOLEAN.now)
    ∷ (codes "DeadReturn", DEAD_RETURN.now)
    ∷ (codes "WrongArity", WRONG_ARITY.now)
    ∷ (codes "NotAClass", NOT_A_CLASS.now)
    ∷ (codes "KernelSuper", KERNEL_SUPER.now)
    ∷ (codes "InitMismatch", INIT_MISMATCH.now)
    ∷ (codes "FixedSlot", FIXED_SLOT.now)
    ∷ (codes "ChainLimit", CHAIN_LIMIT.now)
    ∷ []

-- what is told of a limit of a run
abbrev pub limits : List (List ℕ × List ℕ)
limits =
    (codes "steps", STEPS.now)
    ∷ (codes "cells", CELLS.now)
    ∷ (codes "depth", DEPTH.now)
    ∷ (codes "out", OUT.now)
    ∷ []

-- what is told of a cause for which an image, an audit, tests, an outbox or a snapshot are refused
abbrev pub images : List (List ℕ × List ℕ)
images =
    (codes "NotAnImage", NOT_AN_IMAGE.now)
    ∷ (codes "BadVersion", BAD_VERSION.now)
    ∷ (codes "Truncated", TRUNCATED.now)
    ∷ (codes "BadField", BAD_FIELD.now)
    ∷ (codes "Trailing", TRAILING.now)
    ∷ (codes "BadJump", BAD_JUMP.now)
    ∷ (codes "BadHeight", BAD_HEIGHT.now)
    ∷ (codes "BadSlot", BAD_SLOT.now)
    ∷ (codes "BadScope", BAD_SCOPE.now)
    ∷ (codes "BadLiteral", BAD_LITERAL.now)
    ∷ (codes "NoReturn", NO_RETURN.now)
    ∷ (codes "NotTests", NOT_TESTS.now)
    ∷ (codes "NoTest", NO_TEST.now)
    ∷ (codes "NoClass", NO_CLASS.now)
    ∷ (codes "BadOutbox", BAD_OUTBOX.now)
    ∷ (codes "NotASnapshot", NOT_A_SNAPSHOT.now)
    ∷ (codes "BadImage", BAD_IMAGE.now)
    ∷ (codes "BadLimits", BAD_LIMITS.now)
    ∷ (codes "BadCell", BAD_CELL.now)
    ∷ (codes "BadFrame", BAD_FRAME.now)
    ∷ (codes "BadRest", BAD_REST.now)
    ∷ []

-- the text on a word, if there is one
abbrev pub text_of : List ℕ → Option (List ℕ)
text_of word =
    option_or (found word commands) (
    option_or (found word sources) (
    option_or (found word programs) (
    option_or (found word errors) (
    option_or (found word limits) (
    found word images)))))
