-- What a body reaches is there, and its blocks are.
use Rattle.std.proofs.Common.{ℕ}
use Rattle.ns_resolved.specs.Program as m
use Rattle.ns_resolved.specs.Uses.{Use, DoesHave, a_local, a_level, a_private, a_block, a_message, a_start, a_slot, a_return_home, an_integer, an_array}
use Rattle.ns_resolved.specs.There.{BlocksIn, IsThere}
use Rattle.ns_link.specs.Reached.{IsThereButBlocks}
use Rattle.ns_link.proofs.Merged.{does_merged}

use_there : (meant : m.Meant) (number : ℕ) (body : m.Body) (used : Use) → IsThereButBlocks meant number body used →
    BlocksIn meant number used →
    IsThere meant number body used
use_there meant number body (a_local hops index) p q = p
use_there meant number body (a_level level) p q = p
use_there meant number body (a_private level selector) p q = p
use_there meant number body (a_block block) p q = q
use_there meant number body (a_message selector count) p q = p
use_there meant number body (a_start count) p q = p
use_there meant number body (a_slot slot) p q = p
use_there meant number body a_return_home p q = p
use_there meant number body (an_integer n) p q = p
use_there meant number body (an_array count) p q = p

pub uses_there : (meant : m.Meant) (number : ℕ) (body : m.Body) (does : m.Does) → DoesHave (IsThereButBlocks meant number body) does →
    DoesHave (BlocksIn meant number) does → DoesHave (IsThere meant number body) does
uses_there meant number body does p q =
    does_merged (IsThereButBlocks meant number body) (BlocksIn meant number) (IsThere meant number body) (use_there meant number body) does p q
