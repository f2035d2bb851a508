pub mod Lands
pub mod Homes
pub mod Sim
pub mod RunOk
pub mod Coded
pub mod Whole
pub mod Opening
pub mod Started
pub mod Sources
pub mod OverTables
pub mod OnTheWay
pub mod FewerRows
pub mod FewerActions
pub mod FewerMoves
pub mod FewerSteps
pub mod LongTurns
mod Sits
mod Walk
mod Bodies
mod Named
pub mod Texts
mod Patterns
mod Spelling
mod Faults
mod Differ
mod Members
mod Declared
mod Classes
mod FewLocals
mod FewInAll
pub mod Arities
mod Sending
mod Expressions
mod Integers
mod Merged
mod RightWhole
mod Statements
mod Tokens
mod Balance
mod ClassBalance
mod Around
mod Reach
mod Tables
mod AmongNames
mod PrivateNames
mod Routines
mod Inside
mod OwnUse
mod ClauseUse
mod InitialiserUse
mod ProgramUse
mod FewMembers
mod FewClasses
mod Held
mod Words
mod Says
mod SoundTokens
mod SoundSending
mod SoundExpressions
mod Blocks
mod Inner
mod Lines
mod SoundPatterns
mod SoundClasses
mod Program
mod Small
mod Records
mod TextCount
mod PlacesStand
mod Instructions
mod SoundWhole
mod Said
