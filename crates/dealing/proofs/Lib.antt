-- Theorems has what is proved, and Examples a few files. RunLaws, WalkLaws, Passed, LookupLaws
-- and CursorLaws are what proofs of code cite. The rest leads to the theorems.
pub mod Theorems
pub mod Examples
pub mod RunLaws
pub mod WalkLaws
pub mod Passed
pub mod LookupLaws
pub mod CursorLaws
-- general
pub mod Lists
pub mod Cells
pub mod Rules
pub mod Steps
pub mod Sums
-- two good dealings agree
pub mod Unique
-- the visits behind the events
pub mod Rich
pub mod Parts
pub mod Whole
pub mod Walked
-- pointers by a dealing, and visits
pub mod Told
pub mod Match
pub mod Grow
pub mod Reach
-- the run; trees, order, evenness
pub mod Ran
pub mod Trees
pub mod Marks
pub mod Tests
pub mod Reading
-- both directions, lookup and the cursor
pub mod After
pub mod Names
pub mod GoodAccepted
pub mod AcceptedGood
pub mod FromVerdict
pub mod Spelled
pub mod Stepped
pub mod LookupProof
pub mod Listing
pub mod CursorProof
pub mod Payload
