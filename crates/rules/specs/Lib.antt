-- The rules of document 01, in its order. Codes, cases and cells first; then number 1 (Tree), names, number 2 (Configuration); what
-- a row sees (Scenes), settle, the rows of the event table by groups and the table; numbers 3 and 4 (Events), and the step.
pub mod Codes
pub mod Cases
pub mod Kinds
pub mod With
pub mod Zero
pub mod Cells
pub mod Tree
pub mod Names
pub mod Messages
pub mod Configuration
pub mod Scenes
pub mod Settle
pub mod Local
pub mod Acquire
pub mod Probe
pub mod Grant
pub mod Release
pub mod Table
pub mod Events
pub mod Step
pub mod Refusals
