mod BacklogNewest
mod BacklogOrder
mod BacklogPlaces
mod BacklogFound
mod BacklogSteps
mod CreatGates
mod CreatMoments
mod CreatReads
mod CreatFiles
mod NewCells
mod NewGate
mod NewMoments
mod NewStart
pub mod AllCleared
pub mod Appended
pub mod Carried
pub mod CellSizes
pub mod Emptied
pub mod Enacted
pub mod Kept
pub mod Layers
pub mod Marked
pub mod Marks
pub mod OpenReads
pub mod Opened
pub mod Passed
pub mod PutHeads
pub mod Reached
pub mod ReadBelow
pub mod Redos
pub mod SameRest
pub mod Settled
pub mod Sized
pub mod SyncLoop
pub mod Tallies
pub mod WriteLoop
pub mod WrittenCells
