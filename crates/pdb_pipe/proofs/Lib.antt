pub mod LookAppend
pub mod LookNodes
pub mod LookMetas
pub mod LookAnswers
pub mod LookFaults
pub mod LookKept
pub mod LookStands
pub mod LookShort
mod OpenBases
mod OpenNew
mod OpenStands
pub mod StageOrder
pub mod StagePlanned
pub mod StageContents
pub mod StageStands
pub mod StageSteps
pub mod StageCauses
pub mod StageAfter
pub mod StageLogged
pub mod StageRoom
pub mod StageDue
pub mod DueSince
