pub mod NextRecords
pub mod ReadPuts
pub mod ScanSteps
