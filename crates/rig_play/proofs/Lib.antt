pub mod ConsecutiveRecords
pub mod ChangeOfLastFile
pub mod UncutFiles
pub mod PlayedRecords
pub mod ForgottenFiles
pub mod ResizedFiles
