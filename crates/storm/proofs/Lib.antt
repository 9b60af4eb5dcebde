pub mod Meetings
pub mod PassAnswers
pub mod Versions
pub mod Logs
