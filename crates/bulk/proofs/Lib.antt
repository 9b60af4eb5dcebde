pub mod PieceAnswers
pub mod Meetings
