pub mod Log
pub mod HonestLog
pub mod Text
pub mod Files
