pub mod HelpLines
pub mod ForeignWords
