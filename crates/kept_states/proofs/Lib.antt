pub mod OneKept
pub mod Rows
pub mod HandlerLists
pub mod PageLists
pub mod FieldsRead
