pub mod KeysFilled
pub mod KeysWritten
pub mod OrderGroups
