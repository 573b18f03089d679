pub mod KeyBytes
pub mod Reading
pub mod RecordBytes
pub mod Single
