-- A run over bytes: its records, its work, its stop, one request after the other, in two parts.
pub mod RecordBytes
pub mod Records
pub mod RequestsWorked
pub mod Alike
pub mod Runs
pub mod StopNumbers
pub mod Singly
pub mod InTwo
pub mod BadRecords
