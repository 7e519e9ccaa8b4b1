pub mod EmptyReads
