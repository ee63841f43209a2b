-- Laws of bytes: how they are read and written, and that what is written is what is read.
pub mod BytesRead
pub mod BytesWritten
pub mod Pages
pub mod VersionRows
