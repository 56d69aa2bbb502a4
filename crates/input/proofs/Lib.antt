pub mod BytesRead
