-- What the C interface returns and writes.
pub mod Told
