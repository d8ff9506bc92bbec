pub mod RowTests
pub mod NameTests
