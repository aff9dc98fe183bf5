-- Words for tests, lists and what is first of them.
pub mod Tests
pub mod Lists
pub mod First
pub mod Listed
