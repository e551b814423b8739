-- What the code of the state rows means.
pub mod Courses
