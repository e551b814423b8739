-- Laws of opening and closing that callers may cite.
pub mod Laws
