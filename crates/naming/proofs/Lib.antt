pub mod RowFilled
pub mod FewNamed
