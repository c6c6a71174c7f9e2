pub mod WholeReceptions
pub mod NetworkReceptions
pub mod LateReceptions
