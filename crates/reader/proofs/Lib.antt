-- A reader reads what the readers by place read.
pub mod Agree
