pub mod Appending
pub mod ExchangeLaws
pub mod FileLaws
pub mod KeptLaws
pub mod Readings
