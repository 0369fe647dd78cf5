mod Rows
mod PlainLaws
