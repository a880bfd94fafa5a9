-- What a reader has to believe: the ranges and the defaults of options.
pub mod Options
