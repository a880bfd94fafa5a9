-- What a reader has to believe: what holds of the console's text, whatever lines came before.
pub mod Laws
pub mod ReadBack
pub mod Unseen
