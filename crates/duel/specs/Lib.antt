-- What the contracts of the rules of a duel cite, in the order in which a reader needs it.
pub mod Names
pub mod Rules
pub mod Documents
pub mod Values
pub mod Sights
pub mod Striking
pub mod Burying
