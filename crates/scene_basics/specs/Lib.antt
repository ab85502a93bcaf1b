-- What the contracts of the program's rules cite, in the order in which a reader needs it.
pub mod Names
pub mod Numbers
pub mod Gains
pub mod Asks
pub mod Systems
pub mod RuleLaws
pub mod Values
pub mod Columns
pub mod Registering
pub mod Apart
pub mod Known
pub mod Adding
pub mod Asked
pub mod WorldLaws
pub mod Lines
pub mod Program
