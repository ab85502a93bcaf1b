pub mod Movement
