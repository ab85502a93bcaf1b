pub mod Plan
pub mod PlanText
pub mod Places
pub mod Laws
pub mod Index
pub mod Seats
pub mod Kept
