pub mod PlanFor
pub mod SweptLevel
pub mod SweptPlan
pub mod SweptLeft
pub mod Recounted
