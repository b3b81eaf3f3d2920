pub mod Lent
pub mod Tests
pub mod Search
pub mod Route
pub mod Accounted
pub mod RefusedSearches
pub mod RefusedRoutes
pub mod steps
