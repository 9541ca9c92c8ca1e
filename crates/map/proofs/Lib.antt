-- What an emptying leaves: zeros.
pub mod Empties
-- What words mean as a network, and what the emptying means.
pub mod Theorems
-- The seven sizes.
pub mod Longs
-- The depots in rising code.
pub mod Depots
-- The yards.
pub mod Yards
