-- a reference that leaves, and the loop over every code
pub mod Relaxing
-- where no bound lies below the limit or above the reference's eccentricity, relaxing changes nothing
pub mod Settled
-- the marks of a call that searched from one depot alone, or from two
pub mod Once
