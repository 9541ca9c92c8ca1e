-- the depots written in rising code, one after the other
pub mod Writing
-- the first of a list that passes, and the nearest, one code after the other
pub mod Choosing
-- the refusals, and what accepted calls leave
pub mod Accepts
-- which refusals, and what accepted calls leave: by the published words
pub mod Theorems
