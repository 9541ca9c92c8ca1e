-- Lists that rise.
pub mod Listed
-- The refusals of a notice one by one.
pub mod Notices
-- The links of a new depot, neighbour by neighbour.
pub mod Linking
-- The refusals of a link one by one.
pub mod Links
-- What a caller has of the refusals and the links.
pub mod Theorems
