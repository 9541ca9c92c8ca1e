-- one step from a layer to the next. Nobody has to believe this file
pub mod Steps
-- a visit of a layer's members, in the struct that the code keeps it in. Nobody has to believe this file
pub mod Visits
