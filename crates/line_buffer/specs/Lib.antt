-- The line buffer, the answer behind what is written, the stop. Nobody has to believe `PartLeft`,
-- `part_left` and `part_from`.
pub mod Lines
