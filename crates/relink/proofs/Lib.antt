-- the ways and the marks of two ends
pub mod Ends
-- rounds whose first two references are the ends
pub mod Taking
-- THE TWO WAYS IN WHICH A LINK ENDS
pub mod Cases
