-- texts of segments, and bytes cut into pieces
pub mod Segments
pub mod Pieces
-- one record: what is spelled is read back, and what is read can be written
pub mod Fields
pub mod Heads
pub mod Movements
pub mod Records
pub mod ReadFields
pub mod Sound
-- .. and is spelled as it stood
pub mod Plain
pub mod Signs
pub mod Again
-- one row
pub mod Tests
pub mod Rows
pub mod RowsSound
-- several, one after the other
pub mod Many
pub mod ManySound
pub mod ManyAgain
