-- What a rollback journal says (Header, Records), and what it makes of an image (Recovered, Recovery). Segments has words for theorems. Fields, Reading, Marks and Told
-- are about the code alone.
pub mod Header
pub mod Records
pub mod Recovered
pub mod Recovery
pub mod Segments
pub mod Fields
pub mod Reading
pub mod Marks
pub mod Told
