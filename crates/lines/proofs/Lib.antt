-- Laws of the parts of a sheet: places, runs of things, lines, annotations and Content.
pub mod Crossing
pub mod Turns
pub mod Lengths
pub mod Ends
pub mod Blanks
pub mod Notes
pub mod NoteRuns
pub mod Closing
pub mod ContentLines
pub mod ContentRun
pub mod ReadAt
pub mod MarkLaws
