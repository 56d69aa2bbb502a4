pub mod MarksWritten
pub mod StepsWritten
