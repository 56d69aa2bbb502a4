pub mod CellsStored
