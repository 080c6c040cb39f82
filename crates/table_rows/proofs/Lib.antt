-- Laws on what is written into the row store, on rows, on a waveform's record and on a model's keywords.
pub mod Stores
pub mod RowLaws
pub mod RowWalks
pub mod WaveformLaws
pub mod WaveformWalks
pub mod PartLaws
