-- Tables as the code reads them: their rows and a waveform's record line by line, a model's rows keyword by keyword.
pub mod Rows
pub mod Waveforms
pub mod Parts
