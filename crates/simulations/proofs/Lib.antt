pub mod Held
pub mod ClearingSteps
pub mod DownSteps
pub mod Bridge
pub mod UpSteps
pub mod FinalSteps
pub mod SymbolSteps
