mod Checked
mod OneResult
mod OfTables
mod Promised
mod Figures
mod OldText
mod OldDesk
mod LeastOfCalls
