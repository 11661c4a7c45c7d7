mod LoadedOne
mod Showing
mod TwinKeeps
