mod MissingFile
mod OfFolder
mod Unloaded
