mod Left
mod Places
mod Cut
mod Spelling
mod Fitting
mod Steps
mod Applying
mod Cases
