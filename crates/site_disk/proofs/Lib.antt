pub mod Moments
mod Portions
mod Pieces
mod Replays
mod Calls
mod Writing
mod Picks
mod Runs
mod Within
mod Written
