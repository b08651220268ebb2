mod Answering
mod Turns
mod Moved
mod Beside
mod Copied
