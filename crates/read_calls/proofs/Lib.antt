mod Taken
mod OneRead
